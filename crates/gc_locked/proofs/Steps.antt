-- Each step keeps the rule.
use Rattle.std.proofs.Common.{◌≡◌, ◌≢◌, ◌∙◌, ℕ, zero, suc, ◌<◌, ◌≤◌, ◌==◌, Option, None, Some, List, [], ◌∷◌, ◌++◌, All, get_or, set, sum_by, refl, sym, ap, subst, arith, Bool, false, ne_eqb}
use Rattle.std.proofs.lemmas.List.Elements.{All-cons, All-head, All-nil, All-push, All-set, All-tail}
use Rattle.std.proofs.lemmas.List.Sums.{sum_by-cons, sum_by_push}
use lib.ListN.{get_elem?}
use mathlib.Core.Option.{Option as Home, none, some}
use prog.Atomic.{either}
use Rattle.atomic_table.specs.Table.{Act, Allows, Final, Joins, Seen, Splits, State, Valid, carried_after, gives, keeps, opening, step, stepped, takes}
use Rattle.atomic_table.proofs.Lists.{set_again, set_else}
use Rattle.gc_model.specs.History.{History}
use Rattle.gc_locked.specs.declared.setup.Setup.{Setup}
use Rattle.gc_locked.specs.declared.view.Carried.{Carried}
use Rattle.gc_locked.specs.declared.view.View.{View}
use Rattle.gc_locked.specs.Guarded.{GuardedHeap}
use Rattle.gc_locked.specs.Rule.{Agrees, IsAtHome, IsLockOf, IsNumberIn, IsPlace, IsRuled, both_of, claims, counted_in, first_alone, first_view, free_view, locks, locks_by, others, releases, spent_view, times_carried, times_in}
use Rattle.gc_locked.specs.Setup.{count_of, mutators_of}
use Rattle.gc_locked.proofs.Lists.{all-at, others-nothing, set-twice, sum-exchanged}
use Rattle.gc_locked.proofs.Views.{agrees-anew, cut-agrees, cut-times, joined-agrees, joined-times, numbers-agree, numbers-once, own-number, spent-agrees}

-- the state of a table
abbrev pub Table : Type 0
Table = State GuardedHeap View

-- ---- the table at the start

pub opens : (setup : Setup) (guarded : GuardedHeap) → guarded.journal ≡ [] → guarded.setup ≡ setup
    → IsRuled setup (opening (0 ∷ []) (guarded ∷ []) (first_view setup))
opens setup guarded empty same = record {
  history = [];
  word = record { word = refl; one = omega arith };
  once = λ t. omega (arith, sum_by-cons (times_carried t) (first_view setup) [], numbers-once setup t 0 (mutators_of setup));
  agree = All-cons (Agrees setup []) (first_view setup) []
      (record { numbers = numbers-agree setup 0 (mutators_of setup) (omega arith); lock = tt }) (All-nil (Agrees setup []));
  place = record { guarded = guarded; home = refl; journal = empty; setup_is = same };
}

-- ---- other views of the same state

-- views with the same sums that agree with the same history keep the rule
ruled-again : (setup : Setup) (state : Table) (views : List View) (ruled : IsRuled setup state)
    → sum_by locks views ≡ sum_by locks state.views
    → ((t : ℕ) → sum_by (times_carried t) views ≡ sum_by (times_carried t) state.views)
    → All (Agrees setup ruled.history) views
    → IsRuled setup (record { words = state.words; homes = state.homes; views = views })
ruled-again setup state views ruled locked carried agree = record {
  history = ruled.history;
  word = record { word = ruled.word.word ∙ ap (λ n. n ∷ []) (sym locked); one = omega (arith, ruled.word.one, locked) };
  once = λ t. omega (arith, ruled.once t, carried t);
  agree = agree;
  place = subst (λ n. IsPlace setup ruled.history n state.homes) (sym locked) ruled.place;
}

-- a seat without the lock is cut in two
pub deals : (setup : Setup) (id : ℕ) (view : View) → view.lock ≡ None
    → Splits (IsRuled setup) id view (others view) (first_alone view)
deals setup id view free state ruled at =
    let agrees = all-at (Agrees setup ruled.history) state.views id view ruled.agree at in
    let cut = cut-agrees setup ruled.history view agrees free in
    let left = set state.views id (others view) in
    ruled-again setup state (left ++ first_alone view ∷ []) ruled
    (omega (arith, sum_by_push locks left (first_alone view), sum-exchanged locks state.views id view (others view) at))
    (λ t. omega (
      arith,
      sum_by_push (times_carried t) left (first_alone view),
      sum-exchanged (times_carried t) state.views id view (others view) at,
      cut-times t view.carried,
    ))
    (All-push (Agrees setup ruled.history) left (first_alone view)
    (All-set (Agrees setup ruled.history) state.views id (others view) cut.0 ruled.agree) cut.1)

-- a seat without the lock takes the numbers of another without it
pub gathers : (setup : Setup) (id : ℕ) (view : View) (second : ℕ) (other : View) → view.lock ≡ None → other.lock ≡ None
    → Joins (IsRuled setup) id view second other (both_of view other) spent_view
gathers setup id view second other free free_other state ruled at apart at_second =
    let both = both_of view other in
    let mid = set state.views id both in
    let there = sym (set_else state.views id second both apart) ∙ at_second in
    let agrees = all-at (Agrees setup ruled.history) state.views id view ruled.agree at in
    let agrees_other = all-at (Agrees setup ruled.history) state.views second other ruled.agree there in
    let unlocked : locks other ≡ 0 = ap locks_by free_other in
    ruled-again setup state (set mid second spent_view) ruled
    (omega (
      arith,
      sum-exchanged locks state.views id view both at,
      sum-exchanged locks mid second other spent_view at_second,
      unlocked,
    ))
    (λ t. omega (
      arith,
      sum-exchanged (times_carried t) state.views id view both at,
      sum-exchanged (times_carried t) mid second other spent_view at_second,
      joined-times t view other,
    ))
    (All-set (Agrees setup ruled.history) mid second spent_view (spent-agrees setup ruled.history)
    (All-set (Agrees setup ruled.history) state.views id both
    (joined-agrees setup ruled.history view other agrees agrees_other free) ruled.agree))

-- ---- the claim

-- a view of these numbers that has the lock
abbrev pub locked_view : List Carried → History → View
locked_view carried before = record { carried = carried; lock = Some before }

-- what a claim may do where it finds a number
abbrev MayClaim : Setup → Table → ℕ → View → ℕ → Type 0
MayClaim setup state id view found =
    (after : View) × (act : Act GuardedHeap) × Valid state.homes [] act
    × IsRuled setup (stepped state 0 (either (found == 0) 1 found) id [] after act)
    × claims (step 1 0 0 1 none) (view, []) found (after, carried_after [] act)

-- it takes the heap where nobody has the lock
claims-free : (setup : Setup) (state : Table) (id : ℕ) (view : View) (ruled : IsRuled setup state) → get_elem? state.views id ≡ some view
    → view.lock ≡ None → ¬ (view.carried ≡ []) → sum_by locks state.views ≡ 0 → (home : IsAtHome setup ruled.history state.homes)
    → IsRuled setup (stepped state 0 1 id [] (locked_view view.carried home.guarded.journal) (takes 0 home.guarded))
claims-free setup state id view ruled at free some_number nobody home =
    let after = locked_view view.carried home.guarded.journal in
    let agrees = all-at (Agrees setup ruled.history) state.views id view ruled.agree at in
    let unlocked : locks view ≡ 0 = ap locks_by free in
    let locked : sum_by locks (set state.views id after) ≡ 1 =
    omega (arith, nobody, unlocked, sum-exchanged locks state.views id view after at) in
    record {
      history = ruled.history;
      word = record {
        word = ap (λ (ws : List ℕ). set ws 0 1) ruled.word.word ∙ ap (λ n. n ∷ []) (sym locked);
        one = omega (arith, locked);
      };
      once = λ t. omega (arith, ruled.once t, sum-exchanged (times_carried t) state.views id view after at);
      agree = All-set (Agrees setup ruled.history) state.views id after
          (record { numbers = agrees.numbers; lock = (home.journal, some_number) }) ruled.agree;
      place = subst (λ n. IsPlace setup ruled.history n (set state.homes 0 none)) (sym locked)
          (ap (λ (homes : List (Home GuardedHeap)). set homes 0 none) home.home);
    }

-- and changes nothing where somebody has
claims-busy : (setup : Setup) (state : Table) (id : ℕ) (view : View) → IsRuled setup state → get_elem? state.views id ≡ some view
    → (found : ℕ) → found ≡ sum_by locks state.views → IsRuled setup (stepped state 0 found id [] view keeps)
claims-busy setup state id view ruled at found is =
    let words : set state.words 0 found ≡ state.words =
    ap (λ (ws : List ℕ). set ws 0 found) ruled.word.word ∙ ap (λ n. n ∷ []) is ∙ sym ruled.word.word in
    let views : set state.views id view ≡ state.views = set_again state.views id view at in
    subst (λ (vs : List View). IsRuled setup (record { words = set state.words 0 found; homes = state.homes; views = vs })) (sym views)
    (subst (λ (ws : List ℕ). IsRuled setup (record { words = ws; homes = state.homes; views = state.views })) (sym words) ruled)

claims-by : (setup : Setup) (state : Table) (id : ℕ) (view : View) → IsRuled setup state → get_elem? state.views id ≡ some view
    → view.lock ≡ None → ¬ (view.carried ≡ []) → (found : ℕ) → found ≡ sum_by locks state.views → MayClaim setup state id view found
claims-by setup state id view ruled at free some_number zero is =
    let home = subst (λ n. IsPlace setup ruled.history n state.homes) (sym is) ruled.place in
    let agrees = all-at (Agrees setup ruled.history) state.views id view ruled.agree at in (
      locked_view view.carried home.guarded.journal,
      takes 0 home.guarded,
      ap (λ (homes : List (Home GuardedHeap)). get_elem? homes 0) home.home,
      claims-free setup state id view ruled at free some_number (sym is) home,
      record {
        guarded = home.guarded;
        view = refl;
        holds = refl;
        numbers = subst (λ (history : History). All (IsNumberIn home.guarded.setup history) view.carried) (sym home.journal)
            (subst (λ (own : Setup). All (IsNumberIn own ruled.history) view.carried) (sym home.setup_is) agrees.numbers);
      },
    )
claims-by setup state id view ruled at free some_number (suc found) is =
    let test : (suc found == 0) ≡ false = ne_eqb (suc found) 0 (λ same. omega (arith, same)) in (
      view,
      keeps,
      tt,
      subst (λ (hit : Bool). IsRuled setup (stepped state 0 (either hit 1 (suc found)) id [] view keeps)) (sym test)
          (claims-busy setup state id view ruled at (suc found) is),
      refl,
    )

-- a seat that carries some number and hasn't the lock may claim it
pub claim-allowed : (setup : Setup) (id : ℕ) (view : View) → view.lock ≡ None → ¬ (view.carried ≡ [])
    → Allows (IsRuled setup) 1 id (view, []) 0 (λ n. either (n == 0) 1 n) (claims (step 1 0 0 1 none) (view, []))
claim-allowed setup id view free some_number state ruled one at fits =
    claims-by setup state id view ruled at free some_number (get_or state.words 0 0)
    (ap (λ (ws : List ℕ). get_or ws 0 0) ruled.word.word)

-- ---- the release

-- a seat that has the lock for one number may put a heap back whose journal has as many calls of all other mutators
pub release-allowed : (setup : Setup) (id : ℕ) (number : Carried) (before : History) (guarded : GuardedHeap) → guarded.setup ≡ setup
    → ((u : ℕ) → u ≢ number.mutator → count_of u guarded.journal ≡ count_of u before)
    → Allows (IsRuled setup) 1 id (locked_view (number ∷ []) before, (0, guarded) ∷ []) 0 (λ _. 0)
    (λ _. releases (step 1 0 0 0 none) (locked_view (number ∷ []) before, (0, guarded) ∷ []) 0)
release-allowed setup id number before guarded same others state ruled one at fits =
    (after, gives, tt, kept, refl)
  where
    view : View
    view = locked_view (number ∷ []) before

    after : View
    after = free_view (counted_in guarded.journal number ∷ [])

    agrees : Agrees setup ruled.history view
    agrees = all-at (Agrees setup ruled.history) state.views id view ruled.agree at

    own : IsNumberIn setup ruled.history number
    own = All-head (IsNumberIn setup ruled.history) number [] agrees.numbers

    locked : sum_by locks (set state.views id after) ≡ 0
    locked = omega (arith, ruled.word.one, sum-exchanged locks state.views id view after at)

    was_locked : sum_by locks state.views ≡ 1
    was_locked = omega (arith, ruled.word.one, sum-exchanged locks state.views id view after at)

    rest : List View
    rest = set state.views id spent_view

    rest-agree : All (Agrees setup guarded.journal) rest
    rest-agree k d there =
        agrees-anew setup ruled.history guarded.journal number.mutator (get_or rest k d)
        (All-set (Agrees setup ruled.history) state.views id spent_view (spent-agrees setup ruled.history) ruled.agree k d there)
        (others-nothing (times_carried number.mutator) state.views id view spent_view at (ruled.once number.mutator)
        (own-number number.mutator number [] refl) refl k d there)
        (others-nothing locks state.views id view spent_view at ruled.word.one (omega arith) refl k d there)
        (λ u other. others u other ∙ ap (count_of u) agrees.lock.0)

    after-agrees : Agrees setup guarded.journal after
    after-agrees = record {
      numbers = All-cons (IsNumberIn setup guarded.journal) (counted_in guarded.journal number) []
          (record { setup_is = own.setup_is; there = own.there; counted = refl }) (All-nil (IsNumberIn setup guarded.journal));
      lock = tt;
    }

    kept : IsRuled setup (stepped state 0 0 id ((0, guarded) ∷ []) after gives)
    kept = record {
      history = guarded.journal;
      word = record {
        word = ap (λ (ws : List ℕ). set ws 0 0) ruled.word.word ∙ ap (λ n. n ∷ []) (sym locked);
        one = omega (arith, locked);
      };
      once = λ t. omega (arith, ruled.once t, sum-exchanged (times_carried t) state.views id view after at);
      agree = subst (λ (vs : List View). All (Agrees setup guarded.journal) vs) (set-twice state.views id spent_view after)
          (All-set (Agrees setup guarded.journal) rest id after after-agrees rest-agree);
      place = subst (λ n. IsPlace setup guarded.journal n (set state.homes 0 (some guarded))) (sym locked)
          (record {
            guarded = guarded;
            home = ap (λ (homes : List (Home GuardedHeap)). set homes 0 (some guarded))
                (subst (λ n. IsPlace setup ruled.history n state.homes) was_locked ruled.place);
            journal = refl;
            setup_is = same;
          });
    }

-- ---- the table at the end

-- a view that carries no number of any mutator hasn't the lock
idle-free : (setup : Setup) (history : History) (view : View) → Agrees setup history view
    → ((t : ℕ) → t < mutators_of setup → times_carried t view ≡ 0) → locks view ≡ 0
idle-free setup history view agrees idle = by_lock view.lock agrees.lock (by_numbers view.carried agrees.numbers idle)
  where
    by_numbers : (carried : List Carried) → All (IsNumberIn setup history) carried
        → ((t : ℕ) → t < mutators_of setup → times_in t carried ≡ 0) → carried ≡ []
    by_numbers [] numbers nothing = refl
    by_numbers (number ∷ more) numbers nothing =
        let own = All-head (IsNumberIn setup history) number more numbers in
        absurd (omega (arith, nothing number.mutator own.there, own-number number.mutator number more refl))

    by_lock : (lock : Option History) → IsLockOf history view.carried lock → view.carried ≡ [] → locks_by lock ≡ 0
    by_lock None free empty = refl
    by_lock (Some before) has empty = absurd (has.1 empty)

-- the sum of nothing
sum-nothing : {X : Type 0} (f : X → ℕ) (xs : List X) → All (λ x. f x ≡ 0) xs → sum_by f xs ≡ 0
sum-nothing f [] all = refl
sum-nothing f (x ∷ xs) all =
    omega (arith, sum_by-cons f x xs, All-head (λ y. f y ≡ 0) x xs all, sum-nothing f xs (All-tail (λ y. f y ≡ 0) x xs all))

-- where one seat carries the numbers of all mutators and hasn't the lock, the heap is at home, and its journal has as many
-- calls of each as the seat says
pub ends : (setup : Setup) (id : ℕ) (view : View) (words : List ℕ) (places : List GuardedHeap) → view.lock ≡ None
    → ((t : ℕ) → t < mutators_of setup → 1 ≤ times_carried t view) → Final (Seen (IsRuled setup) id view) words places
    → (guarded : GuardedHeap) × (get_elem? places 0 ≡ some guarded) × (guarded.setup ≡ setup)
    × All (IsNumberIn setup guarded.journal) view.carried
ends setup id view words places free all (state, (ruled, at), words_are, lengths, values) =
    let spent-agree = All-set (Agrees setup ruled.history) state.views id spent_view (spent-agrees setup ruled.history) ruled.agree in
    let idle : All (λ each. locks each ≡ 0) (set state.views id spent_view) = λ k d there.
    idle-free setup ruled.history (get_or (set state.views id spent_view) k d) (spent-agree k d there)
    (λ t own. others-nothing (times_carried t) state.views id view spent_view at (ruled.once t) (all t own) refl k d there) in
    let unlocked : locks view ≡ 0 = ap locks_by free in
    let nobody : sum_by locks state.views ≡ 0 =
    omega (
      arith,
      unlocked,
      sum-nothing locks (set state.views id spent_view) idle,
      sum-exchanged locks state.views id view spent_view at,
    ) in
    let home = subst (λ n. IsPlace setup ruled.history n state.homes) nobody ruled.place in
    let agrees = all-at (Agrees setup ruled.history) state.views id view ruled.agree at in (
      home.guarded,
      values 0 home.guarded (ap (λ (homes : List (Home GuardedHeap)). get_elem? homes 0) home.home),
      home.setup_is,
      subst (λ (history : History). All (IsNumberIn setup history) view.carried) (sym home.journal) agrees.numbers,
    )
