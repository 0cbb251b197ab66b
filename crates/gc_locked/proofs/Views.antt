-- The numbers that views carry, and what stays true of views when they are cut, joined and counted anew.
use Rattle.std.proofs.Common.{◌≡◌, ◌≢◌, ◌∙◌, ℕ, zero, suc, ◌+◌, ◌<◌, ◌≤◌, ◌==◌, true, false, cond, Option, None, Some, List, [], ◌∷◌, All, take, drop, refl, sym, ap, subst, arith, Bool, eqb-true, eq-eqb, ne_eqb}
use Rattle.std.proofs.lemmas.List.Elements.{All-append, All-cons, All-drop, All-nil, All-take}
use Rattle.std.proofs.lemmas.List.Sums.{sum_by-append, sum_by-cons}
use Rattle.gc_model.specs.History.{History}
use Rattle.gc_locked.specs.declared.setup.Setup.{Setup}
use Rattle.gc_locked.specs.declared.view.Carried.{Carried}
use Rattle.gc_locked.specs.declared.view.View.{View}
use Rattle.gc_locked.specs.Rule.{Agrees, IsLockOf, IsNumberIn, both_of, first_alone, locks, locks_by, numbers_from, others, spent_view, times_carried, times_in}
use Rattle.gc_locked.specs.Setup.{count_of, mutators_of}
use Rattle.gc_locked.proofs.Lists.{all-both, all-nothing}

-- 1 where a number is this mutator's
abbrev pub is_number_of : ℕ → Carried → ℕ
is_number_of t number = cond (number.mutator == t) 1 0

-- where it is another's, nothing
pub other-number : (t : ℕ) (number : Carried) → is_number_of t number ≡ 0 → number.mutator ≢ t
other-number t number none same = let own = ap {B = ℕ} (λ b. cond b 1 0) (eq-eqb number.mutator t same) in absurd (omega (arith, none, own))

-- a number is carried
pub own-number : (t : ℕ) (number : Carried) (more : List Carried) → number.mutator ≡ t → 1 ≤ times_in t (number ∷ more)
own-number t number more same =
    let own = ap {B = ℕ} (λ b. cond b 1 0) (eq-eqb number.mutator t same) in omega (arith, own, sum_by-cons (is_number_of t) number more)

-- ---- the first view

-- the numbers of mutators from one on have no lower one
numbers-above : (setup : Setup) (t first more : ℕ) → t < first → times_in t (numbers_from setup first more) ≡ 0
numbers-above setup t first zero above = refl
numbers-above setup t first (suc more) above =
    let number : Carried = record { setup = setup; mutator = first; made = 0 } in
    let other = ap {B = ℕ} (λ b. cond b 1 0) (ne_eqb first t (λ same. omega (arith, same, above))) in
    omega (
      arith,
      other,
      sum_by-cons (is_number_of t) number (numbers_from setup (suc first) more),
      numbers-above setup t (suc first) more
          (omega (arith, above)),
    )

-- each is there once
pub numbers-once : (setup : Setup) (t first more : ℕ) → times_in t (numbers_from setup first more) ≤ 1
numbers-once setup t first zero = omega arith
numbers-once setup t first (suc more) = by_test (first == t) refl (numbers-once setup t (suc first) more)
  where
    number : Carried
    number = record { setup = setup; mutator = first; made = 0 }

    rest : ℕ
    rest = times_in t (numbers_from setup (suc first) more)

    step : times_in t (numbers_from setup first (suc more)) ≡ cond (first == t) 1 0 + rest
    step = sum_by-cons (is_number_of t) number (numbers_from setup (suc first) more)

    by_test : (test : Bool) → (first == t) ≡ test → rest ≤ 1 → times_in t (numbers_from setup first (suc more)) ≤ 1
    by_test true is once =
        let above = numbers-above setup t (suc first) more (omega (arith, eqb-true first t is)) in
        omega (arith, step, above, ap {B = ℕ} (λ b. cond b 1 0) is)
    by_test false is once = omega (arith, step, once, ap {B = ℕ} (λ b. cond b 1 0) is)

-- and each agrees with the empty history
pub numbers-agree : (setup : Setup) (first more : ℕ) → first + more ≤ mutators_of setup
    → All (IsNumberIn setup []) (numbers_from setup first more)
numbers-agree setup first zero few = All-nil (IsNumberIn setup [])
numbers-agree setup first (suc more) few =
    let number : Carried = record { setup = setup; mutator = first; made = 0 } in
    All-cons (IsNumberIn setup []) number (numbers_from setup (suc first) more)
    (record { setup_is = refl; there = omega (arith, few); counted = refl }) (numbers-agree setup (suc first) more (omega (arith, few)))

-- ---- views without the lock

-- nobody has the lock by it
pub no-lock : (lock : Option History) → locks_by lock ≡ 0 → lock ≡ None
no-lock None none = refl
no-lock (Some before) none = absurd (omega (arith, none))

-- a view without the lock agrees, where its numbers do
pub free-agrees : (setup : Setup) (history : History) (view : View) → All (IsNumberIn setup history) view.carried → view.lock ≡ None
    → Agrees setup history view
free-agrees setup history view numbers free =
    record { numbers = numbers; lock = subst (IsLockOf history view.carried) (sym free) tt }

-- one that carries nothing does
pub spent-agrees : (setup : Setup) (history : History) → Agrees setup history spent_view
spent-agrees setup history = record { numbers = All-nil (IsNumberIn setup history); lock = tt }

-- ---- cut in two

pub cut-times : (t : ℕ) (carried : List Carried) → times_in t (drop 1 carried) + times_in t (take 1 carried) ≡ times_in t carried
cut-times t [] = refl
cut-times t (number ∷ more) =
    omega (arith, sum_by-cons (is_number_of t) number more, sum_by-cons (is_number_of t) number [])

pub cut-agrees : (setup : Setup) (history : History) (view : View) → Agrees setup history view → view.lock ≡ None
    → Agrees setup history (others view) × Agrees setup history (first_alone view)
cut-agrees setup history view agrees free = (
  free-agrees setup history (others view) (All-drop (IsNumberIn setup history) 1 view.carried agrees.numbers) free,
  record { numbers = All-take (IsNumberIn setup history) 1 view.carried agrees.numbers; lock = tt },
)

-- ---- made one

pub joined-times : (t : ℕ) (view other : View) → times_carried t (both_of view other) ≡ times_carried t other + times_carried t view
joined-times t view other = sum_by-append (is_number_of t) other.carried view.carried

pub joined-agrees : (setup : Setup) (history : History) (view other : View) → Agrees setup history view → Agrees setup history other
    → view.lock ≡ None → Agrees setup history (both_of view other)
joined-agrees setup history view other agrees agrees_other free =
    free-agrees setup history (both_of view other)
    (All-append (IsNumberIn setup history) other.carried view.carried agrees_other.numbers agrees.numbers) free

-- ---- counted anew

-- a view that has neither the lock nor a mutator's number agrees with a history that has as many calls of all others
pub agrees-anew : (setup : Setup) (old new : History) (t : ℕ) (view : View) → Agrees setup old view → times_carried t view ≡ 0
    → locks view ≡ 0 → ((u : ℕ) → u ≢ t → count_of u new ≡ count_of u old) → Agrees setup new view
agrees-anew setup old new t view agrees none free same =
    free-agrees setup new view
    (all-both (IsNumberIn setup old) (λ number. is_number_of t number ≡ 0) (IsNumberIn setup new) view.carried agrees.numbers
    (all-nothing (is_number_of t) view.carried none)
    (λ number own other. record {
      setup_is = own.setup_is;
      there = own.there;
      counted = own.counted ∙ sym (same number.mutator (other-number t number other));
    }))
    (no-lock view.lock free)
