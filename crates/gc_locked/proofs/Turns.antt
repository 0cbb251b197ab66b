-- A turn at the lock: from the claim over the call to the release.
use Rattle.std.proofs.Common.{◌≡◌, ◌≢◌, ◌∙◌, ℕ, ◌+◌, ◌==◌, Bool, true, false, if◌then◌else◌, Some, List, [], ◌∷◌, All, length, slice_get, refl, sym, ap, ap₂, subst, arith}
use Rattle.std.proofs.lemmas.List.Elements.{All-head}
use mathlib.Core.Option.{none}
use prog.Atomic.{either}
use Rattle.atomic_table.specs.Table.{Allows, Me, step}
use Rattle.gc_model.specs.declared.call.Call.{Call}
use Rattle.gc_model.specs.History.{History}
use Rattle.gc_locked.specs.declared.setup.Setup.{Setup}
use Rattle.gc_locked.specs.declared.view.Carried.{Carried}
use Rattle.gc_locked.specs.declared.view.View.{View}
use Rattle.gc_locked.specs.Guarded.{GuardedHeap, IsEntered}
use Rattle.gc_locked.specs.Locked.{LockedHeap, PassView, number_of}
use Rattle.gc_locked.specs.Rule.{HasClaimed, IsNumberIn, IsRelease, IsRuled, claims, free_view, releases}
use Rattle.gc_locked.specs.Setup.{count_of, lines_of, places_of}
use Rattle.gc_locked.specs.Turns.{HasMadeOn, HoldsFor, counted_to}
use Rattle.gc_locked.proofs.Entered.{count-other, count-own}
use Rattle.gc_locked.proofs.Steps.{claim-allowed, locked_view, release-allowed}

-- what a seat knows and holds
abbrev Seated : Type 0
Seated = Me GuardedHeap View

-- a seat that carries one number and hasn't the lock
abbrev pub at_rest : Carried → Seated
at_rest number = (free_view (number ∷ []), [])

-- ---- the claim

-- it may claim it
pub claim-requires : (key : Setup) (slots id : ℕ) (me : Seated) (number : Carried) → slots ≡ 1 → me ≡ at_rest number
    → Allows (IsRuled key) slots id me 0 (λ n. either (n == 0) 1 n) (claims (step slots 0 0 1 none) me)
claim-requires key slots id me number one rests =
    let some : number ∷ [] ≢ [] = λ same. omega (arith, ap (λ (each : List Carried). length each) same) in
    subst (λ (n : ℕ). Allows (IsRuled key) n id me 0 (λ found. either (found == 0) 1 found) (claims (step n 0 0 1 none) me)) (sym one)
    (subst (λ (each : Seated). Allows (IsRuled key) 1 id each 0 (λ found. either (found == 0) 1 found) (claims (step 1 0 0 1 none) each))
    (sym rests) (claim-allowed key id (free_view (number ∷ [])) refl some))

-- the seat has the lock and holds the heap, whose journal has as many calls as the number says
pub record IsHeld (number : Carried) (me : Seated) : Type 0 where
  pub guarded : GuardedHeap
  pub me_is : me ≡ (locked_view (number ∷ []) guarded.journal, (0, guarded) ∷ [])
  pub setup_is : guarded.setup ≡ number.setup
  pub counted : number.made ≡ count_of number.mutator guarded.journal

-- and where it claimed it, it has it
pub claimed : (number : Carried) (before after : Seated) → before ≡ at_rest number → HasClaimed before after → IsHeld number after
claimed number before after rests has =
    let guarded = has.guarded in
    let own = All-head (IsNumberIn guarded.setup guarded.journal) number []
    (subst (λ (each : Seated). All (IsNumberIn guarded.setup guarded.journal) each.0.carried) rests has.numbers) in
    record {
      guarded = guarded;
      me_is = ap₂ (λ (view : View) (held : List (ℕ × GuardedHeap)). (view, held))
          (has.view ∙ ap (λ (each : Seated). locked_view each.0.carried guarded.journal) rests) has.holds;
      setup_is = sym own.setup_is;
      counted = own.counted;
    }

-- ---- the call

-- the heap is one for the mutator's next call
pub holds-for : (setup : Setup) (t made place : ℕ) (me : Seated) → IsHeld (number_of setup t made) me
    → slice_get (places_of (lines_of setup) t) made ≡ Some place → HoldsFor setup t place me.1
holds-for setup t made place me held next = record {
  guarded = held.guarded;
  held_is = ap (λ (each : Seated). each.1) held.me_is;
  setup_is = held.setup_is;
  next = subst (λ n. slice_get (places_of (lines_of setup) t) n ≡ Some place) held.counted next;
}

-- the seat has the lock and holds the heap on which the call was made
pub record IsHeldAfter (setup : Setup) (t made : ℕ) (call : Call) (entered : Bool) (me : Seated) : Type 0 where
  pub before : GuardedHeap
  pub counted : made ≡ count_of t before.journal
  pub guarded : GuardedHeap
  pub me_is : me ≡ (locked_view (number_of setup t made ∷ []) before.journal, (0, guarded) ∷ [])
  pub setup_is : guarded.setup ≡ setup
  pub made_is : IsEntered entered before guarded t call

pub made-in : (setup : Setup) (t made : ℕ) (call : Call) (entered : Bool) (mid me : Seated) → IsHeld (number_of setup t made) mid
    → me.0 ≡ mid.0
    → ((before : GuardedHeap) → mid.1 ≡ (0, before) ∷ [] → HasMadeOn before setup t call entered me.1)
    → IsHeldAfter setup t made call entered me
made-in setup t made call entered mid me held view makes =
    let now = makes held.guarded (ap (λ (each : Seated). each.1) held.me_is) in
    record {
      before = held.guarded;
      counted = held.counted;
      guarded = now.guarded;
      me_is = ap₂ (λ (own : View) (holds : List (ℕ × GuardedHeap)). (own, holds))
          (view ∙ ap (λ (each : Seated). each.0) held.me_is) now.held_is;
      setup_is = now.setup_is;
      made_is = now.made;
    }

-- ---- the release

-- the calls of all other mutators are as many as before
entered-others : (entered : Bool) (old new : GuardedHeap) (t : ℕ) (call : Call) → IsEntered entered old new t call → (u : ℕ) → u ≢ t
    → count_of u new.journal ≡ count_of u old.journal
entered-others true old new t call has u other =
    ap (λ (journal : History). count_of u journal) has.journal ∙ count-other old.journal has.runs t call has.reply u other
entered-others false old new t call vain u other = ap (λ (journal : History). count_of u journal) vain.journal

-- and those of its own are one more where it entered
entered-own : (entered : Bool) (old new : GuardedHeap) (t : ℕ) (call : Call) → IsEntered entered old new t call
    → count_of t new.journal ≡ count_of t old.journal + (if entered then 1 else 0)
entered-own true old new t call has =
    omega (arith, ap (λ (journal : History). count_of t journal) has.journal, count-own old.journal has.runs t call has.reply)
entered-own false old new t call vain = omega (arith, ap (λ (journal : History). count_of t journal) vain.journal)

-- the seat may release the lock
pub release-requires : (key setup : Setup) (slots id : ℕ) (t made : ℕ) (call : Call) (entered : Bool) (me : Seated) → slots ≡ 1
    → key ≡ setup → IsHeldAfter setup t made call entered me
    → Allows (IsRuled key) slots id me 0 (λ _. 0) (λ _. releases (step slots 0 0 0 none) me 0)
release-requires key setup slots id t made call entered me one same held =
    subst (λ (n : ℕ). Allows (IsRuled key) n id me 0 (λ _. 0) (λ _. releases (step n 0 0 0 none) me 0)) (sym one)
    (subst (λ (each : Seated). Allows (IsRuled key) 1 id each 0 (λ _. 0) (λ _. releases (step 1 0 0 0 none) each 0)) (sym held.me_is)
    (release-allowed key id (number_of setup t made) held.before.journal held.guarded (held.setup_is ∙ sym same)
    (entered-others entered held.before held.guarded t call held.made_is)))

-- and where it did, its number has one call more where the call entered the journal
pub released : (setup : Setup) (t made : ℕ) (call : Call) (entered : Bool) (me after : Seated) → IsHeldAfter setup t made call entered me
    → IsRelease me.1 me.0 after → after ≡ at_rest (number_of setup t (made + (if entered then 1 else 0)))
released setup t made call entered me after held gives =
    let count : count_of t held.guarded.journal ≡ made + (if entered then 1 else 0) =
    entered-own entered held.before held.guarded t call held.made_is ∙ ap (λ n. n + (if entered then 1 else 0)) (sym held.counted) in
    subst (λ (each : Seated). IsRelease each.1 each.0 after) held.me_is gives ∙ ap (λ n. at_rest (number_of setup t n)) count

-- ---- the pass

-- a seat at rest is a pass's
pub rests : (number : Carried) (me : Seated) → me ≡ at_rest number → me ≡ (free_view me.0.carried, [])
rests number me is = is ∙ ap (λ (each : Seated). (free_view each.0.carried, [])) (sym is)

-- and the pass says so many calls more
pub counted : (locked : LockedHeap) (old new : PassView) (more : ℕ) → new.table ≡ old.table → new.mutator ≡ old.mutator
    → new.made ≡ old.made → new.carried ≡ number_of locked.setup old.mutator (old.made + more) ∷ [] → new ≡ counted_to locked old more
counted locked old new more table mutator made carried i =
    record { table = table i; mutator = mutator i; made = made i; carried = carried i }
