-- The lines of a mutator among the lines of a script.
use Rattle.std.proofs.Common.{◌≡◌, ◌≢◌, ◌∙◌, ℕ, suc, ◌+◌, ◌≤◌, ◌==◌, Bool, true, false, cond, if◌then◌else◌, List, [], ◌∷◌, Some, drop, filter, length, length-append, map, slice_get, take, take-append-drop, refl, sym, ap, arith, eq-eqb, ne_eqb}
use Rattle.gc_model.specs.declared.call.Call.{Call}
use Rattle.gc_model.specs.declared.call.Call.TheVariants.{End}
use Rattle.gc_model.specs.declared.call.Line.{Line}
use Rattle.gc_model.specs.History.{calls_in, is_line_of}
use Rattle.gc_model.proofs.Scripts.{calls_in-append}
use Rattle.gc_locked.specs.Locked.{IsPassOf, LockedHeap, PassView, number_of}
use Rattle.gc_locked.specs.Setup.{lines_of}
use Rattle.gc_locked.proofs.Lists.{take-next}
use Rattle.gc_workers.specs.Workers.{calls_planned, done_by}

-- how many calls a mutator has of one line
abbrev pub own_of : ℕ → Line → ℕ
own_of t line = if line.mutator == t then 1 else 0

one-line : (t : ℕ) (line : Line) → length (calls_in t (line ∷ [])) ≡ own_of t line
one-line t line = by_test (line.mutator == t)
  where
    by_test : (test : Bool)
        → length (map (λ (each : Line). each.call) (cond test (line ∷ filter (is_line_of t) []) (filter (is_line_of t) []))) ≡
        (if test then 1 else 0)
    by_test true = refl
    by_test false = refl

-- one of its own
pub own-line : (t : ℕ) (line : Line) → line.mutator ≡ t → own_of t line ≡ 1
own-line t line own = ap {B = ℕ} (λ test. if test then 1 else 0) (eq-eqb line.mutator t own)

-- none of another's
pub other-line : (t : ℕ) (line : Line) → line.mutator ≢ t → own_of t line ≡ 0
other-line t line other = ap {B = ℕ} (λ test. if test then 1 else 0) (ne_eqb line.mutator t other)

-- with one line more a mutator has its calls more
pub calls-next : (t : ℕ) (lines : List Line) (i : ℕ) (line : Line) → slice_get lines i ≡ Some line
    → length (calls_in t (take (suc i) lines)) ≡ length (calls_in t (take i lines)) + own_of t line
calls-next t lines i line at =
    ap (λ (each : List Line). length (calls_in t each)) (take-next lines i line at)
    ∙ ap (λ (calls : List Call). length calls) (calls_in-append t (take i lines) (line ∷ []))
    ∙ length-append (calls_in t (take i lines)) (calls_in t (line ∷ []))
    ∙ ap (λ n. length (calls_in t (take i lines)) + n) (one-line t line)

-- the first lines have no more of its calls than all
pub calls-part : (t : ℕ) (lines : List Line) (i : ℕ) → length (calls_in t (take i lines)) ≤ length (calls_in t lines)
calls-part t lines i =
    let split = ap (λ (each : List Line). length (calls_in t each)) (sym (take-append-drop i lines)) in
    omega (
      arith,
      split,
      ap (λ (calls : List Call). length calls) (calls_in-append t (take i lines) (drop i lines)),
      length-append (calls_in t (take i lines)) (calls_in t (drop i lines)),
    )

-- a pass whose mutator made all calls of its lines and one more is done
pub done-is : (locked : LockedHeap) (old new : PassView) → IsPassOf locked old → IsPassOf locked new → new.mutator ≡ old.mutator
    → new.made ≡ length (calls_in old.mutator (lines_of locked.setup)) + 1 → new ≡ done_by locked old
done-is locked old new own_old own mutator made =
    let planned : new.made ≡ calls_planned locked old.mutator =
    omega (arith, made, length-append (calls_in old.mutator (lines_of locked.setup)) (End ∷ [])) in
    let carried = own.carried ∙ ap (λ t. number_of locked.setup t new.made ∷ []) mutator
    ∙ ap (λ n. number_of locked.setup old.mutator n ∷ []) planned in
    λ i. record { table = (own.table ∙ sym own_old.table) i; mutator = mutator i; made = planned i; carried = carried i }
