-- From the first passes over the ones that are done to the history of a script.
use Rattle.std.proofs.Common.{◌≡◌, ◌≢◌, ◌∙◌, ℕ, suc, ◌+◌, ◌<◌, ◌≤◌, ◌==◌, ◌||◌, Bool, true, false, List, [], ◌∷◌, All, length, map, refl, sym, ap, subst, arith, eqb-true, eq-eqb, lt_of_not-le}
use Rattle.std.proofs.lemmas.Bool.{true≢false}
use Rattle.std.proofs.lemmas.List.{take_all}
use Rattle.std.proofs.lemmas.List.Elements.{All-cons, All-head, All-nil, All-tail}
use Rattle.std.specs.List.{list_any}
use Rattle.gc_model.specs.declared.call.Call.{Call}
use Rattle.gc_model.specs.declared.call.Line.{Line}
use Rattle.gc_model.specs.History.{FitsScript, calls_of}
use Rattle.gc_locked.specs.Journal.{Entries}
use Rattle.gc_locked.specs.Locked.{AreAllPasses, AreFirstPasses, ArePassesFrom, HasCallsOf, IsFinished, IsPassOf, LockedHeap, PassView}
use Rattle.gc_locked.specs.Setup.{lines_of, mutators_of, plan_of}
use Rattle.gc_workers.specs.Workers.{IsFresh, done_by}

-- each of the first passes is fresh
pub fresh-from : (locked : LockedHeap) (first : ℕ) (passes : List PassView) → ArePassesFrom locked first passes
    → All (IsFresh locked) passes
fresh-from locked first [] own = All-nil (IsFresh locked)
fresh-from locked first (pass ∷ passes) own =
    All-cons (IsFresh locked) pass passes (record { own = own.0; made = own.2 }) (fresh-from locked (suc first) passes own.3)

-- a pass that is done is one of the heap's
pub done-own : (locked : LockedHeap) (passes : List PassView) → All (IsFresh locked) passes → All (IsPassOf locked)
    (map (done_by locked) passes)
done-own locked [] fresh = All-nil (IsPassOf locked)
done-own locked (pass ∷ passes) fresh =
    let own = (All-head (IsFresh locked) pass passes fresh).own in
    All-cons (IsPassOf locked) (done_by locked pass) (map (done_by locked) passes)
    (record { table = own.table; there = own.there; carried = refl }) (done-own locked passes (All-tail (IsFresh locked) pass passes fresh))

-- and each mutator from the first on has one
pub done-each : (locked : LockedHeap) (first : ℕ) (passes : List PassView) → ArePassesFrom locked first passes → (t : ℕ) → first ≤ t
    → t < first + length passes → list_any (λ pass. pass.mutator == t) (map (done_by locked) passes) ≡ true
done-each locked first [] own t above below = absurd (omega (arith, above, below))
done-each locked first (pass ∷ passes) own t above below =
    by_test (pass.mutator == t) refl (λ further within. done-each locked (suc first) passes own.3 t further within)
  where
    rest : Bool
    rest = list_any (λ (each : PassView). each.mutator == t) (map (done_by locked) passes)

    by_test : (test : Bool) → (pass.mutator == t) ≡ test → (suc first ≤ t → t < suc first + length passes → rest ≡ true)
        → list_any (λ (each : PassView). each.mutator == t) (map (done_by locked) (pass ∷ passes)) ≡ true
    by_test true is later = ap (λ test. test || rest) is
    by_test false is later =
        let other : t ≢ first = λ same. true≢false (sym (eq-eqb pass.mutator t (own.1 ∙ sym same)) ∙ is) in
        ap (λ test. test || rest) is
        ∙ later (lt_of_not-le (λ least. other (omega (arith, least, above)))) (omega (arith, below))

-- the passes that are done are all passes of the heap
pub done-all : (locked : LockedHeap) (passes : List PassView) → AreFirstPasses locked passes
    → AreAllPasses locked (map (done_by locked) passes)
done-all locked passes first = record {
  own = done-own locked passes (fresh-from locked 0 passes first.own);
  each = λ t there. done-each locked 0 passes first.own t (omega arith) (omega (arith, there, first.count));
}

-- where all passes that are done have their calls, each mutator's calls are its whole plan
calls-from : (locked : LockedHeap) (journal : Entries) (first : ℕ) (passes : List PassView) → ArePassesFrom locked first passes
    → All (HasCallsOf locked journal) (map (done_by locked) passes) → (t : ℕ) → first ≤ t → t < first + length passes
    → calls_of t journal.entries ≡ plan_of (lines_of locked.setup) t
calls-from locked journal first [] own has t above below = absurd (omega (arith, above, below))
calls-from locked journal first (pass ∷ passes) own has t above below =
    by_test (pass.mutator == t) refl
    (λ further within. calls-from locked journal (suc first) passes own.3
    (All-tail (HasCallsOf locked journal) (done_by locked pass) (map (done_by locked) passes) has) t further within)
  where
    plan : ℕ → List Call
    plan = plan_of (lines_of locked.setup)

    by_test : (test : Bool) → (pass.mutator == t) ≡ test
        → (suc first ≤ t → t < suc first + length passes → calls_of t journal.entries ≡ plan t) → calls_of t journal.entries ≡ plan t
    by_test true is later =
        let calls = All-head (HasCallsOf locked journal) (done_by locked pass) (map (done_by locked) passes) has in
        subst (λ u. calls_of u journal.entries ≡ plan u) (eqb-true pass.mutator t is)
        (calls ∙ take_all (length (plan pass.mutator)) (plan pass.mutator) (omega arith))
    by_test false is later =
        let other : t ≢ first = λ same. true≢false (sym (eq-eqb pass.mutator t (own.1 ∙ sym same)) ∙ is) in
        later (lt_of_not-le (λ least. other (omega (arith, least, above)))) (omega (arith, below))

-- so the journal fits the script's lines
pub played-fits : (locked : LockedHeap) (passes : List PassView) (journal : Entries) (mutators : ℕ) (lines : List Line)
    → AreFirstPasses locked passes → IsFinished locked (map (done_by locked) passes) journal → mutators_of locked.setup ≡ mutators
    → lines_of locked.setup ≡ lines → FitsScript mutators lines journal.entries
played-fits locked passes journal mutators lines first finished count same =
    subst (λ (each : List Line). FitsScript mutators each journal.entries) same
    (record {
      calls = λ t there. calls-from locked journal 0 passes first.own finished.calls t (omega arith)
          (omega (arith, there, first.count, count));
      collections = finished.collections;
    })
