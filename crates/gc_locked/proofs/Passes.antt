-- Passes: how they are dealt, and what they carry together.
use Rattle.std.proofs.Common.{◌≡◌, ℕ, zero, suc, ◌+◌, ◌<◌, ◌≤◌, ◌==◌, ◌∙◌, ◌||◌, Bool, true, false, cond, List, [], ◌∷◌, ◌++◌, All, Some, filter, get_or, length, map, slice_get, take, refl, sym, ap, ap₂, subst, arith, eqb-true}
use Rattle.std.proofs.lemmas.Bool.{true≢false}
use Rattle.std.proofs.lemmas.List.Elements.{All-cons, All-head, All-nil, All-push, All-tail}
use Rattle.std.proofs.lemmas.List.Sums.{sum_by-cons}
use Rattle.std.specs.List.{list_any}
use Rattle.gc_layout.specs.declared.shape.Shape.{Shape}
use Rattle.gc_layout.specs.Places.{Layout}
use Rattle.gc_model.specs.declared.call.Call.{Call}
use Rattle.gc_model.specs.declared.call.Call.TheVariants.{End}
use Rattle.gc_model.specs.declared.call.Line.{Line}
use Rattle.gc_model.specs.declared.entry.Entry.TheVariants.{Made, Run}
use Rattle.gc_model.specs.declared.entry.RunReport.{RunReport}
use Rattle.gc_model.specs.Answer.{IsFit, Suits}
use Rattle.gc_model.specs.History.{Configuration, History, calls_in, calls_of, is_collection, is_line_of}
use Rattle.gc_model.proofs.Lists.{All-unmap}
use Rattle.gc_solo.specs.Kept.{IsSameHeap}
use Rattle.gc_solo.specs.Reports.{reports_of}
use Rattle.gc_solo.specs.Stands.{configuration_of}
use Rattle.gc_locked.specs.declared.setup.Setup.{Setup}
use Rattle.gc_locked.specs.declared.view.Carried.{Carried}
use Rattle.gc_locked.specs.Guarded.{GuardedHeap, StandsForItsJournal}
use Rattle.gc_locked.specs.Journal.{Entries}
use Rattle.gc_locked.specs.Locked.{AreAllPasses, AreFit, ArePassesFrom, IsFinished, IsPassOf, LockedHeap, PassView, number_of}
use Rattle.gc_locked.specs.Rule.{IsNumberIn, numbers_from, times_in}
use Rattle.gc_locked.specs.Setup.{allowance_of_lines, count_of, heap_of, lines_of, mutators_of, places_of, plan_of}
use Rattle.gc_locked.proofs.Lists.{all-read, read-here, read-mapped}
use Rattle.gc_locked.proofs.Places.{places-count}
use Rattle.gc_locked.proofs.Views.{is_number_of, own-number}

-- where a number is left, it is the next mutator's, and the others are behind it
pub record HasNext (setup : Setup) (first left all : ℕ) : Type 0 where
  pub more : ℕ
  pub all_is : suc first + more ≡ all
  pub numbers : numbers_from setup first left ≡ number_of setup first 0 ∷ numbers_from setup (suc first) more

pub numbers-next : (setup : Setup) (first left all : ℕ) → first + left ≡ all → first < all → HasNext setup first left all
numbers-next setup first zero all sum below = absurd (omega (arith, sum, below))
numbers-next setup first (suc more) all sum below = record { more = more; all_is = omega (arith, sum); numbers = refl }

-- a pass more, behind the others
pub passes-more : (locked : LockedHeap) (first : ℕ) (passes : List PassView) (pass : PassView) → ArePassesFrom locked first passes
    → IsPassOf locked pass → pass.mutator ≡ first + length passes → pass.made ≡ 0 → ArePassesFrom locked first (passes ++ pass ∷ [])
passes-more locked first [] pass own is mutator made = (is, omega (arith, mutator), made, tt)
passes-more locked first (other ∷ passes) pass own is mutator made =
    (own.0, own.1, own.2, passes-more locked (suc first) passes pass own.3 is (omega (arith, mutator)) made)

-- ---- the journal of all passes

-- a pass's number
abbrev pub own_number : Setup → PassView → Carried
own_number setup pass = number_of setup pass.mutator pass.made

-- where a mutator has a pass, its number is among those of the passes
pub pass-carried : (setup : Setup) (t : ℕ) (passes : List PassView) → list_any (λ pass. pass.mutator == t) passes ≡ true
    → 1 ≤ times_in t (map (own_number setup) passes)
pass-carried setup t [] has = absurd (true≢false (sym has))
pass-carried setup t (pass ∷ passes) has = by_test (pass.mutator == t) refl (pass-carried setup t passes)
  where
    rest : List Carried
    rest = map (own_number setup) passes

    by_test : (test : Bool) → (pass.mutator == t) ≡ test → (list_any (λ each. each.mutator == t) passes ≡ true → 1 ≤ times_in t rest)
        → 1 ≤ times_in t (own_number setup pass ∷ rest)
    by_test true is later = own-number t (own_number setup pass) rest (eqb-true pass.mutator t is)
    by_test false is later =
        let others : list_any (λ each. each.mutator == t) passes ≡ true =
        sym (ap (λ test. test || list_any (λ each. each.mutator == t) passes) is) ∙ has in
        omega (arith, later others, sum_by-cons (is_number_of t) (own_number setup pass) rest)

-- there are as many collections as reports
pub collections-reports : (journal : History) → length (filter is_collection journal) ≡ length (reports_of journal)
collections-reports [] = refl
collections-reports (Made t call reply ∷ journal) = collections-reports journal
collections-reports (Run report ∷ journal) = ap suc (collections-reports journal)

-- a heap that stands for its journal, and whose journal has as many calls as the passes say, is what is handed back
pub finished : (locked : LockedHeap) (passes : List PassView) (guarded : GuardedHeap) (journal : Entries) → guarded.setup ≡ locked.setup
    → StandsForItsJournal guarded → All (IsNumberIn locked.setup guarded.journal) (map (own_number locked.setup) passes)
    → journal.entries ≡ guarded.journal → journal.heap ≡ guarded.heap → IsFinished locked passes journal
finished locked passes guarded journal same stands numbers entries_are heap_is =
    let kept = subst (λ (setup : Setup). IsSameHeap (heap_of setup) guarded.heap) same stands.same in
    let calls = subst (λ (setup : Setup). (t : ℕ) → t < mutators_of setup
    → calls_of t guarded.journal ≡ take (count_of t guarded.journal) (plan_of (lines_of setup) t)) same stands.calls in
    let laid_out : List Shape → Layout → Configuration = λ types layout.
    record { types = types; mutators = layout.mutators; nursery = layout.nursery; pages = layout.pages } in
    record {
      configuration_is = ap configuration_of heap_is ∙ ap₂ laid_out kept.types kept.layout;
      calls = λ k d there.
          let own = All-unmap (IsNumberIn locked.setup guarded.journal) (own_number locked.setup) passes numbers k d there in
          let pass = get_or passes k d in
          ap (calls_of pass.mutator) entries_are ∙ calls pass.mutator own.there
          ∙ ap (λ n. take n (plan_of (lines_of locked.setup) pass.mutator)) (sym own.counted);
      collections =
          omega (
            arith,
            ap (λ (entries : History). length (filter is_collection entries)) entries_are,
            collections-reports guarded.journal,
            ap (λ (each : List RunReport). length each) stands.stands.reports,
            stands.places,
            ap (λ (setup : Setup). allowance_of_lines (lines_of setup)) same,
          );
    }

-- where there is a mutator, there is a pass
pub passes-some : (locked : LockedHeap) (passes : List PassView) → AreAllPasses locked passes → 0 < mutators_of locked.setup
    → 0 < length passes
passes-some locked [] all some = absurd (true≢false (sym (all.each 0 some)))
passes-some locked (pass ∷ passes) all some = omega arith

-- ---- the calls of a plan

-- each call of a mutator's lines suits the types
calls-suit : (types : List Shape) (mutators t : ℕ) (lines : List Line) → AreFit types mutators lines
    → All (Suits (length types)) (calls_in t lines)
calls-suit types mutators t [] fit = All-nil (Suits (length types))
calls-suit types mutators t (line ∷ lines) fit =
    by_test (line.mutator == t) (All-head (λ (each : Line). IsFit types mutators each.mutator each.call) line lines fit).1
    (calls-suit types mutators t lines (All-tail (λ (each : Line). IsFit types mutators each.mutator each.call) line lines fit))
  where
    by_test : (test : Bool) → Suits (length types) line.call → All (Suits (length types)) (calls_in t lines)
        → All (Suits (length types))
        (map (λ (each : Line). each.call) (cond test (line ∷ filter (is_line_of t) lines) (filter (is_line_of t) lines)))
    by_test true suits rest = All-cons (Suits (length types)) line.call (calls_in t lines) suits rest
    by_test false suits rest = rest

-- and so does each of its plan
pub plan-suits : (types : List Shape) (mutators t : ℕ) (lines : List Line) (made : ℕ) (call : Call) → AreFit types mutators lines
    → slice_get (plan_of lines t) made ≡ Some call → Suits (length types) call
plan-suits types mutators t lines made call fit at =
    all-read (Suits (length types)) (plan_of lines t) made call
    (All-push (Suits (length types)) (calls_in t lines) End (calls-suit types mutators t lines fit) tt) at

-- the place of a mutator's next call, as it is read from the plans
pub placed-at : {V : Type 0} (items : V → List ℕ) (plans : List V) (lines : List Line) (t made : ℕ) (own : V) (place : ℕ)
    → slice_get (map items plans) t ≡ Some (places_of lines t) → own ≡ get_or plans t own → made ≤ length (calls_in t lines)
    → place ≡ get_or (items own) made place → slice_get (places_of lines t) made ≡ Some place
placed-at items plans lines t made own place at is left read =
    let plan : items own ≡ places_of lines t = read-mapped items plans t (places_of lines t) own at is in
    read-here (places_of lines t) made place
    (omega (arith, left, places-count lines t))
    (read ∙ ap (λ (places : List ℕ). get_or places made place) plan)

-- two setups of the same heap and the same lines are one
pub setup-same : (one other : Setup) → one.heap.value ≡ other.heap.value → one.lines.value ≡ other.lines.value → one ≡ other
setup-same one other heap lines i =
    record { heap = record { marker = one.heap.marker; value = heap i }; lines = record { marker = one.lines.marker; value = lines i } }

-- a mutator has no more calls than there are lines
pub calls-few : (t : ℕ) (lines : List Line) → length (calls_in t lines) ≤ length lines
calls-few t [] = omega arith
calls-few t (line ∷ lines) = by_test (line.mutator == t) (calls-few t lines)
  where
    by_test : (test : Bool) → length (calls_in t lines) ≤ length lines
        → length (map (λ (each : Line). each.call) (cond test (line ∷ filter (is_line_of t) lines) (filter (is_line_of t) lines))) ≤ suc
        (length lines)
    by_test true few = omega (arith, few)
    by_test false few = omega (arith, few)
