-- The heap stands for its journal after a call, with report places and memory for the calls that are left.
use Rattle.std.proofs.Common.{◌≡◌, ◌≢◌, ◌∙◌, ℕ, suc, ◌+◌, ◌*◌, ◌<◌, ◌≤◌, ◌==◌, Bool, true, false, if◌then◌else◌, None, Some, List, [], ◌∷◌, ◌++◌, drop, length, length-append, map, slice_get, set, sum_by, take, refl, sym, ap, ap₂, subst, arith, eqb-true, eq-eqb, ne_eqb}
use Rattle.std.proofs.lemmas.Bool.{true≢false}
use Rattle.std.proofs.lemmas.List.{append-nil, length-map}
use Rattle.std.proofs.lemmas.List.Elements.{filter_map-append}
use Rattle.std.proofs.lemmas.List.Sums.{sum_by-cons}
use Rattle.std.specs.List.{cons_option}
use Rattle.gc_model.specs.declared.call.Call.{Call}
use Rattle.gc_model.specs.declared.call.Call.TheVariants.{End}
use Rattle.gc_model.specs.declared.call.Line.{Line}
use Rattle.gc_model.specs.declared.entry.Entry.TheVariants.{Made, Run}
use Rattle.gc_model.specs.declared.entry.RunReport.{RunReport}
use Rattle.gc_model.specs.declared.reply.Reply.{Reply}
use Rattle.gc_model.specs.History.{History, allowance_of, calls_of, own_call}
use Rattle.gc_solo.specs.Kept.{IsSameHeap, Kept}
use Rattle.gc_solo.specs.Stands.{HasCalled, StandsFor}
use Rattle.gc_locked.specs.declared.setup.Setup.{Setup}
use Rattle.gc_locked.specs.Guarded.{GuardedHeap, StandsForItsJournal, asks_again, calls_left, entries_of, weight_left}
use Rattle.gc_locked.specs.Locked.{AreFit}
use Rattle.gc_locked.specs.Order.{IsKept, journal_of}
use Rattle.gc_locked.specs.Setup.{allowance_of_lines, call_at, count_of, entries_by, heap_of, lines_of, mutators_of, places_of, plan_of}
use Rattle.gc_locked.proofs.Lists.{drop-next, take-next}
use Rattle.gc_locked.proofs.Order.{journal-more, kept-more, order_with}
use Rattle.gc_locked.proofs.Places.{place-plan}
use Rattle.gc_locked.proofs.Plans.{plans-weight, sum_below-changed, sum_below-part}
use Rattle.gc_locked.proofs.Vain.{stands-vain}

-- ---- the entries of a call

-- they have no call but that one
entries-calls : (u : ℕ) (runs : List RunReport) (t : ℕ) (call : Call) (reply : Reply)
    → calls_of u (entries_of runs t call reply) ≡ cons_option (if t == u then Some call else None) []
entries-calls u [] t call reply = refl
entries-calls u (run ∷ runs) t call reply = entries-calls u runs t call reply

-- so the calls of its mutator are one more
pub calls-own : (journal : History) (runs : List RunReport) (t : ℕ) (call : Call) (reply : Reply)
    → calls_of t (journal ++ entries_of runs t call reply) ≡ calls_of t journal ++ call ∷ []
calls-own journal runs t call reply =
    filter_map-append (own_call t) journal (entries_of runs t call reply)
    ∙ ap (λ (calls : List Call). calls_of t journal ++ calls)
    (entries-calls t runs t call reply ∙ ap (λ b. cons_option (if b then Some call else None) []) (eq-eqb t t refl))

-- and those of another are the same
pub calls-other : (journal : History) (runs : List RunReport) (t : ℕ) (call : Call) (reply : Reply) (u : ℕ) → u ≢ t
    → calls_of u (journal ++ entries_of runs t call reply) ≡ calls_of u journal
calls-other journal runs t call reply u other =
    filter_map-append (own_call u) journal (entries_of runs t call reply)
    ∙ ap (λ (calls : List Call). calls_of u journal ++ calls)
    (entries-calls u runs t call reply ∙ ap (λ b. cons_option (if b then Some call else None) []) (ne_eqb t u (λ same. other (sym same))))
    ∙ append-nil (calls_of u journal)

-- so its mutator has one more
pub count-own : (journal : History) (runs : List RunReport) (t : ℕ) (call : Call) (reply : Reply)
    → count_of t (journal ++ entries_of runs t call reply) ≡ suc (count_of t journal)
count-own journal runs t call reply =
    ap (λ (calls : List Call). length calls) (calls-own journal runs t call reply)
    ∙ length-append (calls_of t journal) (call ∷ []) ∙ omega arith

-- and another as many as before
pub count-other : (journal : History) (runs : List RunReport) (t : ℕ) (call : Call) (reply : Reply) (u : ℕ) → u ≢ t
    → count_of u (journal ++ entries_of runs t call reply) ≡ count_of u journal
count-other journal runs t call reply u other =
    ap (λ (calls : List Call). length calls) (calls-other journal runs t call reply u other)

-- ---- the weight of what is left

-- it falls by the call
pub weight-falls : (weight : Call → ℕ) (setup : Setup) (journal : History) (runs : List RunReport) (t : ℕ) (call : Call) (reply : Reply)
    → t < mutators_of setup → slice_get (plan_of (lines_of setup) t) (count_of t journal) ≡ Some call
    → weight_left weight setup (journal ++ entries_of runs t call reply) + weight call ≡ weight_left weight setup journal
weight-falls weight setup journal runs t call reply there next =
    let lines = lines_of setup in
    let new = journal ++ entries_of runs t call reply in
    let old_part : ℕ → ℕ = λ u. sum_by weight (calls_left lines journal u) in
    let new_part : ℕ → ℕ = λ u. sum_by weight (calls_left lines new u) in
    let changed = sum_below-changed old_part new_part (mutators_of setup) t there
    (λ u other. ap (λ n. sum_by weight (drop n (plan_of lines u))) (count-other journal runs t call reply u other)) in
    let own : new_part t ≡ sum_by weight (drop (suc (count_of t journal)) (plan_of lines t)) =
    ap (λ n. sum_by weight (drop n (plan_of lines t))) (count-own journal runs t call reply) in
    let first : old_part t ≡ weight call + sum_by weight (drop (suc (count_of t journal)) (plan_of lines t)) =
    ap (λ (calls : List Call). sum_by weight calls) (drop-next (plan_of lines t) (count_of t journal) call next)
    ∙ sum_by-cons weight call (drop (suc (count_of t journal)) (plan_of lines t)) in
    omega (arith, changed, own, first)

-- the next call of a mutator weighs no more than all that is left
pub weight-of_next : (weight : Call → ℕ) (setup : Setup) (journal : History) (t : ℕ) (call : Call) → t < mutators_of setup
    → slice_get (plan_of (lines_of setup) t) (count_of t journal) ≡ Some call → weight call ≤ weight_left weight setup journal
weight-of_next weight setup journal t call there next =
    let lines = lines_of setup in
    let part = sum_below-part (λ u. sum_by weight (calls_left lines journal u)) (mutators_of setup) t there in
    let first : sum_by weight (calls_left lines journal t) ≡ weight call + sum_by weight
    (drop (suc (count_of t journal)) (plan_of lines t)) =
    ap (λ (calls : List Call). sum_by weight calls) (drop-next (plan_of lines t) (count_of t journal) call next)
    ∙ sum_by-cons weight call (drop (suc (count_of t journal)) (plan_of lines t)) in
    omega (arith, part, first)

-- ---- before the first call

-- each line brings one entry more than it brings collections
entries-lines : (lines : List Line) → sum_by (λ line. entries_by line.call) lines ≡ length lines + allowance_of_lines lines
entries-lines [] = refl
entries-lines (line ∷ lines) =
    omega (
      arith,
      entries-lines lines,
      sum_by-cons (λ (each : Line). entries_by each.call) line lines,
      sum_by-cons (λ (each : Line). allowance_of each.call) line lines,
    )

-- with report places for all collections of the lines, and memory for all entries
pub stands-first : (guarded : GuardedHeap) → guarded.journal ≡ [] → StandsFor guarded.heap [] → heap_of guarded.setup ≡ guarded.heap
    → AreFit guarded.heap.types guarded.heap.layout.mutators (lines_of guarded.setup)
    → guarded.heap.room ≡ allowance_of_lines (lines_of guarded.setup)
    → length (lines_of guarded.setup) + guarded.heap.layout.mutators + allowance_of_lines (lines_of guarded.setup) ≤ guarded.capacity
    → StandsForItsJournal guarded
stands-first guarded empty stands made fit room memory =
    let setup = guarded.setup in
    let lines = lines_of setup in
    let same : mutators_of setup ≡ guarded.heap.layout.mutators = ap (λ (kept : Kept). kept.layout.mutators) made in
    let all : (weight : Call → ℕ) → weight_left weight setup [] ≡ sum_by (λ line. weight line.call) lines + mutators_of setup * weight End =
    λ weight. plans-weight weight guarded.heap.types (mutators_of setup) lines
    (subst (λ count. AreFit guarded.heap.types count lines) (sym same) fit) in
    let first : StandsForItsJournal (record guarded { journal = [] }) = record {
      stands = stands;
      same = record { types = ap (λ (kept : Kept). kept.types) (sym made); layout = ap (λ (kept : Kept). kept.layout) (sym made) };
      calls = λ t there. refl;
      reports = omega (arith, room, all allowance_of);
      memory = omega (arith, memory, same, all entries_by, entries-lines lines);
      places = omega (arith, room, ap (λ (each : List RunReport). length each) stands.reports);
    } in
    subst (λ (journal : History). StandsForItsJournal (record guarded { journal = journal })) (sym empty) first

-- ---- the heap and its journal

-- what a call says of the report places
pub record KeepsRoom (old new : Kept) (call : Call) : Type 0 where
  pub same : IsSameHeap old new
  pub room : old.room ≤ new.room + allowance_of call
  pub places : length new.reports + new.room ≡ length old.reports + old.room

-- the entries are no more than the call may bring
pub entries-few : (runs : List RunReport) (t : ℕ) (call : Call) (reply : Reply) → length runs ≤ allowance_of call
    → length (entries_of runs t call reply) ≤ entries_by call
entries-few runs t call reply few =
    omega (arith, length-append (map Run runs) (Made t call reply ∷ []), length-map runs Run, few)

-- of each mutator the journal has the first calls of its plan
calls-kept : (old : GuardedHeap) (runs : List RunReport) (t : ℕ) (call : Call) (reply : Reply) → StandsForItsJournal old
    → t < mutators_of old.setup → slice_get (plan_of (lines_of old.setup) t) (count_of t old.journal) ≡ Some call → (u : ℕ)
    → u < mutators_of old.setup
    → calls_of u (old.journal ++ entries_of runs t call reply)
    ≡ take (count_of u (old.journal ++ entries_of runs t call reply)) (plan_of (lines_of old.setup) u)
calls-kept old runs t call reply stands mine next u there = by_test (u == t) refl
  where
    new : History
    new = old.journal ++ entries_of runs t call reply

    plan : ℕ → List Call
    plan = plan_of (lines_of old.setup)

    own : calls_of t new ≡ take (count_of t new) (plan t)
    own =
        calls-own old.journal runs t call reply
        ∙ ap (λ (calls : List Call). calls ++ call ∷ []) (stands.calls t mine)
        ∙ sym (take-next (plan t) (count_of t old.journal) call next)
        ∙ ap (λ n. take n (plan t)) (sym (count-own old.journal runs t call reply))

    by_test : (test : Bool) → (u == t) ≡ test → calls_of u new ≡ take (count_of u new) (plan u)
    by_test true is = subst (λ n. calls_of n new ≡ take (count_of n new) (plan n)) (sym (eqb-true u t is)) own
    by_test false is =
        let other : u ≢ t = λ same. true≢false (sym (eq-eqb u t same) ∙ is) in
        calls-other old.journal runs t call reply u other ∙ stands.calls u there
        ∙ ap (λ n. take n (plan u)) (sym (count-other old.journal runs t call reply u other))

-- the heap stands for the journal with the entries of a call
pub stands-entered : (old : GuardedHeap) (heap : Kept) (journal : History) (capacity : ℕ) (t : ℕ) (call : Call) (reply : Reply)
    → StandsForItsJournal old → t < mutators_of old.setup
    → slice_get (plan_of (lines_of old.setup) t) (count_of t old.journal) ≡ Some call
    → (called : HasCalled old.heap heap old.journal t call reply) → KeepsRoom old.heap heap call
    → journal ≡ old.journal ++ entries_of called.runs t call reply → capacity ≡ old.capacity
    → StandsForItsJournal (record { heap = heap; journal = journal; capacity = capacity; setup = old.setup })
stands-entered old heap journal capacity t call reply stands there next called room is same_capacity =
    subst (λ (entries : History). StandsForItsJournal (record { heap = heap; journal = entries; capacity = capacity; setup = old.setup }))
    (sym is)
    (record {
      stands = called.stands;
      same = record { types = room.same.types ∙ stands.same.types; layout = room.same.layout ∙ stands.same.layout };
      calls = calls-kept old called.runs t call reply stands there next;
      reports = omega (
        arith,
        stands.reports,
        room.room,
        weight-falls allowance_of old.setup old.journal called.runs t call reply there next,
      );
      memory = omega (
        arith,
        stands.memory,
        same_capacity,
        weight-falls entries_by old.setup old.journal called.runs t call reply there next,
        length-append old.journal (entries_of called.runs t call reply),
        entries-few called.runs t call reply called.allowed,
      );
      places = room.places ∙ stands.places;
    })

-- and for the journal as it was, where an Await is to be asked again
pub stands-again : (old : GuardedHeap) (heap : Kept) (t : ℕ) (call : Call) (reply : Reply) → StandsForItsJournal old
    → asks_again call reply ≡ true → HasCalled old.heap heap old.journal t call reply → KeepsRoom old.heap heap call
    → StandsForItsJournal (record old { heap = heap })
stands-again old heap t call reply stands again called room =
    let (as_before, reports) = stands-vain old.heap heap old.journal t call reply again called in
    record {
      stands = as_before;
      same = record { types = room.same.types ∙ stands.same.types; layout = room.same.layout ∙ stands.same.layout };
      calls = stands.calls;
      reports = omega (arith, stands.reports, room.places, ap (λ (each : List RunReport). length each) reports);
      memory = stands.memory;
      places = room.places ∙ stands.places;
    }

-- ---- the journal as it is kept

-- the call at this place is the mutator's next
pub record IsNext (guarded : GuardedHeap) (t place : ℕ) (call : Call) : Type 0 where
  pub there : t < mutators_of guarded.setup
  pub next : slice_get (places_of (lines_of guarded.setup) t) (count_of t guarded.journal) ≡ Some place
  pub call_is : call ≡ call_at (lines_of guarded.setup) place

-- what is seen of a heap is true of it
pub next-of : (own seen : GuardedHeap) (t place : ℕ) (call : Call) → own ≡ seen → IsNext seen t place call → IsNext own t place call
next-of own seen t place call same is = subst (λ (each : GuardedHeap). IsNext each t place call) (sym same) is

-- so it is the next one of the mutator's plan
pub next-planned : (guarded : GuardedHeap) (t place : ℕ) (call : Call) → IsNext guarded t place call
    → slice_get (plan_of (lines_of guarded.setup) t) (count_of t guarded.journal) ≡ Some call
next-planned guarded t place call is =
    place-plan (lines_of guarded.setup) t (count_of t guarded.journal) place is.next ∙ ap Some (sym is.call_is)

-- a heap with its journal, which is kept by places
abbrev pub kept_as : Kept → Setup → List Reply → List ℕ → ℕ → GuardedHeap
kept_as heap setup replies order capacity = record {
  heap = heap;
  journal = journal_of (lines_of setup) replies heap.reports order;
  capacity = capacity;
  setup = setup;
}

-- the heap stands for the journal, which is well kept
pub record StandsKept (heap : Kept) (setup : Setup) (replies : List Reply) (order : List ℕ) (capacity : ℕ) : Type 0 where
  pub stands : StandsForItsJournal (kept_as heap setup replies order capacity)
  pub kept : IsKept (mutators_of setup) (lines_of setup) replies heap.reports order

-- so it is where an Await is to be asked again
pub kept-again : (old new : Kept) (setup : Setup) (replies : List Reply) (order : List ℕ) (capacity t : ℕ) (call : Call) (reply : Reply)
    → StandsKept old setup replies order capacity → asks_again call reply ≡ true
    → HasCalled old new (journal_of (lines_of setup) replies old.reports order) t call reply → KeepsRoom old new call
    → StandsKept new setup replies order capacity × (new.reports ≡ old.reports)
kept-again old new setup replies order capacity t call reply own again called room =
    let lines = lines_of setup in
    let same = (stands-vain old new (journal_of lines replies old.reports order) t call reply again called).1 in (
      record {
        stands =
            subst (λ (reports : List RunReport). StandsForItsJournal
            (record { heap = new; journal = journal_of lines replies reports order; capacity = capacity; setup = setup })) (sym same)
            (stands-again (kept_as old setup replies order capacity) new t call reply own.stands again called room);
        kept = subst (λ (reports : List RunReport). IsKept (mutators_of setup) lines replies reports order) (sym same) own.kept;
      },
      same,
    )

-- and where the call enters: the journal has its entries more
pub kept-entered : (old new : Kept) (setup : Setup) (replies : List Reply) (order : List ℕ) (capacity t place : ℕ) (call : Call)
    (reply : Reply) → StandsKept old setup replies order capacity → IsNext (kept_as old setup replies order capacity) t place call
    → (called : HasCalled old new (journal_of (lines_of setup) replies old.reports order) t call reply) → KeepsRoom old new call
    → (items : List ℕ) (more : ℕ) → items ≡ order_with order (length replies + length old.reports) (length called.runs) place
    → more ≡ capacity
    → StandsKept new setup (set replies place reply) items more
    × (journal_of (lines_of setup) (set replies place reply) new.reports items
    ≡ journal_of (lines_of setup) replies old.reports order ++ entries_of called.runs t call reply)
kept-entered old new setup replies order capacity t place call reply own is called room items more grown same =
    let lines = lines_of setup in
    let guarded = kept_as old setup replies order capacity in
    let all : journal_of lines (set replies place reply) new.reports items
    ≡ journal_of lines replies old.reports order ++ entries_of called.runs t call reply =
    ap₂ (λ (reports : List RunReport) (places : List ℕ). journal_of lines (set replies place reply) reports places) called.reports grown
    ∙ journal-more (mutators_of setup) t place lines replies old.reports called.runs order reply own.kept is.there is.next
    ∙ ap (λ (each : Call). journal_of lines replies old.reports order ++ entries_of called.runs t each reply) (sym is.call_is) in (
      record {
        stands = stands-entered guarded new (journal_of lines (set replies place reply) new.reports items) more t call reply own.stands
            is.there (next-planned guarded t place call is) called room all same;
        kept =
            subst (λ (reports : List RunReport). IsKept (mutators_of setup) lines (set replies place reply) reports items)
            (sym called.reports)
            (subst (λ (places : List ℕ). IsKept (mutators_of setup) lines (set replies place reply) (old.reports ++ called.runs) places)
            (sym grown)
            (kept-more (mutators_of setup) t place lines replies old.reports called.runs order reply own.kept is.there is.next));
      },
      all,
    )
