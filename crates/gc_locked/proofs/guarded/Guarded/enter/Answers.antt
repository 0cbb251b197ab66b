use Rattle.std.proofs.Common.{◌≡◌, ◌∙◌, ℕ, ◌+◌, ◌-◌, ◌++◌, ap, length, length-append, set, sym, arith, List, vec_capacity}
use Rattle.std.specs.List.{range_with_len}
use Rattle.std.proofs.lemmas.List.{length-map, length-set}
use Rattle.std.proofs.lemmas.List.FromFn.{length-range_with_len}
use Rattle.gc_model.specs.declared.entry.RunReport.{RunReport}
use Rattle.gc_model.specs.History.{allowance_of}
use Rattle.gc_locked.specs.Guarded.{GuardedHeap, entries_of, guarded_of}
use Rattle.gc_locked.specs.Order.{entry_at, journal_of}
use Rattle.gc_locked.specs.Setup.{count_of, entries_by, lines_of}
use Rattle.gc_locked.proofs.Entered.{StandsKept, kept-again, kept-entered, next-of, next-planned, weight-of_next}
use Rattle.gc_locked.proofs.Order.{order-grown}
use Rattle.gc_locked.proofs.Places.{place-few}
use Rattle.gc_locked.proofs.guarded.Guarded.enter.Goals as goal

-- there are report places for the call
pub call-reply-requires-clause-room : goal.call-reply-requires-clause-room
call-reply-requires-clause-room c =
    let own = guarded_of c.self.inside in
    let is = next-of own c.args.self.now c.args.t c.args.place c.args.call.now c.self.view_is
    (record { there = c.requires.fit.0; next = c.requires.next; call_is = c.requires.call }) in
    omega (
      arith,
      c.self.invariant.heap.reports,
      weight-of_next allowance_of own.setup own.journal c.args.t c.args.call.now is.there
          (next-planned own c.args.t c.args.place c.args.call.now is),
    )

-- what came of an Await that is asked again: the journal is as it was
pub record HasStayed (c : goal.Then-asks_again) : Type 0 where
  pub kept : StandsKept c.call-reply.new.self c.self.inside.setup c.self.inside.replies.items c.self.inside.order.items
      (vec_capacity c.self.inside.order)
  pub reports : c.call-reply.new.self.reports ≡ c.self.inside.solo.reports

stayed : (c : goal.Then-asks_again) → HasStayed c
stayed c =
    let own = guarded_of c.self.inside in
    let (kept, reports) = kept-again own.heap c.call-reply.new.self own.setup c.self.inside.replies.items c.self.inside.order.items
    (vec_capacity c.self.inside.order) c.args.t c.args.call.now c.call-reply.result
    (record { stands = c.self.invariant.heap; kept = c.self.invariant.kept }) (sym c.asks_again.ensures ∙ c.if-asks_again.true)
    (c.call-reply.ensures.stands own.journal c.self.invariant.heap.stands).0
    (record { same = c.call-reply.ensures.same; room = c.call-reply.ensures.room; places = c.call-reply.ensures.places }) in
    record { kept = kept; reports = reports }

pub invariant_of-self : goal.invariant_of-self
invariant_of-self c =
    let own = stayed c in
    record {
      heap = own.kept.stands;
      kept = own.kept.kept;
      few_mutators = c.self.invariant.few_mutators;
      few = c.self.invariant.few;
    }

pub returns-then-asks_again-clause-entered : goal.returns-then-asks_again-clause-entered
returns-then-asks_again-clause-entered c = record {
  reply = c.call-reply.result;
  again = sym c.asks_again.ensures ∙ c.if-asks_again.true;
  journal =
      ap (λ (reports : List RunReport).
      journal_of (lines_of c.self.inside.setup) c.self.inside.replies.items reports c.self.inside.order.items) (stayed c).reports
      ∙ ap (λ (guarded : GuardedHeap). guarded.journal) c.self.view_is;
}

-- there is memory for the entries of the call
pub append-requires-clause-memory : goal.append-requires-clause-memory
append-requires-clause-memory c =
    let own = guarded_of c.self.inside in
    let is = next-of own c.args.self.now c.args.t c.args.place c.args.call.now c.self.view_is
    (record { there = c.requires.fit.0; next = c.requires.next; call_is = c.requires.call }) in
    let called = (c.call-reply.ensures.stands own.journal c.self.invariant.heap.stands).0 in
    omega (
      arith,
      c.self.invariant.heap.memory,
      length-map c.self.inside.order.items
          (entry_at (lines_of c.self.inside.setup) c.self.inside.replies.items c.self.inside.solo.reports),
      weight-of_next entries_by own.setup own.journal c.args.t c.args.call.now is.there
          (next-planned own c.args.t c.args.place c.args.call.now is),
      called.allowed,
      c.len.ensures,
      c.len-2.ensures,
      ap (λ (each : List RunReport). length each) c.reports.ensures.reports,
      ap (λ (each : List RunReport). length each) (c.reports-2.ensures.reports ∙ called.reports),
      length-append own.heap.reports called.runs,
    )

-- and their places rise and are few
pub append-requires-clause-rise : goal.append-requires-clause-rise
append-requires-clause-rise c =
    let own = guarded_of c.self.inside in
    let called = (c.call-reply.ensures.stands own.journal c.self.invariant.heap.stands).0 in
    omega (
      arith,
      c.len.ensures,
      c.len-2.ensures,
      ap (λ (each : List RunReport). length each) c.reports.ensures.reports,
      ap (λ (each : List RunReport). length each) (c.reports-2.ensures.reports ∙ called.reports),
      length-append own.heap.reports called.runs,
    )

pub append-requires-clause-few : goal.append-requires-clause-few
append-requires-clause-few c =
    omega (
      arith,
      c.len-2.ensures,
      ap (λ (each : List RunReport). length each) c.reports-2.ensures.reports,
      c.call-reply.ensures.places,
      c.self.invariant.heap.places,
      c.self.invariant.few,
    )

pub push_reserved-requires : goal.push_reserved-requires
push_reserved-requires c =
    let own = guarded_of c.self.inside in
    let is = next-of own c.args.self.now c.args.t c.args.place c.args.call.now c.self.view_is
    (record { there = c.requires.fit.0; next = c.requires.next; call_is = c.requires.call }) in
    let called = (c.call-reply.ensures.stands own.journal c.self.invariant.heap.stands).0 in
    let before = c.len.result + length c.reports.result.now in
    let behind = c.len-2.result + length c.reports-2.result.now in
    omega (
      arith,
      c.self.invariant.heap.memory,
      length-map c.self.inside.order.items
          (entry_at (lines_of c.self.inside.setup) c.self.inside.replies.items c.self.inside.solo.reports),
      weight-of_next entries_by own.setup own.journal c.args.t c.args.call.now is.there
          (next-planned own c.args.t c.args.place c.args.call.now is),
      called.allowed,
      c.len.ensures,
      c.len-2.ensures,
      ap (λ (each : List RunReport). length each) c.reports.ensures.reports,
      ap (λ (each : List RunReport). length each) (c.reports-2.ensures.reports ∙ called.reports),
      length-append own.heap.reports called.runs,
      ap (λ (each : List ℕ). length each) c.append.ensures.places,
      length-append c.self.inside.order.items (range_with_len before (behind - before)),
      length-range_with_len before (behind - before),
      c.append.ensures.memory,
      c.append.new.order.ok,
    )

-- the call has a place
pub index_mut-requires : goal.index_mut-requires
index_mut-requires c =
    let own = guarded_of c.self.inside in
    let is = next-of own c.args.self.now c.args.t c.args.place c.args.call.now c.self.view_is
    (record { there = c.requires.fit.0; next = c.requires.next; call_is = c.requires.call }) in
    omega (
      arith,
      is.there,
      c.self.invariant.kept.places,
      place-few (lines_of own.setup) c.args.t (count_of c.args.t own.journal) c.args.place is.next,
    )

-- what came of a call that entered: the heap stands for the journal with the entries of the call
pub record HasGrown (c : goal.After-self-1) : Type 0 where
  pub runs : List RunReport
  pub kept : StandsKept c.call-reply.new.self c.self.inside.setup (set c.self.inside.replies.items c.args.place c.call-reply.result)
      c.push_reserved.new.self.items (vec_capacity c.push_reserved.new.self)
  pub entries : journal_of (lines_of c.self.inside.setup) (set c.self.inside.replies.items c.args.place c.call-reply.result)
      c.call-reply.new.self.reports c.push_reserved.new.self.items
      ≡ (guarded_of c.self.inside).journal ++ entries_of runs c.args.t c.args.call.now c.call-reply.result

grown : (c : goal.After-self-1) → HasGrown c
grown c =
    let own = guarded_of c.self.inside in
    let is = next-of own c.args.self.now c.args.t c.args.place c.args.call.now c.self.view_is
    (record { there = c.requires.fit.0; next = c.requires.next; call_is = c.requires.call }) in
    let called = (c.call-reply.ensures.stands own.journal c.self.invariant.heap.stands).0 in
    let places = order-grown c.self.inside.order.items c.append.new.order.items c.push_reserved.new.self.items
    c.self.inside.replies.items own.heap.reports c.call-reply.new.self.reports called.runs c.reports.result.now c.reports-2.result.now
    c.len.result c.len-2.result c.args.place called.reports (omega (arith, c.len.ensures)) (omega (arith, c.len-2.ensures))
    c.reports.ensures.reports c.reports-2.ensures.reports c.append.ensures.places c.push_reserved.ensures.items in
    let (kept, entries) = kept-entered own.heap c.call-reply.new.self own.setup c.self.inside.replies.items c.self.inside.order.items
    (vec_capacity c.self.inside.order) c.args.t c.args.place c.args.call.now c.call-reply.result
    (record { stands = c.self.invariant.heap; kept = c.self.invariant.kept }) is called
    (record { same = c.call-reply.ensures.same; room = c.call-reply.ensures.room; places = c.call-reply.ensures.places })
    c.push_reserved.new.self.items (vec_capacity c.push_reserved.new.self) places
    (c.push_reserved.ensures.capacity ∙ c.append.ensures.memory) in
    record { runs = called.runs; kept = kept; entries = entries }

pub invariant_of-self-2 : goal.invariant_of-self-2
invariant_of-self-2 c =
    let own = grown c in
    record {
      heap = own.kept.stands;
      kept = own.kept.kept;
      few_mutators = c.self.invariant.few_mutators;
      few = omega (arith, c.self.invariant.few, length-set c.self.inside.replies.items c.args.place c.call-reply.result);
    }

pub returns-clause-entered : goal.returns-clause-entered
returns-clause-entered c =
    let own = grown c in
    record {
      runs = own.runs;
      reply = c.call-reply.result;
      journal =
          own.entries
          ∙ ap (λ (guarded : GuardedHeap). guarded.journal ++ entries_of own.runs c.args.t c.args.call.now c.call-reply.result)
          c.self.view_is;
    }
