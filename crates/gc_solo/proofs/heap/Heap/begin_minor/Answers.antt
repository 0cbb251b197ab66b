use Rattle.std.proofs.Common.{◌≡◌, ◌∙◌, ◌<◌, ap, arith, length, refl, subst, sym}
use Rattle.std.specs.Vec.{with_item}
use Rattle.gc_model.specs.declared.entry.RunKind.{RunKind}
use Rattle.gc_solo.specs.Collecting.{HasBegun, beginning}
use Rattle.gc_solo.specs.declared.heap.Heap.{Heap}
use Rattle.gc_solo.specs.Kept.{kept_of, memory_of}
use Rattle.gc_solo.proofs.BayLists.{bay_at-read}
use Rattle.gc_solo.proofs.Beginnings.{flipped_to-few, flipped_to-listed, flipped_to-more, flipped_to-none, has-begun}
use Rattle.gc_solo.proofs.heap.Heap.begin_minor.Goals as goal

pub loop-t-init : goal.loop-t-init
loop-t-init c = record { rest = refl; flipped = flipped_to-none RunKind.Minor c.args.self.now.bays.items }

pub index_mut-requires : goal.index_mut-requires
index_mut-requires c =
    let bays = c.loop-t.self.bays in
    let ready = c.requires.ready in
    let few = flipped_to-few RunKind.Minor (kept_of c.args.self.now) ready.placement ready.world 0 c.loop-t.t bays.items ready.ready
    c.loop-t.invariant.flipped in
    omega (arith, few.0, bays.ok.0, c.from.ensures, c.loop-t-test.true, c.mutators-t-end.ensures.mutators)

pub loop-t-preserved : goal.loop-t-preserved
loop-t-preserved c =
    let bays = c.loop-t.self.bays.items in
    let ready = c.requires.ready in
    let few = flipped_to-few RunKind.Minor (kept_of c.args.self.now) ready.placement ready.world 0 c.loop-t.t bays ready.ready
    c.loop-t.invariant.flipped in
    let there : c.loop-t.t < length bays = omega (arith, few.0, c.loop-t-test.true, c.mutators-t-end.ensures.mutators) in
    let here : c.from.result ≡ c.loop-t.t = c.from.ensures in
    record {
      rest = ap (λ (heap : Heap). record heap { bays = with_item c.loop-t.self.bays c.from.result c.flip.new.self })
          c.loop-t.invariant.rest;
      flipped = rw here (flipped_to-more RunKind.Minor c.args.self.now.bays.items bays c.loop-t.t c.index_mut.result.now c.flip.new.self
          c.loop-t.invariant.flipped there (bay_at-read bays c.loop-t.t c.index_mut.result.now there (rw here at c.index_mut.ensures.value))
          c.flip.ensures.half c.flip.ensures.bay);
    }

pub list_counts-requires : goal.list_counts-requires
list_counts-requires c =
    let ready = c.requires.ready in
    let few = flipped_to-few RunKind.Minor (kept_of c.args.self.now) ready.placement ready.world 0 c.loop-t.t c.loop-t.self.bays.items
    ready.ready
    c.loop-t.invariant.flipped in
    omega (arith, few.1, c.deref.ensures.len)

pub returns-clause-begun : goal.returns-clause-begun
returns-clause-begun c placement world ready =
    let kept = kept_of c.args.self.now in
    subst
    (λ (heap : Heap). HasBegun (kept_of heap) (beginning RunKind.Minor (memory_of kept) placement world)) (sym c.loop-t.invariant.rest)
    (has-begun kept placement world 0 c.loop-t.t c.loop-t.self.bays.items ready c.loop-t.invariant.flipped
    (omega (arith, c.mutators-t-end.ensures.mutators, c.loop-t-test.false)))

pub returns-clause-counts : goal.returns-clause-counts
returns-clause-counts c placement world t below =
    let bays = c.loop-t.self.bays.items in
    let ready = c.requires.ready in
    let read = c.deref.ensures.value in
    let few = flipped_to-few RunKind.Minor (kept_of c.args.self.now) ready.placement ready.world 0 c.loop-t.t bays ready.ready
    c.loop-t.invariant.flipped in
    let counted = rw read at c.list_counts.ensures in
    counted t (omega (arith, below, few.0))
    ∙ flipped_to-listed c.args.self.now.bays.items bays c.loop-t.t t c.loop-t.invariant.flipped
    (omega (arith, below, c.mutators-t-end.ensures.mutators, c.loop-t-test.false))
