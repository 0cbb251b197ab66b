use Rattle.std.proofs.Common.{[], ◌≡◌, ◌∙◌, ◌<◌, ap, arith, length, subst, sym}
use Rattle.std.specs.Vec.{with_item}
use Rattle.gc_bay.specs.Bay.{Bay, no_tally}
use Rattle.gc_model.specs.declared.entry.RunKind.{RunKind}
use Rattle.gc_solo.specs.Collecting.{IsFlippedFull, beginning}
use Rattle.gc_solo.specs.declared.heap.Heap.{Heap}
use Rattle.gc_solo.specs.Kept.{kept_of, memory_of}
use Rattle.gc_solo.proofs.BayLists.{bay_at-read}
use Rattle.gc_solo.proofs.Beginnings.{flipped_bay, flipped_to-few, flipped_to-more, flipped_to-none, has-flipped}
use Rattle.gc_solo.proofs.heap.Heap.flip_full.Goals as goal

pub loop-t-preserved : goal.loop-t-preserved
loop-t-preserved c =
    let bays = c.loop-t.self.bays.items in
    let ready = c.requires.ready in
    let few = flipped_to-few RunKind.Full (kept_of c.args.self.now) ready.placement ready.world 0 c.loop-t.t bays ready.ready
    c.loop-t.invariant.flipped in
    let there : c.loop-t.t < length bays = omega (arith, few.0, c.loop-t-test.true, c.mutators-t-end.ensures.mutators) in
    let here : c.from.result ≡ c.loop-t.t = c.from.ensures in
    let read : Bay = c.index_mut-bay.result.now in
    let own : c.clear_tally.new.self ≡ flipped_bay RunKind.Full read =
    c.clear_tally.ensures.tally ∙ ap (λ (bay : Bay). record bay { tally = no_tally })
    (c.forget_all.ensures.list ∙ ap (λ (bay : Bay). record bay { remembered = [] }) c.flip.ensures.half) in
    record {
      rest = ap (λ (heap : Heap). record heap { bays = with_item c.loop-t.self.bays c.from.result c.clear_tally.new.self })
          c.loop-t.invariant.rest;
      flipped = rw here (flipped_to-more RunKind.Full c.args.self.now.bays.items bays c.loop-t.t read c.clear_tally.new.self
          c.loop-t.invariant.flipped there (bay_at-read bays c.loop-t.t read there (rw here at c.index_mut-bay.ensures.value))
          own c.clear_tally.ensures.bay);
    }

pub returns-clause-flipped : goal.returns-clause-flipped
returns-clause-flipped c placement world ready =
    let kept = kept_of c.args.self.now in
    subst (λ (heap : Heap). IsFlippedFull (kept_of heap) (beginning RunKind.Full (memory_of kept) placement world))
    (sym c.loop-t.invariant.rest)
    (has-flipped kept placement world 0 c.loop-t.t c.loop-t.self.bays.items ready c.loop-t.invariant.flipped
    (omega (arith, c.mutators-t-end.ensures.mutators, c.loop-t-test.false)))
