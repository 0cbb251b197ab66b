use Rattle.std.proofs.Common.{◌∙◌}
use Rattle.gc_model.specs.World.{slot_at}
use Rattle.gc_solo.specs.Kept.{kept_of}
use Rattle.gc_solo.proofs.Fields.{slot-inside, slot-placed, slot-word}
use Rattle.gc_solo.proofs.heap.Heap.take.Goals as goal

pub word-slot-requires : goal.word-slot-requires
word-slot-requires c =
    let some = c.requires.ready in
    slot-inside (kept_of c.args.self.now) some.placement some.world 0 c.args.place c.common_slot.result some.ready.shows
    (c.common_slot.ensures some.placement some.world some.ready)

pub returns-clause-answered : goal.returns-clause-answered
returns-clause-answered c placement world ready =
    let kept = kept_of c.args.self.now in
    let slot = c.common_slot.ensures placement world ready in
    let word = slot-word kept placement world 0 c.args.place c.common_slot.result ready.shows slot in
    c.load.ensures.loaded placement world (slot_at world 0 c.args.place) ready (c.word-slot.ensures ∙ word)
    (slot-placed kept placement world 0 c.args.place c.common_slot.result ready.shows slot)
