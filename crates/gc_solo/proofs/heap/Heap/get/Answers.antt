use Rattle.std.proofs.Common.{◌∙◌}
use Rattle.gc_model.specs.World.{slot_at}
use Rattle.gc_solo.specs.Kept.{kept_of}
use Rattle.gc_solo.proofs.Answered.{answered-same}
use Rattle.gc_solo.proofs.Fields.{slot-inside, slot-placed, slot-word}
use Rattle.gc_solo.proofs.heap.Heap.get.Goals as goal

pub word-slot-requires : goal.word-slot-requires
word-slot-requires c =
    let some = c.requires.ready in
    let found = c.in-Ok.ensures.address some.placement some.world some.ready in
    slot-inside (kept_of c.args.self.now) some.placement some.world found.object c.args.place c.in-Ok.address some.ready.shows found.slot

pub returns-in-Ok-clause-answered : goal.returns-in-Ok-clause-answered
returns-in-Ok-clause-answered c placement world ready =
    let kept = kept_of c.args.self.now in
    let found = c.in-Ok.ensures.address placement world ready in
    let word = slot-word kept placement world found.object c.args.place c.in-Ok.address ready.shows found.slot in
    rw found.owner
    (c.load.ensures.loaded placement world (slot_at world found.object c.args.place) ready (c.word-slot.ensures ∙ word)
    (slot-placed kept placement world found.object c.args.place c.in-Ok.address ready.shows found.slot))

pub returns-in-Err-clause-answered : goal.returns-in-Err-clause-answered
returns-in-Err-clause-answered c placement world ready =
    rw (c.in-Err.ensures.refused placement world ready) (answered-same (kept_of c.args.self.now) placement world _ ready.shows)
