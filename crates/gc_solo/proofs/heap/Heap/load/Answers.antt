use Rattle.std.proofs.Common.{refl, sym, ◌∙◌}
use Rattle.gc_model.specs.declared.reply.Reply.TheVariants.{Nil}
use Rattle.gc_placement.proofs.Names.{some-name}
use Rattle.gc_solo.specs.Kept.{kept_of, memory_of}
use Rattle.gc_solo.proofs.Answered.{answered-same}
use Rattle.gc_solo.proofs.Names.{name-nothing}
use Rattle.gc_solo.proofs.heap.Heap.load.Goals as goal

pub returns-then-slot-eq0-clause-loaded : goal.returns-then-slot-eq0-clause-loaded
returns-then-slot-eq0-clause-loaded c placement world name ready slot_is placed =
    let kept = kept_of c.args.self.now in
    let nothing =
    name-nothing (memory_of kept) placement world name ready.shows.rest.shown placed (sym slot_is ∙ c.if-slot-eq0.true) in
    rw nothing (answered-same kept placement world Nil ready.shows)

pub returns-clause-loaded : goal.returns-clause-loaded
returns-clause-loaded c placement world name ready slot_is placed =
    let there = some-name placement name c.args.slot placed slot_is c.if-slot-eq0.false in
    rw there.1
    (record {
      reply_is = refl;
      placement = placement;
      shown = rw there.1 at (c.set_register.ensures.named placement world name ready slot_is placed);
    })
