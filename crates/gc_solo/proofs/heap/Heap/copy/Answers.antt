use Rattle.std.proofs.Common.{refl, ◌∙◌}
use Rattle.gc_model.specs.World.{named_by}
use Rattle.gc_solo.specs.Kept.{kept_of}
use Rattle.gc_solo.proofs.Registers.{ready-mutator}
use Rattle.gc_solo.proofs.heap.Heap.copy.Goals as goal

pub returns-clause-answered : goal.returns-clause-answered
returns-clause-answered c placement world ready =
    let there = ready-mutator (kept_of c.args.self.now) placement world c.args.t ready in
    record {
      reply_is = refl;
      placement = placement;
      shown = c.set_register.ensures.named placement world (named_by world c.args.t c.args.source) ready
          (c.register-address.ensures ∙ ready.shows.rest.shown.registers c.args.t c.args.source there)
          (ready.shows.rest.shown.covers.registers c.args.t c.args.source);
    }
