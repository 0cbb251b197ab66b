use Rattle.std.proofs.Common.{refl}
use Rattle.gc_solo.specs.Kept.{kept_of}
use Rattle.gc_solo.proofs.Registers.{shown-blocked}
use Rattle.gc_solo.proofs.heap.Heap.set_blocked.Goals as goal

pub returns-clause-answered : goal.returns-clause-answered
returns-clause-answered c placement world ready =
    record {
      reply_is = refl;
      placement = placement;
      shown = rw c.from.ensures (shown-blocked (kept_of c.args.self.now) placement world c.args.t c.args.blocked ready);
    }
