use Rattle.std.proofs.Common.{refl, None}
use Rattle.gc_solo.proofs.heap.Heap.clear.Goals as goal

pub returns-clause-answered : goal.returns-clause-answered
returns-clause-answered c placement world ready =
    record {
      reply_is = refl;
      placement = placement;
      shown = c.set_register.ensures.named placement world None ready refl tt;
    }
