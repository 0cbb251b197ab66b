use Rattle.std.proofs.Common.{take}
use Rattle.gc_model.specs.Reach.{every}
use Rattle.gc_model.specs.Worklist.{Adds}
use Rattle.gc_model.proofs.world.worklist.Worklist.mark_named.Given as goal

abbrev pub invariant-loop-name : goal.invariant-loop-name
invariant-loop-name l = Adds every (take l.name-index l.named) l.initial.self l.self
