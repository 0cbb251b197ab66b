use Rattle.std.proofs.Common.{◌-◌, length}
use Rattle.gc_model.specs.Reach.{whole}
use Rattle.gc_model.specs.Worklist.{IsUnderWay}
use Rattle.gc_model.proofs.world.World.mark_slots.Given as goal

abbrev pub invariant-loop-number : goal.invariant-loop-number
invariant-loop-number l = IsUnderWay (whole l.self.world) l.work l.next

abbrev pub decreases-loop-number : goal.decreases-loop-number
decreases-loop-number l = length l.self.world.graph - l.next
