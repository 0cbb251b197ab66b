use Rattle.std.proofs.Common.{take}
use Rattle.gc_model.specs.Reach.{every, registers_of}
use Rattle.gc_model.specs.Worklist.{Adds}
use Rattle.gc_model.proofs.world.reach.mark_registers.Given as goal

abbrev pub invariant-loop-mutator : goal.invariant-loop-mutator
invariant-loop-mutator l = Adds every (registers_of (take l.mutator-index l.mutators)) l.initial.work l.work
