use Rattle.std.proofs.Common.{take}
use Rattle.gc_model.specs.Reach.{every, registers_of}
use Rattle.gc_model.proofs.Rounds.{registers-more}
use Rattle.gc_model.proofs.Worklist.{adds-both}
use Rattle.gc_model.proofs.world.reach.mark_registers.Goals as goal

pub loop-mutator-preserved : goal.loop-mutator-preserved
loop-mutator-preserved c =
    let mutators = c.args.mutators.now in
    let index = c.loop-mutator.mutator-index in
    let before = registers_of (take index mutators) in
    rw (registers-more mutators index c.mutator-item.result c.loop-mutator-test.true c.mutator-item.is)
    (rw (← c.mutator.view_is) (adds-both every before c.mutator.inside.registers _ _ _ c.loop-mutator.invariant c.mark_named.ensures))
