use Rattle.gc_model.specs.Reach.{every}
use Rattle.gc_model.proofs.Worklist.{adds-none, adds-next}
use Rattle.gc_model.proofs.world.worklist.Worklist.mark_named.Goals as goal
use Rattle.gc_model.proofs.world.worklist.Worklist.mark_named.Goals.{in-Some, in_default}

pub loop-name-preserved : goal.loop-name-preserved
loop-name-preserved c =
    let named = c.args.named.now in
    let index = c.loop-name.name-index in
    let begun = c.loop-name.invariant in
    elim c.match-name.branch [
      | in-Some w ↦ rw w.self-is (adds-next every named index c.loop-name-test.true _ w.in-Some.is _ _ _ begun w.mark.ensures)
      | in_default w ↦
          rw w.self-is (adds-next every named index c.loop-name-test.true _ w.in_default.is _ _ _ begun (adds-none every c.loop-name.self))
    ]
