use Rattle.std.proofs.Common.{◌≡◌, ◌≤◌, ◌*◌}
use Rattle.gc_model.specs.Worklist.{sum_of}
use Rattle.gc_model.proofs.Sums.{marked_before}
use Rattle.gc_model.proofs.world.reach.sum_marked.Given as goal

abbrev pub invariant-loop-number : goal.invariant-loop-number
invariant-loop-number l = record {
  sums : l.live ≡ sum_of (marked_before l.objects l.work l.number);
  few : l.live.objects ≤ l.number;
  bounded : l.live.words ≤ 64 * l.number;
}
