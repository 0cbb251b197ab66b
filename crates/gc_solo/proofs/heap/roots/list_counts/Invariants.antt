use Rattle.std.proofs.Common.{◌≡◌, length}
use Rattle.gc_solo.proofs.BayLists.{HaveCounts}
use Rattle.gc_solo.proofs.heap.roots.list_counts.Given as goal

abbrev pub invariant-loop-t : goal.invariant-loop-t
invariant-loop-t l = record {
  eight : length l.counts ≡ 8;
  counts : HaveCounts l.bays l.counts l.t;
}
