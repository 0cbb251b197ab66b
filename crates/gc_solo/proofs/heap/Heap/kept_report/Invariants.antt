use Rattle.std.proofs.Common.{◌*◌, ◌^◌, ◌≤◌}
use Rattle.gc_solo.specs.Collecting.{Beginning, HasTracedAll}
use Rattle.gc_solo.specs.Kept.{kept_of}
use Rattle.gc_solo.proofs.Reported.{AreCountedTo}
use Rattle.gc_solo.proofs.heap.Heap.kept_report.Given as goal

abbrev pub invariant-loop-bay : goal.invariant-loop-bay
invariant-loop-bay l = record {
  counted : (start : Beginning) (all : HasTracedAll (kept_of l.fn.self) start)
      → AreCountedTo (kept_of l.fn.self) start all l.objects l.words l.bay-index;
  few_objects : l.objects ≤ l.bay-index * 2 ^ 32;
  few_words : l.words ≤ l.bay-index * 2 ^ 32;
}
