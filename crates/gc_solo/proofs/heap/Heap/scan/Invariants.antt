use Rattle.std.proofs.Common.{◌≡◌, ◌≤◌}
use Rattle.gc_solo.specs.Collecting.{work_left}
use Rattle.gc_solo.specs.Kept.{kept_of}
use Rattle.gc_solo.proofs.Scanned.{IsScannedTo}
use Rattle.gc_solo.proofs.heap.Heap.scan.Given as goal

abbrev pub invariant-loop-place : goal.invariant-loop-place
invariant-loop-place l = record {
  rest : l.self ≡ record l.fn.self { words = l.self.words; bays = l.self.bays };
  scanned : IsScannedTo l.kind (kept_of l.fn.self) (kept_of l.self) l.fn.address l.place;
  less : work_left l.self.bays.items ≤ work_left l.fn.self.bays.items;
}
