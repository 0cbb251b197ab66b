use Rattle.gc_solo.specs.Collecting.{work_left}
use Rattle.gc_solo.specs.Kept.{kept_of}
use Rattle.gc_solo.proofs.Changed.{IsChanged}
use Rattle.gc_solo.proofs.Scanned.{IsGoneOn}
use Rattle.gc_solo.proofs.heap.Heap.scan_grey.Given as goal

abbrev pub invariant-loop-address : goal.invariant-loop-address
invariant-loop-address l = record {
  rest : IsChanged l.fn.self l.self;
  gone : IsGoneOn l.kind (kept_of l.fn.self) (kept_of l.self);
}

abbrev pub decreases-loop-address : goal.decreases-loop-address
decreases-loop-address l = work_left l.self.bays.items
