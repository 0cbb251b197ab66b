use Rattle.std.proofs.Common.{◌≡◌, ◌≤◌, ◌*◌, sum_by, take}
use Rattle.gc_solo.proofs.heap.Heap.is_due.Given as goal

abbrev pub invariant-loop-bay : goal.invariant-loop-bay
invariant-loop-bay l = record {
  sum : l.given ≡ sum_by (λ bay. bay.given) (take l.bay-index l.self.bays.items);
  few : l.given ≤ l.bay-index * l.self.places.pages;
}
