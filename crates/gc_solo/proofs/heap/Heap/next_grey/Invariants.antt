use Rattle.std.proofs.Common.{◌≡◌}
use Rattle.gc_solo.proofs.BayLists.{NoneGrey}
use Rattle.gc_solo.proofs.heap.Heap.next_grey.Given as goal

abbrev pub invariant-loop-t : goal.invariant-loop-t
invariant-loop-t l = record {
  rest : l.self ≡ record l.fn.self { bays = l.self.bays };
  same : l.self.bays.items ≡ l.fn.self.bays.items;
  none : NoneGrey l.self.bays.items l.t;
}
