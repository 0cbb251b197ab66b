use Rattle.gc_solo.specs.Kept.{kept_of}
use Rattle.gc_solo.proofs.Changed.{IsChanged}
use Rattle.gc_solo.proofs.RootLists.{IsListedTo}
use Rattle.gc_solo.proofs.heap.Heap.trace_remembered.Given as goal

abbrev pub invariant-loop-t : goal.invariant-loop-t
invariant-loop-t l = record {
  rest : IsChanged l.fn.self l.self;
  listed : IsListedTo (kept_of l.fn.self) (kept_of l.self) l.fn.counts l.t 0;
}

abbrev pub invariant-loop-index : goal.invariant-loop-index
invariant-loop-index l = record {
  rest : IsChanged l.fn.self l.self;
  listed : IsListedTo (kept_of l.fn.self) (kept_of l.self) l.fn.counts l.t l.index;
}
