use Rattle.gc_solo.specs.Kept.{kept_of}
use Rattle.gc_solo.proofs.Changed.{IsChanged}
use Rattle.gc_solo.proofs.RootRegisters.{IsTracedTo}
use Rattle.gc_solo.proofs.heap.Heap.trace_registers.Given as goal

abbrev pub invariant-loop-t : goal.invariant-loop-t
invariant-loop-t l = record {
  rest : IsChanged l.fn.self l.self;
  traced : IsTracedTo l.fn.kind (kept_of l.fn.self) (kept_of l.self) l.t 0;
}

abbrev pub invariant-loop-reg : goal.invariant-loop-reg
invariant-loop-reg l = record {
  rest : IsChanged l.fn.self l.self;
  traced : IsTracedTo l.fn.kind (kept_of l.fn.self) (kept_of l.self) l.t l.reg;
}
