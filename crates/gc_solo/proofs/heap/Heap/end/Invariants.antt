use Rattle.std.proofs.Common.{◌≡◌, ◌<◌, ℕ, slice_index}
use Rattle.gc_bay.specs.Bay.{IsBay}
use Rattle.gc_solo.proofs.Registers.{with_registers}
use Rattle.gc_solo.proofs.heap.Heap.end.Given as goal

abbrev pub invariant-loop-reg : goal.invariant-loop-reg
invariant-loop-reg l = record {
  is_bay : IsBay l.bay;
  rest : l.bay ≡ with_registers l.initial.bay l.bay.registers;
  nothing : (reg : ℕ) → reg < l.reg → slice_index l.bay.registers reg ≡ 0;
}
