-- The types so far are copied.
use Rattle.std.proofs.Common.{◌≡◌, ◌+◌, length, take}
use Rattle.gc_solo.proofs.heap.setup.copy_types.Given as goal

abbrev pub invariant-loop-shape : goal.invariant-loop-shape
invariant-loop-shape l = l.copy ≡ take (1 + length l.yielded) l.types
