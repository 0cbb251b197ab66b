use Rattle.std.proofs.Common.{◌≡◌, length}
use Rattle.gc_bay.proofs.tests.fill_batch.Given as goal

abbrev pub invariant-loop-a : goal.invariant-loop-a
invariant-loop-a l = length l.batch ≡ l.a
