use Rattle.std.proofs.Common.{◌≡◌}
use Rattle.gc_locked.specs.Locked.{IsPassOf}
use Rattle.gc_locked.proofs.tests.play.Given as goal

-- it stays the mutator's pass
abbrev pub invariant-loop : goal.invariant-loop
invariant-loop g l = record {
  own : IsPassOf l.fn.locked l.pass;
  mutator : l.pass.mutator ≡ l.fn.pass.mutator;
}
