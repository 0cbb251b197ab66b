use Rattle.std.proofs.Common.{◌≡◌}
use Rattle.gc_locked.proofs.locked.Locked.step.Given as goal

-- the pass is as it was: no call of it has entered the journal
abbrev pub invariant-loop : goal.invariant-loop
invariant-loop g l = l.pass ≡ l.fn.pass
