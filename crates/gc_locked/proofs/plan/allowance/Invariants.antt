use Rattle.std.proofs.Common.{◌≡◌, ◌*◌, ◌≤◌, take}
use Rattle.gc_locked.specs.Setup.{allowance_of_lines}
use Rattle.gc_locked.proofs.plan.allowance.Given as goal

-- the lines so far may bring so many collections
abbrev pub invariant-loop-index : goal.invariant-loop-index
invariant-loop-index l = record {
  sum : l.sum ≡ allowance_of_lines (take l.index l.lines);
  most : l.sum ≤ 2 * l.index;
}
