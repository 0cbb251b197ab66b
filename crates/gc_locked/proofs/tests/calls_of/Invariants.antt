use Rattle.std.proofs.Common.{◌≡◌, ◌≤◌, length, take}
use Rattle.gc_model.specs.History.{calls_in}
use Rattle.gc_locked.proofs.tests.calls_of.Given as goal

-- the mutator's lines so far
abbrev pub invariant-loop-index : goal.invariant-loop-index
invariant-loop-index l = record {
  count : l.count ≡ length (calls_in l.t (take l.index l.lines));
  most : l.count ≤ l.index;
}
