use Rattle.std.proofs.Common.{◌≡◌, ◌*◌, ◌≤◌, sum_by, take}
use Rattle.gc_model.specs.declared.call.Line.{Line}
use Rattle.gc_model.specs.History.{allowance_of}
use Rattle.gc_cli.proofs.play.allowance.Given as goal

-- the lines so far may bring so many collections
abbrev pub invariant-loop-index : goal.invariant-loop-index
invariant-loop-index l = record {
  sum : l.sum ≡ sum_by (λ (line : Line). allowance_of line.call) (take l.index l.script.lines);
  most : l.sum ≤ 2 * l.index;
}
