use Rattle.std.proofs.Common.{◌≡◌, ◌++◌, drop}
use Rattle.gc_script.specs.Generated.{lines_by}
use Rattle.gc_script.proofs.generate.push_calls.Given as goal

-- the lines so far and those of the calls that are left are all lines
abbrev pub invariant-loop-call : goal.invariant-loop-call
invariant-loop-call l = l.lines ++ lines_by l.mutator (drop l.call-index l.calls) ≡ l.fn.lines ++ lines_by l.mutator l.calls
