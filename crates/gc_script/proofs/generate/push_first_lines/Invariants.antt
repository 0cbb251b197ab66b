use Rattle.std.proofs.Common.{◌≡◌, ◌++◌, flat_map}
use Rattle.std.specs.List.{range_with_len}
use Rattle.gc_script.specs.Generated.{table_lines}
use Rattle.gc_script.proofs.generate.push_first_lines.Given as goal

-- the lines of the mutators so far
abbrev pub invariant-loop-mutator : goal.invariant-loop-mutator
invariant-loop-mutator l = l.lines ≡ l.fn.lines ++ flat_map table_lines (range_with_len 0 l.mutator)
