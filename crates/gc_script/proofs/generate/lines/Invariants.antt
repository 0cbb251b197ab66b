use Rattle.std.proofs.Common.{◌≡◌, ◌++◌, flat_map}
use Rattle.std.specs.List.{range_with_len}
use Rattle.gc_script.specs.Generated.{first_lines, round_lines}
use Rattle.gc_script.proofs.generate.lines.Given as goal

-- the lines of the rounds so far
abbrev pub invariant-loop-i : goal.invariant-loop-i
invariant-loop-i l = l.lines ≡ first_lines ++ flat_map round_lines (range_with_len 0 l.i)
