use Rattle.std.proofs.Common.{◌≡◌, ◌+◌, drop}
use Rattle.gc_script.specs.Text.{bytes_before}
use Rattle.gc_script.proofs.cut.line_end.Given as goal

-- what was passed and what stands before the end in the rest are what stands before the end in the whole
abbrev pub invariant-loop-at : goal.invariant-loop-at
invariant-loop-at l = l.at + bytes_before 10 (drop l.at l.text) ≡ bytes_before 10 l.text
