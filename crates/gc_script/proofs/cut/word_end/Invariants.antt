use Rattle.std.proofs.Common.{◌≡◌, ◌+◌, drop}
use Rattle.gc_script.specs.Text.{word_end}
use Rattle.gc_script.proofs.cut.word_end.Given as goal

-- what was passed and what stands before the end in the rest are what stands before the end in the whole
abbrev pub invariant-loop-at : goal.invariant-loop-at
invariant-loop-at l = l.at + word_end (drop l.at l.text) ≡ word_end l.text
