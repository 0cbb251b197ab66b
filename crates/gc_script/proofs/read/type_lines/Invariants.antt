use Rattle.std.proofs.Common.{◌≡◌, ◌+◌, ◌≤◌, length}
use Rattle.gc_script.specs.Grammar.{body}
use Rattle.gc_script.specs.Text.{lines_of}
use Rattle.gc_script.proofs.read.type_lines.Given as goal

-- the rest is read as the whole is
abbrev pub invariant-loop-words : goal.invariant-loop-words
invariant-loop-words l = record {
  body : body l.preamble l.number (lines_of l.rest) ≡ body l.fn.declared 3 (lines_of l.bytes);
  rest : length l.rest ≤ length l.bytes;
  number : l.number + length l.rest ≤ 3 + length l.bytes;
}

abbrev pub decreases-loop-words : goal.decreases-loop-words
decreases-loop-words l = length l.rest
