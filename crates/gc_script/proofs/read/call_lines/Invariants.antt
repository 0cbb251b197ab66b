use Rattle.std.proofs.Common.{◌≡◌, ◌+◌, ◌≤◌, length}
use Rattle.gc_script.specs.Grammar.{call_lines}
use Rattle.gc_script.specs.Text.{lines_of}
use Rattle.gc_script.proofs.ReadingLemmas.{with_front}
use Rattle.gc_script.proofs.read.call_lines.Given as goal

-- the lines so far and those of the rest are all lines
abbrev pub invariant-loop-words : goal.invariant-loop-words
invariant-loop-words l = record {
  lines : with_front l.lines (call_lines l.preamble l.number (lines_of l.rest)) ≡ call_lines l.preamble l.first (lines_of l.bytes);
  count : length l.lines + length l.rest ≤ length l.bytes;
  number : l.number + length l.rest ≤ l.first + length l.bytes;
}

abbrev pub decreases-loop-words : goal.decreases-loop-words
decreases-loop-words l = length l.rest
