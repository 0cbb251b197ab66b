use Rattle.std.proofs.Common.{◌≡◌, ◌≤◌, ◌+◌, ◌*◌, ◌++◌, drop, length}
use Rattle.gc_script.specs.Written.{spaced, words_of_kinds}
use Rattle.gc_script.proofs.spelling.push_words.Given as goal

-- the line and the words that are left are the whole text
abbrev pub invariant-loop-index : goal.invariant-loop-index
invariant-loop-index l = record {
  text : l.line.items ++ spaced (words_of_kinds l.names (drop l.index l.kinds) (drop l.index l.numbers))
      ≡ l.fn.line.items ++ spaced (words_of_kinds l.names l.kinds l.numbers);
  short : length l.line.items ≤ length l.fn.line.items + 22 * l.index;
}
