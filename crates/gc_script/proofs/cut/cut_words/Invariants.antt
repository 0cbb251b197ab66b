use Rattle.std.proofs.Common.{◌≡◌, ◌++◌, suc, length, map, take, if◌then◌else◌}
use Rattle.gc_script.specs.Text.{words_of, first_line, after_line, words_from, after_from}
use Rattle.gc_script.proofs.cut.cut_words.Given as goal

-- the words so far and those to come begin with the first seven, and the line ends where it does
abbrev pub invariant-loop-cut : goal.invariant-loop-cut
invariant-loop-cut l = record {
  words : take 7 (map (λ word. word.now) l.words.items ++ words_from l.cut.word.now l.cut.goes_on l.cut.behind.now)
      ≡ take 7 (words_of (first_line l.text));
  after : after_from l.cut.goes_on l.cut.behind.now ≡ after_line l.text;
}

-- what is left, where the line goes on
abbrev pub decreases-loop-cut : goal.decreases-loop-cut
decreases-loop-cut l = if l.cut.goes_on then suc (length l.cut.behind.now) else 0
