use Rattle.std.proofs.Common.{ℕ, List, map, Bor, ◌∙◌}
use Rattle.gc_script.specs.Text.{words_of, first_line}
use Rattle.gc_script.proofs.WordLemmas.{append-more}
use Rattle.gc_script.proofs.cut.cut_words.Goals as goal

pub loop-cut-preserved : goal.loop-cut-preserved
loop-cut-preserved c =
    let now = λ (word : Bor (List ℕ)). word.now in
    let so_far = c.loop-cut.invariant in
    record {
      words = append-more (map now c.loop-cut.words.items) (map now c.append_word.new.words.items)
          c.loop-cut.cut.word.now (words_of (first_line c.loop-cut.cut.behind.now)) _ _ c.append_word.ensures
          c.cut_word-cut-in-loop-cut.ensures.words (rw c.loop-cut-test.true at so_far.words);
      after = c.cut_word-cut-in-loop-cut.ensures.after ∙ (rw c.loop-cut-test.true at so_far.after);
    }
