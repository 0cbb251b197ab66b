use Rattle.std.proofs.Common.{◌≡◌, ℕ, List, [], ◌∷◌, ◌++◌, length, length-append, take, map, Bor, Ok, Err, sym, ap, ◌∙◌, arith}
use Rattle.gc_script.specs.Text.{first_line, lines_of, words_of}
use Rattle.gc_script.proofs.ReadingLemmas.{next-line, no-line}
use Rattle.gc_script.proofs.TruncationLemmas.{call_line-seven}
use Rattle.gc_script.proofs.read.call_lines.Goals as goal

pub returns-in-Err-clause-lines : goal.returns-in-Err-clause-lines
returns-in-Err-clause-lines c =
    let preamble = c.args.preamble.now in
    let now = λ (word : Bor (List ℕ)). word.now in
    let line = first_line c.loop-words.rest.now in
    let words : map now c.as_slice.result.now ≡ take 7 (words_of line) = ap (map now) c.as_slice.ensures.value ∙ c.in-Some.ensures.words in
    let read = call_line-seven preamble (words_of line) _ (Err c.in-Err.cause) words (sym c.in-Err.ensures) in
    rw c.refused.ensures
    (no-line preamble c.loop-words.number line (lines_of c.in-Some.behind.now) c.in-Err.cause c.loop-words.lines _ read
    (rw c.in-Some.ensures.lines at c.loop-words.invariant.lines))

pub loop-words-preserved : goal.loop-words-preserved
loop-words-preserved c =
    let preamble = c.args.preamble.now in
    let so_far = c.loop-words.invariant in
    let now = λ (word : Bor (List ℕ)). word.now in
    let line = first_line c.loop-words.rest.now in
    let words : map now c.as_slice.result.now ≡ take 7 (words_of line) = ap (map now) c.as_slice.ensures.value ∙ c.in-Some.ensures.words in
    let read = call_line-seven preamble (words_of line) _ (Ok c.in-Ok.line) words (sym c.in-Ok.ensures) in
    let grown : c.push.new.self ≡ c.loop-words.lines ++ c.in-Ok.line ∷ [] = c.in_ok-push-in-Ok.ensures.ok in
    record {
      lines = next-line preamble c.loop-words.number line (lines_of c.in-Some.behind.now) c.in-Ok.line c.loop-words.lines
          c.push.new.self _ read grown (rw c.in-Some.ensures.lines at so_far.lines);
      count = omega (arith, so_far.count, c.in-Some.ensures.shorter, ap length grown, length-append c.loop-words.lines (c.in-Ok.line ∷ []));
      number = omega (arith, so_far.number, c.in-Some.ensures.shorter);
    }
