use Rattle.std.proofs.Common.{arith}
use Rattle.gc_script.proofs.WordLemmas.{word-last, cut-words, cut-after}
use Rattle.gc_script.proofs.cut.cut_word.Goals as goal

pub returns-then-end-text-clause-words : goal.returns-then-end-text-clause-words
returns-then-end-text-clause-words c =
    let cut = word-last c.args.text.now (omega (arith, c.word_end-end.ensures.end, c.if-end-text.true)) in
    cut.line

pub returns-then-end-text-clause-after : goal.returns-then-end-text-clause-after
returns-then-end-text-clause-after c =
    let cut = word-last c.args.text.now (omega (arith, c.word_end-end.ensures.end, c.if-end-text.true)) in
    cut.rest

pub returns-clause-words : goal.returns-clause-words
returns-clause-words c =
    cut-words c.args.text.now c.word_end-end.result c.word_end-end.ensures.end
    (omega (arith, c.word_end-end.ensures.within, c.if-end-text.false))

pub returns-clause-after : goal.returns-clause-after
returns-clause-after c =
    cut-after c.args.text.now c.word_end-end.result c.word_end-end.ensures.end
    (omega (arith, c.word_end-end.ensures.within, c.if-end-text.false))
