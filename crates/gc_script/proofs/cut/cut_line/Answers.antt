use Rattle.std.proofs.Common.{◌<◌, length, arith}
use Rattle.std.proofs.lemmas.Bool.Decides.{nat_tests}
use Rattle.gc_script.proofs.TextLemmas.{lines_of-first}
use Rattle.gc_script.proofs.WordLemmas.{after_line-shorter}
use Rattle.gc_script.proofs.cut.cut_line.Goals as goal

pub returns-clause-lines : goal.returns-clause-lines
returns-clause-lines c =
    let some : 0 < length c.args.text.now = grind (arith, nat_tests) in
    rw c.cut_words.ensures.rest (lines_of-first c.args.text.now some)

pub returns-clause-shorter : goal.returns-clause-shorter
returns-clause-shorter c =
    let some : 0 < length c.args.text.now = grind (arith, nat_tests) in
    rw c.cut_words.ensures.rest (after_line-shorter c.args.text.now some)
