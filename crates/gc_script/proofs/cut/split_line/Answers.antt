use Rattle.std.proofs.Common.{arith}
use Rattle.std.proofs.lemmas.Bool.Decides.{nat_tests}
use Rattle.gc_script.proofs.TextLemmas.{lines_of-at, lines_of-only}
use Rattle.gc_script.proofs.cut.split_line.Goals as goal

pub returns-then-end-bytes-clause-lines : goal.returns-then-end-bytes-clause-lines
returns-then-end-bytes-clause-lines c =
    lines_of-at _ _ c.line_end-end.ensures.before c.if-end-bytes.true

pub returns-else-end-bytes-clause-lines : goal.returns-else-end-bytes-clause-lines
returns-else-end-bytes-clause-lines c =
    lines_of-only _ (grind (arith, nat_tests)) (omega (arith, c.line_end-end.ensures.before))
