use Rattle.std.proofs.Common.{◌≡◌, ◌++◌, List, ℕ, codes, decimal, append_assoc, ap}
use Rattle.gc_cli.specs.Text.{report_text}
use Rattle.gc_cli.proofs.text.push_report.Goals as goal

-- four pieces behind a text are one piece behind it
four_pieces : (text first second third fourth : List ℕ)
    → (((text ++ first) ++ second) ++ third) ++ fourth ≡ text ++ (((first ++ second) ++ third) ++ fourth)
four_pieces text first second third fourth = simp append_assoc

pub returns-in-Full-clause-text : goal.returns-in-Full-clause-text
returns-in-Full-clause-text c =
    let pieces = four_pieces c.args.line.now.bytes (codes "full objects ") (decimal c.in-Full.objects) (codes " words ")
    (decimal c.in-Full.words) in
    let full = ap report_text c.in-Full.is in
    cc (pieces, full, c.push-in-Full.ensures, c.push_number.ensures.text, c.push-in-Full-2.ensures, c.push_number-in-Full.ensures.text)
