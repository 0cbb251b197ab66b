use Rattle.gc_io.proofs.StreamLemmas.{Appends-append, AppendsPrefix-front, AppendsPrefix-last}
use Rattle.gc_cli.specs.Text.{printed_text}
use Rattle.gc_cli.proofs.output.write_text.Goals as goal

pub returns-in-All-clause-all : goal.returns-in-All-clause-all
unfolding printed_text
returns-in-All-clause-all g c = λ written.
    let first = c.write_summary_or_replies.ensures.all c.in-All.is in
    let whole = Appends-append _ _ _ _ _ first (c.write_reports.ensures.all written) in
    rw c.if-opts.true whole

pub returns-in-All-clause-part : goal.returns-in-All-clause-part
unfolding printed_text
returns-in-All-clause-part g c = λ failed.
    let first = c.write_summary_or_replies.ensures.all c.in-All.is in
    let second = c.write_reports.ensures.part failed in
    let whole = AppendsPrefix-last _ _ _ _ _ first second in
    rw c.if-opts.true whole

pub returns-in_default-2-clause-part : goal.returns-in_default-2-clause-part
unfolding printed_text
returns-in_default-2-clause-part g c = λ failed. AppendsPrefix-front _ _ _ _ (c.write_summary_or_replies.ensures.part failed)
