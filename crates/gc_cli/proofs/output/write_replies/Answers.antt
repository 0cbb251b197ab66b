-- the text so far, and the next line of it
use Rattle.std.proofs.Common.{◌∙◌, arith, append_assoc}
use Rattle.gc_io.proofs.StreamLemmas.{Appends-append, AppendsPrefix-behind}
use Rattle.gc_cli.proofs.Lists.{slice_get-below}
use Rattle.gc_cli.proofs.TextLemmas.{lines_text-next}
use Rattle.gc_cli.proofs.output.write_replies.Goals as goal

pub returns-in-Failed-clause-part : goal.returns-in-Failed-clause-part
returns-in-Failed-clause-part g c = λ _.
    let so_far = c.loop-index.invariant in
    let (reply, there) = slice_get-below c.args.replies.now c.loop-index.index (omega arith) in
    let next = rw (lines_text-next c.args.heading.now c.args.replies.now c.loop-index.index reply there) at so_far.whole in
    let first = c.write_reply.ensures.part reply there c.in-Failed.is in
    AppendsPrefix-behind _ _ _ so_far.text _ _ _ so_far.appended first next

pub loop-index-preserved : goal.loop-index-preserved
loop-index-preserved g c =
    let so_far = c.loop-index.invariant in
    let (reply, there) = slice_get-below c.args.replies.now c.loop-index.index (omega arith) in
    let next = rw (lines_text-next c.args.heading.now c.args.replies.now c.loop-index.index reply there) at so_far.whole in
    record {
      text = _;
      appended = Appends-append _ _ _ so_far.text _ so_far.appended (c.write_reply.ensures.all reply there c.in-All.is);
      whole = rw append_assoc next;
      quiet = c.write_reply.ensures.quiet c.in-All.is ∙ so_far.quiet;
    }
