use Rattle.std.proofs.Common.{ℕ, List, refl, ◌∙◌, subst}
use Rattle.gc_io.specs.Streams.{Appends, AppendsPrefix}
use Rattle.gc_cli.proofs.TextLemmas.{same-text}
use Rattle.gc_cli.proofs.modes.play_script.Goals as goal

-- the text is that of the replies and the reports of the history by which the script was played
pub returns-in-All-clause-done : goal.returns-in-All-clause-done
returns-in-All-clause-done g c done =
    let (history, is, heap, in_order, replies) = c.in-Ok.ensures.played in
    let reports = c.reports.ensures.reports ∙ heap.stands.reports in
    let same = same-text c.args.opts.now c.into_parts-heading.result.0 c.args.script _ _ _ _ c.into_parts-heading.ensures.heading
    (c.as_slice.ensures ∙ replies) reports in (
      history,
      record {
        history_is = is;
        played = record { heap = rw c.solo_left.ensures heap; in_order = in_order };
        printed =
            subst (λ (text : List ℕ). Appends (g.K.Sink.written c.args.out.now) (g.K.Sink.written c.write_text.new.out) text) same
            (c.in-All.ensures.all refl);
      },
    )

pub returns-clause-write_part : goal.returns-clause-write_part
returns-clause-write_part g c fault =
    let (history, is, heap, in_order, replies) = c.in-Ok.ensures.played in
    let reports = c.reports.ensures.reports ∙ heap.stands.reports in
    let same = same-text c.args.opts.now c.into_parts-heading.result.0 c.args.script _ _ _ _ c.into_parts-heading.ensures.heading
    (c.as_slice.ensures ∙ replies) reports in (
      history,
      record {
        history_is = is;
        played = record { heap = rw c.solo_left-in-Failed.ensures heap; in_order = in_order };
        printed =
            subst (λ (text : List ℕ). AppendsPrefix (g.K.Sink.written c.args.out.now) (g.K.Sink.written c.write_text.new.out) text) same
            (c.in-Failed.ensures.part refl);
      },
    )
