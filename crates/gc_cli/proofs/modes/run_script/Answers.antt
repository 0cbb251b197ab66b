-- the text is that of the replies and the reports of the history by which the script was run
use Rattle.std.proofs.Common.{◌≡◌, [], ℕ, List, ap, refl, ◌∙◌, subst, sym}
use Rattle.gc_io.specs.Streams.{Appends, AppendsPrefix}
use Rattle.gc_model.specs.declared.call.Line.{Line}
use Rattle.gc_model.specs.History.{Configuration, FitsScript, replies_by_line}
use Rattle.gc_locked.specs.Journal.{Entries}
use Rattle.gc_script.specs.Script.{Script}
use Rattle.gc_cli.specs.declared.opts.Opts.{Opts}
use Rattle.gc_cli.specs.Played.{IsHistoryOf, IsJournalOf, heap_for}
use Rattle.gc_cli.proofs.TextLemmas.{same-text}
use Rattle.gc_cli.proofs.modes.run_script.Goals as goal

-- the journal's history fits the lines that it keeps
fits : (opts : Opts) (script : Script) (journal : Entries) → IsHistoryOf opts script journal.entries
    → IsJournalOf journal (heap_for opts script) journal.entries → journal.lines ≡ script.lines
    → FitsScript journal.heap.layout.mutators journal.lines journal.entries
fits opts script journal history own lines =
    let mutators : journal.heap.layout.mutators ≡ script.preamble.mutators =
    ap (λ (heap : Configuration). heap.mutators) own.configuration_is in
    subst (λ (each : List Line). FitsScript journal.heap.layout.mutators each journal.entries) (sym lines)
    (subst (λ (count : ℕ). FitsScript count script.lines journal.entries) (sym mutators) history.fits)

pub returns-in-All-clause-done : goal.returns-in-All-clause-done
returns-in-All-clause-done g c done =
    let ran = c.in-Ok.ensures in
    let journal = c.in-Ok.journal in
    let replies = c.replies.ensures.answered (fits c.args.opts.now c.args.script journal ran.history ran.journal ran.lines)
    ∙ ap (replies_by_line journal.entries []) ran.lines in
    let same = same-text c.args.opts.now c.in-Ok.heading c.args.script _ _ _ _ ran.heading replies c.reports.ensures.reports in (
      journal.entries,
      record {
        history_is = ran.history;
        played = rw c.journal_left.ensures ran.journal;
        printed =
            subst (λ (text : List ℕ). Appends (g.K.Sink.written c.args.out.now) (g.K.Sink.written c.write_text.new.out) text) same
            (c.in-All.ensures.all refl);
      },
    )

pub returns-clause-write_part : goal.returns-clause-write_part
returns-clause-write_part g c fault =
    let ran = c.in-Ok.ensures in
    let journal = c.in-Ok.journal in
    let replies = c.replies.ensures.answered (fits c.args.opts.now c.args.script journal ran.history ran.journal ran.lines)
    ∙ ap (replies_by_line journal.entries []) ran.lines in
    let same = same-text c.args.opts.now c.in-Ok.heading c.args.script _ _ _ _ ran.heading replies c.reports.ensures.reports in (
      journal.entries,
      record {
        history_is = ran.history;
        played = rw c.journal_left-in-Failed.ensures ran.journal;
        printed =
            subst (λ (text : List ℕ). AppendsPrefix (g.K.Sink.written c.args.out.now) (g.K.Sink.written c.write_text.new.out) text) same
            (c.in-Failed.ensures.part refl);
      },
    )
