-- The collection was made, its report was put behind the others, and what is due was told.
use Rattle.std.proofs.Common.{◌≡◌, ◌∙◌, ◌+◌, ◌++◌, ◌∷◌, [], false, true, sym, ap, subst, arith}
use Rattle.std.proofs.lemmas.Bool.{false≢true}
use denote.Enum.Bare.{sameb}
use Rattle.gc_model.specs.contracts.entry.RunKind.{the_type}
use Rattle.gc_model.specs.declared.entry.RunKind.{RunKind}
use Rattle.gc_model.specs.declared.entry.RunReport.{RunReport}
use Rattle.gc_solo.specs.declared.heap.Heap.{Heap}
use Rattle.gc_solo.specs.Kept.{kept_of}
use Rattle.gc_solo.specs.Runs.{due_after}
use Rattle.gc_solo.proofs.Runs.{IsRun, due-known, run-reported}
use Rattle.gc_solo.proofs.heap.Heap.collect.Goals as goal
use Rattle.gc_solo.proofs.heap.Heap.collect.Goals.{in-Minor, in-Full, then-eq, else-eq}

pub returns-clause-run : goal.returns-clause-run
returns-clause-run c placement world ready =
    let kind = c.args.kind in
    let old = kept_of c.args.self.now in
    let mid = kept_of c.match-kind.self in
    let report = c.match-kind.report in
    let run : IsRun kind old mid placement world report = elim c.match-kind.branch [
      | in-Minor w ↦
          let made = w.collect_minor-report in
          let done : IsRun RunKind.Minor old (kept_of made.new.self) placement world made.result = record {
            same = record {
              types = ap (λ (heap : Heap). heap.types) made.ensures.rest;
              layout = ap (λ (heap : Heap). heap.places) made.ensures.rest;
            };
            collected = made.ensures.collected placement world ready;
            report_is = made.ensures.report;
            given = λ full. cc;
          } in
          subst (λ (each : RunKind). IsRun each old mid placement world report) (sym w.in-Minor.is)
          (subst (λ (heap : Heap). IsRun RunKind.Minor old (kept_of heap) placement world report) (sym w.self-is)
          (subst (λ (each : RunReport). IsRun RunKind.Minor old (kept_of made.new.self) placement world each) (sym w.report-is) done))
      | in-Full w ↦
          let made = w.collect_full-report in
          let done : IsRun RunKind.Full old (kept_of made.new.self) placement world made.result = record {
            same = record {
              types = ap (λ (heap : Heap). heap.types) made.ensures.rest;
              layout = ap (λ (heap : Heap). heap.places) made.ensures.rest;
            };
            collected = made.ensures.collected placement world ready;
            report_is = made.ensures.report placement world ready;
            given = λ full. made.ensures.given;
          } in
          subst (λ (each : RunKind). IsRun each old mid placement world report) (sym w.in-Full.is)
          (subst (λ (heap : Heap). IsRun RunKind.Full old (kept_of heap) placement world report) (sym w.self-is)
          (subst (λ (each : RunReport). IsRun RunKind.Full old (kept_of made.new.self) placement world each) (sym w.report-is) done))
    ] in
    let due : c.if-eq.self ≡ due_after kind mid =
    due-known kind mid c.if-eq.self
    (λ minor. elim c.if-eq.branch [
      | then-eq w ↦ w.self-is ∙ w.is_due-self.ensures
      | else-eq w ↦
          absurd (false≢true (sym w.if-eq.false ∙ c.eq.ensures ∙ ap (λ (each : RunKind). sameb the_type each RunKind.Minor) minor))
    ])
    (λ full. elim c.if-eq.branch [
      | then-eq w ↦
          absurd (false≢true (sym (ap (λ (each : RunKind). sameb the_type each RunKind.Minor) full) ∙ sym c.eq.ensures ∙ w.if-eq.true))
      | else-eq w ↦ w.self-is ∙ w.if-eq.false
    ])
    in
    let book = λ (heap : Heap). heap.book in
    let same : c.match-kind.self.book ≡ c.args.self.now.book = elim c.match-kind.branch [
      | in-Minor w ↦ ap book w.self-is ∙ ap book w.collect_minor-report.ensures.rest
      | in-Full w ↦ ap book w.self-is ∙ ap book w.collect_full-report.ensures.rest
    ] in
    let reports : c.append.new.self.reports ≡ old.reports ++ report ∷ [] =
    c.append.ensures.reports ∙ ap (λ each. each.reports ++ report ∷ []) same in
    let room : c.append.new.self.room + 1 ≡ old.room =
    omega (arith, c.append.ensures.room, ap (λ each. each.room) same, c.requires.room) in (
      run.collected.after,
      run-reported kind old mid c.append.new.self.reports c.append.new.self.room c.if-eq.self placement world report run reports room
          due,
    )
