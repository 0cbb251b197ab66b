use Rattle.std.proofs.Common.{◌≡◌, ◌∙◌, ap, arith, length, refl, sym}
use Rattle.gc_bay.specs.Bay.{Bay}
use Rattle.gc_gen2.proofs.ListLemmas.{sum_by-zero}
use Rattle.gc_layout.specs.Places.{Layout}
use Rattle.gc_model.specs.declared.entry.RunKind.{RunKind}
use Rattle.gc_solo.specs.Collecting.{Beginning, HasTracedAll, beginning, first_stage}
use Rattle.gc_solo.specs.Kept.{kept_of, memory_of, no_bay}
use Rattle.gc_solo.specs.declared.heap.Heap.{Heap}
use Rattle.gc_solo.proofs.ByKind.{traced-shows}
use Rattle.gc_solo.proofs.FullWhole.{traced-all}
use Rattle.gc_solo.proofs.heap.Heap.collect_full.Goals as goal

-- the layout, which no step changes
abbrev places : Heap → Layout
places heap = heap.places

-- it has begun
pub trace_registers-requires : goal.trace_registers-requires
trace_registers-requires c =
    let ready = c.requires.ready in
    let start = beginning RunKind.Full (memory_of (kept_of c.args.self.now)) ready.placement ready.world in
    record { collecting = (start, refl, c.begin_full.ensures.begun ready.placement ready.world ready.ready) }

-- the registers were treated
pub scan_grey-requires : goal.scan_grey-requires
scan_grey-requires c =
    let ready = c.requires.ready in
    let start = beginning RunKind.Full (memory_of (kept_of c.args.self.now)) ready.placement ready.world in
    let registers =
    c.trace_registers.ensures.traced start refl (c.begin_full.ensures.begun ready.placement ready.world ready.ready) in
    record {
      collecting = record {
        start = start;
        kind_is = refl;
        after = registers.placement;
        done = registers.done;
        stage = first_stage start;
        idle = refl;
        collecting = registers.collecting;
      };
    }

-- nothing is grey
pub kept_report-report-requires : goal.kept_report-report-requires
kept_report-report-requires c =
    let ready = c.requires.ready in
    let start = beginning RunKind.Full (memory_of (kept_of c.args.self.now)) ready.placement ready.world in
    let begun = ap places c.begin_full.ensures.rest in
    record {
      traced = (
        start,
        traced-all (kept_of c.trace_registers.new.self) (kept_of c.scan_grey.new.self) start c.begin_full.new.self.places.mutators refl
            (c.trace_registers.ensures.traced start refl (c.begin_full.ensures.begun ready.placement ready.world ready.ready))
            (ap (λ (layout : Layout). layout.mutators) begun)
            (ap places c.scan_grey.ensures.rest ∙ ap places c.trace_registers.ensures.rest ∙ begun)
            (λ after done collecting. c.scan_grey.ensures.scanned start after done (first_stage start) refl refl collecting)
            c.scan_grey.ensures.none,
      );
    }

pub sweep-requires : goal.sweep-requires
sweep-requires c =
    let ready = c.requires.ready in
    let start = beginning RunKind.Full (memory_of (kept_of c.args.self.now)) ready.placement ready.world in
    let begun = ap places c.begin_full.ensures.rest in
    record {
      traced = (
        start,
        traced-all (kept_of c.trace_registers.new.self) (kept_of c.scan_grey.new.self) start c.begin_full.new.self.places.mutators refl
            (c.trace_registers.ensures.traced start refl (c.begin_full.ensures.begun ready.placement ready.world ready.ready))
            (ap (λ (layout : Layout). layout.mutators) begun)
            (ap places c.scan_grey.ensures.rest ∙ ap places c.trace_registers.ensures.rest ∙ begun)
            (λ after done collecting. c.scan_grey.ensures.scanned start after done (first_stage start) refl refl collecting)
            c.scan_grey.ensures.none,
      );
    }

-- the cells were swept
pub tidy-requires : goal.tidy-requires
tidy-requires c =
    let ready = c.requires.ready in
    let start = beginning RunKind.Full (memory_of (kept_of c.args.self.now)) ready.placement ready.world in
    let begun = ap places c.begin_full.ensures.rest in
    let all : HasTracedAll (kept_of c.scan_grey.new.self) start =
    traced-all (kept_of c.trace_registers.new.self) (kept_of c.scan_grey.new.self) start c.begin_full.new.self.places.mutators refl
    (c.trace_registers.ensures.traced start refl (c.begin_full.ensures.begun ready.placement ready.world ready.ready))
    (ap (λ (layout : Layout). layout.mutators) begun)
    (ap places c.scan_grey.ensures.rest ∙ ap places c.trace_registers.ensures.rest ∙ begun)
    (λ after done collecting. c.scan_grey.ensures.scanned start after done (first_stage start) refl refl collecting)
    c.scan_grey.ensures.none in
    let swept = c.sweep.ensures.swept start all in
    record { traced = record { start = start; after = swept.0; traced = swept.1 } }

-- what was kept was reported
pub returns-clause-report : goal.returns-clause-report
returns-clause-report c placement world ready =
    let start = beginning RunKind.Full (memory_of (kept_of c.args.self.now)) placement world in
    let begun = ap places c.begin_full.ensures.rest in
    c.kept_report-report.ensures.report start
    (traced-all (kept_of c.trace_registers.new.self) (kept_of c.scan_grey.new.self) start c.begin_full.new.self.places.mutators refl
    (c.trace_registers.ensures.traced start refl (c.begin_full.ensures.begun placement world ready))
    (ap (λ (layout : Layout). layout.mutators) begun)
    (ap places c.scan_grey.ensures.rest ∙ ap places c.trace_registers.ensures.rest ∙ begun)
    (λ after done collecting. c.scan_grey.ensures.scanned start after done (first_stage start) refl refl collecting)
    c.scan_grey.ensures.none)

-- and the remembered set is exact
pub returns-clause-collected : goal.returns-clause-collected
returns-clause-collected c placement world ready =
    let start = beginning RunKind.Full (memory_of (kept_of c.args.self.now)) placement world in
    let begun = ap places c.begin_full.ensures.rest in
    let all : HasTracedAll (kept_of c.scan_grey.new.self) start =
    traced-all (kept_of c.trace_registers.new.self) (kept_of c.scan_grey.new.self) start c.begin_full.new.self.places.mutators refl
    (c.trace_registers.ensures.traced start refl (c.begin_full.ensures.begun placement world ready))
    (ap (λ (layout : Layout). layout.mutators) begun)
    (ap places c.scan_grey.ensures.rest ∙ ap places c.trace_registers.ensures.rest ∙ begun)
    (λ after done collecting. c.scan_grey.ensures.scanned start after done (first_stage start) refl refl collecting)
    c.scan_grey.ensures.none in
    let swept = c.sweep.ensures.swept start all in
    let blocked = λ (heap : Heap). heap.blocked in
    traced-shows RunKind.Full (kept_of c.args.self.now) (kept_of c.tidy.new.self) placement swept.0 world ready.shows
    (c.tidy.ensures.traced start swept.0 swept.1) (c.tidy.ensures.exact start swept.0 swept.1)
    (ap blocked c.tidy.ensures.rest ∙ ap blocked c.sweep.ensures.rest ∙ ap blocked c.scan_grey.ensures.rest
    ∙ ap blocked c.trace_registers.ensures.rest ∙ ap blocked c.begin_full.ensures.rest)

-- no page counts as given
pub returns-clause-given : goal.returns-clause-given
returns-clause-given c =
    let ready = c.requires.ready in
    let bays = c.tidy.new.self.bays.items in
    let collected = returns-clause-collected c ready.placement ready.world ready.ready in
    let mutators : c.tidy.new.self.places.mutators ≡ c.sweep.new.self.places.mutators =
    ap (λ (layout : Layout). layout.mutators) (ap places c.tidy.ensures.rest) in
    let count : length bays ≡ c.tidy.new.self.places.mutators = collected.shown.bays in
    sum_by-zero (λ (bay : Bay). bay.given) bays no_bay
    (λ t below. c.tidy.ensures.given t ∙ c.sweep.ensures.given t (omega (arith, below, count, mutators)))
