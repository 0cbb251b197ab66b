use Rattle.std.proofs.Common.{◌≡◌, ◌∙◌, ◌<◌, ℕ, [], refl, sym, ap, subst}
use Rattle.gc_layout.specs.Places.{Layout}
use Rattle.gc_model.specs.declared.entry.RunKind.{RunKind}
use Rattle.gc_model.specs.World.{World}
use Rattle.gc_placement.specs.Placement.{Placement}
use Rattle.gc_solo.specs.Collecting.{AreTraced, Beginning, HasCounts, HasGoneOn, HasTraced, at_list, beginning}
use Rattle.gc_solo.specs.Kept.{Kept, bay_at, kept_of, memory_of}
use Rattle.gc_solo.specs.Stands.{IsReadyFor}
use Rattle.gc_solo.specs.declared.heap.Heap.{Heap}
use Rattle.gc_solo.proofs.ByKind.{traced-shows}
use Rattle.gc_solo.proofs.MinorWhole.{traced-ends}
use Rattle.gc_solo.proofs.heap.Heap.collect_minor.Goals as goal

-- the layout, which no step changes
abbrev places : Heap → Layout
places heap = heap.places

-- the registers were treated, and the objects on the lists are to be scanned
pub trace_remembered-requires : goal.trace_remembered-requires
trace_remembered-requires c =
    let placement = c.requires.ready.placement in
    let world = c.requires.ready.world in
    let ready = c.requires.ready.ready in
    let start = beginning RunKind.Minor (memory_of (kept_of c.args.self.now)) placement world in
    let registers = c.trace_registers.ensures.traced start refl (c.begin_minor-counts.ensures.begun placement world ready) in
    let same : c.begin_minor-counts.new.self.places ≡ c.trace_registers.new.self.places = sym (ap places c.trace_registers.ensures.rest) in
    record {
      collecting = (
        start,
        refl,
        subst (λ (each : Layout). AreTraced (kept_of c.trace_registers.new.self) start each.mutators 0 (at_list 0 0)) same registers,
        c.begin_minor-counts.ensures.counts placement world,
      );
    }

-- they were scanned, whatever the heap showed
pub scan_grey-requires : goal.scan_grey-requires
scan_grey-requires c =
    let placement = c.requires.ready.placement in
    let world = c.requires.ready.world in
    let ready = c.requires.ready.ready in
    let start = beginning RunKind.Minor (memory_of (kept_of c.args.self.now)) placement world in
    let registers = c.trace_registers.ensures.traced start refl (c.begin_minor-counts.ensures.begun placement world ready) in
    let same : c.begin_minor-counts.new.self.places ≡ c.trace_registers.new.self.places = sym (ap places c.trace_registers.ensures.rest) in
    let lists = c.trace_remembered.ensures.traced start refl (c.begin_minor-counts.ensures.counts placement world)
    (subst (λ (each : Layout). AreTraced (kept_of c.trace_registers.new.self) start each.mutators 0 (at_list 0 0)) same registers) in
    record {
      collecting = record {
        start = start;
        kind_is = refl;
        after = lists.placement;
        done = lists.done;
        stage = at_list c.trace_registers.new.self.places.mutators 0;
        idle = refl;
        collecting = lists.collecting;
      };
    }

-- nothing is grey
pub tidy-requires : goal.tidy-requires
tidy-requires c =
    let placement = c.requires.ready.placement in
    let world = c.requires.ready.world in
    let ready = c.requires.ready.ready in
    let start = beginning RunKind.Minor (memory_of (kept_of c.args.self.now)) placement world in
    let registers = c.trace_registers.ensures.traced start refl (c.begin_minor-counts.ensures.begun placement world ready) in
    let same : c.begin_minor-counts.new.self.places ≡ c.trace_registers.new.self.places = sym (ap places c.trace_registers.ensures.rest) in
    let lists = c.trace_remembered.ensures.traced start refl (c.begin_minor-counts.ensures.counts placement world)
    (subst (λ (each : Layout). AreTraced (kept_of c.trace_registers.new.self) start each.mutators 0 (at_list 0 0)) same registers) in
    let mutators = c.trace_registers.new.self.places.mutators in
    let gone = c.scan_grey.ensures.scanned start lists.placement lists.done (at_list mutators 0) refl refl lists.collecting in
    record {
      traced = record {
        start = start;
        after = gone.placement;
        traced = traced-ends (kept_of c.scan_grey.new.self) start.memory placement world lists.placement lists.done mutators gone
            lists.registers
            (ap (λ (layout : Layout). layout.mutators)
            (ap places c.trace_registers.ensures.rest ∙ ap places c.begin_minor-counts.ensures.rest))
            c.scan_grey.ensures.none;
      };
    }

-- and the remembered set is exact
pub returns-clause-collected : goal.returns-clause-collected
returns-clause-collected c placement world ready =
    let start = beginning RunKind.Minor (memory_of (kept_of c.args.self.now)) placement world in
    let registers = c.trace_registers.ensures.traced start refl (c.begin_minor-counts.ensures.begun placement world ready) in
    let same : c.begin_minor-counts.new.self.places ≡ c.trace_registers.new.self.places = sym (ap places c.trace_registers.ensures.rest) in
    let lists = c.trace_remembered.ensures.traced start refl (c.begin_minor-counts.ensures.counts placement world)
    (subst (λ (each : Layout). AreTraced (kept_of c.trace_registers.new.self) start each.mutators 0 (at_list 0 0)) same registers) in
    let mutators = c.trace_registers.new.self.places.mutators in
    let gone = c.scan_grey.ensures.scanned start lists.placement lists.done (at_list mutators 0) refl refl lists.collecting in
    let traced = traced-ends (kept_of c.scan_grey.new.self) start.memory placement world lists.placement lists.done mutators gone
    lists.registers
    (ap (λ (layout : Layout). layout.mutators)
    (ap places c.trace_registers.ensures.rest ∙ ap places c.begin_minor-counts.ensures.rest))
    c.scan_grey.ensures.none in
    let blocked = λ (heap : Heap). heap.blocked in
    traced-shows RunKind.Minor (kept_of c.args.self.now) (kept_of c.tidy.new.self) placement gone.placement world ready.shows
    (c.tidy.ensures.traced start gone.placement traced) (c.tidy.ensures.exact start gone.placement traced)
    (ap blocked c.tidy.ensures.rest ∙ ap blocked c.scan_grey.ensures.rest ∙ ap blocked c.trace_remembered.ensures.rest
    ∙ ap blocked c.trace_registers.ensures.rest ∙ ap blocked c.begin_minor-counts.ensures.rest)
