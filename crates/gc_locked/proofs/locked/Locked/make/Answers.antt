use Rattle.std.proofs.Common.{◌≡◌, ◌∙◌, ◌<◌, ◌≤◌, ◌++◌, ap, length, map, slice_get, subst, sym, arith, List, Some, [], ◌∷◌}
use Rattle.atomic_table.specs.Table.{opening}
use Rattle.gc_layout.specs.Places.{Layout}
use Rattle.gc_solo.specs.Kept.{Kept}
use Rattle.gc_locked.specs.declared.setup.Setup.{Setup}
use Rattle.gc_locked.specs.Guarded.{GuardedHeap}
use Rattle.gc_locked.specs.Locked.{AreFit}
use Rattle.gc_locked.specs.Rule.{IsRuled, first_view}
use Rattle.gc_locked.specs.Setup.{heap_of, lines_of, mutators_of, places_of}
use Rattle.gc_locked.proofs.Passes.{setup-same}
use Rattle.gc_locked.proofs.Steps.{opens}
use Rattle.gc_locked.proofs.locked.Locked.make.Goals as goal

-- the heap is at home
pub new-requires : goal.new-requires
new-requires c =
    let setup = c.of-setup.result in
    let guarded = c.in_ok-guarded.guarded in
    let own = c.in_ok-guarded.ensures in
    let items = c.push_reserved.ensures.items ∙ ap
    (λ (each : List GuardedHeap). each ++ guarded ∷ []) c.in-Ok-with_capacity.ensures.items in
    subst (λ (each : List GuardedHeap). IsRuled setup (opening (0 ∷ []) each (first_view setup))) (sym items)
    (opens setup guarded own.journal
    (setup-same guarded.setup setup (own.heap ∙ sym c.of-setup.ensures.heap) (own.lines ∙ sym c.of-setup.ensures.lines)))

-- the table has one word and one place, and each mutator its plan
pub invariant_of-result : goal.invariant_of-result
invariant_of-result c =
    let setup = c.of-setup.result in
    let (words, slots, _, _, _, key) = c.in-Ok-new.ensures.ok in
    let items = c.push_reserved.ensures.items ∙ ap
    (λ (each : List GuardedHeap). each ++ c.in_ok-guarded.guarded ∷ []) c.in-Ok-with_capacity.ensures.items in
    let heap = c.of-setup.ensures.heap in
    let types : (heap_of setup).types ≡ c.args.types.now = ap (λ (kept : Kept). kept.types) heap ∙ c.in_ok-solo.ensures.types in
    let mutators : mutators_of setup ≡ c.args.places.mutators =
    ap (λ (kept : Kept). kept.layout.mutators) heap ∙ ap (λ (layout : Layout). layout.mutators) c.in_ok-solo.ensures.layout in
    let lines : lines_of setup ≡ c.args.lines.items = ap (λ lines. lines.items) c.of-setup.ensures.lines in
    record {
      words = words;
      slots = slots ∙ ap (λ (each : List GuardedHeap). length each) items;
      some = subst (λ (each : Setup). 0 < mutators_of each) (sym key) (omega (arith, mutators, c.mutators.ensures.limits.some_mutator));
      fit = subst (λ (each : Setup). AreFit (heap_of each).types (mutators_of each) (lines_of each)) (sym key)
          (rw (types, mutators, lines) c.requires.fit);
      few = subst (λ (each : Setup). length (lines_of each) ≤ 16777216) (sym key) (rw lines c.requires.few);
      kept = sym (ap lines_of key ∙ lines);
      plans = λ t there. subst (λ (each : Setup).
          slice_get (map (λ plan. plan.items) c.in-Ok.plans.items) t ≡ Some (places_of (lines_of each) t)) (sym key)
          (rw (lines, ← c.as_slice-2.ensures.value)
          (c.in-Ok.ensures.plans t (omega (arith, ap mutators_of key, there, mutators, c.mutators.ensures.mutators))));
    }
