use Rattle.std.proofs.Common.{◌≡◌, ◌<◌, ◌∙◌, ap, length, length-append, refl, subst, suc, sym, arith, List, [], ◌∷◌}
use Rattle.std.proofs.Math.Numerals.{add-one}
use Rattle.atomic_table.specs.Table.{Me}
use Rattle.gc_locked.specs.declared.view.Carried.{Carried}
use Rattle.gc_locked.specs.declared.view.View.{View}
use Rattle.gc_locked.specs.Guarded.{GuardedHeap}
use Rattle.gc_locked.specs.Locked.{ArePassesFrom, IsPassOf, PassView, locked_by, number_of, pass_of}
use Rattle.gc_locked.specs.Rule.{first_alone, free_view, numbers_from, others}
use Rattle.gc_locked.specs.Setup.{mutators_of}
use Rattle.gc_locked.proofs.Passes.{numbers-next, passes-more}
use Rattle.gc_locked.proofs.Steps.{deals}
use Rattle.gc_locked.proofs.pass.deal.Goals as goal

-- the seat hasn't the lock
pub split_seat-requires : goal.split_seat-requires
split_seat-requires c =
    let seat = c.loop-mutator.seat in
    let invariant = c.loop-mutator.invariant in (
      invariant.table,
      omega (arith, c.requires.words),
      deals c.args.table.now.shared.key seat.id seat.me.0 (ap (λ (me : Me GuardedHeap View). me.0.lock) invariant.carries),
    )

-- the next mutator has its pass, and the seat carries the numbers of those behind it
pub loop-mutator-preserved : goal.loop-mutator-preserved
loop-mutator-preserved c =
    let invariant = c.loop-mutator.invariant in
    let mutator = c.loop-mutator.mutator in
    let setup = c.args.table.now.shared.key in
    let locked = locked_by c.args.table.now.shared.table_id setup in
    let below : mutator < mutators_of setup =
    omega (arith, c.loop-mutator-test.true, c.loop-mutator.auto.mutator-end, c.requires.mutators) in
    let next = numbers-next setup mutator invariant.left (mutators_of setup) invariant.all below in
    let cut : c.loop-mutator.seat.me ≡ (free_view (number_of setup mutator 0 ∷ numbers_from setup (suc mutator) next.more), []) =
    invariant.carries ∙ ap (λ (numbers : List Carried). (free_view numbers, [])) next.numbers in
    let (table, id, me, dealt_table, dealt_me) = c.split_seat.ensures in
    let pass = pass_of (record { mutator = mutator; made = 0; seat = c.split_seat.result }) in
    let own : IsPassOf locked pass = record {
      table = dealt_table ∙ invariant.table;
      there = below;
      carried = ap (λ (each : Me GuardedHeap View). each.0.carried) dealt_me ∙ ap
          (λ (each : Me GuardedHeap View). (first_alone each.0).carried) cut;
    } in
    rw (add-one mutator)
    (record {
      table = table ∙ invariant.table;
      left = next.more;
      all = next.all_is;
      carries = me ∙ ap (λ (each : Me GuardedHeap View). (others each.0, each.1)) cut;
      count = ap (λ (passes : List PassView). length passes) c.push_reserved.ensures.items ∙ omega
          (arith, length-append c.loop-mutator.passes.items (pass ∷ []), invariant.count);
      passes = subst (ArePassesFrom locked 0) (sym c.push_reserved.ensures.items)
          (passes-more locked 0 c.loop-mutator.passes.items pass invariant.passes own (omega (arith, invariant.count)) refl);
      memory = omega (arith, invariant.memory, c.push_reserved.ensures.capacity);
    })
