use Rattle.std.proofs.Common.{◌≡◌, ◌∙◌, ap, get_or, subst, sym, List, ℕ, ◌∷◌}
use Rattle.atomic_table.specs.Table.{rest}
use Rattle.gc_locked.specs.Guarded.{GuardedHeap, IsEntered}
use Rattle.gc_locked.specs.Locked.{LockedHeap}
use Rattle.gc_locked.proofs.locked.Locked.enter.Goals as goal

-- the seat holds the heap
pub slot_mut-requires : goal.slot_mut-requires
slot_mut-requires c =
    let held = c.requires.holds in (
      c.requires.table ∙ sym (ap (λ (locked : LockedHeap). locked.table) c.self.view_is),
      (held.guarded, held.held_is ∙ ap (λ (slots : List (ℕ × GuardedHeap)). (0, held.guarded) ∷ rest slots) (sym held.held_is)),
    )

-- and what came of the call
pub returns-clause-made : goal.returns-clause-made
returns-clause-made c before is =
    let same : c.slot_mut.result.now ≡ before =
    ap (λ (slots : List (ℕ × GuardedHeap)). (get_or slots 0 (0, before)).1) (sym c.slot_mut.ensures.value ∙ is) in
    let held = c.requires.holds in
    let was : before ≡ held.guarded = ap (λ (slots : List (ℕ × GuardedHeap)). (get_or slots 0 (0, before)).1) (sym is ∙ held.held_is) in
    record {
      guarded = c.enter.new.self;
      held_is = ap (λ (slots : List (ℕ × GuardedHeap)). (0, c.enter.new.self) ∷ rest slots) is;
      setup_is = c.enter.ensures.setup ∙ ap (λ (each : GuardedHeap). each.setup) (same ∙ was) ∙ held.setup_is;
      made = subst
          (λ (each : GuardedHeap). IsEntered c.enter.result each c.enter.new.self c.args.t c.args.call.now) same c.enter.ensures.entered;
    }
