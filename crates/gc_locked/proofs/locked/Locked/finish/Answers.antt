use Rattle.std.proofs.Common.{◌≡◌, ◌<◌, ◌≤◌, ◌∙◌, All, List, ap, map, subst, sym, ℕ}
use mathlib.Core.Option.{some-injective}
use Rattle.atomic_table.specs.Table.{Me}
use Rattle.gc_locked.specs.declared.setup.Setup.{Setup}
use Rattle.gc_locked.specs.declared.view.View.{View}
use Rattle.gc_locked.specs.Guarded.{GuardedHeap}
use Rattle.gc_locked.specs.Locked.{LockedHeap, PassView}
use Rattle.gc_locked.specs.Rule.{IsNumberIn, times_in}
use Rattle.gc_locked.specs.Setup.{lines_of, mutators_of}
use Rattle.gc_locked.proofs.Handed.{handed-back, handed-entries, handed-journal}
use Rattle.gc_locked.proofs.Passes.{finished, own_number, pass-carried}
use Rattle.gc_locked.proofs.Steps.{ends}
use Rattle.gc_locked.proofs.locked.Locked.finish.Goals as goal

-- what was found under the lock
pub record HasFound (locked : LockedHeap) (passes : List PassView) (key : Setup) (taken : GuardedHeap) : Type 0 where
  pub setup_is : taken.setup ≡ key
  pub numbers : All (IsNumberIn locked.setup taken.journal) (map (own_number locked.setup) passes)

-- the heap was at home, and its journal has the calls of all passes
found : (c : goal.After-drop-self-inside) → HasFound c.args.self c.args.passes.items c.self.inside.table.shared.key c.take.result
found c =
    let locked = c.args.self in
    let passes = c.args.passes.items in
    let seat = c.gather-seat.result in
    let key = c.self.inside.table.shared.key in
    let same : key ≡ locked.setup = ap (λ (each : LockedHeap). each.setup) c.self.view_is in
    let view = ap (λ (me : Me GuardedHeap View). me.0) c.gather-seat.ensures.carries in
    let free = ap (λ (each : View). each.lock) view in
    let carried = ap (λ (each : View). each.carried) view in
    let all : (t : ℕ) → t < mutators_of key → 1 ≤ times_in t seat.me.0.carried = λ t there.
    subst (λ numbers. 1 ≤ times_in t numbers) (sym carried)
    (pass-carried locked.setup t passes (c.requires.all.each t (subst (λ (setup : Setup). t < mutators_of setup) same there))) in
    let (guarded, at, setup_is, numbers) = ends key seat.id seat.me.0 _ _ free all c.close_with-closed.ensures.values.2 in
    let taken : guarded ≡ c.take.result = some-injective _ _ (sym at ∙ c.take.ensures.value) in
    record {
      setup_is = sym (ap (λ (each : GuardedHeap). each.setup) taken) ∙ setup_is;
      numbers =
          subst (λ (each : GuardedHeap). All (IsNumberIn locked.setup each.journal) (map (own_number locked.setup) passes)) taken
          (subst (λ (setup : Setup). All (IsNumberIn setup guarded.journal) (map (own_number locked.setup) passes)) same
          (subst (λ each. All (IsNumberIn key guarded.journal) each) carried numbers));
    }

pub returns-clause-finished : goal.returns-clause-finished
returns-clause-finished c =
    let key = c.self.inside.table.shared.key in
    let same : key ≡ c.args.self.setup = ap (λ (each : LockedHeap). each.setup) c.self.view_is in
    let own = found c in
    let parts = c.into_parts-solo.ensures in
    finished c.args.self c.args.passes.items c.take.result _ (own.setup_is ∙ same) parts.stands own.numbers
    (handed-entries c.take.result key c.into_parts-solo.result.0 c.self.inside.lines.items c.into_parts-solo.result.2.items
    c.into_parts-solo.result.1.items own.setup_is parts.heap c.self.invariant.kept parts.journal)
    parts.heap

-- and the heap stands for it
pub invariant_of-result : goal.invariant_of-result
invariant_of-result c =
    let parts = c.into_parts-solo.ensures in
    handed-journal _
    (handed-back c.take.result c.self.inside.table.shared.key c.into_parts-solo.result.0 c.self.inside.lines.items
    c.into_parts-solo.result.2.items c.into_parts-solo.result.1.items (found c).setup_is c.self.invariant.fit parts.stands parts.heap
    c.self.invariant.kept parts.few c.self.invariant.few parts.kept parts.journal)

pub returns-clause-stands : goal.returns-clause-stands
returns-clause-stands c =
    let parts = c.into_parts-solo.ensures in
    (handed-back c.take.result c.self.inside.table.shared.key c.into_parts-solo.result.0 c.self.inside.lines.items
    c.into_parts-solo.result.2.items c.into_parts-solo.result.1.items (found c).setup_is c.self.invariant.fit parts.stands parts.heap
    c.self.invariant.kept parts.few c.self.invariant.few parts.kept parts.journal).stands

pub returns-clause-lines : goal.returns-clause-lines
returns-clause-lines c = c.self.invariant.kept ∙ ap (λ (each : LockedHeap). lines_of each.setup) c.self.view_is
