use Rattle.std.proofs.Common.{◌≡◌, ◌<◌, ◌≤◌, ◌∙◌, ap, length, subst, sym, arith, Some, map, slice_get}
use Rattle.gc_locked.specs.declared.setup.Setup.{Setup}
use Rattle.gc_locked.specs.Locked.{AreFit, LockedHeap}
use Rattle.gc_locked.specs.Setup.{call_at, heap_of, lines_of, mutators_of, places_of}
use Rattle.gc_locked.proofs.Lists.{read-mapped}
use Rattle.gc_locked.proofs.Passes.{calls-few, placed-at, plan-suits}
use Rattle.gc_locked.proofs.Places.{place-plan, places-count}
use Rattle.gc_locked.proofs.locked.Locked.next_call.Goals as goal

-- it has one more
pub index-place-requires : goal.index-place-requires
index-place-requires c =
    let setup = c.args.self.now.setup in
    let same = ap (λ (locked : LockedHeap). locked.setup) c.self.view_is in
    let there = subst (λ (each : Setup). c.args.mutator < mutators_of each) (sym same) c.requires.mutator in
    let at = subst (λ (each : Setup). slice_get (map (λ plan. plan.items) c.self.inside.plans.items) c.args.mutator
    ≡ Some (places_of (lines_of each) c.args.mutator)) same (c.self.invariant.plans c.args.mutator there) in
    let plan = read-mapped (λ plan. plan.items) c.self.inside.plans.items c.args.mutator (places_of (lines_of setup) c.args.mutator)
    c.index.result.now at c.index.ensures in
    omega (arith, ap length plan, places-count (lines_of setup) c.args.mutator, c.requires.left)

-- it stands at the next one of the mutator's places
pub returns-clause-next : goal.returns-clause-next
returns-clause-next c =
    let setup = c.args.self.now.setup in
    let same = ap (λ (locked : LockedHeap). locked.setup) c.self.view_is in
    let there = subst (λ (each : Setup). c.args.mutator < mutators_of each) (sym same) c.requires.mutator in
    let at = subst (λ (each : Setup). slice_get (map (λ plan. plan.items) c.self.inside.plans.items) c.args.mutator
    ≡ Some (places_of (lines_of each) c.args.mutator)) same (c.self.invariant.plans c.args.mutator there) in
    placed-at (λ plan. plan.items) c.self.inside.plans.items (lines_of setup) c.args.mutator c.args.made
    c.index.result.now c.index-place.result.now at c.index.ensures c.requires.left c.index-place.ensures

-- it is the call there
pub returns-clause-call : goal.returns-clause-call
returns-clause-call c =
    let same = ap (λ (locked : LockedHeap). locked.setup) c.self.view_is in
    c.call_at.ensures ∙ ap (λ lines. call_at lines c.index-place.result.now)
    (c.as_slice.ensures.value ∙ c.self.invariant.kept ∙ ap lines_of same)

-- and fit
pub returns-clause-fit : goal.returns-clause-fit
returns-clause-fit c =
    let setup = c.args.self.now.setup in
    let same = ap (λ (locked : LockedHeap). locked.setup) c.self.view_is in
    let fit = subst (λ (each : Setup). AreFit (heap_of each).types (mutators_of each) (lines_of each)) same c.self.invariant.fit in (
      c.requires.mutator,
      plan-suits (heap_of setup).types (mutators_of setup) c.args.mutator (lines_of setup) c.args.made c.call_at.result fit
          (place-plan (lines_of setup) c.args.mutator c.args.made c.index-place.result.now (returns-clause-next c)
          ∙ ap Some (sym (returns-clause-call c))),
    )

-- and there are few before it
pub returns-clause-few : goal.returns-clause-few
returns-clause-few c =
    let same = ap (λ (locked : LockedHeap). locked.setup) c.self.view_is in
    let few = subst (λ (each : Setup). length (lines_of each) ≤ 16777216) same c.self.invariant.few in
    omega (arith, c.requires.left, few, calls-few c.args.mutator (lines_of c.args.self.now.setup))
