use Rattle.std.proofs.Common.{◌≡◌, ◌∙◌, ◌<◌, ℕ, List, Option, ap, arith, length, refl, subst, sym}
use Rattle.std.proofs.lemmas.List.{get_or_read}
use Rattle.gc_model.specs.Graph.{Object, common_object, object_at}
use Rattle.gc_model.specs.Plain.{Plain}
use Rattle.gc_model.specs.Reach.{every, whole}
use Rattle.gc_model.specs.Worklist.{Adds}
use Rattle.gc_model.proofs.Rounds.{search-ends, search-goes_on}
use Rattle.gc_model.proofs.world.World.mark_slots.Goals as goal

-- the slots of the next object are marked
pub loop-number-preserved : goal.loop-number-preserved
loop-number-preserved c =
    let world = c.args.self.now.world in
    let number = c.in-Some.number in
    let there : number < length world.graph = omega (arith, c.in-Some.ensures.there, c.loop-number.invariant.marks) in
    let inside : number < length c.self.inside.objects.items =
    subst (λ (plain : Plain). number < length plain.world.graph) (sym c.self.view_is) there in
    let slots : c.deref.result.now ≡ (object_at world.graph number).slots =
    c.deref.ensures.value
    ∙ ap (λ (object : Object). object.slots)
    (c.object.view_is ∙ get_or_read c.self.inside.objects.items number _ inside c.index-object.ensures common_object)
    ∙ ap (λ (plain : Plain). (object_at plain.world.graph number).slots) c.self.view_is in
    let added = subst (λ (named : List (Option ℕ)). Adds every named c.loop-number.work c.mark_named.new.self) slots c.mark_named.ensures in
    search-goes_on (whole world) _ _ c.loop-number.next number c.loop-number.invariant
    c.in-Some.ensures.within c.in-Some.ensures.listed there added

-- at the end of the list nothing is left to mark
pub returns-clause-reachable : goal.returns-clause-reachable
returns-clause-reachable c =
    search-ends (whole c.args.self.now.world) _ c.loop-number.next c.in_default.ensures.list c.loop-number.invariant
    (c.in_default.ensures.none.0 refl)
