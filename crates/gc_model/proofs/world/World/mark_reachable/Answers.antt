use Rattle.std.proofs.Common.{◌≡◌, ◌∙◌, ◌∷◌, [], List, Some, ap, false, length, subst}
use Rattle.std.proofs.lemmas.List.{length-replicate}
use Rattle.gc_model.specs.Plain.{Plain}
use Rattle.gc_model.specs.Reach.{every, registers_of, whole}
use Rattle.gc_model.specs.World.{Mutator}
use Rattle.gc_model.specs.Worklist.{Adds, Worklist}
use Rattle.gc_model.proofs.Rounds.{search-begins}
use Rattle.gc_model.proofs.Worklist.{adds-both}
use Rattle.gc_model.proofs.world.World.mark_reachable.Goals as goal

-- the search begins with the roots of the world
pub mark_slots-requires : goal.mark_slots-requires
mark_slots-requires c =
    let world = c.args.self.now.world in
    let marks : length c.in_ok-work.work.marks ≡ length world.graph =
    ap (λ (work : Worklist). length work.marks) c.in_ok-work.ensures
    ∙ length-replicate c.len.result false ∙ c.len.ensures ∙ c.self.inside.objects.ok.0
    ∙ ap (λ (plain : Plain). length plain.world.graph) c.self.view_is in
    let none : c.in_ok-work.work.listed ≡ [] = ap (λ (work : Worklist). work.listed) c.in_ok-work.ensures in
    let mutators : c.deref.result.now ≡ world.mutators =
    c.deref.ensures.value ∙ ap (λ (plain : Plain). plain.world.mutators) c.self.view_is in
    let registers =
    subst (λ (each : List Mutator). Adds every (registers_of each) c.mark.new.self c.mark_registers.new.work) mutators
    c.mark_registers.ensures in
    search-begins (whole world) c.in_ok-work.work c.mark_registers.new.work marks none
    (adds-both every (Some 0 ∷ []) (registers_of world.mutators) _ _ _ c.mark.ensures registers)
