use Rattle.std.proofs.Common.{ap, ◌∙◌, ◌∷◌, ◌++◌, []}
use Rattle.std.proofs.lemmas.List.{replicate_more}
use Rattle.gc_model.specs.World.{fresh_mutator}
use Rattle.gc_model.proofs.world.fresh_mutators.Goals as goal

pub loop-preserved : goal.loop-preserved
loop-preserved c =
    c.in_ok-push.ensures.items ∙ ap (λ items. items ++ fresh_mutator ∷ []) c.loop.invariant ∙ replicate_more c.loop.counter fresh_mutator
