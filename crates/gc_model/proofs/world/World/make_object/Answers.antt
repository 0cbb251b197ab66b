use Rattle.std.proofs.Common.{◌≡◌, ◌∙◌, ◌<◌, ap, length, rules}
use Rattle.std.proofs.lemmas.List.{get_or_read}
use Rattle.gc_layout.specs.Shape.{common_shape}
use Rattle.gc_model.specs.Answer.{shape_at}
use Rattle.gc_model.specs.Plain.{plain_of}
use Rattle.gc_model.proofs.Typed.{with_object-well_formed}
use Rattle.gc_model.proofs.world.World.make_object.Goals as goal

-- a new object leaves the graph well formed
pub invariant_of-self-2 : goal.invariant_of-self-2
invariant_of-self-2 c =
    let types = c.self.inside.types.items in
    let plain = plain_of types c.self.inside.objects.items c.self.inside.mutators.items in
    let known : c.args.ty.0 < length types = search rules in
    let there : c.from.result < length types = rw c.from.ensures known in
    let shape : c.index-shape.result.now ≡ shape_at types c.args.ty.0 =
    get_or_read types c.from.result c.index-shape.result.now there c.index-shape.ensures common_shape
    ∙ ap (shape_at types) c.from.ensures in
    rw (c.in-Ok-push.ensures.items, c.in-Ok.ensures)
    (with_object-well_formed plain c.self.invariant c.args.t c.args.ty.0 c.index-shape.result.now known shape)
