use Rattle.std.proofs.Common.{◌≡◌, ◌<◌, ◌≤◌, arith, false, length, length-set, true, slice_index_or, slice_set, rules}
use Rattle.std.specs.Vec.{vec_capacity}
use Rattle.gc_model.specs.Worklist.{IsListed}
use Rattle.gc_model.proofs.Worklist.{listed-room, listed-more}
use Rattle.gc_model.proofs.world.worklist.Worklist.mark.Goals as goal

pub push_reserved-requires : goal.push_reserved-requires
push_reserved-requires c =
    let there : c.args.number < length c.self.inside.marks.items = search rules in
    let unmarked : slice_index_or c.self.inside.marks.items c.args.number false ≡ false = search rules in
    let room = listed-room _ c.self.invariant.1 c.args.number there unmarked in
    omega (arith, room, c.self.invariant.0)

pub invariant_of-self : goal.invariant_of-self
invariant_of-self c =
    let there : c.args.number < length c.self.inside.marks.items = search rules in
    let unmarked : slice_index_or c.self.inside.marks.items c.args.number false ≡ false = search rules in
    let marks = slice_set c.self.inside.marks.items c.args.number true in
    let room : length marks ≤ vec_capacity c.push_reserved.new.self =
    omega (arith, c.self.invariant.0, length-set c.self.inside.marks.items c.args.number true, c.push_reserved.ensures.capacity) in
    let listed : IsListed (record { marks = marks; listed = c.push_reserved.new.self.items }) =
    rw c.push_reserved.ensures.items (listed-more _ c.self.invariant.1 c.args.number there unmarked) in
    (room, listed)
