use Rattle.std.proofs.Common.{refl}
use Rattle.gc_model.specs.Graph.{object_at}
use Rattle.gc_solo.specs.Kept.{kept_of}
use Rattle.gc_solo.proofs.Placed.{header-at, header-inside, placed-typed}
use Rattle.gc_solo.proofs.heap.Heap.shape_at.Goals as goal

pub shape_of-requires : goal.shape_of-requires
shape_of-requires c =
    let kept = kept_of c.args.self.now in
    let placed = c.requires.placed in
    record {
      header = (
        (object_at placed.2.graph placed.3).ty,
        header-at kept placed.1 placed.2 placed.0 placed.3 c.args.address _ placed.4 placed.5 refl,
        (placed-typed kept placed.1 placed.2 placed.0 placed.3 c.args.address placed.4 placed.5).known,
      );
      there = header-inside kept placed.1 placed.2 placed.3 c.args.address placed.4.shows placed.5;
    }

pub returns : goal.returns
returns c t placement world number ready at =
    c.shape_of.ensures (object_at world.graph number).ty
    (header-at (kept_of c.args.self.now) placement world t number c.args.address _ ready at refl)
