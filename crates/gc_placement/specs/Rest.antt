-- A memory between calls.
use Rattle.std.specs.Prelude.{[], ◌≡◌, ℕ, ◌<◌}
use Rattle.gc_model.specs.World.{World}
use Rattle.gc_placement.specs.Memory.{Memory}
use Rattle.gc_placement.specs.Placement.{Placement}
use Rattle.gc_placement.specs.Remembered.{IsRemembered}
use Rattle.gc_placement.specs.Shows.{Shows, nowhere}

-- what a memory is like when a collection begins: it shows the world, the remembered set is exact, and no list is grey
pub record IsAtRest (memory : Memory) (placement : Placement) (world : World) : Type 0 where
  pub shown : Shows memory placement world
  pub remembered : IsRemembered memory.word memory.layout memory.bay placement world nowhere
  pub no_grey : (t : ℕ) → t < memory.layout.mutators → (memory.bay t).grey ≡ []
