-- The placement law: how a memory shows a world between calls.
use Rattle.std.specs.Prelude.{◌≡◌, ℕ, length, Bool, false}
use Rattle.gc_layout.specs.Types.{AreTypes}
use Rattle.gc_model.specs.World.{World}
use Rattle.gc_placement.specs.Bays.{AreBays}
use Rattle.gc_placement.specs.Extents.{AllLie, AreApart, AreOldInPages, CommonLies, EachCellHolds}
use Rattle.gc_placement.specs.Memory.{Memory}
use Rattle.gc_placement.specs.Names.{Covers}
use Rattle.gc_placement.specs.Objects.{AllStand, by_place}
use Rattle.gc_placement.specs.Placement.{Placement}
use Rattle.gc_placement.specs.Registers.{HaveRegisters}

-- no address: nothing is under way
abbrev pub nowhere : ℕ → Bool
nowhere a = false

-- the memory shows the world by the placement
pub record Shows (memory : Memory) (placement : Placement) (world : World) : Type 0 where
  pub are_types : AreTypes memory.types
  pub bays : AreBays memory.layout memory.bay
  pub mutators : length world.mutators ≡ memory.layout.mutators
  pub standing : AllStand memory.word placement (by_place placement) world.graph
  pub old : AreOldInPages memory.word memory.layout placement
  pub lying : AllLie memory.layout.mutators memory.bay placement world.graph
  pub common : CommonLies memory.layout placement
  pub apart : AreApart placement world.graph
  pub cells : EachCellHolds memory.layout.mutators memory.bay placement nowhere
  pub registers : HaveRegisters memory.layout.mutators memory.bay placement world
  pub covers : Covers placement world

-- the memory shows the world by some placement
pub record ShowsWorld (memory : Memory) (world : World) : Type 0 where
  pub placement : Placement
  pub shown : Shows memory placement world
