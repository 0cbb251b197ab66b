-- What the registers of bays hold.
use Rattle.std.specs.Prelude.{◌≡◌, ℕ, ◌<◌, slice_index}
use Rattle.gc_bay.specs.Bay.{Bay}
use Rattle.gc_model.specs.World.{World, named_by}
use Rattle.gc_placement.specs.Placement.{Placement, name_address}

-- each register holds the address of what it names, or 0
abbrev pub HaveRegisters : ℕ → (ℕ → Bay) → Placement → World → Type 0
HaveRegisters mutators bay placement world =
    (t reg : ℕ) → t < mutators → slice_index (bay t).registers reg ≡ name_address placement (named_by world t reg)
