-- Tidying: which objects stay remembered after a collection.
use Rattle.std.specs.Prelude.{◌≡◌, ◌⊎◌, ℕ, ◌<◌, true, Some, length, slice_index}
use Rattle.gc_bay.specs.Bay.{Bay}
use Rattle.gc_layout.specs.Places.{Layout}
use Rattle.gc_model.specs.World.{World}
use Rattle.gc_placement.specs.Headers.{head_of}
use Rattle.gc_placement.specs.Memory.{Memory}
use Rattle.gc_placement.specs.Placement.{Placement}
use Rattle.gc_placement.specs.Remembered.{NamesYoung}

-- the objects with the bit remembered are those in pages that name an object in a half
abbrev pub OnlyYoungAreRemembered : Memory → Placement → World → Type 0
OnlyYoungAreRemembered memory placement world =
    (number address : ℕ) → placement number ≡ Some address → (head_of (memory.word address)).remembered ≡ true
    → (place : ℕ) × NamesYoung memory.layout placement world number place

-- the object at an address names one in a half
pub record HoldsNameOfYoung (layout : Layout) (placement : Placement) (world : World) (address : ℕ) : Type 0 where
  pub number : ℕ
  pub at : placement number ≡ Some address
  pub place : ℕ
  pub names : NamesYoung layout placement world number place

-- so do the objects on the remembered lists, the mutators' lists one behind the other, before this index of a mutator's
abbrev pub AreTidyBefore : Layout → (ℕ → Bay) → Placement → World → ℕ → ℕ → Type 0
AreTidyBefore layout bay placement world t index =
    (u place : ℕ) → u < layout.mutators → place < length (bay u).remembered → (u < t) ⊎ ((u ≡ t) × (place < index))
    → HoldsNameOfYoung layout placement world (slice_index (bay u).remembered place)
