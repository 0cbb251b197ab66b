-- What is given where an object is copied.
use Rattle.std.proofs.Common.{◌≡◌, ℕ, true, Some, None}
use Rattle.gc_bay.specs.Bay.{Bay}
use Rattle.gc_bay.specs.Extent.{IsFreshExtent}
use Rattle.gc_model.specs.Graph.{object_at, object_size}
use Rattle.gc_model.specs.World.{World}
use Rattle.gc_placement.specs.Changes.{ChangesBay, HasOneMoreExtent}
use Rattle.gc_placement.specs.Extents.{home_of}
use Rattle.gc_placement.specs.Memory.{Memory}
use Rattle.gc_placement.specs.Placement.{Placement}
use Rattle.gc_placement.specs.Sums.{is_young}

-- an object is copied: it was placed in a half and isn't kept so far, and the copy is a fresh extent of its maker's bay, which
-- is all that the bay has more
pub record IsCopied (old : Memory) (before : Placement) (world : World) (bay new : ℕ → Bay) (after : Placement)
    (number address copy size : ℕ) (own : Bay) : Type 0 where
  pub at : before number ≡ Some address
  pub young : is_young old.layout before number ≡ true
  pub unkept : after number ≡ None
  pub size_is : size ≡ object_size (object_at world.graph number)
  pub changed : ChangesBay bay new (home_of (object_at world.graph number).maker) own
  pub more : HasOneMoreExtent (bay (home_of (object_at world.graph number).maker)) own copy size
  pub fresh : IsFreshExtent (bay (home_of (object_at world.graph number).maker)) copy size
  pub registers : own.registers ≡ (bay (home_of (object_at world.graph number).maker)).registers
