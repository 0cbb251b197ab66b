-- The remembered set.
use Rattle.std.specs.Prelude.{◌≡◌, ◌↔◌, ℕ, ◌<◌, Bool, true, false, length, slice_index, Some}
use Rattle.gc_bay.specs.Bay.{Bay}
use Rattle.gc_layout.specs.Places.{Layout}
use Rattle.gc_model.specs.World.{World, slot_at}
use Rattle.gc_placement.specs.Extents.{IsInAPage, HoldsPlaced}
use Rattle.gc_placement.specs.Headers.{head_of}
use Rattle.gc_placement.specs.Placement.{Placement}

-- the address stands on a remembered list, at an index of this mutator's
pub record IsListed (mutators : ℕ) (bay : ℕ → Bay) (address t index : ℕ) : Type 0 where
  pub mutator : t < mutators
  pub within : index < length (bay t).remembered
  pub at : slice_index (bay t).remembered index ≡ address

-- it stands on some list
pub record IsOnAList (mutators : ℕ) (bay : ℕ → Bay) (address : ℕ) : Type 0 where
  pub mutator : ℕ
  pub index : ℕ
  pub listed : IsListed mutators bay address mutator index

-- the lists have placed objects in pages alone, and each once
pub record AreLists (layout : Layout) (mutators : ℕ) (bay : ℕ → Bay) (placement : Placement) : Type 0 where
  pub placed : (address : ℕ) → IsOnAList mutators bay address → HoldsPlaced placement address
  pub old : (address : ℕ) → IsOnAList mutators bay address → IsInAPage layout address
  pub once : (address t u i j : ℕ) → IsListed mutators bay address t i → IsListed mutators bay address u j → (t ≡ u) × (i ≡ j)

-- an object has the bit remembered exactly where it is on a list, and none is marked
pub record HaveBits (word : ℕ → ℕ) (mutators : ℕ) (bay : ℕ → Bay) (placement : Placement) : Type 0 where
  pub remembered : (number address : ℕ) → placement number ≡ Some address
      → ((head_of (word address)).remembered ≡ true) ↔ IsOnAList mutators bay address
  pub marked : (number address : ℕ) → placement number ≡ Some address → (head_of (word address)).marked ≡ false

-- a slot of an object in a page names an object in a half
pub record NamesYoung (layout : Layout) (placement : Placement) (world : World) (number place : ℕ) : Type 0 where
  pub address : ℕ
  pub at : placement number ≡ Some address
  pub old : IsInAPage layout address
  pub named : ℕ
  pub named_is : slot_at world number place ≡ Some named
  pub named_address : ℕ
  pub named_at : placement named ≡ Some named_address
  pub young : ¬ IsInAPage layout named_address

-- each object in a page that names one in a half has the bit, but for one between a store into it and its barrier
abbrev pub YoungAreRemembered : (ℕ → ℕ) → Layout → Placement → World → (ℕ → Bool) → Type 0
YoungAreRemembered word layout placement world pending =
    (number place : ℕ) → (names : NamesYoung layout placement world number place) → pending names.address ≡ false
    → (head_of (word names.address)).remembered ≡ true

-- the remembered set is exact
pub record IsRemembered (word : ℕ → ℕ) (layout : Layout) (bay : ℕ → Bay) (placement : Placement) (world : World)
    (pending : ℕ → Bool) : Type 0 where
  pub lists : AreLists layout layout.mutators bay placement
  pub bits : HaveBits word layout.mutators bay placement
  pub young : YoungAreRemembered word layout placement world pending
