-- How an object stands in the words: at an address, its slots under a naming.
use Rattle.std.specs.Prelude.{◌≡◌, ℕ, ◌+◌, ◌<◌, List, length, Option, None, Some, slice_index, slice_index_or}
use Rattle.gc_layout.specs.Shape.{forwarding_address, slot_address}
use Rattle.gc_layout.specs.Sizes.{first_slot}
use Rattle.gc_model.specs.Graph.{Graph, Object, object_at}
use Rattle.gc_placement.specs.Headers.{IsHeader}
use Rattle.gc_placement.specs.Placement.{Placement, name_address}

-- what a slot holds, by its object, its place and what it names: between collections the address of what it names; while
-- one is under way two slots that name the same object can hold its address before and after
abbrev pub Naming : Type 0
Naming = ℕ → ℕ → Option ℕ → ℕ

-- each slot holds the address of what it names
abbrev pub by_place : Placement → Naming
by_place placement number place name = name_address placement name

-- the slots of an object of this number stand behind its forwarding word
abbrev pub HasSlots : (ℕ → ℕ) → ℕ → Naming → ℕ → List (Option ℕ) → Type 0
HasSlots word address naming number slots =
    (place : ℕ) → place < length slots → word (slot_address address place) ≡ naming number place (slice_index_or slots place None)

-- the numbers of an object with so many slots stand behind these
abbrev pub HasNumbers : (ℕ → ℕ) → ℕ → ℕ → List ℕ → Type 0
HasNumbers word address slots numbers =
    (place : ℕ) → place < length numbers → word (address + first_slot + slots + place) ≡ slice_index numbers place

-- an object stands at an address: header, forwarding word 0, slots and numbers
pub record StandsAt (word : ℕ → ℕ) (address : ℕ) (naming : Naming) (number : ℕ) (object : Object) : Type 0 where
  pub header : IsHeader (word address) object.ty
  pub forwarding : word (forwarding_address address) ≡ 0
  pub slots : HasSlots word address naming number object.slots
  pub numbers : HasNumbers word address (length object.slots) object.numbers

-- each placed object stands at its address
abbrev pub AllStand : (ℕ → ℕ) → Placement → Naming → Graph → Type 0
AllStand word placement naming graph =
    (number address : ℕ) → placement number ≡ Some address → StandsAt word address naming number (object_at graph number)
