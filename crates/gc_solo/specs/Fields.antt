-- The words of objects that calls work on.
use Rattle.std.specs.Prelude.{◌≡◌, ℕ, ◌+◌, ◌<◌, length, Ok, Option, Some}
use Rattle.gc_layout.specs.Shape.{slot_address}
use Rattle.gc_model.specs.Answer.{number_owner, slot_owner}
use Rattle.gc_model.specs.Graph.{object_at}
use Rattle.gc_model.specs.World.{World}
use Rattle.gc_placement.specs.Placement.{IsNamePlaced, Placement, name_address}

-- the address of a slot of a placed object
pub record IsSlotOf (placement : Placement) (world : World) (number place address : ℕ) : Type 0 where
  pub start : ℕ
  pub at : placement number ≡ Some start
  pub within : place < length (object_at world.graph number).slots
  pub address_is : address ≡ slot_address start place

-- the address of a number of a placed object
pub record IsNumberOf (placement : Placement) (world : World) (number place address : ℕ) : Type 0 where
  pub start : ℕ
  pub at : placement number ≡ Some start
  pub within : place < length (object_at world.graph number).numbers
  pub address_is : address ≡ start + 2 + length (object_at world.graph number).slots + place

-- the address of a slot of the object that a register names, on which a call on that slot works
pub record IsSlot (placement : Placement) (world : World) (t base place address : ℕ) : Type 0 where
  pub object : ℕ
  pub slot : IsSlotOf placement world object place address
  pub owner : slot_owner world t base place ≡ Ok object

-- the address of a number of the object that a register names, on which a call on that number works
pub record IsNumber (placement : Placement) (world : World) (t base place address : ℕ) : Type 0 where
  pub object : ℕ
  pub number : IsNumberOf placement world object place address
  pub owner : number_owner world t base place ≡ Ok object

-- a name goes into a slot of the placed object at an address
pub record IsPut (placement : Placement) (world : World) (object slot name number place : ℕ) (named : Option ℕ) : Type 0 where
  pub at : placement number ≡ Some object
  pub within : place < length (object_at world.graph number).slots
  pub slot_is : slot ≡ slot_address object place
  pub name_is : name ≡ name_address placement named
  pub placed : IsNamePlaced placement named
