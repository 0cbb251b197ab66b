-- A placement: the addresses of objects. It is partial: an object that nothing needs isn't placed.
use Rattle.std.specs.Prelude.{◌≡◌, ℕ, ◌+◌, ◌<◌, ◌≤◌, ◌==◌, Option, None, Some, IfSome, if◌then◌else◌}
use Rattle.gc_model.specs.Graph.{Graph, object_at, object_size}

-- an address for each object that is placed, by its number
abbrev pub Placement : Type 0
Placement = ℕ → Option ℕ

-- an object is placed
pub record IsPlaced (placement : Placement) (number : ℕ) : Type 0 where
  pub address : ℕ
  pub at : placement number ≡ Some address

-- what is named is placed, or nothing is named
abbrev pub IsNamePlaced : Placement → Option ℕ → Type 0
IsNamePlaced placement name = IfSome name (IsPlaced placement)

-- an address, or 0 where there is none
abbrev pub or_nothing : Option ℕ → ℕ
or_nothing None = 0
or_nothing (Some address) = address

-- what a word holds that names an object: its address, or 0 for nothing
abbrev pub name_address : Placement → Option ℕ → ℕ
name_address placement None = 0
name_address placement (Some number) = or_nothing (placement number)

-- the placement with one more object at an address
abbrev pub with_place : Placement → ℕ → ℕ → Placement
with_place placement number address = λ other. if other == number then Some address else placement other

-- the address is that of a word of a placed object
pub record IsWordOf (placement : Placement) (graph : Graph) (number a : ℕ) : Type 0 where
  pub address : ℕ
  pub at : placement number ≡ Some address
  pub from : address ≤ a
  pub to : a < address + object_size (object_at graph number)
