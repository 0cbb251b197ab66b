-- What a call does to a world: one of five steps. What every call keeps follows from this relation by its five cases,
-- with no walk over the calls.
use Rattle.std.specs.Prelude.{◌≡◌, ◌⊎◌, ℕ, ◌<◌, List, length, All, Option, None, Some, Bool, true}
use Rattle.gc_layout.specs.declared.shape.Shape.{Shape}
use Rattle.gc_layout.specs.declared.shape.TypeNo.{TypeNo}
use Rattle.gc_layout.specs.Sizes.{register_count}
use Rattle.gc_model.specs.declared.call.Call.{Call}
use Rattle.gc_model.specs.declared.call.Call.TheVariants.{New}
use Rattle.gc_model.specs.declared.entry.Entry.{Entry}
use Rattle.gc_model.specs.declared.entry.Entry.TheVariants.{Made, Run}
use Rattle.gc_model.specs.Answer.{IsFit, with_new}
use Rattle.gc_model.specs.Graph.{object_at}
use Rattle.gc_model.specs.History.{is_done}
use Rattle.gc_model.specs.Laws.{IsSound, IsWellTyped}
use Rattle.gc_model.specs.World.{World, Mutator, mutator_at, named_by, slot_at, with_mutator, with_slot, with_number}

-- an object that a mutator can work on: the common one, and each that a register of its own names
abbrev pub IsAtHand : World → ℕ → ℕ → Type 0
IsAtHand world t number = (number ≡ 0) ⊎ ((reg : ℕ) × (named_by world t reg ≡ Some number))

-- a name that a mutator can come by: nothing, what a register of its own names, or what a slot of an object at hand names
pub data IsAvailable (world : World) (t : ℕ) (name : Option ℕ) : Type 0 where
  as_nothing : name ≡ None → IsAvailable world t name
  by_register : (reg : ℕ) → name ≡ named_by world t reg → IsAvailable world t name
  by_slot : (number place : ℕ) → IsAtHand world t number → name ≡ slot_at world number place → IsAvailable world t name

-- a world in which a fit call is made: each name is an object's, and each object has its type's counts
pub record IsReady (types : List Shape) (world : World) (t : ℕ) (call : Call) : Type 0 where
  pub sound : IsSound world
  pub typed : IsWellTyped types world
  pub fit : IsFit types (length world.mutators) t call

-- the object is there, and has the slot
abbrev pub HasSlot : World → ℕ → ℕ → Type 0
HasSlot world number place = (number < length world.graph) × (place < length (object_at world.graph number).slots)

-- the object is there, and has the number
abbrev pub HasNumber : World → ℕ → ℕ → Type 0
HasNumber world number place = (number < length world.graph) × (place < length (object_at world.graph number).numbers)

-- a mutator's 16 registers stay as many, and come to name only what it can come by
pub record IsOwnChange (world : World) (t : ℕ) (mutator : Mutator) : Type 0 where
  pub sixteen : length (mutator_at world t).registers ≡ register_count → length mutator.registers ≡ register_count
  pub names : All (IsAvailable world t) mutator.registers

-- a call of a mutator leads from one world to another: nothing changes, or the mutator, one slot or one number of an
-- object at hand, or there is a new object, which one register comes to name
pub data IsStep (types : List Shape) (t : ℕ) (call : Call) (room : Bool) (old new : World) : Type 0 where
  unchanged : new ≡ old → IsStep types t call room old new
  mutator_changed : (mutator : Mutator) → new ≡ with_mutator old t mutator
      → IsOwnChange old t mutator → IsStep types t call room old new
  slot_changed : (number place value : ℕ) → new ≡ with_slot old number place (named_by old t value)
      → IsAtHand old t number → (IsReady types old t call → HasSlot old number place) → IsStep types t call room old new
  number_changed : (number place value : ℕ) → new ≡ with_number old number place value
      → IsAtHand old t number → (IsReady types old t call → HasNumber old number place) → IsStep types t call room old new
  object_added : (into : ℕ) (ty : TypeNo) → new ≡ with_new types old t into ty.0
      → call ≡ New into ty → room ≡ true → IsStep types t call room old new

-- an entry leads from one world to another: a call by its step, and a collection changes nothing
abbrev pub IsEntryStep : List Shape → Entry → World → World → Type 0
IsEntryStep types (Made t call reply) old new = IsStep types t call (is_done reply) old new
IsEntryStep types (Run report) old new = new ≡ old
