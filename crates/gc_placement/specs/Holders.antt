-- What holds names while objects move: registers, and the slots of objects that are kept or remembered.
use Rattle.std.specs.Prelude.{◌≡◌, ◌⊎◌, ◌↔◌, ℕ, ◌<◌, ◌≤◌, ◌&&◌, ◌||◌, ◌==◌, Bool, true, false, length, None, Some, slice_index}
use Rattle.gc_bay.specs.Bay.{Bay}
use Rattle.gc_model.specs.Graph.{Graph, object_at}
use Rattle.gc_model.specs.World.{World, named_by, slot_at}
use Rattle.gc_placement.specs.Extents.{home_of}
use Rattle.gc_placement.specs.Moves.{name_before_or_after}
use Rattle.gc_placement.specs.Remembered.{IsListed}
use Rattle.gc_placement.specs.Sums.{is_young}
use Rattle.gc_layout.specs.Places.{Layout}
use Rattle.gc_placement.specs.Placement.{IsNamePlaced, IsPlaced, Placement}

-- which registers, by mutator and register, and which slots, by object and place, hold the address after of what they name;
-- and whether a full collection has marked the common object, which is a root as if something named it
pub record Done : Type 0 where
  pub registers : ℕ → ℕ → Bool
  pub slots : ℕ → ℕ → Bool
  pub common : Bool

-- each register holds the address of what it names, after where it is done and else before
abbrev pub HaveMovingRegisters : ℕ → (ℕ → Bay) → Placement → Placement → (ℕ → ℕ → Bool) → World → Type 0
HaveMovingRegisters mutators bay before after done world =
    (t reg : ℕ) → t < mutators
    → slice_index (bay t).registers reg ≡ name_before_or_after before after (done t reg) (named_by world t reg)

-- what is named where it is done is kept
pub record CoversDone (after : Placement) (done : Done) (world : World) : Type 0 where
  pub registers : (t reg : ℕ) → done.registers t reg ≡ true → IsNamePlaced after (named_by world t reg)
  pub slots : (number place : ℕ) → IsPlaced after number → done.slots number place ≡ true
      → IsNamePlaced after (slot_at world number place)

-- the address stands on the grey list of a mutator, at this index
pub record IsGreyAt (mutators : ℕ) (bay : ℕ → Bay) (address t index : ℕ) : Type 0 where
  pub mutator : t < mutators
  pub within : index < length (bay t).grey
  pub at : slice_index (bay t).grey index ≡ address

-- it stands on some grey list
pub record IsGrey (mutators : ℕ) (bay : ℕ → Bay) (address : ℕ) : Type 0 where
  pub mutator : ℕ
  pub index : ℕ
  pub listed : IsGreyAt mutators bay address mutator index

-- the object at this address is kept, and it is a mutator's own
pub record IsKeptOf (after : Placement) (graph : Graph) (t address : ℕ) : Type 0 where
  pub number : ℕ
  pub at : after number ≡ Some address
  pub own : home_of (object_at graph number).maker ≡ t

-- the grey lists have objects that are kept, each once and on its owner's list
pub record AreGrey (mutators : ℕ) (bay : ℕ → Bay) (after : Placement) (graph : Graph) : Type 0 where
  pub kept : (address t index : ℕ) → IsGreyAt mutators bay address t index → IsKeptOf after graph t address
  pub once : (address t u i j : ℕ) → IsGreyAt mutators bay address t i → IsGreyAt mutators bay address u j → (t ≡ u) × (i ≡ j)

-- a slot of an object that is kept isn't done exactly where the object is grey, or the slot waits elsewhere for being done
abbrev pub GreyOrWaiting : ℕ → (ℕ → Bay) → Placement → (ℕ → ℕ → Bool) → Graph → (ℕ → ℕ → Type 0) → Type 0
GreyOrWaiting mutators bay after done graph waiting =
    (number address place : ℕ) → after number ≡ Some address → place < length (object_at graph number).slots
    → (done number place ≡ false) ↔ (IsGrey mutators bay address ⊎ waiting number place)

-- no slot of an object that isn't kept is done
abbrev pub OnlyKeptAreDone : Placement → (ℕ → ℕ → Bool) → Type 0
OnlyKeptAreDone after done = (number place : ℕ) → after number ≡ None → done number place ≡ false

-- one more register is done
abbrev pub with_register_done : Done → ℕ → ℕ → Done
with_register_done done t reg = record done { registers = λ u other. (u == t) && (other == reg) || done.registers u other }

-- one more slot is done
abbrev pub with_slot_done : Done → ℕ → ℕ → Done
with_slot_done done number place = record done { slots = λ other each. (other == number) && (each == place) || done.slots other each }

-- an object stood on a remembered list, the mutators' lists one behind the other, at this index of a mutator's or behind it
pub record IsListedFrom (mutators : ℕ) (bay : ℕ → Bay) (before : Placement) (t index number : ℕ) : Type 0 where
  pub address : ℕ
  pub at : before number ≡ Some address
  pub owner : ℕ
  pub place : ℕ
  pub listed : IsListed mutators bay address owner place
  pub behind : (t < owner) ⊎ ((t ≡ owner) × (index ≤ place))

-- what is grey was in a half before, as it is in a minor collection
abbrev pub GreyWereYoung : Layout → ℕ → (ℕ → Bay) → Placement → Placement → Type 0
GreyWereYoung layout mutators bay before after =
    (number address : ℕ) → after number ≡ Some address → IsGrey mutators bay address → is_young layout before number ≡ true
