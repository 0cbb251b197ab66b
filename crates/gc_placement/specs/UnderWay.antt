-- A collection while it is under way: what holds at each moment from its beginning until all that it reaches is kept.
use Rattle.std.specs.Prelude.{◌≡◌, ◌↔◌, ℕ, Bool, true, false, Some}
use Rattle.gc_bay.specs.Bay.{Bay}
use Rattle.gc_layout.specs.Places.{Layout}
use Rattle.gc_model.specs.World.{World}
use Rattle.gc_model.specs.declared.entry.RunKind.{RunKind}
use Rattle.gc_placement.specs.Bays.{AreBays}
use Rattle.gc_placement.specs.Extents.{AllLie, AreApart, AreOldInPages, EachCellHolds, IsInAPage}
use Rattle.gc_placement.specs.Flipped.{AreFlipped, CellsStay, HoldCopies, ListsGrow}
use Rattle.gc_placement.specs.Headers.{head_of}
use Rattle.gc_placement.specs.Holders.{AreGrey, CoversDone, Done, GreyOrWaiting, GreyWereYoung, HaveMovingRegisters, OnlyKeptAreDone}
use Rattle.gc_placement.specs.Memory.{Memory}
use Rattle.gc_placement.specs.Moves.{HeadersStay, KeepsPlaced, StandMoving, YoungAreReached}
use Rattle.gc_placement.specs.Placement.{Placement}
use Rattle.gc_placement.specs.Promotion.{ArePromoted, PromotedAreRemembered}
use Rattle.gc_placement.specs.Remembered.{AreLists, HaveBits, IsOnAList}
use Rattle.gc_placement.specs.Shows.{nowhere}
use Rattle.gc_placement.specs.Tracings.{tracing_of}

-- the work of each mutator has begun
abbrev pub all_begun : ℕ → Bool
all_begun t = true

-- the bits of a full collection under way: an object is marked exactly where it is on a list, and then it has the bit
-- remembered; one in a half doesn't have it
pub record HaveMarkBits (word : ℕ → ℕ) (layout : Layout) (bay : ℕ → Bay) (placement : Placement) : Type 0 where
  pub marked : (number address : ℕ) → placement number ≡ Some address
      → ((head_of (word address)).marked ≡ true) ↔ IsOnAList layout.mutators bay address
  pub remembered : (number address : ℕ) → placement number ≡ Some address → (head_of (word address)).marked ≡ true
      → (head_of (word address)).remembered ≡ true
  pub young : (number address : ℕ) → placement number ≡ Some address → ¬ IsInAPage layout address
      → (head_of (word address)).remembered ≡ false

-- in a minor one the bits are those of the remembered set
abbrev pub HaveBitsIn : RunKind → (ℕ → ℕ) → Layout → (ℕ → Bay) → Placement → Type 0
HaveBitsIn RunKind.Minor word layout bay placement = HaveBits word layout.mutators bay placement
HaveBitsIn RunKind.Full word layout bay placement = HaveMarkBits word layout bay placement

-- in a minor collection the lists grow from those of before, and in a full one they are emptied first
abbrev pub ListsGrowIn : RunKind → ℕ → (ℕ → Bay) → (ℕ → Bay) → Type 0
ListsGrowIn RunKind.Minor mutators old new = ListsGrow mutators old new
ListsGrowIn RunKind.Full mutators old new = Unit {0}

-- in a minor collection what is grey was in a half before, and in a full one also what lay in a page is
abbrev pub GreyWereYoungIn : RunKind → Layout → (ℕ → Bay) → Placement → Placement → Type 0
GreyWereYoungIn RunKind.Minor layout bay before after = GreyWereYoung layout layout.mutators bay before after
GreyWereYoungIn RunKind.Full layout bay before after = Unit {0}

-- a collection is under way on one thread: the memory and the placement before it, the words and bays now, where the objects
-- are that lay in pages and those that were copied so far, what is done, and which slots of objects that aren't grey wait
-- for it
pub record IsCollectionUnderWay (kind : RunKind) (old : Memory) (before : Placement) (world : World) (word : ℕ → ℕ) (bay : ℕ → Bay)
    (after : Placement) (done : Done) (waiting : ℕ → ℕ → Type 0) : Type 0 where
  pub bays : AreBays old.layout bay
  pub standing : StandMoving word before after done.slots world.graph
  pub headers : HeadersStay old.word word before
  pub old_in_pages : AreOldInPages word old.layout after
  pub keeps : KeepsPlaced old.layout before after
  pub reached : YoungAreReached (tracing_of kind old before world) old.layout before after
  pub flipped : AreFlipped old.layout.mutators all_begun old.bay bay
  pub cells_stay : CellsStay old.layout.mutators old.bay bay
  pub lying : AllLie old.layout.mutators bay after world.graph
  pub apart : AreApart after world.graph
  pub cells : EachCellHolds old.layout.mutators bay after nowhere
  pub copies : HoldCopies old.layout old.layout.mutators all_begun bay after world.graph
  pub registers : HaveMovingRegisters old.layout.mutators bay before after done.registers world
  pub covers : CoversDone after done world
  pub lists : AreLists old.layout old.layout.mutators bay after
  pub lists_grow : ListsGrowIn kind old.layout.mutators old.bay bay
  pub bits : HaveBitsIn kind word old.layout bay after
  pub grey : AreGrey old.layout.mutators bay after world.graph
  pub grey_were_young : GreyWereYoungIn kind old.layout bay before after
  pub grey_or_waiting : GreyOrWaiting old.layout.mutators bay after done.slots world.graph waiting
  pub only_kept : OnlyKeptAreDone after done.slots
  pub promoted : ArePromoted old.layout old.word word bay before after world.graph
  pub promoted_remembered : PromotedAreRemembered old.layout word before after
