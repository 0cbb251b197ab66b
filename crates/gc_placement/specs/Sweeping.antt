-- Sweeping: after a full collection has kept what is reachable, the cells of all else are given back, in order.
use Rattle.std.specs.Prelude.{[], ◌≡◌, ◌⊎◌, ◌↔◌, ℕ, ◌+◌, ◌<◌, ◌≤◌, true, false, Some, length}
use Rattle.gc_bay.specs.Bay.{Bay}
use Rattle.gc_gen2.specs.Cells.{IsFreeCell, IsUsed, IsUsedCell, IsWellFormed, free_pages}
use Rattle.gc_layout.specs.Places.{cell_address}
use Rattle.gc_layout.specs.Types.{AreTypes}
use Rattle.gc_model.specs.Reach.{is_reachable}
use Rattle.gc_model.specs.World.{World}
use Rattle.gc_placement.specs.Bays.{AreBays}
use Rattle.gc_placement.specs.Extents.{AllLie, AreApart, AreOldInPages, CommonLies, HoldsPlaced, IsInAPage}
use Rattle.gc_placement.specs.Flipped.{AreFlipped}
use Rattle.gc_placement.specs.Full.{StaysOrGoes}
use Rattle.gc_placement.specs.Headers.{IsHeader, head_of}
use Rattle.gc_placement.specs.Memory.{Memory}
use Rattle.gc_placement.specs.Minor.{was_promoted, was_young_and_kept}
use Rattle.gc_placement.specs.Names.{Covers}
use Rattle.gc_placement.specs.Objects.{AllStand, by_place}
use Rattle.gc_placement.specs.Placement.{IsPlaced, Placement}
use Rattle.gc_placement.specs.Promotion.{ArePromoted}
use Rattle.gc_placement.specs.Registers.{HaveRegisters}
use Rattle.gc_placement.specs.Remembered.{AreLists, IsOnAList}
use Rattle.gc_placement.specs.Sums.{own_words_where}
use Rattle.gc_placement.specs.UnderWay.{all_begun}

-- a cell of a mutator is left to be looked at: from this offset of this mutator's on
abbrev pub IsLeft : ℕ → ℕ → ℕ → ℕ → Type 0
IsLeft t offset u other = (t < u) ⊎ ((u ≡ t) × (offset ≤ other))

-- a used cell that is left: an object's header stands there, it is marked exactly where the object is placed, and where it
-- isn't, the cell was used before the collection
pub record IsLeftCell (old memory : Memory) (placement : Placement) (u other : ℕ) : Type 0 where
  pub ty : ℕ
  pub header : IsHeader (memory.word (cell_address memory.layout u other)) ty
  pub kept : ((head_of (memory.word (cell_address memory.layout u other))).marked ≡ true)
      ↔ HoldsPlaced placement (cell_address memory.layout u other)
  pub was : (class : ℕ) → (head_of (memory.word (cell_address memory.layout u other))).marked ≡ false
      → IsUsedCell (memory.bay u).pages class other → IsUsedCell (old.bay u).pages class other

-- a used cell that was looked at: it holds a placed object, without a mark
pub record IsSweptCell (memory : Memory) (placement : Placement) (u other : ℕ) : Type 0 where
  pub holds : HoldsPlaced placement (cell_address memory.layout u other)
  pub unmarked : (head_of (memory.word (cell_address memory.layout u other))).marked ≡ false

-- a full collection that is being swept: the memory before it, the bays when all was kept, and where the objects were before
-- and are now. The memory shows the world by the placement but for the cells that are left, and did to it else what a full
-- collection does
pub record IsSweeping (old : Memory) (traced : ℕ → Bay) (before after : Placement) (world : World) (memory : Memory) (t offset : ℕ)
    : Type 0 where
  pub are_types : AreTypes memory.types
  pub layout : memory.layout ≡ old.layout
  pub bays : AreBays memory.layout memory.bay
  pub mutators : length world.mutators ≡ memory.layout.mutators
  pub standing : AllStand memory.word after (by_place after) world.graph
  pub old_in_pages : AreOldInPages memory.word memory.layout after
  pub lying : AllLie memory.layout.mutators memory.bay after world.graph
  pub common : CommonLies memory.layout after
  pub apart : AreApart after world.graph
  pub registers : HaveRegisters memory.layout.mutators memory.bay after world
  pub covers : Covers after world
  pub left : (u other : ℕ) → u < memory.layout.mutators → IsUsed (memory.bay u).pages other → IsLeft t offset u other
      → IsLeftCell old memory after u other
  pub swept : (u other : ℕ) → u < memory.layout.mutators → IsUsed (memory.bay u).pages other → ¬ IsLeft t offset u other
      → IsSweptCell memory after u other
  pub young : (number address : ℕ) → after number ≡ Some address → ¬ IsInAPage memory.layout address
      → (head_of (memory.word address)).marked ≡ false
  pub lists : AreLists memory.layout memory.layout.mutators memory.bay after
  pub remembered : (number address : ℕ) → after number ≡ Some address
      → ((head_of (memory.word address)).remembered ≡ true) ↔ IsOnAList memory.layout.mutators memory.bay address
  pub listed : (number address : ℕ) → after number ≡ Some address → IsInAPage memory.layout address
      → IsOnAList memory.layout.mutators memory.bay address
  pub no_grey : (u : ℕ) → u < memory.layout.mutators → (memory.bay u).grey ≡ []
  pub freed : (u class other : ℕ) → u < memory.layout.mutators → IsFreeCell (memory.bay u).pages class other
      → IsFreeCell (traced u).pages class other ⊎ IsUsedCell (old.bay u).pages class other
  pub pages : (u : ℕ) → u < memory.layout.mutators → free_pages (memory.bay u).pages ≡ free_pages (traced u).pages
  pub traced_pages : (u : ℕ) → u < memory.layout.mutators → IsWellFormed (traced u).pages
  pub flipped : AreFlipped memory.layout.mutators all_begun old.bay memory.bay
  pub only : (number : ℕ) → IsPlaced after number → IsPlaced before number
  pub stays : StaysOrGoes memory.layout before after
  pub reached : (number : ℕ) → IsPlaced after number ↔ (is_reachable world number ≡ true)
  pub sums : (u : ℕ) → u < memory.layout.mutators
      → (memory.bay u).used + own_words_where (was_promoted old before after) world.graph u
      ≡ own_words_where (was_young_and_kept old before after) world.graph u
  pub promoted : ArePromoted memory.layout old.word memory.word traced before after world.graph
