-- How a copy is given its place in its maker's bay.
use Rattle.std.specs.Prelude.{◌≡◌, ◌⊎◌, ℕ, ◌+◌, ◌^◌, ◌<◌, ◌≤◌, [], ◌∷◌, ◌++◌, List, length, Bool, true, false, Some, Contains, if◌then◌else◌}
use Rattle.gc_bay.specs.Bay.{Bay, IsBay, Tally}
use Rattle.gc_bay.specs.Extent.{IsFreshExtent, next_in_cells, next_in_half}
use Rattle.gc_bay.specs.Room.{grey_room, remembered_room}
use Rattle.gc_gen2.specs.Cells.{TakesCell, next_cell, with_cell}
use Rattle.gc_gen2.specs.Class.{class_of}
use Rattle.gc_layout.specs.declared.head.Head.{Head}
use Rattle.gc_layout.specs.Head.{fresh_head}
use Rattle.gc_layout.specs.Sizes.{largest_size}
use Rattle.gc_model.specs.declared.entry.RunKind.{RunKind}
use Rattle.gc_placement.specs.Headers.{is_full}
use Rattle.gc_placement.specs.Promotion.{HasNoCell}

-- a list with room for so many entries can take an address: it isn't there, and there are fewer
pub record CanTake (list : List ℕ) (most address : ℕ) : Type 0 where
  pub absent : ¬ Contains list address
  pub fewer : length list < most

-- a tally can count an object of so many words
pub record CanCount (bay : Bay) (size : ℕ) : Type 0 where
  pub objects : bay.tally.objects + 1 < 2 ^ 32
  pub words : bay.tally.words + size < 2 ^ 32

-- it has to in a full collection alone
abbrev pub CanCountIn : RunKind → Bay → ℕ → Type 0
CanCountIn RunKind.Minor bay size = Unit {0}
CanCountIn RunKind.Full bay size = CanCount bay size

-- a bay can take a copy of so many words: its half has room for it, the lists for its address, wherever it goes, and its tally
pub record CanTakeCopy (kind : RunKind) (bay : Bay) (size : ℕ) : Type 0 where
  pub least : 2 ≤ size
  pub most : size ≤ largest_size
  pub half : bay.used + size ≤ bay.layout.nursery
  pub grey_half : (copy : ℕ) → next_in_half bay size ≡ Some copy → CanTake bay.grey (grey_room bay.layout) copy
  pub grey_cell : (copy : ℕ) → next_in_cells bay size ≡ Some copy → CanTake bay.grey (grey_room bay.layout) copy
  pub listed : (copy : ℕ) → next_in_cells bay size ≡ Some copy → CanTake bay.remembered (remembered_room bay.layout) copy
  pub counted : CanCountIn kind bay size

-- a copy has the next words of the current half: its object didn't have the bit seen, or there is no cell for it. It gets the
-- bit
pub record TakesNextWords (old new : Bay) (head kept : Head) (size copy : ℕ) : Type 0 where
  pub next : next_in_half old size ≡ Some copy
  pub new_is : new ≡ record old { used = old.used + size }
  pub stays : (head.seen ≡ false) ⊎ HasNoCell old size
  pub head_is : kept ≡ record (fresh_head head.ty false) { seen = true }

-- a copy has the next cell of its class, and stands on the remembered list: its object had the bit seen. It is old, and
-- remembered, and in a full collection marked
pub record TakesNextCell (kind : RunKind) (old new : Bay) (head kept : Head) (size copy : ℕ) : Type 0 where
  pub next : next_in_cells old size ≡ Some copy
  pub taken : IsBay (record old { pages = new.pages; given = new.given })
  pub new_is : new ≡ record old { pages = new.pages; given = new.given; remembered = old.remembered ++ copy ∷ [] }
  pub pages : (offset : ℕ) → next_cell old.pages (class_of size) ≡ Some offset
      → new.pages ≡ with_cell old.pages (class_of size) offset
  pub takes : (offset : ℕ) → next_cell old.pages (class_of size) ≡ Some offset
      → TakesCell old.pages new.pages (class_of size) offset
  pub seen : head.seen ≡ true
  pub head_is : kept ≡ record (fresh_head head.ty true) { remembered = true; marked = is_full kind }

-- a copy has a place in a bay of which no word was in use
pub record IsTaken (kind : RunKind) (old new : Bay) (head kept : Head) (size copy : ℕ) : Type 0 where
  pub place : TakesNextWords old new head kept size copy ⊎ TakesNextCell kind old new head kept size copy
  pub fresh : IsFreshExtent old copy size
  pub bay : IsBay new

-- a grey list where a copy has slots or none
abbrev pub grey_after : List ℕ → Bool → ℕ → List ℕ
grey_after list has_slots copy = if has_slots then list ++ copy ∷ [] else list

-- a tally that has counted one more object of so many words, in a full collection
abbrev pub tally_after : RunKind → Tally → ℕ → Tally
tally_after RunKind.Minor tally size = tally
tally_after RunKind.Full tally size = record { objects = tally.objects + 1; words = tally.words + size }

-- and it stands on the grey list where it has slots, and is counted
pub record IsPut (kind : RunKind) (old new : Bay) (head kept : Head) (size copy : ℕ) (has_slots : Bool) : Type 0 where
  pub mid : Bay
  pub taken : IsTaken kind old mid head kept size copy
  pub new_is : new ≡ record mid { grey = grey_after mid.grey has_slots copy; tally = tally_after kind mid.tally size }
  pub bay : IsBay new
