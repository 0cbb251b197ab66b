-- The halves and cells of bays while objects move.
use Rattle.std.specs.Prelude.{◌≡◌, ℕ, ◌-◌, ◌<◌, ◌≤◌, Bool, true, List, length, slice_index, if◌then◌else◌}
use Rattle.gc_bay.specs.Bay.{Bay}
use Rattle.gc_gen2.specs.Cells.{IsUsedCell}
use Rattle.gc_layout.specs.Places.{Layout}
use Rattle.gc_model.specs.Graph.{Graph}
use Rattle.gc_placement.specs.Placement.{Placement}
use Rattle.gc_placement.specs.Sums.{young_words}

-- of each mutator whose work has begun the other half is the current one, and of each other one the same
abbrev pub AreFlipped : ℕ → (ℕ → Bool) → (ℕ → Bay) → (ℕ → Bay) → Type 0
AreFlipped mutators begun old new =
    (t : ℕ) → t < mutators → (new t).half ≡ (if begun t then 1 - (old t).half else (old t).half)

-- used cells stay used
abbrev pub CellsStay : ℕ → (ℕ → Bay) → (ℕ → Bay) → Type 0
CellsStay mutators old new =
    (t class offset : ℕ) → t < mutators → IsUsedCell (old t).pages class offset → IsUsedCell (new t).pages class offset

-- of the half of each mutator whose work has begun so many words are used as its copies there have
abbrev pub HoldCopies : Layout → ℕ → (ℕ → Bool) → (ℕ → Bay) → Placement → Graph → Type 0
HoldCopies layout mutators begun bay after graph =
    (t : ℕ) → t < mutators → begun t ≡ true → (bay t).used ≡ young_words layout after graph t

-- a list has the entries of another in front
pub record BeginsWith (front list : List ℕ) : Type 0 where
  pub longer : length front ≤ length list
  pub same : (index : ℕ) → index < length front → slice_index list index ≡ slice_index front index

-- the remembered lists have the entries of before in front
abbrev pub ListsGrow : ℕ → (ℕ → Bay) → (ℕ → Bay) → Type 0
ListsGrow mutators old new = (t : ℕ) → t < mutators → BeginsWith (old t).remembered (new t).remembered
