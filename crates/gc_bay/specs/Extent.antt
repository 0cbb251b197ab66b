-- The words of a mutator that are in use, and those that a new object can have.
use Rattle.std.specs.Prelude.{◌≡◌, ◌⊎◌, ℕ, ◌+◌, ◌<◌, ◌≤◌, Option, Some, None, nat_le, if◌then◌else◌, option_map}
use Rattle.gc_gen2.specs.Cells.{IsUsed, IsUsedCell, next_cell}
use Rattle.gc_gen2.specs.Class.{class_of}
use Rattle.gc_layout.specs.Places.{address_of, cell_address, region_start}
use Rattle.gc_layout.specs.declared.places.Part.TheVariants.{Half}
use Rattle.gc_bay.specs.Bay.{Bay}

-- the next words of the current half, where it has so many left
abbrev pub next_in_half : Bay → ℕ → Option ℕ
next_in_half bay size =
    if nat_le (bay.used + size) bay.layout.nursery then Some (address_of bay.layout bay.mutator (Half bay.half bay.used)) else None

-- the next cell for a size, where there is one
abbrev pub next_in_cells : Bay → ℕ → Option ℕ
next_in_cells bay size = option_map (cell_address bay.layout bay.mutator) (next_cell bay.pages (class_of size))

-- the address is that of a used cell
pub record IsUsedCellAt (bay : Bay) (a : ℕ) : Type 0 where
  pub offset : ℕ
  pub address : cell_address bay.layout bay.mutator offset ≡ a
  pub used : IsUsed bay.pages offset

-- the address is a word of the used part of the current half
pub record IsUsedInHalf (bay : Bay) (a : ℕ) : Type 0 where
  pub from : address_of bay.layout bay.mutator (Half bay.half 0) ≤ a
  pub to : a < address_of bay.layout bay.mutator (Half bay.half bay.used)

-- the address is a word of a used cell
pub record IsUsedInCells (bay : Bay) (a : ℕ) : Type 0 where
  pub class : ℕ
  pub offset : ℕ
  pub cell : IsUsedCell bay.pages class offset
  pub from : cell_address bay.layout bay.mutator offset ≤ a
  pub to : a < cell_address bay.layout bay.mutator offset + class

-- the address is a word that is in use
abbrev pub IsInUse : Bay → ℕ → Type 0
IsInUse bay a = IsUsedInHalf bay a ⊎ IsUsedInCells bay a

-- so many words of the mutator's own region, from this address on, of which none is in use
pub record IsFreshExtent (bay : Bay) (start size : ℕ) : Type 0 where
  pub from : region_start bay.layout bay.mutator ≤ start
  pub to : start + size ≤ region_start bay.layout (bay.mutator + 1)
  pub apart : (a : ℕ) → start ≤ a → a < start + size → ¬ IsInUse bay a
