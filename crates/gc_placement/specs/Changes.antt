-- Changes of a memory: of a word, of an extent, and of a bay.
use Rattle.std.specs.List.{swap_remove}
use Rattle.std.specs.Prelude.{◌≡◌, ◌≢◌, ◌⊎◌, ℕ, ◌+◌, ◌<◌, ◌≤◌, Bool, [], ◌∷◌, ◌++◌, length}
use Rattle.gc_bay.specs.Bay.{Bay, IsBay}
use Rattle.gc_gen2.specs.Cells.{IsUsed, IsUsedCell}
use Rattle.gc_layout.specs.declared.shape.TypeNo.{TypeNo}
use Rattle.gc_layout.specs.Head.{head_word, fresh_head}
use Rattle.gc_layout.specs.Places.{cell_address}
use Rattle.gc_layout.specs.Shape.{forwarding_address}
use Rattle.gc_layout.specs.Sizes.{first_slot}
use Rattle.gc_placement.specs.Extents.{LiesIn}
use Rattle.gc_placement.specs.Memory.{Memory}

-- a word is stored: all others are as before
pub record Stores (old new : ℕ → ℕ) (address value : ℕ) : Type 0 where
  pub here : new address ≡ value
  pub elsewhere : (a : ℕ) → a ≢ address → new a ≡ old a

-- a fresh object of so many words is written: its header, and behind it zeros; all other words are as before
pub record WritesFresh (old new : ℕ → ℕ) (address size : ℕ) (ty : TypeNo) (in_page : Bool) : Type 0 where
  pub header : new address ≡ head_word (fresh_head ty in_page)
  pub zeros : (a : ℕ) → address < a → a < address + size → new a ≡ 0
  pub elsewhere : (a : ℕ) → (a < address) ⊎ (address + size ≤ a) → new a ≡ old a

-- an object of so many words is copied: the copy has this header, the forwarding word 0 and the fields of the object, the
-- object's own forwarding word is the address of the copy, and all other words are as before
pub record CopiesObject (old new : ℕ → ℕ) (address copy size header : ℕ) : Type 0 where
  pub header_is : new copy ≡ header
  pub unforwarded : new (forwarding_address copy) ≡ 0
  pub fields : (k : ℕ) → first_slot ≤ k → k < size → new (copy + k) ≡ old (address + k)
  pub forwarded : new (forwarding_address address) ≡ copy
  pub elsewhere : (a : ℕ) → a ≢ forwarding_address address → (a < copy) ⊎ (copy + size ≤ a) → new a ≡ old a

-- a mutator's bay is another one: all others are as before
pub record ChangesBay (old new : ℕ → Bay) (t : ℕ) (bay : Bay) : Type 0 where
  pub here : new t ≡ bay
  pub elsewhere : (u : ℕ) → u ≢ t → new u ≡ old u

-- a mutator's remembered list has one more address at its end: all other lists are as before
pub record AddsToList (mutators : ℕ) (old new : ℕ → Bay) (t address : ℕ) : Type 0 where
  pub mutator : t < mutators
  pub here : (new t).remembered ≡ (old t).remembered ++ address ∷ []
  pub elsewhere : (u : ℕ) → u < mutators → u ≢ t → (new u).remembered ≡ (old u).remembered

-- a mutator's remembered list loses the address at an index, and its last one comes there: all other lists are as before
pub record DropsFromList (mutators : ℕ) (old new : ℕ → Bay) (t index : ℕ) : Type 0 where
  pub within : index < length (old t).remembered
  pub here : (new t).remembered ≡ swap_remove (old t).remembered index 0
  pub elsewhere : (u : ℕ) → u < mutators → u ≢ t → (new u).remembered ≡ (old u).remembered

-- a bay is whose it was, in the layout in which it was
pub record IsSameOwners (old new : Bay) : Type 0 where
  pub bay : IsBay new
  pub layout : new.layout ≡ old.layout
  pub mutator : new.mutator ≡ old.mutator

-- a bay's extents are as before: which half is the current one, how much of it is used, and the cells
pub record HasSameExtents (old new : Bay) : Type 0 where
  pub owner : IsSameOwners old new
  pub half : new.half ≡ old.half
  pub used : new.used ≡ old.used
  pub pages : new.pages ≡ old.pages

-- a bay's extents are those of before and one more, of so many words at an address
pub record HasOneMoreExtent (old new : Bay) (address size : ℕ) : Type 0 where
  pub owner : IsSameOwners old new
  pub half : new.half ≡ old.half
  pub used : old.used ≤ new.used
  pub stays : (class offset : ℕ) → IsUsedCell old.pages class offset → IsUsedCell new.pages class offset
  pub more : (offset : ℕ) → IsUsed new.pages offset
      → IsUsed old.pages offset ⊎ (cell_address new.layout new.mutator offset ≡ address)
  pub lies : LiesIn new address size

-- types, layout and bays are as before
pub record KeepsBays (old new : Memory) : Type 0 where
  pub types : new.types ≡ old.types
  pub layout : new.layout ≡ old.layout
  pub bays : (t : ℕ) → new.bay t ≡ old.bay t

-- types, layout and words are as before
pub record KeepsWords (old new : Memory) : Type 0 where
  pub types : new.types ≡ old.types
  pub layout : new.layout ≡ old.layout
  pub words : (a : ℕ) → new.word a ≡ old.word a
