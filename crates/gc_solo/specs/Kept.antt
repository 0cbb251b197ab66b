-- What a heap of one thread keeps, and how it shows a world.
use Rattle.std.specs.Prelude.{◌≡◌, ℕ, ◌+◌, ◌<◌, List, length, slice_index, slice_index_or, Bool, false}
use Rattle.gc_bay.specs.Bay.{Bay, fresh_bay}
use Rattle.gc_layout.specs.declared.shape.Shape.{Shape}
use Rattle.gc_layout.specs.Places.{Layout, word_count}
use Rattle.gc_model.specs.declared.entry.RunReport.{RunReport}
use Rattle.gc_model.specs.World.{World, is_blocked}
use Rattle.gc_placement.specs.Memory.{Memory}
use Rattle.gc_placement.specs.Rest.{IsAtRest}
use Rattle.gc_placement.specs.Placement.{Placement}
use Rattle.gc_solo.specs.declared.heap.Heap.{Heap}

-- the most mutators
abbrev pub most_mutators : ℕ
most_mutators = 8

-- the types, the layout, the words by their addresses, the bay of each mutator, who is blocked, the reports of the
-- collections so far, for how many more there is room, and whether the next one that a New brings is full
pub record Kept : Type 0 where
  pub types : List Shape
  pub layout : Layout
  pub words : List ℕ
  pub bays : List Bay
  pub blocked : List Bool
  pub reports : List RunReport
  pub room : ℕ
  pub due : Bool

-- a bay where there is none
abbrev pub no_bay : Bay
no_bay = fresh_bay (record { mutators = 0; nursery = 0; pages = 0 }) 0

-- the bay of a mutator
abbrev pub bay_at : List Bay → ℕ → Bay
bay_at bays t = slice_index_or bays t no_bay

-- the memory that the words and bays are
abbrev pub memory_of : Kept → Memory
memory_of kept =
    record { types = kept.types; layout = kept.layout; word = λ a. slice_index kept.words a; bay = λ t. bay_at kept.bays t }

-- the words and bays are at rest and show the world by the placement, there is a word for each address and a bay for each
-- mutator, and those are blocked that are blocked in the world
pub record ShowsBy (kept : Kept) (placement : Placement) (world : World) : Type 0 where
  pub rest : IsAtRest (memory_of kept) placement world
  pub words : length kept.words ≡ 1 + word_count kept.layout
  pub bays : length kept.bays ≡ kept.layout.mutators
  pub eight : length kept.blocked ≡ most_mutators
  pub blocked : (t : ℕ) → t < kept.layout.mutators → slice_index_or kept.blocked t false ≡ is_blocked world t

-- types and layout are as before
pub record IsSameHeap (old new : Kept) : Type 0 where
  pub types : new.types ≡ old.types
  pub layout : new.layout ≡ old.layout

-- types, layout and reports are as before
pub record Stays (old new : Kept) : Type 0 where
  pub types : new.types ≡ old.types
  pub layout : new.layout ≡ old.layout
  pub reports : new.reports ≡ old.reports
  pub room : new.room ≡ old.room
  pub due : new.due ≡ old.due

-- what the fields of a heap keep
abbrev pub kept_of : Heap → Kept
kept_of heap =
    record {
      types = heap.types;
      layout = heap.places;
      words = heap.words.items;
      bays = heap.bays.items;
      blocked = heap.blocked;
      reports = heap.book.reports;
      room = heap.book.room;
      due = heap.due;
    }
