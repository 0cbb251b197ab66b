-- A full collection as a whole: what it does to a memory.
use Rattle.std.specs.Prelude.{◌≡◌, ◌↔◌, ℕ, ◌+◌, ◌<◌, true, Some, IfSome}
use Rattle.gc_bay.specs.Bay.{Bay}
use Rattle.gc_gen2.specs.Cells.{IsFreeCell, IsUsedCell, free_pages}
use Rattle.gc_gen2.specs.Class.{class_of}
use Rattle.gc_layout.specs.Places.{Layout}
use Rattle.gc_model.specs.Graph.{Graph, object_at, object_size}
use Rattle.gc_model.specs.Reach.{is_reachable}
use Rattle.gc_model.specs.World.{World}
use Rattle.gc_placement.specs.Extents.{IsInAPage, home_of}
use Rattle.gc_placement.specs.Flipped.{AreFlipped}
use Rattle.gc_placement.specs.Headers.{head_of}
use Rattle.gc_placement.specs.Memory.{Memory}
use Rattle.gc_placement.specs.Minor.{was_promoted, was_young_and_kept}
use Rattle.gc_placement.specs.Placement.{IsPlaced, Placement}
use Rattle.gc_placement.specs.Rest.{IsAtRest}
use Rattle.gc_placement.specs.Sums.{own_words_where}
use Rattle.gc_placement.specs.UnderWay.{all_begun}

-- what lay in a page stays where it is, or isn't placed any more
abbrev pub StaysOrGoes : Layout → Placement → Placement → Type 0
StaysOrGoes layout before after =
    (number address : ℕ) → before number ≡ Some address → IsInAPage layout address → IfSome (after number) (λ place. place ≡ address)

-- each page has a class, and no cell of the class of a size is free but those that were used before and were given back
pub record HasNoNewCell (old new : Bay) (size : ℕ) : Type 0 where
  pub cells : (offset : ℕ) → IsFreeCell new.pages (class_of size) offset → IsUsedCell old.pages (class_of size) offset
  pub pages : free_pages new.pages ≡ 0

-- who is promoted by a full collection: as by a minor one, but that cells are given back after it
pub record ArePromotedByFull (layout : Layout) (old_word word : ℕ → ℕ) (old new : ℕ → Bay) (before after : Placement) (graph : Graph)
    : Type 0 where
  pub seen : (number address copy : ℕ) → before number ≡ Some address → ¬ IsInAPage layout address → after number ≡ Some copy
      → IsInAPage layout copy → (head_of (old_word address)).seen ≡ true
  pub no_cell : (number address copy : ℕ) → before number ≡ Some address → ¬ IsInAPage layout address → after number ≡ Some copy
      → ¬ IsInAPage layout copy → (head_of (old_word address)).seen ≡ true
      → HasNoNewCell (old (home_of (object_at graph number).maker)) (new (home_of (object_at graph number).maker))
      (object_size (object_at graph number))
  pub survived : (number copy : ℕ) → after number ≡ Some copy → ¬ IsInAPage layout copy → (head_of (word copy)).seen ≡ true

-- what a full collection does to a memory that shows a world: it keeps the world; the placed objects are exactly the
-- reachable ones, and the used cells hold exactly those of them that are old, where they were; the words that are used
-- afterwards in the half of a mutator, and those of the objects that were promoted, are together those of the kept
pub record IsFullCollection (old new : Memory) (before after : Placement) (world : World) : Type 0 where
  pub rest : IsAtRest new after world
  pub flipped : AreFlipped old.layout.mutators all_begun old.bay new.bay
  pub only : (number : ℕ) → IsPlaced after number → IsPlaced before number
  pub stays : StaysOrGoes old.layout before after
  pub reached : (number : ℕ) → IsPlaced after number ↔ (is_reachable world number ≡ true)
  pub sums : (t : ℕ) → t < old.layout.mutators
      → (new.bay t).used + own_words_where (was_promoted old before after) world.graph t
      ≡ own_words_where (was_young_and_kept old before after) world.graph t
  pub promoted : ArePromotedByFull old.layout old.word new.word old.bay new.bay before after world.graph
