-- Who is promoted: an object that survives a second time goes into a page, where there is a cell for it.
use Rattle.std.specs.Prelude.{◌≡◌, ℕ, Some, true}
use Rattle.gc_bay.specs.Bay.{Bay}
use Rattle.gc_gen2.specs.Cells.{free_cells, free_pages}
use Rattle.gc_gen2.specs.Class.{class_of}
use Rattle.gc_layout.specs.Places.{Layout}
use Rattle.gc_model.specs.Graph.{Graph, object_at, object_size}
use Rattle.gc_placement.specs.Extents.{IsInAPage, home_of}
use Rattle.gc_placement.specs.Headers.{head_of}
use Rattle.gc_placement.specs.Placement.{Placement}

-- no cell of the class of a size is free, and each page has a class
pub record HasNoCell (bay : Bay) (size : ℕ) : Type 0 where
  pub cells : free_cells bay.pages (class_of size) ≡ 0
  pub pages : free_pages bay.pages ≡ 0

-- an object that lay in a half lies in a page only where it had the bit seen; one that had it lies in a half only where
-- its maker has no cell for it; and each that lies in a half has the bit
pub record ArePromoted (layout : Layout) (old_word word : ℕ → ℕ) (bay : ℕ → Bay) (before after : Placement) (graph : Graph)
    : Type 0 where
  pub seen : (number address copy : ℕ) → before number ≡ Some address → ¬ IsInAPage layout address → after number ≡ Some copy
      → IsInAPage layout copy → (head_of (old_word address)).seen ≡ true
  pub no_cell : (number address copy : ℕ) → before number ≡ Some address → ¬ IsInAPage layout address → after number ≡ Some copy
      → ¬ IsInAPage layout copy → (head_of (old_word address)).seen ≡ true
      → HasNoCell (bay (home_of (object_at graph number).maker)) (object_size (object_at graph number))
  pub survived : (number copy : ℕ) → after number ≡ Some copy → ¬ IsInAPage layout copy → (head_of (word copy)).seen ≡ true

-- what was promoted is remembered, until its slots are looked at again
abbrev pub PromotedAreRemembered : Layout → (ℕ → ℕ) → Placement → Placement → Type 0
PromotedAreRemembered layout word before after =
    (number address copy : ℕ) → before number ≡ Some address → ¬ IsInAPage layout address → after number ≡ Some copy
    → IsInAPage layout copy → (head_of (word copy)).remembered ≡ true
