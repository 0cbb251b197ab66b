-- What stands beside the pages, so that no call has to count or to search.
use Rattle.std.specs.Prelude.{◌≡◌, ℕ, ◌-◌, ◌^◌, ◌/◌, ◌<◌, ◌≤◌, true, false, if◌then◌else◌, List, length, slice_index}
use Rattle.std.specs.Int.{bit_at}
use Rattle.gc_gen2.specs.Class.{IsClass}
use Rattle.gc_gen2.specs.Page.{Page, is_free_page, has_room}
use Rattle.gc_gen2.specs.Cells.{IsWellFormed, page_at, used_cells, free_cells}

-- the pages that have a class come first, and there are so many of them
pub record AreInOrder (pages : List Page) (with_class : ℕ) : Type 0 where
  pub within : with_class ≤ length pages
  pub classed : (p : ℕ) → p < with_class → is_free_page (page_at pages p) ≡ false
  pub unclassed : (p : ℕ) → with_class ≤ p → is_free_page (page_at pages p) ≡ true

-- by class: the set of the pages that have room for it, a word of 128 bits, and the number of its free
-- cells; the number of all used cells; and the number of the pages that have a class
pub record IsSummary (pages : List Page) (room_sets free_counts : List ℕ) (used_count with_class : ℕ) : Type 0 where
  pub well_formed : IsWellFormed pages
  pub sixteen_sets : length room_sets ≡ 16
  pub fit : (i : ℕ) → slice_index room_sets i < 2 ^ 128
  pub rooms : (class : ℕ) → IsClass class → (p : ℕ) → p < 128
      → bit_at (slice_index room_sets (class / 4 - 1)) p ≡ (if has_room (page_at pages p) class then 1 else 0)
  pub sixteen_counts : length free_counts ≡ 16
  pub free : (class : ℕ) → IsClass class → slice_index free_counts (class / 4 - 1) ≡ free_cells pages class
  pub used : used_count ≡ used_cells pages
  pub in_order : AreInOrder pages with_class
