-- The pages as a whole, and their cells by offset: a cell is named by its page * 1024 + its number * class.
use Rattle.std.specs.Prelude.{◌≡◌, ◌≢◌, ◌↔◌, ◌⊎◌, ℕ, ◌+◌, ◌*◌, ◌/◌, ◌%◌, ◌<◌, ◌≤◌, true, false, if◌then◌else◌, Option, Some, None, option_map, List, length, All, slice_index_or, slice_set, sum_by, count_by, position}
use Rattle.std.specs.Option.{option_or}
use Rattle.gc_gen2.specs.Class.{cells_in}
use Rattle.gc_gen2.specs.Page.{Page, IsWellFormedPage, free_page, is_free_page, empty_page, is_used_in, used_in, free_in, has_room, first_free_in, with_used, with_free}

-- what holds of all pages: there are 1 to 128, and each is well-formed
pub record IsWellFormed (pages : List Page) : Type 0 where
  pub some : 1 ≤ length pages
  pub few : length pages ≤ 128
  pub each : All IsWellFormedPage pages

-- the page of a number, and its class
abbrev pub page_at : List Page → ℕ → Page
page_at pages p = slice_index_or pages p free_page

abbrev pub class_at : List Page → ℕ → Option ℕ
class_at pages p = (page_at pages p).class

-- the name of a cell, its offset, from its class, page and number
abbrev pub offset_of : ℕ → ℕ → ℕ → ℕ
offset_of class p number = p * 1024 + number * class

-- the number of a cell in its page, from the page's class and the cell's offset
abbrev pub number_of : Option ℕ → ℕ → ℕ
number_of None offset = 0
number_of (Some class) offset = offset % 1024 / class

-- an offset names a cell of a class: its page is of the class, and the cell begins there and is one of the page's
pub record IsCell (pages : List Page) (class offset : ℕ) : Type 0 where
  pub page : class_at pages (offset / 1024) ≡ Some class
  pub start : offset % 1024 % class ≡ 0
  pub inside : offset % 1024 / class < cells_in class

-- an offset names a used cell of a class, or a free one
pub record IsUsedCell (pages : List Page) (class offset : ℕ) : Type 0 where
  pub cell : IsCell pages class offset
  pub used : is_used_in (page_at pages (offset / 1024)) (offset % 1024 / class) ≡ true

pub record IsFreeCell (pages : List Page) (class offset : ℕ) : Type 0 where
  pub cell : IsCell pages class offset
  pub free : is_used_in (page_at pages (offset / 1024)) (offset % 1024 / class) ≡ false

-- an offset names a used cell, of the class of its page
abbrev pub IsUsed : List Page → ℕ → Type 0
IsUsed pages offset = (class : ℕ) × IsUsedCell pages class offset

-- how many cells are used, how many of a class are free in its pages, and how many pages have no class
abbrev pub used_cells : List Page → ℕ
used_cells pages = sum_by used_in pages

abbrev pub free_cells : List Page → ℕ → ℕ
free_cells pages class = sum_by (λ page. free_in page class) pages

abbrev pub free_pages : List Page → ℕ
free_pages pages = count_by is_free_page pages

-- the first page that has room for a class, and the first page without class
abbrev pub first_page_with_room : List Page → ℕ → Option ℕ
first_page_with_room pages class = position (λ page. has_room page class) pages

abbrev pub first_free_page : List Page → Option ℕ
first_free_page pages = position is_free_page pages

-- the free cell of a class with the least offset
abbrev pub first_free_cell : List Page → ℕ → Option ℕ
first_free_cell pages class =
    option_map (λ p. offset_of class p (first_free_in (page_at pages p))) (first_page_with_room pages class)

-- the cell that a class is given next: its free cell with the least offset, or else the first cell of the first
-- page without class
abbrev pub next_cell : List Page → ℕ → Option ℕ
next_cell pages class =
    option_or (first_free_cell pages class) (option_map (λ p. offset_of class p 0) (first_free_page pages))

-- the page as one of a class: itself, or where it has no class, as it was just given this one
abbrev pub page_for : Page → ℕ → Page
page_for page class = if is_free_page page then empty_page class else page

-- the pages where the cell of a class at an offset is used now; its page is given the class with its first cell
abbrev pub with_cell : List Page → ℕ → ℕ → List Page
with_cell pages class offset =
    slice_set pages (offset / 1024) (with_used (page_for (page_at pages (offset / 1024)) class) (offset % 1024 / class))

-- the pages where the cell at an offset is free now; its page keeps its class
abbrev pub without_cell : List Page → ℕ → List Page
without_cell pages offset =
    slice_set pages (offset / 1024)
    (with_free (page_at pages (offset / 1024)) (number_of (class_at pages (offset / 1024)) offset))

-- what it is to take a cell of a class: it wasn't used and now it is, no other cell changes, no free cell of the
-- class had a lesser offset, it lies in one of the pages and ends inside it, and it has no word of another used cell
pub record TakesCell (old new : List Page) (class offset : ℕ) : Type 0 where
  pub unused : ¬ IsUsed old offset
  pub used : IsUsedCell new class offset
  pub others : (own other : ℕ) → other ≢ offset → IsUsedCell new own other ↔ IsUsedCell old own other
  pub least : (other : ℕ) → IsFreeCell old class other → offset ≤ other
  pub within : offset / 1024 < length old
  pub inside : offset % 1024 + class ≤ 1024
  pub apart : (own other : ℕ) → IsUsedCell old own other → (offset + class ≤ other) ⊎ (other + own ≤ offset)
  pub count : used_cells new ≡ used_cells old + 1

-- what it is to give a cell back: it isn't used any more, no other cell changes, and every page keeps its class
pub record GivesCell (old new : List Page) (offset : ℕ) : Type 0 where
  pub unused : ¬ IsUsed new offset
  pub others : (own other : ℕ) → other ≢ offset → IsUsedCell new own other ↔ IsUsedCell old own other
  pub classes : (p : ℕ) → class_at new p ≡ class_at old p
  pub count : used_cells new + 1 ≡ used_cells old
