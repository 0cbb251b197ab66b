-- One page: its class, and which of its cells are used.
use Rattle.std.specs.Prelude.{◌≡◌, ℕ, Bool, true, false, not, nat_lt, ◌==◌, if◌then◌else◌, Option, Some, None, IfSome, is_none, List, [], length, replicate, slice_index_or, slice_set, count_by}
use Rattle.std.specs.Option.{option_map_or}
use Rattle.std.specs.List.{position_or_len}
use Rattle.gc_gen2.specs.Class.{IsClass, cells_in}

-- a page: the words of each of its cells, which none has until it is given a class, and of each cell, by
-- its number, whether it is used
pub record Page : Type 0 where
  pub class : Option ℕ
  pub used : List Bool

-- how many cells a page has by its class: none without one
abbrev pub cells_of : Option ℕ → ℕ
cells_of None = 0
cells_of (Some class) = cells_in class

-- what holds of every page: its class is one, and each of its cells is used or not
pub record IsWellFormedPage (page : Page) : Type 0 where
  pub class : IfSome page.class IsClass
  pub cells : length page.used ≡ cells_of page.class

-- a free page: it has no class yet
abbrev pub free_page : Page
free_page = record { class = None; used = [] }

-- whether a page is free
abbrev pub is_free_page : Page → Bool
is_free_page page = is_none page.class

-- a page that was just given a class: none of its cells is used
abbrev pub empty_page : ℕ → Page
empty_page class = record { class = Some class; used = replicate (cells_in class) false }

-- whether a page is of a class
abbrev pub has_class : Page → ℕ → Bool
has_class page class = option_map_or (λ own. own == class) page.class false

-- whether the cell of a number is used
abbrev pub is_used_in : Page → ℕ → Bool
is_used_in page number = slice_index_or page.used number false

-- how many of a page's cells are used
abbrev pub used_in : Page → ℕ
used_in page = count_by (λ used. used) page.used

-- how many cells of a class are free in a page: none where it isn't of the class
abbrev pub free_in : Page → ℕ → ℕ
free_in page class = if has_class page class then count_by not page.used else 0

-- whether a page has room for a class: a free cell of it
abbrev pub has_room : Page → ℕ → Bool
has_room page class = nat_lt 0 (free_in page class)

-- the number of a page's first free cell
abbrev pub first_free_in : Page → ℕ
first_free_in page = position_or_len not page.used

-- the page where the cell of a number is used now, or free now
abbrev pub with_used : Page → ℕ → Page
with_used page number = record { class = page.class; used = slice_set page.used number true }

abbrev pub with_free : Page → ℕ → Page
with_free page number = record { class = page.class; used = slice_set page.used number false }
