-- The pages as a list: the page of a number, its class and its cells, and how many cells there are.
use Rattle.std.proofs.Common.{◌≡◌, ◌≢◌, ℕ, ◌<◌, ◌≤◌, true, false, not, Option, Some, List, length, get_or, set, ap, sym, ◌∙◌, ⊎_elim, arith, get_or-set_same, get_or-set_other}
use Rattle.std.specs.Prelude.{count_by, is_none}
use Rattle.std.proofs.lemmas.Bool.{cases_lt, both_ways, cond-true, cond-false, ltb-true}
use Rattle.std.proofs.lemmas.List.{length-set, get_or-set_same, get_or-set_other, get_or_read, get_or_past}
use Rattle.std.proofs.lemmas.List.Elements.{All-set, All-get_or, All-weaker}
use Rattle.std.proofs.lemmas.List.Sums.{sum_by-le, get_or-le-sum_by}
use Rattle.std.proofs.lemmas.List.Quantifiers.{position-Some}
use Rattle.gc_gen2.specs.Class.{IsClass, cells_in}
use Rattle.gc_gen2.specs.Page.{Page, IsWellFormedPage, free_page, is_free_page, used_in, free_in, first_free_in, is_used_in, has_room, empty_page, cells_of}
use Rattle.gc_gen2.specs.Cells.{IsWellFormed, page_at, used_cells, free_cells, first_page_with_room, class_at, page_for}
use Rattle.gc_gen2.proofs.PageLemmas.{used_in-le, free_in-le, free_in-same, class-from_room, first_free_in-is}

-- the page that stands now where another stood, and the other pages
pub page_at-set_same : (pages : List Page) (p : ℕ) (page : Page) → p < length pages → page_at (set pages p page) p ≡ page
page_at-set_same pages p page within = get_or-set_same pages p page free_page within

pub page_at-set_other : (pages : List Page) (p q : ℕ) (page : Page) → q ≢ p → page_at (set pages p page) q ≡ page_at pages q
page_at-set_other pages p q page apart = get_or-set_other pages p q page free_page apart

-- each page of well-formed ones is well-formed
pub page_at-well_formed : (pages : List Page) (p : ℕ) → IsWellFormed pages → p < length pages → IsWellFormedPage (page_at pages p)
page_at-well_formed pages p are within = All-get_or IsWellFormedPage pages p free_page within are.each

pub IsWellFormed-set : (pages : List Page) (p : ℕ) (page : Page) → IsWellFormed pages → IsWellFormedPage page
    → IsWellFormed (set pages p page)
IsWellFormed-set pages p page are is = record {
  some = omega (arith, are.some, length-set pages p page);
  few = omega (arith, are.few, length-set pages p page);
  each = All-set IsWellFormedPage pages p page is are.each;
}

-- the page that was read at an index
pub page_at-read : (pages : List Page) (i p : ℕ) (page : Page) → i ≡ p → p < length pages → page ≡ get_or pages i page
    → page ≡ page_at pages p
page_at-read pages i p page same within read =
    get_or_read pages i page (omega arith) read free_page ∙ ap (page_at pages) same

-- two classes of one page are one
pub same_class : (own : Option ℕ) (a b : ℕ) → own ≡ Some a → own ≡ Some b → a ≡ b
same_class own a b e f = let some : Some a ≡ Some b = sym e ∙ f in cc

-- a page of a class is there
pub page-within : (pages : List Page) (p class : ℕ) → class_at pages p ≡ Some class → p < length pages
page-within pages p class of =
    ⊎_elim
    (λ lt. lt)
    (λ past. absurd (both_ways (is_free_page (page_at pages p)) (ap is_none of) (ap is_free_page (get_or_past pages p free_page past))))
    (cases_lt p (length pages))

-- the class of a page is one, and the page has its cells
pub class-is : (pages : List Page) (p class : ℕ) → IsWellFormed pages → class_at pages p ≡ Some class → IsClass class
class-is pages p class are of =
    let page = page_at-well_formed pages p are (page-within pages p class of) in rw of at page.class

pub cells-there : (pages : List Page) (p class : ℕ) → IsWellFormed pages → class_at pages p ≡ Some class
    → length (page_at pages p).used ≡ cells_in class
cells-there pages p class are of =
    (page_at-well_formed pages p are (page-within pages p class of)).cells ∙ ap cells_of of

-- a page of a class is itself for the class, and a free page one with no used cell
pub page_for-same : (page : Page) (class own : ℕ) → page.class ≡ Some own → page_for page class ≡ page
page_for-same page class own of = cond-false (is_free_page page) (empty_page class) page (ap is_none of)

pub page_for-free : (page : Page) (class : ℕ) → is_free_page page ≡ true → page_for page class ≡ empty_page class
page_for-free page class free = cond-true (is_free_page page) (empty_page class) page free

-- what is known of the first page that has room for a class
pub record HasRoom (pages : List Page) (p own : ℕ) : Type 0 where
  pub within : p < length pages
  pub class : (page_at pages p).class ≡ Some own
  pub some : 0 < count_by not (page_at pages p).used
  pub cell : first_free_in (page_at pages p) < length (page_at pages p).used
  pub free : is_used_in (page_at pages p) (first_free_in (page_at pages p)) ≡ false

pub HasRoom-first : (pages : List Page) (p class : ℕ) → first_page_with_room pages class ≡ Some p → HasRoom pages p class
HasRoom-first pages p class first =
    let at = position-Some (λ page. has_room page class) pages p free_page first in
    let room : 0 < free_in (page_at pages p) class = ltb-true _ _ at.1 in
    let is = class-from_room (page_at pages p) class room in
    let some : 0 < count_by not (page_at pages p).used = omega (arith, free_in-same (page_at pages p) class is) in
    let cell = first_free_in-is (page_at pages p) some in
    record { within = at.0; class = is; some = some; cell = cell.0; free = cell.1 }

-- all pages have at most 32768 cells
pub used_cells-le : (pages : List Page) → IsWellFormed pages → used_cells pages ≤ 32768
used_cells-le pages are =
    omega (arith, are.few, sum_by-le used_in 256 pages (All-weaker IsWellFormedPage (λ page. used_in page ≤ 256) used_in-le pages are.each))

pub free_cells-le : (pages : List Page) (class : ℕ) → IsWellFormed pages → free_cells pages class ≤ 32768
free_cells-le pages class are =
    omega (
      arith,
      are.few,
      sum_by-le (λ page. free_in page class) 256 pages
          (All-weaker IsWellFormedPage (λ page. free_in page class ≤ 256) (λ page. free_in-le page class) pages are.each),
    )

-- a class with room has a free cell
pub free_cells-room : (pages : List Page) (p class : ℕ) → HasRoom pages p class → 1 ≤ free_cells pages class
free_cells-room pages p class room =
    omega (
      arith,
      room.some,
      free_in-same (page_at pages p) class room.class,
      get_or-le-sum_by (λ x. free_in x class) pages p free_page room.within,
    )
