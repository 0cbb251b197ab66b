-- The laws of the next cell of a class: which it is, and what it does to the pages to take it.
use Rattle.std.proofs.Common.{◌≡◌, ◌≢◌, ℕ, ◌+◌, ◌*◌, ◌/◌, ◌%◌, ◌<◌, ◌≤◌, true, false, not, cond, Option, Some, None, List, length, get_or, set, ap, sym, ◌∙◌, refl, ⊎_elim, arith, ◌↔◌, replicate, subst, get_or-set_same}
use Rattle.std.specs.Prelude.{is_none, is_some, option_map}
use Rattle.std.proofs.lemmas.Bool.{cases_lt, both_ways, lt-ltb, cases_order, not-false, true≢false}
use Rattle.std.proofs.lemmas.List.{get_or-set_same, get_or_past, get_or-replicate, length-replicate}
use Rattle.std.proofs.lemmas.List.Sums.{sum_by-set, get_or-le-sum_by, fails_before_first}
use Rattle.std.proofs.lemmas.List.Quantifiers.{position-Some}
use Rattle.gc_gen2.specs.Class.{IsClass, cells_in}
use Rattle.gc_gen2.specs.Page.{Page, IsWellFormedPage, free_page, is_free_page, used_in, free_in, first_free_in, is_used_in, has_room, empty_page, with_used, cells_of}
use Rattle.gc_gen2.specs.Cells.{IsWellFormed, page_at, first_free_page, first_page_with_room, class_at, offset_of, IsUsedCell, IsFreeCell, IsUsed, next_cell, page_for, with_cell, TakesCell}
use Rattle.gc_gen2.proofs.CellLaws.{start-is, cells-apart, HasUsed, SameButCell, others-from, SameButCell-mark}
use Rattle.gc_gen2.proofs.ClassLemmas.{cells_in-ge, cell-inside}
use Rattle.gc_gen2.proofs.ListLemmas.{none-fails}
use Rattle.gc_gen2.proofs.PageLemmas.{free_in-same, used_in-with_used, used_in-empty, used_in-none, class-from_free, IsWellFormedPage-empty, IsWellFormedPage-with_used}
use Rattle.gc_gen2.proofs.PagesLemmas.{page_at-set_same, page_at-well_formed, IsWellFormed-set, same_class, page-within, cells-there, page_for-same, page_for-free, HasRoom-first}
use Rattle.std.specs.Option.{option_or}
use Rattle.std.proofs.lemmas.Nat.{div-mul-add, mod-mul-add, mul-le}

-- the cell of a number in a page
pub offset-page : (class p n : ℕ) → n * class + class ≤ 1024 → 0 < class → offset_of class p n / 1024 ≡ p
offset-page class p n ends some = div-mul-add p 1024 (n * class) (omega arith)

pub offset-start : (class p n : ℕ) → n * class + class ≤ 1024 → 0 < class → offset_of class p n % 1024 ≡ n * class
offset-start class p n ends some = mod-mul-add p 1024 (n * class) (omega arith)

number-is : (class n : ℕ) → 0 < class → n * class / class ≡ n
number-is class n some = let at : n * class ≡ n * class + 0 = omega arith in ap (λ x. x / class) at ∙ div-mul-add n class 0 some

number-starts : (class n : ℕ) → 0 < class → n * class % class ≡ 0
number-starts class n some = let at : n * class ≡ n * class + 0 = omega arith in ap (λ x. x % class) at ∙ mod-mul-add n class 0 some

-- the cell that a class gets next, by its page and number: the page is of the class and the cell is free, or the
-- page is free and the cell is its first
pub record IsNextCell (pages : List Page) (class offset p n : ℕ) : Type 0 where
  pub within : p < length pages
  pub cell : n < cells_in class
  pub at : offset ≡ offset_of class p n
  pub page : IsWellFormedPage (page_for (page_at pages p) class)
  pub of : (page_for (page_at pages p) class).class ≡ Some class
  pub free : is_used_in (page_for (page_at pages p) class) n ≡ false
  pub same : (own other : ℕ) → HasUsed (page_for (page_at pages p) class) own other ↔ HasUsed (page_at pages p) own other
  pub count : used_in (page_for (page_at pages p) class) ≡ used_in (page_at pages p)
  pub least : (other : ℕ) → IsFreeCell pages class other → offset ≤ other

no_used : (class own other : ℕ) → HasUsed (empty_page class) own other → ⊥
no_used class own other has =
    ⊎_elim
    (λ lt. both_ways _ (get_or-replicate (cells_in class) other false false lt) has.1)
    (λ le.
    let past = get_or_past (replicate (cells_in class) false) other false (omega (arith, length-replicate (cells_in class) false)) in
    both_ways _ past has.1)
    (cases_lt other (cells_in class))

no_used_free : (page : Page) (own other : ℕ) → is_free_page page ≡ true → HasUsed page own other → ⊥
no_used_free page own other free has = both_ways (is_free_page page) (ap is_none has.0) free

-- a free cell makes room in its page
free-room : (pages : List Page) (class offset : ℕ) → IsWellFormed pages → IsFreeCell pages class offset
    → has_room (page_at pages (offset / 1024)) class ≡ true
free-room pages class offset are free =
    let page = page_at pages (offset / 1024) in
    let n = offset % 1024 / class in
    let cell : n < length page.used = omega (arith, free.cell.inside, cells-there pages (offset / 1024) class are free.cell.page) in
    let one : cond {A = ℕ} (not (is_used_in page n)) 1 0 ≡ 1 = ap {B = ℕ} (λ b. cond (not b) 1 0) free.free in
    lt-ltb 0 (free_in page class)
    (omega (arith, free_in-same page class free.cell.page, get_or-le-sum_by (λ used. cond (not used) 1 0) page.used n false cell))

-- the first free cell of the first page with room
pub IsNextCell-room : (pages : List Page) (class p : ℕ) → IsWellFormed pages → first_page_with_room pages class ≡ Some p
    → IsNextCell pages class (offset_of class p (first_free_in (page_at pages p))) p (first_free_in (page_at pages p))
IsNextCell-room pages class p are first =
    let room = HasRoom-first pages p class first in
    let page = page_at pages p in
    let n = first_free_in page in
    let itself = page_for-same page class class room.class in
    record {
      within = room.within;
      cell = omega (arith, room.cell, cells-there pages p class are room.class);
      at = refl;
      page = rw itself (page_at-well_formed pages p are room.within);
      of = rw itself room.class;
      free = rw itself room.free;
      same = λ own other. rw itself ((λ has. has), λ has. has);
      count = rw itself refl;
      least = λ other free.
          let q = other / 1024 in
          let m = other % 1024 / class in
          let start = start-is pages class other free.cell in
          ⊎_elim
          (λ here.
          let was : is_used_in page m ≡ false = ap (λ k. is_used_in (page_at pages k) m) (sym here) ∙ free.free in
          let after : n ≤ m = ⊎_elim
          (λ lt. absurd (both_ways _ was (not-false (is_used_in page m) (fails_before_first not page.used m false lt))))
          (λ le. le)
          (cases_lt m n)
          in
          omega (arith, mul-le n class m class after (omega arith)))
          (λ order.
          ⊎_elim
          (λ before.
          let full = (position-Some (λ x. has_room x class) pages p free_page first).2 q before in
          absurd (both_ways _ full (free-room pages class other are free)))
          (λ after. omega (arith, cell-inside class n (omega (arith, room.cell, cells-there pages p class are room.class))))
          order)
          (cases_order q p);
    }

-- the first cell of the first page without class, where no page has room
pub IsNextCell-fresh : (pages : List Page) (class p : ℕ) → IsWellFormed pages → IsClass class → first_page_with_room pages class ≡ None
    → first_free_page pages ≡ Some p → IsNextCell pages class (offset_of class p 0) p 0
IsNextCell-fresh pages class p are is none first =
    let at = position-Some is_free_page pages p free_page first in
    let page = page_at pages p in
    let given = page_for-free page class at.1 in
    record {
      within = at.0;
      cell = omega (arith, cells_in-ge class is);
      at = refl;
      page = rw given (IsWellFormedPage-empty class is);
      of = rw given refl;
      free = rw given (get_or-replicate (cells_in class) 0 false false (omega (arith, cells_in-ge class is)));
      same = λ own other. rw given ((λ has. absurd (no_used class own other has)), λ has. absurd (no_used_free page own other at.1 has));
      count = rw given
          (used_in-empty class ∙ sym (used_in-none page (class-from_free page.class at.1) (page_at-well_formed pages p are at.0)));
      least = λ other free.
          absurd
          (both_ways _
          (none-fails (λ x. has_room x class) pages free_page none (other / 1024) (page-within pages (other / 1024) class free.cell.page))
          (free-room pages class other are free));
    }

-- the pages where that cell is used, by its page and number
pub with_cell-is : (pages : List Page) (class offset p n : ℕ) → IsClass class → IsNextCell pages class offset p n
    → with_cell pages class offset ≡ set pages p (with_used (page_for (page_at pages p) class) n)
with_cell-is pages class offset p n is it =
    let ends = cell-inside class n it.cell in
    let page : offset / 1024 ≡ p = ap (λ o. o / 1024) it.at ∙ offset-page class p n ends (omega (arith, is.some)) in
    let number : offset % 1024 / class ≡ n =
    ap (λ o. o % 1024 / class) it.at
    ∙ ap (λ s. s / class) (offset-start class p n ends (omega (arith, is.some)))
    ∙ number-is class n (omega (arith, is.some)) in
    ap (λ q. set pages q (with_used (page_for (page_at pages q) class) (offset % 1024 / class))) page
    ∙ ap (λ m. set pages p (with_used (page_for (page_at pages p) class) m)) number

-- that is what it is to take a cell
pub TakesCell-at : (pages : List Page) (class offset p n : ℕ) → IsClass class → IsNextCell pages class offset p n
    → TakesCell pages (set pages p (with_used (page_for (page_at pages p) class) n)) class offset
TakesCell-at pages class offset p n is it =
    let page = page_for (page_at pages p) class in
    let new = set pages p (with_used page n) in
    let ends = cell-inside class n it.cell in
    let some : 0 < class = omega (arith, is.some) in
    let at : offset / 1024 ≡ p = ap (λ o. o / 1024) it.at ∙ offset-page class p n ends some in
    let start : offset % 1024 ≡ n * class = ap (λ o. o % 1024) it.at ∙ offset-start class p n ends some in
    let number : offset % 1024 / class ≡ n = ap (λ s. s / class) start ∙ number-is class n some in
    let begins : offset % 1024 % class ≡ 0 = ap (λ s. s % class) start ∙ number-starts class n some in
    let long : length page.used ≡ cells_in class = it.page.cells ∙ ap cells_of it.of in
    let now : page_at new p ≡ with_used page n = page_at-set_same pages p (with_used page n) it.within in
    let mark : get_or (set page.used n true) n false ≡ true = get_or-set_same page.used n true false (omega (arith, long, it.cell)) in
    let used : IsUsedCell new class offset = record {
      cell = record {
        page = ap (class_at new) at ∙ ap (λ (x : Page). x.class) now ∙ it.of;
        start = begins;
        inside = omega (arith, number, it.cell);
      };
      used = ap (λ q. is_used_in (page_at new q) (offset % 1024 / class)) at
          ∙ ap (is_used_in (page_at new p)) number
          ∙ ap (λ x. is_used_in x n) now
          ∙ mark;
    }
    in
    let unused : ¬ IsUsed pages offset = λ was.
    let has =
    (it.same was.0 (offset % 1024 / was.0)).1 (
      ap (class_at pages) (sym at) ∙ was.1.cell.page,
      ap (λ q. is_used_in (page_at pages q) (offset % 1024 / was.0)) (sym at) ∙ was.1.used,
    )
    in
    let one : was.0 ≡ class = same_class page.class was.0 class has.0 it.of in
    both_ways _ it.free (ap (is_used_in page) (sym (ap (λ c. offset % 1024 / c) one ∙ number)) ∙ has.1)
    in
    let same : SameButCell (page_at pages p) (with_used page n) class n = λ own other apart.
    let marked = SameButCell-mark page class n true it.of own other apart in
    ((λ has. (it.same own other).0 (marked.0 has)), λ has. marked.1 ((it.same own other).1 has))
    in
    let others : (own other : ℕ) → other ≢ offset → IsUsedCell new own other ↔ IsUsedCell pages own other =
    let rows : SameButCell (page_at pages (offset / 1024)) (with_used page n) class (offset % 1024 / class) = rw (at, number) same in
    let within : offset / 1024 < length pages = omega (arith, at, it.within) in
    let from = others-from pages class offset (with_used page n) within begins rows in
    let P : ℕ → Type 0 =
    λ q. (own other : ℕ) → other ≢ offset → IsUsedCell (set pages q (with_used page n)) own other ↔ IsUsedCell pages own other in
    subst P at from
    in
    record {
      unused = unused;
      used = used;
      others = others;
      least = it.least;
      within = omega (arith, at, it.within);
      inside = omega (arith, start, ends);
      apart = λ own other was.
          let there = (others own other (λ e. unused (own, rw e at was))).1 was in
          cells-apart new class own offset other used.cell there.cell (λ e. unused (own, rw (sym e) at was));
      count = omega (
        arith,
        sum_by-set used_in pages p (with_used page n) free_page it.within,
        used_in-with_used page n (omega (arith, long, it.cell)) it.free,
        it.count,
      );
    }

-- which cell is the next
pub next-room : (pages : List Page) (class p : ℕ) → first_page_with_room pages class ≡ Some p
    → next_cell pages class ≡ Some (offset_of class p (first_free_in (page_at pages p)))
next-room pages class p room =
    ap
    (λ o. option_or (option_map (λ q. offset_of class q (first_free_in (page_at pages q))) o)
    (option_map (λ q. offset_of class q 0) (first_free_page pages)))
    room

pub next-fresh : (pages : List Page) (class : ℕ) (first : Option ℕ) → first_page_with_room pages class ≡ None
    → first_free_page pages ≡ first → next_cell pages class ≡ option_map (λ q. offset_of class q 0) first
next-fresh pages class first none fresh =
    ap
    (λ o. option_or (option_map (λ q. offset_of class q (first_free_in (page_at pages q))) o)
    (option_map (λ q. offset_of class q 0) (first_free_page pages)))
    none
    ∙ ap (option_map (λ q. offset_of class q 0)) fresh

-- the next cell by its page and number
same_cell : (a b : ℕ) (o : Option ℕ) → o ≡ Some a → o ≡ Some b → a ≡ b
same_cell a b o e f = let some : Some a ≡ Some b = sym e ∙ f in cc

IsNextCell-from : (pages : List Page) (class offset : ℕ) (room first : Option ℕ) → IsWellFormed pages → IsClass class
    → first_page_with_room pages class ≡ room → first_free_page pages ≡ first → next_cell pages class ≡ Some offset
    → (p : ℕ) × (n : ℕ) × IsNextCell pages class offset p n
IsNextCell-from pages class offset (Some p) first are is room free next =
    let same = same_cell _ offset (next_cell pages class) (next-room pages class p room) next in
    (p, first_free_in (page_at pages p), rw (sym same) (IsNextCell-room pages class p are room))
IsNextCell-from pages class offset None (Some p) are is room free next =
    let same = same_cell _ offset (next_cell pages class) (next-fresh pages class (Some p) room free) next in
    (p, 0, rw (sym same) (IsNextCell-fresh pages class p are is room free))
IsNextCell-from pages class offset None None are is room free next =
    let none = sym next ∙ next-fresh pages class None room free in absurd (true≢false (ap is_some none))

-- to use the next cell is to take a cell
pub TakesCell-next : (pages : List Page) (class offset : ℕ) → IsWellFormed pages → IsClass class → next_cell pages class ≡ Some offset
    → TakesCell pages (with_cell pages class offset) class offset
TakesCell-next pages class offset are is next =
    let next_is = IsNextCell-from pages class offset (first_page_with_room pages class) (first_free_page pages) are is refl refl next in
    rw (with_cell-is pages class offset next_is.0 next_is.1 is next_is.2) (TakesCell-at pages class offset next_is.0 next_is.1 is next_is.2)

-- the pages stay well-formed
pub IsWellFormed-with_cell : (pages : List Page) (class offset : ℕ) → IsWellFormed pages → IsClass class
    → next_cell pages class ≡ Some offset → IsWellFormed (with_cell pages class offset)
IsWellFormed-with_cell pages class offset are is next =
    let next_is = IsNextCell-from pages class offset (first_page_with_room pages class) (first_free_page pages) are is refl refl next in
    rw (with_cell-is pages class offset next_is.0 next_is.1 is next_is.2)
    (IsWellFormed-set pages next_is.0 _ are (IsWellFormedPage-with_used _ next_is.1 next_is.2.page))
