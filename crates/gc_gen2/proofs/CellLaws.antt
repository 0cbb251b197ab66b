-- The laws of cells: two cells are apart, and what it does to the pages to give a cell back.
use Rattle.std.proofs.Common.{◌≡◌, ◌≢◌, ◌⊎◌, inl, inr, ℕ, ◌+◌, ◌*◌, ◌/◌, ◌%◌, ◌<◌, ◌≤◌, Bool, true, false, Some, List, length, get_or, set, ap, sym, ◌∙◌, ⊎_elim, arith, ◌↔◌, get_or-set_same, get_or-set_other}
use Rattle.std.proofs.lemmas.Bool.{cases_eq, both_ways, cases_order}
use Rattle.std.proofs.lemmas.List.{get_or-set_same, get_or-set_other}
use Rattle.std.proofs.lemmas.List.Sums.{sum_by-set}
use Rattle.gc_gen2.specs.Page.{Page, free_page, used_in, is_used_in, with_free}
use Rattle.gc_gen2.specs.Cells.{IsWellFormed, page_at, class_at, number_of, IsCell, IsUsedCell, IsUsed, without_cell, GivesCell}
use Rattle.gc_gen2.proofs.ClassLemmas.{cell-inside}
use Rattle.gc_gen2.proofs.PageLemmas.{used_in-with_free, IsWellFormedPage-with_free}
use Rattle.gc_gen2.proofs.PagesLemmas.{page_at-set_same, page_at-set_other, page_at-well_formed, IsWellFormed-set, same_class, page-within, cells-there}
use Rattle.std.proofs.lemmas.Nat.{div-add-mod', mul-le}

-- ---- cells are apart

-- a cell begins at a multiple of its class
pub start-is : (pages : List Page) (class offset : ℕ) → IsCell pages class offset → offset % 1024 ≡ offset % 1024 / class * class
start-is pages class offset cell = omega (arith, div-add-mod' (offset % 1024) class, cell.start)

-- and ends inside its page
pub cell-ends : (pages : List Page) (class offset : ℕ) → IsCell pages class offset → offset % 1024 + class ≤ 1024
cell-ends pages class offset cell =
    omega (arith, start-is pages class offset cell, cell-inside class (offset % 1024 / class) cell.inside)

-- of two cells of one page the one with the lesser number ends before the other
in_one_page : (class a b : ℕ) → a < b → a * class + class ≤ b * class
in_one_page class a b lt = omega (arith, mul-le (a + 1) class b class (omega arith) (omega arith))

-- two cells at different offsets have no word in common
pub cells-apart : (pages : List Page) (c d a b : ℕ) → IsCell pages c a → IsCell pages d b → a ≢ b → (a + c ≤ b) ⊎ (b + d ≤ a)
cells-apart pages c d a b one other apart =
    ⊎_elim
    (λ same.
    let class : d ≡ c = same_class (class_at pages (b / 1024)) d c other.page (ap (class_at pages) (sym same) ∙ one.page) in
    let there : b % 1024 ≡ b % 1024 / c * c = start-is pages d b other ∙ ap (λ x. b % 1024 / x * x) class in
    let here = start-is pages c a one in
    ⊎_elim
    (λ e. let at : a % 1024 ≡ b % 1024 = here ∙ ap (λ n. n * c) e ∙ sym there in absurd (apart (omega arith)))
    (λ order.
    ⊎_elim
    (λ lt. inl (omega (arith, in_one_page c (a % 1024 / c) (b % 1024 / c) lt)))
    (λ gt. inr (omega (arith, in_one_page c (b % 1024 / c) (a % 1024 / c) gt)))
    order)
    (cases_order (a % 1024 / c) (b % 1024 / c)))
    (λ order.
    ⊎_elim
    (λ lt. inl (omega (arith, cell-ends pages c a one)))
    (λ gt. inr (omega (arith, cell-ends pages d b other)))
    order)
    (cases_order (a / 1024) (b / 1024))

-- ---- a change of one cell

-- a page is of a class, and its cell of a number is used
abbrev pub HasUsed : Page → ℕ → ℕ → Type 0
HasUsed page class number = (page.class ≡ Some class) × (is_used_in page number ≡ true)

-- the page is changed in no used cell but one
abbrev pub SameButCell : Page → Page → ℕ → ℕ → Type 0
SameButCell old new class number =
    (own other : ℕ) → (own ≡ class → other ≢ number) → HasUsed new own other ↔ HasUsed old own other

-- so no used cell of the pages is changed but one
pub others-from : (pages : List Page) (class offset : ℕ) (page : Page) → offset / 1024 < length pages → offset % 1024 % class ≡ 0
    → SameButCell (page_at pages (offset / 1024)) page class (offset % 1024 / class)
    → (own other : ℕ) → other ≢ offset → IsUsedCell (set pages (offset / 1024) page) own other ↔ IsUsedCell pages own other
others-from pages class offset page within start same own other apart =
    let p = offset / 1024 in
    let q = other / 1024 in
    let number = other % 1024 / own in
    let new = set pages p page in
    ⊎_elim
    (λ here.
    let now : page_at new q ≡ page = ap (page_at new) here ∙ page_at-set_same pages p page within in
    let was : page_at pages q ≡ page_at pages p = ap (page_at pages) here in
    let far : other % 1024 % own ≡ 0 → own ≡ class → number ≢ offset % 1024 / class = λ begins one e.
    let at : other % 1024 ≡ offset % 1024 =
    omega (
      arith,
      div-add-mod' (other % 1024) own,
      begins,
      ap (λ n. n * own) e,
      ap (λ x. offset % 1024 / class * x) one,
      div-add-mod' (offset % 1024) class,
      start,
    )
    in
    apart (omega arith)
    in (
      (λ used.
          let has =
          (same own number (far used.cell.start)).0
          (ap (λ (x : Page). x.class) (sym now) ∙ used.cell.page, ap (λ x. is_used_in x number) (sym now) ∙ used.used) in
          record {
            cell = record { page = ap (λ (x : Page). x.class) was ∙ has.0; start = used.cell.start; inside = used.cell.inside };
            used = ap (λ x. is_used_in x number) was ∙ has.1;
          }),
      λ used.
          let has =
          (same own number (far used.cell.start)).1
          (ap (λ (x : Page). x.class) (sym was) ∙ used.cell.page, ap (λ x. is_used_in x number) (sym was) ∙ used.used) in
          record {
            cell = record { page = ap (λ (x : Page). x.class) now ∙ has.0; start = used.cell.start; inside = used.cell.inside };
            used = ap (λ x. is_used_in x number) now ∙ has.1;
          },
    ))
    (λ elsewhere.
    let stays : page_at new q ≡ page_at pages q = page_at-set_other pages p q page elsewhere in (
      (λ used. record {
        cell = record
            { page = ap (λ (x : Page). x.class) (sym stays) ∙ used.cell.page; start = used.cell.start; inside = used.cell.inside };
        used = ap (λ x. is_used_in x number) (sym stays) ∙ used.used;
      }),
      λ used. record {
        cell = record { page = ap (λ (x : Page). x.class) stays ∙ used.cell.page; start = used.cell.start; inside = used.cell.inside };
        used = ap (λ x. is_used_in x number) stays ∙ used.used;
      },
    ))
    (cases_eq q p)

-- the mark of one cell was set or cleared
pub SameButCell-mark : (page : Page) (class number : ℕ) (mark : Bool) → page.class ≡ Some class
    → SameButCell page (record { class = page.class; used = set page.used number mark }) class number
SameButCell-mark page class number mark of = λ own other apart.
    let stays : own ≡ class → get_or (set page.used number mark) other false ≡ get_or page.used other false =
    λ e. get_or-set_other page.used number other mark false (apart e) in (
      (λ has. (has.0, sym (stays (same_class page.class own class has.0 of)) ∙ has.1)),
      λ has. (has.0, stays (same_class page.class own class has.0 of) ∙ has.1),
    )

-- ---- giving back

pub GivesCell-at : (pages : List Page) (class offset : ℕ) → IsWellFormed pages → IsUsedCell pages class offset
    → GivesCell pages (set pages (offset / 1024) (with_free (page_at pages (offset / 1024)) (offset % 1024 / class))) offset
GivesCell-at pages class offset are is =
    let p = offset / 1024 in
    let page = page_at pages p in
    let n = offset % 1024 / class in
    let within = page-within pages p class is.cell.page in
    let cell : n < length page.used = omega (arith, is.cell.inside, cells-there pages p class are is.cell.page) in
    let now : page_at (set pages p (with_free page n)) p ≡ with_free page n = page_at-set_same pages p (with_free page n) within in
    record {
      unused = λ used.
          let one : used.0 ≡ class =
          same_class page.class used.0 class (ap (λ (x : Page). x.class) (sym now) ∙ used.1.cell.page) is.cell.page in
          let on : get_or (set page.used n false) n false ≡ true =
          ap (λ c. get_or (set page.used n false) (offset % 1024 / c) false) (sym one)
          ∙ ap (λ x. is_used_in x (offset % 1024 / used.0)) (sym now)
          ∙ used.1.used
          in
          both_ways _ (get_or-set_same page.used n false false cell) on;
      others = others-from pages class offset (with_free page n) within is.cell.start (SameButCell-mark page class n false is.cell.page);
      classes = λ q.
          ⊎_elim
          (λ here. ap (λ k. class_at (set pages p (with_free page n)) k) here ∙ ap (λ (x : Page). x.class) now
          ∙ ap (class_at pages) (sym here))
          (λ elsewhere. ap (λ (x : Page). x.class) (page_at-set_other pages p q (with_free page n) elsewhere))
          (cases_eq q p);
      count = omega (arith, sum_by-set used_in pages p (with_free page n) free_page within, used_in-with_free page n cell is.used);
    }

-- the pages without a used cell have given it back
pub GivesCell-without : (pages : List Page) (offset : ℕ) → IsWellFormed pages → IsUsed pages offset
    → GivesCell pages (without_cell pages offset) offset
GivesCell-without pages offset are is =
    let number : number_of (class_at pages (offset / 1024)) offset ≡ offset % 1024 / is.0 =
    ap (λ own. number_of own offset) is.1.cell.page in
    rw number (GivesCell-at pages is.0 offset are is.1)

pub IsWellFormed-without_cell : (pages : List Page) (offset : ℕ) → IsWellFormed pages → IsUsed pages offset
    → IsWellFormed (without_cell pages offset)
IsWellFormed-without_cell pages offset are is =
    IsWellFormed-set pages (offset / 1024) _ are
    (IsWellFormedPage-with_free _ _ (page_at-well_formed pages (offset / 1024) are (page-within pages (offset / 1024) is.0 is.1.cell.page)))
