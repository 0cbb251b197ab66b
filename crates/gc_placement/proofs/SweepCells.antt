-- Where used cells lie among the pages, and that where no cell is free none is counted as free.
use Rattle.std.proofs.Common.{◌≡◌, ◌≢◌, ◌⊎◌, inl, inr, ⊎_elim, ℕ, ◌+◌, ◌*◌, ◌/◌, ◌%◌, ◌<◌, ◌≤◌, List, length, false, not, cond, Some, None, ap, sym, ◌∙◌, refl, arith}
use Rattle.std.proofs.lemmas.Bool.{both_ways, cases_Bool, cases_eq, cases_lt}
use Rattle.std.proofs.lemmas.List.Sums.{get_or-le-sum_by, sum_by-set}
use Rattle.std.proofs.lemmas.Nat.{mul-le}
use Rattle.gc_bay.specs.Bay.{Bay}
use Rattle.gc_bay.proofs.ExtentLemmas.{pages-end}
use Rattle.gc_gen2.specs.Cells.{GivesCell, IsCell, IsFreeCell, IsUsed, IsUsedCell, IsWellFormed, class_at, free_cells, free_pages, number_of, page_at, without_cell}
use Rattle.gc_gen2.specs.Page.{Page, free_in, free_page, is_free_page, is_used_in, with_free}
use Rattle.gc_gen2.proofs.CellLaws.{start-is}
use Rattle.gc_gen2.proofs.PageLemmas.{free_in-same}
use Rattle.gc_gen2.proofs.PagesLemmas.{cells-there, class-is, page-within, same_class}
use Rattle.gc_layout.specs.Places.{Layout, cell_address, region_start}
use Rattle.gc_placement.specs.Bays.{AreBays}
use Rattle.gc_placement.specs.Extents.{IsInAPage}
use Rattle.gc_placement.proofs.MinorBeginning.{used-in_page}
use Rattle.gc_placement.proofs.Regions.{regions_apart}

-- ---- where used cells lie

-- a page without class has no used cell
pub no_class-no_cell : (pages : List Page) (page other : ℕ) → class_at pages page ≡ None → IsUsed pages other → other / 1024 ≡ page → ⊥
no_class-no_cell pages page other none used inside =
    let own : class_at pages page ≡ Some used.0 = ap (class_at pages) (sym inside) ∙ used.1.cell.page in
    let clash : None ≡ Some used.0 = sym none ∙ own in
    cc

-- a used cell of a page of a class begins at a multiple of the class, and its number is below that of the page's cells
record IsInPageOf (class page other : ℕ) : Type 0 where
  number : ℕ
  at : other ≡ page * 1024 + number * class
  few : number < 1024 / class

in_page-of : (pages : List Page) (page class other : ℕ) → class_at pages page ≡ Some class → IsUsed pages other
    → page * 1024 ≤ other → other < (page + 1) * 1024 → IsInPageOf class page other
in_page-of pages page class other of used from to =
    let here : other / 1024 ≡ page = omega (arith, from, to) in
    let own : used.0 ≡ class = same_class (class_at pages page) used.0 class (ap (class_at pages) (sym here) ∙ used.1.cell.page) of in
    let start : other % 1024 ≡ other % 1024 / class * class =
    start-is pages used.0 other used.1.cell ∙ ap (λ x. other % 1024 / x * x) own in
    let few : other % 1024 / class < 1024 / class = rw own at used.1.cell.inside in
    record { number = other % 1024 / class; at = omega (arith, start, here); few = few }

-- behind the cell of a number the next used cell of its page is that of the next number
pub next-cell : (pages : List Page) (page class number other : ℕ) → class_at pages page ≡ Some class → IsUsed pages other
    → IsWellFormed pages → page * 1024 + number * class + 1 ≤ other → other < (page + 1) * 1024
    → page * 1024 + (number + 1) * class ≤ other
next-cell pages page class number other of used are behind to =
    let is = in_page-of pages page class other of used (omega (arith, behind)) to in
    ⊎_elim
    (λ (less : is.number < number + 1).
    let below = mul-le is.number class number class (omega (arith, less)) (omega arith) in
    absurd (omega (arith, below, behind, is.at)))
    (λ (more : number + 1 ≤ is.number). omega (arith, mul-le (number + 1) class is.number class more (omega arith), is.at))
    (cases_lt is.number (number + 1))

-- behind the last cell of a page the next used cell is one of the next page
pub page-end : (pages : List Page) (page class other : ℕ) → class_at pages page ≡ Some class → IsUsed pages other
    → IsWellFormed pages → page * 1024 + (1024 / class) * class ≤ other → (page + 1) * 1024 ≤ other
page-end pages page class other of used are behind =
    ⊎_elim
    (λ (inside : other < (page + 1) * 1024).
    let is = in_page-of pages page class other of used (omega (arith, behind)) inside in
    let some = (class-is pages page class are of).some in
    let below = mul-le (is.number + 1) class (1024 / class) class (omega (arith, is.few)) (omega arith) in
    absurd (omega (arith, below, behind, is.at, some)))
    (λ past. past)
    (cases_lt other ((page + 1) * 1024))

-- a cell that isn't used is passed: a used cell from its offset on lies behind it
pub unused-passed : (pages : List Page) (offset other : ℕ) → ¬ IsUsed pages offset → IsUsed pages other → offset ≤ other
    → offset + 1 ≤ other
unused-passed pages offset other unused used from =
    let differs : other ≢ offset = λ same. unused (rw same at used) in omega (arith, from, differs)

-- each used cell lies in one of the pages
pub used-within : (pages : List Page) (other : ℕ) → IsUsed pages other → other < length pages * 1024
used-within pages other used = omega (arith, page-within pages (other / 1024) used.0 used.1.cell.page)

-- ---- free cells

-- a free cell is counted
pub free-counts : (pages : List Page) (class offset : ℕ) → IsWellFormed pages → IsFreeCell pages class offset
    → 1 ≤ free_cells pages class
free-counts pages class offset are free =
    let p = offset / 1024 in
    let page = page_at pages p in
    let n = offset % 1024 / class in
    let cell : n < length page.used = omega (arith, free.cell.inside, cells-there pages p class are free.cell.page) in
    let one : cond {A = ℕ} (not (is_used_in page n)) 1 0 ≡ 1 = ap {B = ℕ} (λ b. cond (not b) 1 0) free.free in
    omega (
      arith,
      one,
      free_in-same page class free.cell.page,
      get_or-le-sum_by (λ used. cond (not used) 1 0) page.used n false cell,
      get_or-le-sum_by (λ each. free_in each class) pages p free_page (page-within pages p class free.cell.page),
    )

-- ---- a cell is given back

-- a cell that is free then was free before, or it is the one that was given back
pub freed-from : (old new : List Page) (offset class other : ℕ) → GivesCell old new offset → IsFreeCell new class other
    → IsFreeCell old class other ⊎ ((other ≡ offset) × IsUsedCell old class other)
freed-from old new offset class other gives free =
    let was : IsCell old class other = record {
      page = sym (gives.classes (other / 1024)) ∙ free.cell.page;
      start = free.cell.start;
      inside = free.cell.inside;
    } in
    elim (cases_Bool (is_used_in (page_at old (other / 1024)) (other % 1024 / class))) [
      | inl used ↦ elim (cases_eq other offset) [
        | inl same ↦ inr (same, record { cell = was; used = used })
        | inr differs ↦
            let still : IsUsedCell new class other = (gives.others class other differs).1 (record { cell = was; used = used }) in
            absurd (both_ways (is_used_in (page_at new (other / 1024)) (other % 1024 / class)) free.free still.used)
      ]
      | inr unused ↦ inl (record { cell = was; free = unused })
    ]

-- as many pages are free as before
pub free_pages-without : (pages : List Page) (offset : ℕ) → IsUsed pages offset
    → free_pages (without_cell pages offset) ≡ free_pages pages
free_pages-without pages offset used =
    let p = offset / 1024 in
    let page = with_free (page_at pages p) (number_of (class_at pages p) offset) in
    let changes =
    sum_by-set (λ each. cond (is_free_page each) 1 0) pages p page free_page (page-within pages p used.0 used.1.cell.page) in
    let same : cond {A = ℕ} (is_free_page page) 1 0 ≡ cond (is_free_page (page_at pages p)) 1 0 = refl in
    omega (arith, changes, same)

-- ---- the cells of all mutators

-- a used cell lies in its mutator's region
pub used-in_region : (layout : Layout) (bay : ℕ → Bay) (t offset : ℕ) → AreBays layout bay → t < layout.mutators
    → IsUsed (bay t).pages offset
    → (region_start layout t ≤ cell_address layout t offset) × (cell_address layout t offset < region_start layout (t + 1))
used-in_region layout bay t offset are there used =
    let within = used-within (bay t).pages offset used in
    let count = (are.each t there).page_count in
    let pages : (bay t).layout.pages ≡ layout.pages = ap (λ (each : Layout). each.pages) (are.layout_is t there) in
    (omega arith, omega (arith, pages-end layout t offset 1 (omega (arith, within, count, pages))))

-- and in a page
pub used-in_own_page : (layout : Layout) (bay : ℕ → Bay) (t offset : ℕ) → AreBays layout bay → t < layout.mutators
    → IsUsed (bay t).pages offset → IsInAPage layout (cell_address layout t offset)
used-in_own_page layout bay t offset are there used =
    let page = used-in_page (bay t).layout t (bay t).pages offset (are.each t there).page_count used in
    rw (are.layout_is t there) at page

-- used cells at one address are one
pub one-cell : (layout : Layout) (bay : ℕ → Bay) (t u a b : ℕ) → AreBays layout bay → t < layout.mutators → u < layout.mutators
    → IsUsed (bay t).pages a → IsUsed (bay u).pages b → cell_address layout t a ≡ cell_address layout u b → (t ≡ u) × (a ≡ b)
one-cell layout bay t u a b are there there_too used used_too same =
    let one = used-in_region layout bay t a are there used in
    let other = used-in_region layout bay u b are there_too used_too in
    let mutator : t ≡ u =
    regions_apart layout t u (cell_address layout t a) one.0 one.1 (omega (arith, same, other.0)) (omega (arith, same, other.1)) in
    let here : cell_address layout t a ≡ cell_address layout t b =
    same ∙ ap (λ (m : ℕ). cell_address layout m b) (sym mutator) in
    (mutator, omega (arith, here))
