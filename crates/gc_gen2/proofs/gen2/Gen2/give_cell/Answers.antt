use Rattle.std.proofs.Common.{◌≡◌, ℕ, ◌/◌, ◌%◌, ◌<◌, Option, Some, List, length, get_or, ap, sym, ◌∙◌, refl, arith}
use Rattle.std.specs.Prelude.{slice_index}
use Rattle.gc_gen2.specs.Class.{IsClass}
use Rattle.gc_gen2.specs.Page.{Page, with_free}
use Rattle.gc_gen2.specs.Cells.{IsWellFormed, page_at, class_at, IsUsed, IsUsedCell, free_cells}
use Rattle.gc_gen2.proofs.CellLaws.{GivesCell-at}
use Rattle.gc_gen2.proofs.PagesLemmas.{page_at-read, free_cells-le, page-within, cells-there, class-is, same_class}
use Rattle.gc_gen2.proofs.SummaryLemmas.{IsSummary-with_free}
use Rattle.gc_gen2.proofs.gen2.Gen2.give_cell.Goals as goal

-- what is known of the used cell and of its page, as it was read and written
record Known (pages : List Page) (offset own : ℕ) (given : Page) : Type 0 where
  within : offset / 1024 < length pages
  is_class : IsClass own
  is : IsUsedCell pages own offset
  cell : offset % 1024 / own < length (page_at pages (offset / 1024)).used
  new : given ≡ with_free (page_at pages (offset / 1024)) (offset % 1024 / own)

known : (pages : List Page) (offset own number : ℕ) (class_read : Option ℕ) (page given : Page) → IsWellFormed pages → IsUsed pages offset
    → page ≡ get_or pages (offset / 1024) page → class_read ≡ page.class → class_read ≡ Some own → number ≡ offset % 1024 / own
    → given ≡ with_free page number
    → Known pages offset own given
known pages offset own number class_read page given are is at class some same gives =
    let within = page-within pages (offset / 1024) is.0 is.1.cell.page in
    let it = page_at-read pages (offset / 1024) (offset / 1024) page refl within at in
    let of : class_at pages (offset / 1024) ≡ Some own = ap (λ (x : Page). x.class) (sym it) ∙ sym class ∙ some in
    let one : is.0 ≡ own = same_class (class_at pages (offset / 1024)) is.0 own is.1.cell.page of in
    let used : IsUsedCell pages own offset = rw one at is.1 in
    record {
      within = within;
      is_class = class-is pages (offset / 1024) own are of;
      is = used;
      cell = omega (arith, cells-there pages (offset / 1024) own are of, used.cell.inside);
      new = gives ∙ ap (with_free page) same ∙ ap (λ x. with_free x (offset % 1024 / own)) it;
    }

pub overflow_add-self : goal.overflow_add-self
overflow_add-self c =
    let pages = c.self.inside.pages.items in
    let is : IsUsed pages c.args.offset = rw c.self.view_is c.requires in
    let of =
    known pages c.args.offset c.unwrap-class.result c.cells_before.result c.class.result c.index_mut-cells.result.now c.give.new.self
    c.self.invariant.well_formed is c.index_mut-cells.ensures.value c.class.ensures c.unwrap-class.ensures c.cells_before.ensures
    c.give.ensures in
    let count : slice_index c.self.inside.free c.index_of-index.result ≡ free_cells pages c.unwrap-class.result =
    ap (slice_index c.self.inside.free) c.index_of-index.ensures.index ∙ c.self.invariant.free c.unwrap-class.result of.is_class
    in
    omega (arith, free_cells-le pages c.unwrap-class.result c.self.invariant.well_formed)

pub invariant_of-self : goal.invariant_of-self
invariant_of-self c =
    let pages = c.self.inside.pages.items in
    let is : IsUsed pages c.args.offset = rw c.self.view_is c.requires in
    let of =
    known pages c.args.offset c.unwrap-class.result c.cells_before.result c.class.result c.index_mut-cells.result.now c.give.new.self
    c.self.invariant.well_formed is c.index_mut-cells.ensures.value c.class.ensures c.unwrap-class.ensures c.cells_before.ensures
    c.give.ensures in
    rw (c.index_of-index.ensures.index, of.new)
    (IsSummary-with_free _ _ _ _ _ c.self.invariant (c.args.offset / 1024) c.unwrap-class.result
    (c.args.offset % 1024 / c.unwrap-class.result) of.within of.is.cell.page of.is_class of.cell of.is.used)

pub returns-clause-gives : goal.returns-clause-gives
returns-clause-gives c =
    let pages = c.self.inside.pages.items in
    let is : IsUsed pages c.args.offset = rw c.self.view_is c.requires in
    let of =
    known pages c.args.offset c.unwrap-class.result c.cells_before.result c.class.result c.index_mut-cells.result.now c.give.new.self
    c.self.invariant.well_formed is c.index_mut-cells.ensures.value c.class.ensures c.unwrap-class.ensures c.cells_before.ensures
    c.give.ensures in
    rw (← c.self.view_is, of.new) (GivesCell-at pages c.unwrap-class.result c.args.offset c.self.invariant.well_formed of.is)
