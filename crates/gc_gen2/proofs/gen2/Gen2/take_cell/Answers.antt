use Rattle.std.proofs.Common.{◌≡◌, ℕ, Some, None, List, set, ap, sym, ◌∙◌, refl, arith}
use Rattle.std.proofs.lemmas.Bool.{true≢false}
use Rattle.gc_gen2.specs.Class.{IsClass}
use Rattle.gc_gen2.specs.Page.{Page, empty_page, first_free_in, with_used}
use Rattle.gc_gen2.specs.Cells.{IsWellFormed, page_at, offset_of, first_page_with_room, first_free_page, next_cell, page_for}
use Rattle.gc_gen2.proofs.NextCellLaws.{IsNextCell, IsNextCell-room, IsNextCell-fresh, with_cell-is, TakesCell-at, next-room, next-fresh}
use Rattle.gc_gen2.proofs.PagesLemmas.{HasRoom-first, page_for-same}
use Rattle.gc_gen2.proofs.RoomLemmas.{first_page_with_room-given, first_free_in-given, pages-given, free_cells-none, free_cells-some, free_pages-none, free_pages-some}
use Rattle.gc_gen2.proofs.gen2.Gen2.take_cell.Goals as goal

-- a cell of a page that has the class, and what the pages are then
record Takes (old new : List Page) (class offset p n : ℕ) : Type 0 where
  next : next_cell old class ≡ Some offset
  cell : IsNextCell old class offset p n
  pages : new ≡ set old p (with_used (page_for (page_at old p) class) n)

takes-room : (old new : List Page) (class offset p : ℕ) → IsWellFormed old → first_page_with_room old class ≡ Some p
    → offset ≡ offset_of class p (first_free_in (page_at old p))
    → new ≡ set old p (with_used (page_at old p) (first_free_in (page_at old p)))
    → Takes old new class offset p (first_free_in (page_at old p))
takes-room old new class offset p are room at is =
    let itself = page_for-same (page_at old p) class class (HasRoom-first old p class room).class in
    record {
      next = next-room old class p room ∙ ap Some (sym at);
      cell = rw at (IsNextCell-room old class p are room);
      pages = is ∙ ap (λ x. set old p (with_used x (first_free_in (page_at old p)))) (sym itself);
    }

-- the first cell of a page that was just given the class
takes-fresh : (old given new : List Page) (class offset p : ℕ) → IsWellFormed old → IsClass class → first_page_with_room old class ≡ None
    → first_free_page old ≡ Some p → given ≡ set old p (empty_page class)
    → offset ≡ offset_of class p (first_free_in (page_at given p))
    → new ≡ set given p (with_used (page_at given p) (first_free_in (page_at given p)))
    → Takes old new class offset p 0
takes-fresh old given new class offset p are is none first gives at takes =
    let zero : first_free_in (page_at given p) ≡ 0 =
    ap (λ xs. first_free_in (page_at xs p)) gives ∙ first_free_in-given old class p is first in
    let here : offset ≡ offset_of class p 0 = at ∙ ap (offset_of class p) zero in
    record {
      next = next-fresh old class (Some p) none first ∙ ap Some (sym here);
      cell = rw here (IsNextCell-fresh old class p are is none first);
      pages = takes
          ∙ ap (λ xs. set xs p (with_used (page_at xs p) (first_free_in (page_at xs p)))) gives
          ∙ pages-given old class p is first;
    }

-- the cell of a page with room, and the cell of a page that was just given the class
of_room : (c : goal.After-take_in)
    → Takes c.args.self.now c.take_in.new.self c.args.class c.take_in.result c.in-Some.page
    (first_free_in (page_at c.args.self.now c.in-Some.page))
of_room c =
    takes-room c.args.self.now c.take_in.new.self c.args.class c.take_in.result c.in-Some.page c.page_with_room.ensures.pages
    (sym c.page_with_room.ensures.page ∙ c.in-Some.is) c.take_in.ensures.cell c.take_in.ensures.pages

of_fresh : (c : goal.After-take_in-2)
    → Takes c.args.self.now c.take_in-2.new.self c.args.class c.take_in-2.result c.in-Some-page_without_class.page 0
of_fresh c =
    takes-fresh c.args.self.now c.give_class.new.self c.take_in-2.new.self c.args.class c.take_in-2.result
    c.in-Some-page_without_class.page c.page_with_room.ensures.pages c.requires (sym c.page_with_room.ensures.page ∙ c.in_default.is)
    (sym c.page_without_class.ensures ∙ c.in-Some-page_without_class.is) c.give_class.ensures c.take_in-2.ensures.cell
    c.take_in-2.ensures.pages

pub returns-in-Some-clause-none : goal.returns-in-Some-clause-none
returns-in-Some-clause-none c =
    let some = free_cells-some c.args.self.now c.args.class c.in-Some.page (sym c.page_with_room.ensures.page ∙ c.in-Some.is) in
    ((λ e. absurd (true≢false e)), λ none. absurd (omega (arith, some, none.0)))

pub returns-in-Some-clause-pages : goal.returns-in-Some-clause-pages
returns-in-Some-clause-pages c =
    (of_room c).pages ∙ sym (with_cell-is c.args.self.now c.args.class c.take_in.result _ _ c.requires (of_room c).cell)

pub returns-in-Some-clause-takes : goal.returns-in-Some-clause-takes
returns-in-Some-clause-takes c =
    rw (of_room c).pages (TakesCell-at c.args.self.now c.args.class c.take_in.result _ _ c.requires (of_room c).cell)

pub returns-in_default-page_without_class-clause-none :
    goal.returns-in_default-page_without_class-clause-none
returns-in_default-page_without_class-clause-none c = (
  (λ _. (
    free_cells-none c.args.self.now c.args.class (sym c.page_with_room.ensures.page ∙ c.in_default.is),
    free_pages-none c.args.self.now (sym c.page_without_class.ensures ∙ c.in_default-page_without_class.is),
  )),
  λ _. refl,
)

pub take_in-requires-2-clause-page : goal.take_in-requires-2-clause-page
take_in-requires-2-clause-page c =
    ap (λ xs. first_page_with_room xs c.args.class) c.give_class.ensures
    ∙ first_page_with_room-given c.args.self.now c.args.class c.in-Some-page_without_class.page c.requires
    (sym c.page_with_room.ensures.page ∙ c.in_default.is) (sym c.page_without_class.ensures ∙ c.in-Some-page_without_class.is)

pub returns-clause-cell : goal.returns-clause-cell
returns-clause-cell c = sym (of_fresh c).next

pub returns-clause-none : goal.returns-clause-none
returns-clause-none c =
    let some =
    free_pages-some c.args.self.now c.in-Some-page_without_class.page
    (sym c.page_without_class.ensures ∙ c.in-Some-page_without_class.is)
    in
    ((λ e. absurd (true≢false e)), λ none. absurd (omega (arith, some, none.1)))

pub returns-clause-pages : goal.returns-clause-pages
returns-clause-pages c =
    (of_fresh c).pages ∙ sym (with_cell-is c.args.self.now c.args.class c.take_in-2.result _ _ c.requires (of_fresh c).cell)

pub returns-clause-takes : goal.returns-clause-takes
returns-clause-takes c =
    rw (of_fresh c).pages (TakesCell-at c.args.self.now c.args.class c.take_in-2.result _ _ c.requires (of_fresh c).cell)
