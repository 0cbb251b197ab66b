use Rattle.std.proofs.Common.{not, false, inl, inr, ap, sym, ◌∙◌, refl, arith}
use Rattle.std.specs.Prelude.{count_by}
use Rattle.std.proofs.lemmas.Bool.{true≢false}
use Rattle.gc_gen2.specs.Page.{Page}
use Rattle.gc_gen2.specs.Cells.{first_page_with_room}
use Rattle.gc_gen2.proofs.ListLemmas.{count_by-cases}
use Rattle.gc_gen2.proofs.PagesLemmas.{HasRoom-first, page_at-read}
use Rattle.gc_gen2.proofs.RoomLemmas.{free_cells-none, free_cells-some, free_pages-none, free_pages-some}
use Rattle.gc_gen2.proofs.gen2.Gen2.peek_cell.Goals as goal

pub unwrap-number-requires : goal.unwrap-number-requires
unwrap-number-requires c =
    let pages = c.self.inside.pages.items in
    let room =
    HasRoom-first pages c.in-Some.page c.args.class
    (ap (λ xs. first_page_with_room xs c.args.class) c.self.view_is ∙ sym c.page_with_room.ensures.page ∙ c.in-Some.is) in
    let read = page_at-read pages c.from.result c.in-Some.page c.index.result.now c.from.ensures room.within c.index.ensures in
    elim (count_by-cases not c.index.result.now.used false c.first_free.result (sym c.first_free.ensures)) [
      | inl free ↦ free.0
      | inr full ↦ absurd (omega (arith, full.1, room.some, ap (λ (x : Page). count_by not x.used) read))
    ]

pub returns-in-Some-clause-none : goal.returns-in-Some-clause-none
returns-in-Some-clause-none c =
    let some = free_cells-some c.args.self.now c.args.class c.in-Some.page (sym c.page_with_room.ensures.page ∙ c.in-Some.is) in
    ((λ e. absurd (true≢false e)), λ none. absurd (omega (arith, some, none.0)))

pub returns-in_default-page_without_class-clause-none : goal.returns-in_default-page_without_class-clause-none
returns-in_default-page_without_class-clause-none c = (
  (λ _. (
    free_cells-none c.args.self.now c.args.class (sym c.page_with_room.ensures.page ∙ c.in_default.is),
    free_pages-none c.args.self.now (sym c.page_without_class.ensures ∙ c.in_default-page_without_class.is),
  )),
  λ _. refl,
)

pub returns-clause-none : goal.returns-clause-none
returns-clause-none c =
    let some =
    free_pages-some c.args.self.now c.in-Some-page_without_class.page
    (sym c.page_without_class.ensures ∙ c.in-Some-page_without_class.is) in
    ((λ e. absurd (true≢false e)), λ none. absurd (omega (arith, some, none.1)))
