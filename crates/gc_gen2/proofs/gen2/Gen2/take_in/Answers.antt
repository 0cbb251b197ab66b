use Rattle.std.proofs.Common.{◌≡◌, ◌≢◌, ℕ, ◌<◌, List, length, get_or, not, ap, sym, ◌∙◌, arith}
use Rattle.std.specs.Prelude.{slice_index, count_by}
use Rattle.std.proofs.lemmas.Bool.{both_ways}
use Rattle.gc_gen2.specs.Page.{Page, first_free_in, with_used}
use Rattle.gc_gen2.specs.Cells.{page_at, first_page_with_room, free_cells}
use Rattle.gc_gen2.proofs.PagesLemmas.{HasRoom-first, page_at-read, used_cells-le, free_cells-room}
use Rattle.gc_gen2.proofs.SummaryLemmas.{IsSummary-filled, IsSummary-not_filled}
use Rattle.gc_gen2.proofs.gen2.Gen2.take_in.Goals as goal

-- the page that was read, where its first free cell is used now
new_page : (pages : List Page) (i p n : ℕ) (page page' : Page) → i ≡ p → p < length pages → page ≡ get_or pages i page
    → n ≡ first_free_in page → page' ≡ with_used page n → page' ≡ with_used (page_at pages p) (first_free_in (page_at pages p))
new_page pages i p n page page' same within read first uses =
    uses ∙ ap (with_used page) first ∙ ap (λ x. with_used x (first_free_in x)) (page_at-read pages i p page same within read)

pub take_first-number-requires : goal.take_first-number-requires
take_first-number-requires c =
    let pages = c.self.inside.pages.items in
    let room =
    HasRoom-first pages c.args.page c.args.class (ap (λ xs. first_page_with_room xs c.args.class) c.self.view_is ∙ c.requires.page) in
    let read =
    page_at-read pages c.from.result c.args.page c.index_mut-cells.result.now c.from.ensures room.within c.index_mut-cells.ensures.value
    in
    rw read room.some

pub overflow_sub-self : goal.overflow_sub-self
overflow_sub-self c =
    let pages = c.self.inside.pages.items in
    let room =
    HasRoom-first pages c.args.page c.args.class (ap (λ xs. first_page_with_room xs c.args.class) c.self.view_is ∙ c.requires.page) in
    let count : slice_index c.self.inside.free c.index_of-index.result ≡ free_cells pages c.args.class =
    ap (slice_index c.self.inside.free) c.index_of-index.ensures.index ∙ c.self.invariant.free c.args.class c.requires.class
    in
    omega (arith, free_cells-room pages c.args.page c.args.class room)

pub overflow_add-self : goal.overflow_add-self
overflow_add-self c =
    omega (arith, c.self.invariant.used, used_cells-le c.self.inside.pages.items c.self.invariant.well_formed)

pub invariant_of-self : goal.invariant_of-self
invariant_of-self c =
    let pages = c.self.inside.pages.items in
    let p = c.args.page in
    let room = HasRoom-first pages p c.args.class (ap (λ xs. first_page_with_room xs c.args.class) c.self.view_is ∙ c.requires.page) in
    let new =
    new_page pages c.from.result p c.take_first-number.result c.index_mut-cells.result.now c.take_first-number.new.self c.from.ensures
    room.within c.index_mut-cells.ensures.value c.take_first-number.ensures.number c.take_first-number.ensures.page in
    let full = sym (ap (λ (page : Page). count_by not page.used) new) ∙ c.is_full-full.ensures.0 c.if-full.true in
    rw (c.from.ensures, c.index_of-index.ensures.index, new)
    (IsSummary-filled _ _ _ _ _ c.self.invariant p c.args.class room c.requires.class full)

pub invariant_of-self-else-full : goal.invariant_of-self-else-full
invariant_of-self-else-full c =
    let pages = c.self.inside.pages.items in
    let p = c.args.page in
    let room = HasRoom-first pages p c.args.class (ap (λ xs. first_page_with_room xs c.args.class) c.self.view_is ∙ c.requires.page) in
    let new =
    new_page pages c.from.result p c.take_first-number.result c.index_mut-cells.result.now c.take_first-number.new.self c.from.ensures
    room.within c.index_mut-cells.ensures.value c.take_first-number.ensures.number c.take_first-number.ensures.page in
    let rest : count_by not (with_used (page_at pages p) (first_free_in (page_at pages p))).used ≢ 0 = λ none.
    both_ways _ c.if-full.false (c.is_full-full.ensures.1 (ap (λ (page : Page). count_by not page.used) new ∙ none))
    in
    rw (c.from.ensures, c.index_of-index.ensures.index, new)
    (IsSummary-not_filled _ _ _ _ _ c.self.invariant p c.args.class room c.requires.class rest)
