-- The copy of an object: who is promoted, and that taking a cell leaves no bay more cells.
use Rattle.std.proofs.Common.{◌≡◌, ◌⊎◌, ◌∙◌, ℕ, ◌/◌, ◌%◌, ◌<◌, ◌≤◌, Bool, true, false, cond, not, length, List, Some, inl, inr, ap, sym, subst, arith, slice_set}
use Rattle.std.proofs.lemmas.Bool.{cases_Bool, cases_lt, cond-false, cond-true}
use Rattle.std.proofs.lemmas.Option.{same_Some}
use Rattle.std.proofs.lemmas.List.{set_past}
use Rattle.std.proofs.lemmas.List.Sums.{get_or-le-sum_by, sum_by-set}
use Rattle.std.specs.Prelude.{count_by}
use Rattle.gc_bay.specs.Bay.{Bay}
use Rattle.gc_gen2.specs.Cells.{free_cells, free_pages, page_at, page_for, with_cell}
use Rattle.gc_gen2.specs.Class.{class_of}
use Rattle.gc_gen2.specs.Page.{Page, empty_page, free_in, free_page, has_class, is_free_page, with_used}
use Rattle.gc_layout.specs.Places.{Layout}
use Rattle.gc_model.specs.Graph.{Graph, object_at, object_size}
use Rattle.gc_placement.specs.Changes.{ChangesBay}
use Rattle.gc_placement.specs.Extents.{IsInAPage, home_of}
use Rattle.gc_placement.specs.Headers.{head_of}
use Rattle.gc_placement.specs.Placement.{Placement, with_place}
use Rattle.gc_placement.specs.Promotion.{ArePromoted, HasNoCell, PromotedAreRemembered}
use Rattle.gc_placement.proofs.Bays.{each-changed}
use Rattle.gc_placement.proofs.Placement.{with_place-from}

-- ---- where no cell of a class is free

-- where one more cell is used, no more are free
with_used-free_marks : (used : List Bool) (n : ℕ) → count_by not (slice_set used n true) ≤ count_by not used
with_used-free_marks used n = elim (cases_lt n (length used)) [
  | inl within ↦ omega (arith, sum_by-set (λ on. cond (not on) 1 0) used n true false within)
  | inr past ↦ omega (arith, ap (count_by not) (set_past used n true past))
]

-- so a page has no more free cells of a class
with_used-free : (page : Page) (n class : ℕ) → free_in (with_used page n) class ≤ free_in page class
with_used-free page n class = elim (cases_Bool (has_class page class)) [
  | inl has ↦
      omega (
        arith,
        with_used-free_marks page.used n,
        cond-true (has_class page class) (count_by not page.used) 0 has,
        cond-true (has_class page class) (count_by not (with_used page n).used) 0 has,
      )
  | inr none ↦
      omega (
        arith,
        cond-false (has_class page class) (count_by not page.used) 0 none,
        cond-false (has_class page class) (count_by not (with_used page n).used) 0 none,
      )
]

-- where each page has a class, the page of a cell that is taken is itself for the class
page_for-classed : (pages : List Page) (p class : ℕ) → p < length pages → free_pages pages ≡ 0
    → page_for (page_at pages p) class ≡ page_at pages p
page_for-classed pages p class within none =
    let page = page_at pages p in
    let few : cond {A = ℕ} (is_free_page page) 1 0 ≤ free_pages pages =
    get_or-le-sum_by (λ each. cond (is_free_page each) 1 0) pages p free_page within in
    elim (cases_Bool (is_free_page page)) [
      | inl free ↦ absurd (omega (arith, few, none, cond-true {A = ℕ} (is_free_page page) 1 0 free))
      | inr classed ↦ cond-false (is_free_page page) (empty_page class) page classed
    ]

-- the pages with one more used cell have a page with one more used cell, or are as before
with_cell-cases : (pages : List Page) (class offset : ℕ) → free_pages pages ≡ 0
    → ((offset / 1024 < length pages)
    × (with_cell pages class offset
    ≡ slice_set pages (offset / 1024) (with_used (page_at pages (offset / 1024)) (offset % 1024 / class))))
    ⊎ (with_cell pages class offset ≡ pages)
with_cell-cases pages class offset none =
    let p = offset / 1024 in
    elim (cases_lt p (length pages)) [
      | inl within ↦
          inl (
            within,
            ap (λ (page : Page). slice_set pages p (with_used page (offset % 1024 / class)))
                (page_for-classed pages p class within none),
          )
      | inr past ↦ inr (set_past pages p (with_used (page_for (page_at pages p) class) (offset % 1024 / class)) past)
    ]

-- so where each page has a class, taking a cell leaves no more free cells of any class
with_cell-free_cells : (pages : List Page) (class offset other : ℕ) → free_pages pages ≡ 0
    → free_cells (with_cell pages class offset) other ≤ free_cells pages other
with_cell-free_cells pages class offset other none = elim (with_cell-cases pages class offset none) [
  | inl there ↦
      let page = page_at pages (offset / 1024) in
      let marked = with_used page (offset % 1024 / class) in
      omega (
        arith,
        ap (λ (each : List Page). free_cells each other) there.1,
        sum_by-set (λ (each : Page). free_in each other) pages (offset / 1024) marked free_page there.0,
        with_used-free page (offset % 1024 / class) other,
      )
  | inr same ↦ omega (arith, ap (λ (each : List Page). free_cells each other) same)
]

-- and no page without class
with_cell-free_pages : (pages : List Page) (class offset : ℕ) → free_pages pages ≡ 0
    → free_pages (with_cell pages class offset) ≡ 0
with_cell-free_pages pages class offset none = elim (with_cell-cases pages class offset none) [
  | inl there ↦
      let page = page_at pages (offset / 1024) in
      let marked = with_used page (offset % 1024 / class) in
      omega (
        arith,
        none,
        ap free_pages there.1,
        sum_by-set (λ (each : Page). cond {A = ℕ} (is_free_page each) 1 0) pages (offset / 1024) marked free_page there.0,
      )
  | inr same ↦ ap free_pages same ∙ none
]

-- a bay that has no cell for a size has none where its pages are as before
pub no_cell-same : (old new : Bay) → new.pages ≡ old.pages → (size : ℕ) → HasNoCell old size → HasNoCell new size
no_cell-same old new same size has = record {
  cells = ap (λ (pages : List Page). free_cells pages (class_of size)) same ∙ has.cells;
  pages = ap free_pages same ∙ has.pages;
}

-- nor where a cell of any class is taken
pub no_cell-taken : (old new : Bay) (class offset : ℕ) → new.pages ≡ with_cell old.pages class offset → (size : ℕ)
    → HasNoCell old size → HasNoCell new size
no_cell-taken old new class offset taken size has = record {
  cells = omega (
    arith,
    ap (λ (pages : List Page). free_cells pages (class_of size)) taken,
    with_cell-free_cells old.pages class offset (class_of size) has.pages,
    has.cells,
  );
  pages = ap free_pages taken ∙ with_cell-free_pages old.pages class offset has.pages;
}

-- so it goes for all bays where one changes
pub no_cell-changed : (old new : ℕ → Bay) (t : ℕ) (own : Bay) → ChangesBay old new t own
    → ((size : ℕ) → HasNoCell (old t) size → HasNoCell own size) → (u size : ℕ) → HasNoCell (old u) size → HasNoCell (new u) size
no_cell-changed old new t own changes stays =
    each-changed (λ u each. (size : ℕ) → HasNoCell (old u) size → HasNoCell each size) old new t own changes stays
    (λ u differs size has. has)

-- ---- who is promoted

-- an object that is copied into a page had the bit seen; one that had it is copied into a half only where its maker has no
-- cell for it; and its copy there has the bit
pub promoted-copied : (layout : Layout) (old word other : ℕ → ℕ) (bay new : ℕ → Bay) (before after : Placement) (graph : Graph)
    (number address copy : ℕ) (own : Bay) → ArePromoted layout old word bay before after graph
    → ChangesBay bay new (home_of (object_at graph number).maker) own
    → ((size : ℕ) → HasNoCell (bay (home_of (object_at graph number).maker)) size → HasNoCell own size)
    → ((each a : ℕ) → after each ≡ Some a → other a ≡ word a) → before number ≡ Some address
    → (IsInAPage layout copy → (head_of (old address)).seen ≡ true)
    → (¬ IsInAPage layout copy → (head_of (old address)).seen ≡ true → HasNoCell own (object_size (object_at graph number)))
    → (¬ IsInAPage layout copy → (head_of (other copy)).seen ≡ true)
    → ArePromoted layout old other new before (with_place after number copy) graph
promoted-copied layout old word other bay new before after graph number address copy own are changes stays headers at was_seen no_cell
    survives =
    let t = home_of (object_at graph number).maker in
    let same : (each a : ℕ) → before each ≡ Some a → each ≡ number → a ≡ address = λ each a each_at is.
    same_Some a address (sym each_at ∙ ap before is ∙ at) in
    record {
      seen = λ each a c each_at outside later inside. elim (with_place-from after number copy each c later) [
        | inl here ↦
            ap (λ w. (head_of (old w)).seen) (same each a each_at here.0)
            ∙ was_seen (subst (IsInAPage layout) here.1 inside)
        | inr there ↦ are.seen each a c each_at outside there.1 inside
      ];
      no_cell = λ each a c each_at outside later elsewhere is_seen. elim (with_place-from after number copy each c later) [
        | inl here ↦
            let Lacks : ℕ → Type 0 =
            λ k. HasNoCell (new (home_of (object_at graph k).maker)) (object_size (object_at graph k)) in
            let lacks : HasNoCell own (object_size (object_at graph number)) =
            no_cell (λ inside. elsewhere (subst (IsInAPage layout) (sym here.1) inside))
            (ap (λ w. (head_of (old w)).seen) (sym (same each a each_at here.0)) ∙ is_seen) in
            subst Lacks (sym here.0)
            (subst (λ each_bay. HasNoCell each_bay (object_size (object_at graph number))) (sym changes.here) lacks)
        | inr there ↦
            no_cell-changed bay new t own changes stays (home_of (object_at graph each).maker) (object_size (object_at graph each))
            (are.no_cell each a c each_at outside there.1 elsewhere is_seen)
      ];
      survived = λ each c later elsewhere. elim (with_place-from after number copy each c later) [
        | inl here ↦
            ap (λ w. (head_of (other w)).seen) here.1
            ∙ survives (λ inside. elsewhere (subst (IsInAPage layout) (sym here.1) inside))
        | inr there ↦ ap (λ (w : ℕ). (head_of w).seen) (headers each c there.1) ∙ are.survived each c there.1 elsewhere
      ];
    }

-- what was promoted is remembered, and so is the copy where it lies in a page
pub promoted_remembered-copied : (layout : Layout) (word other : ℕ → ℕ) (before after : Placement) (number copy : ℕ)
    → PromotedAreRemembered layout word before after → ((each a : ℕ) → after each ≡ Some a → other a ≡ word a)
    → (IsInAPage layout copy → (head_of (other copy)).remembered ≡ true)
    → PromotedAreRemembered layout other before (with_place after number copy)
promoted_remembered-copied layout word other before after number copy are headers remembered each a c each_at outside later inside =
    elim (with_place-from after number copy each c later) [
      | inl here ↦
          ap (λ w. (head_of (other w)).remembered) here.1 ∙ remembered (subst (IsInAPage layout) here.1 inside)
      | inr there ↦
          ap (λ (w : ℕ). (head_of w).remembered) (headers each c there.1) ∙ are each a c each_at outside there.1 inside
    ]
