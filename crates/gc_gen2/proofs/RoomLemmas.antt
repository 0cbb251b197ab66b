-- Where the next cell is: the first page with room, the first page without class, and when there is neither.
use Rattle.std.proofs.Common.{◌≡◌, ◌≢◌, ℕ, ◌-◌, ◌/◌, ◌<◌, ◌≤◌, Bool, true, false, cond, Some, None, List, length, set, ap, sym, ◌∙◌, ⊎_elim, arith}
use Rattle.std.specs.Prelude.{slice_index}
use Rattle.std.specs.Int.{bit_at, w128, trailing_zeros}
use Rattle.std.proofs.lemmas.Bool.{cases_Bool, cond-true, cond-false, lt-ltb, ltb-true, ltb-false}
use Rattle.std.proofs.lemmas.List.{length-set, set-set}
use Rattle.std.proofs.lemmas.List.Quantifiers.{position-Some}
use Rattle.std.proofs.lemmas.Nat.Bits.{bit_at-zero, bit_at-trailing_zeros}
use Rattle.gc_gen2.specs.Class.{IsClass}
use Rattle.gc_gen2.specs.Page.{Page, free_page, is_free_page, empty_page, has_room, free_in, first_free_in, with_used}
use Rattle.gc_gen2.specs.Cells.{page_at, free_cells, free_pages, first_page_with_room, first_free_page, page_for}
use Rattle.gc_gen2.specs.Summary.{IsSummary, AreInOrder}
use Rattle.gc_gen2.proofs.ClassLemmas.{cells_in-ge}
use Rattle.gc_gen2.proofs.ListLemmas.{none-fails, position-first, position-none, count_by-from, count_by-none, count_by-some, sum_by-none, sum_by-some}
use Rattle.gc_gen2.proofs.PageLemmas.{class-from_room, free_in-empty, first_free_in-empty}
use Rattle.gc_gen2.proofs.PagesLemmas.{page_at-set_same, page_at-set_other, page-within, page_for-free}

-- a bit that shows a test tells its answer
shown_on : (b : Bool) (bit : ℕ) → bit ≡ cond b 1 0 → bit ≡ 1 → b ≡ true
shown_on b bit shows on =
    ⊎_elim (λ t. t) (λ f. let off = cond-false {A = ℕ} b 1 0 f in absurd (omega arith)) (cases_Bool b)

shown_off : (b : Bool) (bit : ℕ) → bit ≡ cond b 1 0 → bit ≡ 0 → b ≡ false
shown_off b bit shows off =
    ⊎_elim (λ t. let on = cond-true {A = ℕ} b 1 0 t in absurd (omega arith)) (λ f. f) (cases_Bool b)

-- the lowest bit of a class's set is the first page with room for it, and an empty set says that there is none
pub first_page_with_room-lowest : (pages : List Page) (sets counts : List ℕ) (used with_class class : ℕ)
    → IsSummary pages sets counts used with_class → IsClass class
    → slice_index sets (class / 4 - 1) ≢ 0
    → first_page_with_room pages class ≡ Some (trailing_zeros w128 (slice_index sets (class / 4 - 1)))
first_page_with_room-lowest pages sets counts used with_class class sums is some =
    let set = slice_index sets (class / 4 - 1) in
    let lowest = bit_at-trailing_zeros w128 set (omega arith) (sums.fit (class / 4 - 1)) in
    let p = trailing_zeros w128 set in
    let low : p < 128 = lowest.0 in
    let room : has_room (page_at pages p) class ≡ true = shown_on _ (bit_at set p) (sums.rooms class is p low) lowest.1 in
    let within = page-within pages p class (class-from_room (page_at pages p) class (ltb-true _ _ room)) in
    position-first (λ page. has_room page class) pages p free_page within
    (λ k below. shown_off _ (bit_at set k) (sums.rooms class is k (omega arith)) (lowest.2 k below)) room

pub first_page_with_room-none : (pages : List Page) (sets counts : List ℕ) (used with_class class : ℕ)
    → IsSummary pages sets counts used with_class → IsClass class
    → slice_index sets (class / 4 - 1) ≡ 0 → first_page_with_room pages class ≡ None
first_page_with_room-none pages sets counts used with_class class sums is none =
    position-none (λ page. has_room page class) pages free_page
    (λ k below.
    shown_off _ (bit_at (slice_index sets (class / 4 - 1)) k) (sums.rooms class is k (omega (arith, sums.well_formed.few)))
    (ap (λ w. bit_at w k) none ∙ bit_at-zero k))

-- the pages that have a class come first, so the first one without comes after them
pub first_free_page-next : (pages : List Page) (w : ℕ) → AreInOrder pages w → w < length pages → first_free_page pages ≡ Some w
first_free_page-next pages w are within =
    position-first is_free_page pages w free_page within are.classed (are.unclassed w (omega arith))

pub first_free_page-none : (pages : List Page) (w : ℕ) → AreInOrder pages w → length pages ≤ w → first_free_page pages ≡ None
first_free_page-none pages w are all =
    position-none is_free_page pages free_page (λ k below. are.classed k (omega arith))

pub free_pages-rest : (pages : List Page) (w : ℕ) → AreInOrder pages w → free_pages pages ≡ length pages - w
free_pages-rest pages w are =
    count_by-from is_free_page pages w free_page are.within are.classed are.unclassed

-- whether there is a free cell, and whether there is a free page
pub free_cells-none : (pages : List Page) (class : ℕ) → first_page_with_room pages class ≡ None → free_cells pages class ≡ 0
free_cells-none pages class none =
    sum_by-none (λ page. free_in page class) (λ page. has_room page class) pages free_page
    (λ page f. let le = ltb-false 0 (free_in page class) f in omega arith) none

pub free_cells-some : (pages : List Page) (class p : ℕ) → first_page_with_room pages class ≡ Some p → 0 < free_cells pages class
free_cells-some pages class p some =
    sum_by-some (λ page. free_in page class) (λ page. has_room page class) pages p free_page (λ page t. ltb-true 0 (free_in page class) t)
    some

pub free_pages-none : (pages : List Page) → first_free_page pages ≡ None → free_pages pages ≡ 0
free_pages-none pages none = count_by-none is_free_page pages free_page none

pub free_pages-some : (pages : List Page) (p : ℕ) → first_free_page pages ≡ Some p → 0 < free_pages pages
free_pages-some pages p some = count_by-some is_free_page pages p free_page some

-- a page that was just given a class is the first with room for it, where none had room before
pub first_page_with_room-given : (pages : List Page) (class p : ℕ) → IsClass class → first_page_with_room pages class ≡ None
    → first_free_page pages ≡ Some p → first_page_with_room (set pages p (empty_page class)) class ≡ Some p
first_page_with_room-given pages class p is none first =
    let within = (position-Some is_free_page pages p free_page first).0 in
    let page = empty_page class in
    position-first (λ x. has_room x class) (set pages p page) p free_page (omega (arith, length-set pages p page))
    (λ k below.
    ap (λ x. has_room x class) (page_at-set_other pages p k page (λ e. absurd (omega arith)))
    ∙ none-fails (λ x. has_room x class) pages free_page none k (omega arith))
    (ap (λ x. has_room x class) (page_at-set_same pages p page within)
    ∙ lt-ltb 0 _ (omega (arith, free_in-empty class, cells_in-ge class is)))

-- then its first cell is the first free one
pub pages-given : (pages : List Page) (class p : ℕ) → IsClass class → first_free_page pages ≡ Some p
    → (let given = set pages p (empty_page class) in set given p (with_used (page_at given p) (first_free_in (page_at given p))))
    ≡ set pages p (with_used (page_for (page_at pages p) class) 0)
pages-given pages class p is first =
    let at = position-Some is_free_page pages p free_page first in
    let page = empty_page class in
    let now : page_at (set pages p page) p ≡ page = page_at-set_same pages p page at.0 in
    set-set pages p page _
    ∙ ap (λ x. set pages p (with_used x (first_free_in x))) now
    ∙ ap (λ n. set pages p (with_used page n)) (first_free_in-empty class is)
    ∙ ap (λ x. set pages p (with_used x 0)) (sym (page_for-free (page_at pages p) class at.1))

pub first_free_in-given : (pages : List Page) (class p : ℕ) → IsClass class → first_free_page pages ≡ Some p
    → first_free_in (page_at (set pages p (empty_page class)) p) ≡ 0
first_free_in-given pages class p is first =
    ap first_free_in (page_at-set_same pages p (empty_page class) (position-Some is_free_page pages p free_page first).0)
    ∙ first_free_in-empty class is
