-- A change of one page, and the sets and counts that stand beside the pages.
use Rattle.std.proofs.Common.{◌≡◌, ◌≢◌, ℕ, ◌+◌, ◌-◌, ◌*◌, ◌/◌, ◌%◌, ◌^◌, ◌<◌, Bool, true, false, not, cond, Some, None, List, length, set, ap, sym, ◌∙◌, refl, ⊎_elim, arith, get_or-set_same, get_or-set_other}
use Rattle.std.specs.Prelude.{slice_index, nat_lt, count_by, bit_and, bit_or}
use Rattle.std.specs.Int.{bit_at, bit_not, w128}
use Rattle.std.proofs.lemmas.Bool.{cases_eq, cases_lt, both_ways, cond-true, lt-ltb}
use Rattle.std.proofs.lemmas.List.{length-set, get_or-set_same, get_or-set_other}
use Rattle.std.proofs.lemmas.List.Sums.{sum_by-set, get_or-le-sum_by}
use Rattle.std.proofs.lemmas.List.Quantifiers.{position-Some}
use Rattle.std.proofs.lemmas.Nat.Bits.{bit_at_set_same, bit_at_clear_same}
use Rattle.gc_gen2.specs.Class.{IsClass, cells_in}
use Rattle.gc_gen2.specs.Page.{Page, IsWellFormedPage, free_page, is_free_page, used_in, free_in, first_free_in, is_used_in, has_room, empty_page, with_used, with_free}
use Rattle.gc_gen2.specs.Cells.{page_at, used_cells, free_cells, first_free_page}
use Rattle.gc_gen2.specs.Summary.{IsSummary, AreInOrder}
use Rattle.gc_gen2.proofs.BitLemmas.{SameBut, SameBut-set, SameBut-clear}
use Rattle.gc_gen2.proofs.ClassLemmas.{cells_in-ge}
use Rattle.gc_gen2.proofs.PageLemmas.{free_in-same, used_in-with_used, free-with_used, used_in-with_free, free-with_free, used_in-empty, used_in-none, free_in-empty, free_in-other, free_in-free_page, class-from_free, IsWellFormedPage-empty}
use Rattle.gc_gen2.proofs.PagesLemmas.{page_at-set_same, page_at-set_other, page_at-well_formed, IsWellFormed-set, HasRoom}

-- two classes with one index are one
pub class-from_index : (own class : ℕ) → IsClass own → IsClass class → own / 4 - 1 ≡ class / 4 - 1 → own ≡ class
class-from_index own class is other same =
    omega (arith, is.multiple, is.some, other.multiple, other.some)

-- of the sets of pages, bit p of set i is now b, and all else is as before
pub record ChangesRoom (old new : List ℕ) (i p b : ℕ) : Type 0 where
  pub sixteen : length new ≡ 16
  pub fit : (k : ℕ) → slice_index new k < 2 ^ 128
  pub here : bit_at (slice_index new i) p ≡ b
  pub other_pages : (q : ℕ) → q < 128 → q ≢ p → bit_at (slice_index new i) q ≡ bit_at (slice_index old i) q
  pub other_sets : (k : ℕ) → k ≢ i → slice_index new k ≡ slice_index old k

ChangesRoom-by : (sets : List ℕ) (i p v b : ℕ) → length sets ≡ 16 → ((k : ℕ) → slice_index sets k < 2 ^ 128) → i < 16
    → SameBut w128 (slice_index sets i) v p → bit_at v p ≡ b → ChangesRoom sets (set sets i v) i p b
ChangesRoom-by sets i p v b sixteen fit within same here =
    let at : slice_index (set sets i v) i ≡ v = get_or-set_same sets i v 0 (omega arith) in
    record {
      sixteen = length-set sets i v ∙ sixteen;
      fit = λ k.
          ⊎_elim
          (λ e. let it : slice_index (set sets i v) k ≡ v = ap (slice_index (set sets i v)) e ∙ at in rw it same.fits)
          (λ apart. let it : slice_index (set sets i v) k ≡ slice_index sets k = get_or-set_other sets i k v 0 apart in rw it (fit k))
          (cases_eq k i);
      here = ap (λ w. bit_at w p) at ∙ here;
      other_pages = λ q low apart. ap (λ w. bit_at w q) at ∙ same.others q low apart;
      other_sets = λ k apart. get_or-set_other sets i k v 0 apart;
    }

pub ChangesRoom-set : (sets : List ℕ) (i p : ℕ) → length sets ≡ 16 → ((k : ℕ) → slice_index sets k < 2 ^ 128) → i < 16 → p < 128
    → ChangesRoom sets (set sets i (bit_or (slice_index sets i) (1 * 2 ^ p % 2 ^ 128))) i p 1
ChangesRoom-set sets i p sixteen fit within low =
    ChangesRoom-by sets i p _ 1 sixteen fit within (SameBut-set w128 _ p (fit i) low) (bit_at_set_same w128 (slice_index sets i) p low)

pub ChangesRoom-clear : (sets : List ℕ) (i p : ℕ) → length sets ≡ 16 → ((k : ℕ) → slice_index sets k < 2 ^ 128) → i < 16 → p < 128
    → ChangesRoom sets (set sets i (bit_and (slice_index sets i) (bit_not w128 (1 * 2 ^ p % 2 ^ 128)))) i p 0
ChangesRoom-clear sets i p sixteen fit within low =
    ChangesRoom-by sets i p _ 0 sixteen fit within (SameBut-clear w128 _ p (fit i) low) (bit_at_clear_same w128 (slice_index sets i) p low)

pub ChangesRoom-same : (sets : List ℕ) (i p b : ℕ) → length sets ≡ 16 → ((k : ℕ) → slice_index sets k < 2 ^ 128)
    → bit_at (slice_index sets i) p ≡ b → ChangesRoom sets sets i p b
ChangesRoom-same sets i p b sixteen fit here = record {
  sixteen = sixteen;
  fit = fit;
  here = here;
  other_pages = λ q low apart. refl;
  other_sets = λ k apart. refl;
}

-- the bit of a page in the set of a class
abbrev pub room_bit : Page → ℕ → ℕ
room_bit page class = cond (has_room page class) 1 0

-- in order, the first page without class is the one after those with one
pub first_free_page-is : (pages : List Page) (w p : ℕ) → AreInOrder pages w → first_free_page pages ≡ Some p → (p ≡ w) × (p < length pages)
first_free_page-is pages w p are first =
    let at = position-Some is_free_page pages p free_page first in
    ⊎_elim
    (λ e. (e, at.0))
    (λ apart. absurd (⊎_elim
    (λ lt. both_ways _ (are.classed p lt) at.1)
    (λ le. both_ways _ (at.2 w (omega arith)) (are.unclassed w (omega arith)))
    (cases_lt p w)))
    (cases_eq p w)

-- a change of a page that keeps whether it is free keeps the order, and the first free page can be given a class
pub AreInOrder-set : (pages : List Page) (w p : ℕ) (page : Page) → AreInOrder pages w → p < length pages
    → is_free_page page ≡ is_free_page (page_at pages p) → AreInOrder (set pages p page) w
AreInOrder-set pages w p page are within same =
    let free : (q : ℕ) → is_free_page (page_at (set pages p page) q) ≡ is_free_page (page_at pages q) = λ q.
    ⊎_elim
    (λ here.
    ap (λ k. is_free_page (page_at (set pages p page) k)) here ∙ ap is_free_page (page_at-set_same pages p page within)
    ∙ same ∙ ap (λ k. is_free_page (page_at pages k)) (sym here))
    (λ elsewhere. ap is_free_page (page_at-set_other pages p q page elsewhere))
    (cases_eq q p)
    in
    record {
      within = omega (arith, are.within, length-set pages p page);
      classed = λ q below. free q ∙ are.classed q below;
      unclassed = λ q from. free q ∙ are.unclassed q from;
    }

pub AreInOrder-given : (pages : List Page) (w : ℕ) (page : Page) → AreInOrder pages w → w < length pages → is_free_page page ≡ false
    → AreInOrder (set pages w page) (w + 1)
AreInOrder-given pages w page are within given = record {
  within = omega (arith, length-set pages w page);
  classed = λ q below.
      ⊎_elim
      (λ here. ap (λ k. is_free_page (page_at (set pages w page) k)) here ∙ ap is_free_page (page_at-set_same pages w page within) ∙ given)
      (λ elsewhere. ap is_free_page (page_at-set_other pages w q page elsewhere) ∙ are.classed q (omega arith))
      (cases_eq q w);
  unclassed = λ q from.
      let elsewhere : q ≢ w = λ e. absurd (omega arith) in
      ap is_free_page (page_at-set_other pages w q page elsewhere) ∙ are.unclassed q (omega arith);
}

-- a page instead of another that differs in cells of one class alone, where the set and the count of that
-- class, the count of all used cells and the number of pages with a class change as it does
pub record ChangesPage (old new : Page) (class : ℕ) : Type 0 where
  pub well_formed : IsWellFormedPage new
  pub others : (own : ℕ) → own ≢ class → free_in new own ≡ free_in old own

-- the sets show the room of each page for each class
rooms-set : (pages : List Page) (sets sets' : List ℕ) (p class : ℕ) (page : Page) → p < length pages → IsClass class
    → ((own : ℕ) → IsClass own → (q : ℕ) → q < 128 → bit_at (slice_index sets (own / 4 - 1)) q ≡ room_bit (page_at pages q) own)
    → ((own : ℕ) → own ≢ class → free_in page own ≡ free_in (page_at pages p) own)
    → ChangesRoom sets sets' (class / 4 - 1) p (room_bit page class)
    → (own : ℕ) → IsClass own → (q : ℕ) → q < 128 → bit_at (slice_index sets' (own / 4 - 1)) q ≡ room_bit (page_at (set pages p page) q) own
rooms-set pages sets sets' p class page within is rooms others room own owned q low =
    let shown = λ (k : ℕ). room_bit (page_at (set pages p page) k) own in
    let here : q ≡ p → shown q ≡ room_bit page own = λ e. ap shown e ∙ ap (λ x. room_bit x own) (page_at-set_same pages p page within) in
    let elsewhere : q ≢ p → shown q ≡ room_bit (page_at pages q) own = λ e. ap (λ x. room_bit x own) (page_at-set_other pages p q page e) in
    ⊎_elim
    (λ same.
    let one : own / 4 - 1 ≡ class / 4 - 1 = ap (λ c. c / 4 - 1) same in
    ⊎_elim
    (λ e.
    let new : bit_at (slice_index sets' (own / 4 - 1)) q ≡ room_bit page class =
    ap (λ k. bit_at (slice_index sets' k) q) one ∙ ap (bit_at (slice_index sets' (class / 4 - 1))) e ∙ room.here in
    new ∙ ap (room_bit page) (sym same) ∙ sym (here e))
    (λ e.
    let new : bit_at (slice_index sets' (own / 4 - 1)) q ≡ bit_at (slice_index sets (own / 4 - 1)) q =
    ap (λ k. bit_at (slice_index sets' k) q) one ∙ room.other_pages q low e ∙ ap (λ k. bit_at (slice_index sets k) q) (sym one) in
    new ∙ rooms own owned q low ∙ sym (elsewhere e))
    (cases_eq q p))
    (λ apart.
    let far : own / 4 - 1 ≢ class / 4 - 1 = λ e. apart (class-from_index own class owned is e) in
    let old : bit_at (slice_index sets' (own / 4 - 1)) q ≡ room_bit (page_at pages q) own =
    ap (λ w. bit_at w q) (room.other_sets (own / 4 - 1) far) ∙ rooms own owned q low in
    ⊎_elim
    (λ e.
    let as_before : room_bit (page_at pages q) own ≡ room_bit page own =
    ap (λ k. room_bit (page_at pages k) own) e ∙ ap (λ n. cond (nat_lt 0 n) 1 0) (sym (others own apart)) in
    old ∙ as_before ∙ sym (here e))
    (λ e. old ∙ sym (elsewhere e))
    (cases_eq q p))
    (cases_eq own class)

-- the counts show the free cells of each class
counts-set : (pages : List Page) (counts : List ℕ) (p class count : ℕ) (page : Page) → p < length pages → IsClass class → length counts ≡ 16
    → ((own : ℕ) → IsClass own → slice_index counts (own / 4 - 1) ≡ free_cells pages own)
    → ((own : ℕ) → own ≢ class → free_in page own ≡ free_in (page_at pages p) own)
    → count + free_in (page_at pages p) class ≡ free_cells pages class + free_in page class
    → (own : ℕ) → IsClass own → slice_index (set counts (class / 4 - 1) count) (own / 4 - 1) ≡ free_cells (set pages p page) own
counts-set pages counts p class count page within is sixteen shows others counted own owned =
    let total = λ (o : ℕ). sum_by-set (λ x. free_in x o) pages p page free_page within in
    ⊎_elim
    (λ same.
    let one : own / 4 - 1 ≡ class / 4 - 1 = ap (λ c. c / 4 - 1) same in
    let low : class / 4 - 1 < length counts = omega (arith, is.few) in
    let new : count ≡ free_cells (set pages p page) class = omega (arith, total class) in
    ap (slice_index (set counts (class / 4 - 1) count)) one
    ∙ get_or-set_same counts (class / 4 - 1) count 0 low
    ∙ new
    ∙ ap (free_cells (set pages p page)) (sym same))
    (λ apart.
    let far : own / 4 - 1 ≢ class / 4 - 1 = λ e. apart (class-from_index own class owned is e) in
    let old : free_cells pages own ≡ free_cells (set pages p page) own = omega (arith, total own, others own apart) in
    get_or-set_other counts (class / 4 - 1) (own / 4 - 1) count 0 far ∙ shows own owned ∙ old)
    (cases_eq own class)

pub IsSummary-set : (pages : List Page) (sets counts : List ℕ) (used with_class : ℕ) → IsSummary pages sets counts used with_class
    → (p class : ℕ) → p < length pages → IsClass class
    → (page : Page) → ChangesPage (page_at pages p) page class
    → (sets' : List ℕ) → ChangesRoom sets sets' (class / 4 - 1) p (room_bit page class)
    → (count : ℕ) → count + free_in (page_at pages p) class ≡ free_cells pages class + free_in page class
    → (used' : ℕ) → used' + used_in (page_at pages p) ≡ used_cells pages + used_in page
    → (with_class' : ℕ) → AreInOrder (set pages p page) with_class'
    → IsSummary (set pages p page) sets' (set counts (class / 4 - 1) count) used' with_class'
IsSummary-set pages sets counts used with_class sums p class within is page changes sets' room count counted used' totalled with_class'
    in_order =
    record {
      well_formed = IsWellFormed-set pages p page sums.well_formed changes.well_formed;
      sixteen_sets = room.sixteen;
      fit = room.fit;
      rooms = rooms-set pages sets sets' p class page within is sums.rooms changes.others room;
      sixteen_counts = length-set counts (class / 4 - 1) count ∙ sums.sixteen_counts;
      free = counts-set pages counts p class count page within is sums.sixteen_counts sums.free changes.others counted;
      used = omega (arith, sum_by-set used_in pages p page free_page within);
      in_order = in_order;
    }

-- the first free page is given a class
pub IsSummary-given : (pages : List Page) (sets counts : List ℕ) (used with_class : ℕ) → IsSummary pages sets counts used with_class
    → (p class : ℕ) → first_free_page pages ≡ Some p → IsClass class
    → IsSummary (set pages p (empty_page class))
    (set sets (class / 4 - 1) (bit_or (slice_index sets (class / 4 - 1)) (1 * 2 ^ p % 2 ^ 128)))
    (set counts (class / 4 - 1) (slice_index counts (class / 4 - 1) + cells_in class)) used (p + 1)
IsSummary-given pages sets counts used with_class sums p class first is =
    let at = first_free_page-is pages with_class p sums.in_order first in
    let page = empty_page class in
    let bare : is_free_page (page_at pages p) ≡ true = (position-Some is_free_page pages p free_page first).1 in
    let none : (page_at pages p).class ≡ None = class-from_free _ bare in
    let low : class / 4 - 1 < 16 = omega (arith, is.few) in
    let some : room_bit page class ≡ 1 =
    cond-true {A = ℕ} (has_room page class) 1 0 (lt-ltb _ _ (omega (arith, free_in-empty class, cells_in-ge class is))) in
    IsSummary-set pages sets counts used with_class sums p class at.1 is page
    (record {
      well_formed = IsWellFormedPage-empty class is;
      others = λ own apart. free_in-other page class own refl (λ e. apart (sym e)) ∙ sym (free_in-free_page (page_at pages p) own none);
    })
    _ (rw some (ChangesRoom-set sets (class / 4 - 1) p sums.sixteen_sets sums.fit low (omega (arith, at.1, sums.well_formed.few))))
    _ (omega (arith, sums.free class is, free_in-empty class, free_in-free_page (page_at pages p) class none))
    _
    (omega (arith, sums.used, used_in-empty class, used_in-none (page_at pages p) none (page_at-well_formed pages p sums.well_formed at.1)))
    _ (rw at.0 (AreInOrder-given pages with_class page sums.in_order (omega (arith, at.0, at.1)) refl))

-- a page whose one cell changed
pub ChangesPage-cell : (page : Page) (n class : ℕ) (mark : Bool) → IsWellFormedPage page → page.class ≡ Some class
    → ChangesPage page (record { class = page.class; used = set page.used n mark }) class
ChangesPage-cell page n class mark is of = record {
  well_formed = record { class = is.class; cells = length-set page.used n mark ∙ is.cells };
  others = λ own apart. free_in-other (record { class = page.class; used = set page.used n mark }) class own of (λ e. apart (sym e))
      ∙ sym (free_in-other page class own of (λ e. apart (sym e)));
}

-- the first free cell of the first page with room is used now
pub IsSummary-with_used : (pages : List Page) (sets counts : List ℕ) (used with_class : ℕ) → IsSummary pages sets counts used with_class
    → (p class : ℕ) → HasRoom pages p class → IsClass class
    → (sets' : List ℕ)
    → ChangesRoom sets sets' (class / 4 - 1) p (room_bit (with_used (page_at pages p) (first_free_in (page_at pages p))) class)
    → IsSummary (set pages p (with_used (page_at pages p) (first_free_in (page_at pages p)))) sets'
    (set counts (class / 4 - 1) (slice_index counts (class / 4 - 1) - 1)) (used + 1) with_class
IsSummary-with_used pages sets counts used with_class sums p class room is sets' changed =
    let page = page_at pages p in
    let n = first_free_in page in
    IsSummary-set pages sets counts used with_class sums p class room.within is (with_used page n)
    (ChangesPage-cell page n class true (page_at-well_formed pages p sums.well_formed room.within) room.class)
    sets' changed
    _
    (omega (
      arith,
      sums.free class is,
      room.some,
      free_in-same page class room.class,
      free_in-same (with_used page n) class room.class,
      free-with_used page n room.cell room.free,
      get_or-le-sum_by (λ x. free_in x class) pages p free_page room.within,
    ))
    _ (omega (arith, sums.used, used_in-with_used page n room.cell room.free))
    with_class (AreInOrder-set pages with_class p (with_used page n) sums.in_order room.within refl)

-- a used cell is free now
pub IsSummary-with_free : (pages : List Page) (sets counts : List ℕ) (used with_class : ℕ) → IsSummary pages sets counts used with_class
    → (p class n : ℕ) → p < length pages → (page_at pages p).class ≡ Some class → IsClass class → n < length (page_at pages p).used
    → is_used_in (page_at pages p) n ≡ true
    → IsSummary (set pages p (with_free (page_at pages p) n))
    (set sets (class / 4 - 1) (bit_or (slice_index sets (class / 4 - 1)) (1 * 2 ^ p % 2 ^ 128)))
    (set counts (class / 4 - 1) (slice_index counts (class / 4 - 1) + 1)) (used - 1) with_class
IsSummary-with_free pages sets counts used with_class sums p class n within of is cell was =
    let page = page_at pages p in
    let low : class / 4 - 1 < 16 = omega (arith, is.few) in
    let free : free_in (with_free page n) class ≡ count_by not page.used + 1 =
    free_in-same (with_free page n) class of ∙ free-with_free page n cell was in
    let some : room_bit (with_free page n) class ≡ 1 =
    cond-true {A = ℕ} (has_room (with_free page n) class) 1 0 (lt-ltb _ _ (omega (arith, free))) in
    IsSummary-set pages sets counts used with_class sums p class within is (with_free page n)
    (ChangesPage-cell page n class false (page_at-well_formed pages p sums.well_formed within) of)
    _ (rw some (ChangesRoom-set sets (class / 4 - 1) p sums.sixteen_sets sums.fit low (omega (arith, within, sums.well_formed.few))))
    _ (omega (arith, sums.free class is, free_in-same page class of, free))
    _ (omega (arith, sums.used, used_in-with_free page n cell was, get_or-le-sum_by used_in pages p free_page within))
    with_class (AreInOrder-set pages with_class p (with_free page n) sums.in_order within refl)

-- and the page is full then, or it isn't
pub IsSummary-filled : (pages : List Page) (sets counts : List ℕ) (used with_class : ℕ) → IsSummary pages sets counts used with_class
    → (p class : ℕ) → HasRoom pages p class → IsClass class
    → count_by not (with_used (page_at pages p) (first_free_in (page_at pages p))).used ≡ 0
    → IsSummary (set pages p (with_used (page_at pages p) (first_free_in (page_at pages p))))
    (set sets (class / 4 - 1) (bit_and (slice_index sets (class / 4 - 1)) (bit_not w128 (1 * 2 ^ p % 2 ^ 128))))
    (set counts (class / 4 - 1) (slice_index counts (class / 4 - 1) - 1)) (used + 1) with_class
IsSummary-filled pages sets counts used with_class sums p class room is full =
    let bit : room_bit (with_used (page_at pages p) (first_free_in (page_at pages p))) class ≡ 0 =
    ap {B = ℕ} (λ k. cond (nat_lt 0 k) 1 0)
    (free_in-same (with_used (page_at pages p) (first_free_in (page_at pages p))) class room.class ∙ full)
    in
    IsSummary-with_used pages sets counts used with_class sums p class room is _
    (rw bit
    (ChangesRoom-clear sets (class / 4 - 1) p sums.sixteen_sets sums.fit (omega (arith, is.few))
    (omega (arith, room.within, sums.well_formed.few))))

pub IsSummary-not_filled : (pages : List Page) (sets counts : List ℕ) (used with_class : ℕ) → IsSummary pages sets counts used with_class
    → (p class : ℕ) → HasRoom pages p class → IsClass class
    → count_by not (with_used (page_at pages p) (first_free_in (page_at pages p))).used ≢ 0
    → IsSummary (set pages p (with_used (page_at pages p) (first_free_in (page_at pages p)))) sets
    (set counts (class / 4 - 1) (slice_index counts (class / 4 - 1) - 1)) (used + 1) with_class
IsSummary-not_filled pages sets counts used with_class sums p class room is rest =
    let page = page_at pages p in
    let fuller = with_used page (first_free_in page) in
    let some : 0 < free_in fuller class = omega (arith, free_in-same fuller class room.class) in
    let before : 0 < free_in page class = omega (arith, free_in-same page class room.class, room.some) in
    let bit : room_bit fuller class ≡ 1 = cond-true {A = ℕ} (has_room fuller class) 1 0 (lt-ltb _ _ some) in
    let was : room_bit page class ≡ 1 = cond-true {A = ℕ} (has_room page class) 1 0 (lt-ltb _ _ before) in
    IsSummary-with_used pages sets counts used with_class sums p class room is sets
    (rw bit
    (ChangesRoom-same sets (class / 4 - 1) p 1 sums.sixteen_sets sums.fit
    (sums.rooms class is p (omega (arith, room.within, sums.well_formed.few)) ∙ was)))
