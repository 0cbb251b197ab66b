-- The free and used cells of one page, and how they change with one cell.
use Rattle.std.proofs.Common.{◌≡◌, ◌≢◌, ℕ, ◌+◌, ◌<◌, ◌≤◌, Bool, true, false, not, cond, Option, Some, None, List, length, get_or, set, replicate, ap, ◌∙◌, refl, ⊎_elim, arith, eq-eqb, eqb-true}
use Rattle.std.specs.Prelude.{◌==◌, is_none, count_by}
use Rattle.std.specs.Option.{option_map_or}
use Rattle.std.proofs.lemmas.Bool.{false≢true, cond-true, cond-false, cond_both, cases_Bool, cases_lt, ne_eqb, not-true}
use Rattle.std.proofs.lemmas.List.{length-set, length-replicate, get_or-replicate}
use Rattle.std.proofs.lemmas.List.Sums.{sum_by-set, count_by-le-length, position_or_len_is, passes_at_first, fails_before_first}
use Rattle.gc_gen2.specs.Class.{IsClass, cells_in}
use Rattle.gc_gen2.specs.Page.{Page, cells_of, IsWellFormedPage, free_page, empty_page, has_class, is_used_in, used_in, free_in, first_free_in, with_used, with_free}
use Rattle.gc_gen2.proofs.ClassLemmas.{cells_in-ge, cells_of-le}
use Rattle.gc_gen2.proofs.ListLemmas.{sum_by-zero, count_by-all}

-- a page of a class has its free cells in that class alone, and a free page in none
pub free_in-same : (page : Page) (class : ℕ) → page.class ≡ Some class → free_in page class ≡ count_by not page.used
free_in-same page class is =
    cond-true _ _ _ (ap (λ own. option_map_or (λ c. c == class) own false) is ∙ eq-eqb class class refl)

pub free_in-other : (page : Page) (own class : ℕ) → page.class ≡ Some own → own ≢ class → free_in page class ≡ 0
free_in-other page own class is apart =
    cond-false _ _ _ (ap (λ c. option_map_or (λ o. o == class) c false) is ∙ ne_eqb own class apart)

pub free_in-free_page : (page : Page) (class : ℕ) → page.class ≡ None → free_in page class ≡ 0
free_in-free_page page class is = cond-false _ _ _ (ap (λ own. option_map_or (λ c. c == class) own false) is)

-- a page with a free cell of a class is of the class
class-from_has : (own : Option ℕ) (class : ℕ) → option_map_or (λ c. c == class) own false ≡ true → own ≡ Some class
class-from_has None class has = absurd (false≢true has)
class-from_has (Some own) class has = ap Some (eqb-true own class has)

pub class-from_room : (page : Page) (class : ℕ) → 0 < free_in page class → page.class ≡ Some class
class-from_room page class room =
    ⊎_elim
    (λ has. class-from_has page.class class has)
    (λ not_of. let none = cond-false (has_class page class) (count_by not page.used) 0 not_of in absurd (omega arith))
    (cases_Bool (has_class page class))

-- a free page has no class
pub class-from_free : (own : Option ℕ) → is_none own ≡ true → own ≡ None
class-from_free None free = refl
class-from_free (Some own) free = absurd (false≢true free)

-- how a count of marks changes with one mark
marks-set : (p : Bool → Bool) (marks : List Bool) (n : ℕ) (mark : Bool) → n < length marks
    → count_by p (set marks n mark) + cond (p (get_or marks n false)) 1 0 ≡ count_by p marks + cond (p mark) 1 0
marks-set p marks n mark within = sum_by-set (λ x. cond (p x) 1 0) marks n mark false within

-- a free cell that is used now
pub used_in-with_used : (page : Page) (n : ℕ) → n < length page.used → is_used_in page n ≡ false
    → used_in (with_used page n) ≡ used_in page + 1
used_in-with_used page n within free =
    omega (arith, marks-set (λ used. used) page.used n true within, ap {B = ℕ} (λ b. cond b 1 0) free)

pub free-with_used : (page : Page) (n : ℕ) → n < length page.used → is_used_in page n ≡ false
    → count_by not (with_used page n).used + 1 ≡ count_by not page.used
free-with_used page n within free =
    omega (arith, marks-set not page.used n true within, ap {B = ℕ} (λ b. cond (not b) 1 0) free)

-- a used cell that is free now
pub used_in-with_free : (page : Page) (n : ℕ) → n < length page.used → is_used_in page n ≡ true
    → used_in (with_free page n) + 1 ≡ used_in page
used_in-with_free page n within used =
    omega (arith, marks-set (λ used. used) page.used n false within, ap {B = ℕ} (λ b. cond b 1 0) used)

pub free-with_free : (page : Page) (n : ℕ) → n < length page.used → is_used_in page n ≡ true
    → count_by not (with_free page n).used ≡ count_by not page.used + 1
free-with_free page n within used =
    omega (arith, marks-set not page.used n false within, ap {B = ℕ} (λ b. cond (not b) 1 0) used)

-- a page has at most 256 cells
pub used_in-le : (page : Page) → IsWellFormedPage page → used_in page ≤ 256
used_in-le page is =
    omega (arith, count_by-le-length (λ used. used) page.used, is.cells, cells_of-le page.class is.class)

pub free_in-le : (page : Page) (class : ℕ) → IsWellFormedPage page → free_in page class ≤ 256
free_in-le page class is =
    cond_both (has_class page class) (count_by not page.used) 0 (λ n. n ≤ 256)
    (λ has. omega (arith, count_by-le-length not page.used, is.cells, cells_of-le page.class is.class))
    (λ not_of. omega arith)

-- a page that was just given a class has all its cells free, the first of them first
pub used_in-empty : (class : ℕ) → used_in (empty_page class) ≡ 0
used_in-empty class =
    sum_by-zero (λ used. cond used 1 0) (replicate (cells_in class) false) false
    (λ k within.
    ap (λ b. cond b 1 0) (get_or-replicate (cells_in class) k false false (omega (arith, length-replicate (cells_in class) false))))

pub free_in-empty : (class : ℕ) → free_in (empty_page class) class ≡ cells_in class
free_in-empty class =
    free_in-same (empty_page class) class refl
    ∙ count_by-all not (replicate (cells_in class) false) false
    (λ k within. ap not (get_or-replicate (cells_in class) k false false (omega (arith, length-replicate (cells_in class) false))))
    ∙ length-replicate (cells_in class) false

pub first_free_in-empty : (class : ℕ) → IsClass class → first_free_in (empty_page class) ≡ 0
first_free_in-empty class is =
    position_or_len_is not (replicate (cells_in class) false) 0 false (omega arith) (λ k below. absurd (omega arith))
    (λ some. ap not (get_or-replicate (cells_in class) 0 false false (omega (arith, cells_in-ge class is))))

-- changes of one cell, and the gift of a class, leave a page well-formed
pub IsWellFormedPage-with_used : (page : Page) (n : ℕ) → IsWellFormedPage page → IsWellFormedPage (with_used page n)
IsWellFormedPage-with_used page n is = record { class = is.class; cells = length-set page.used n true ∙ is.cells }

pub IsWellFormedPage-with_free : (page : Page) (n : ℕ) → IsWellFormedPage page → IsWellFormedPage (with_free page n)
IsWellFormedPage-with_free page n is = record { class = is.class; cells = length-set page.used n false ∙ is.cells }

pub IsWellFormedPage-empty : (class : ℕ) → IsClass class → IsWellFormedPage (empty_page class)
IsWellFormedPage-empty class is = record { class = is; cells = length-replicate (cells_in class) false }

pub IsWellFormedPage-free : IsWellFormedPage free_page
IsWellFormedPage-free = record { class = tt; cells = refl }

-- a page without class has no used cell
pub used_in-none : (page : Page) → page.class ≡ None → IsWellFormedPage page → used_in page ≡ 0
used_in-none page none is =
    let no_cells : cells_of page.class ≡ 0 = ap cells_of none in
    omega (arith, count_by-le-length (λ used. used) page.used, is.cells)

-- where a page has a free cell, its first free cell is one
pub first_free_in-is : (page : Page) → 0 < count_by not page.used
    → (first_free_in page < length page.used) × (is_used_in page (first_free_in page) ≡ false)
first_free_in-is page some =
    ⊎_elim
    (λ lt. (lt, not-true (is_used_in page (first_free_in page)) (passes_at_first not page.used false lt)))
    (λ le.
    let none : count_by not page.used ≡ 0 =
    sum_by-zero (λ used. cond (not used) 1 0) page.used false
    (λ k within. ap {B = ℕ} (λ b. cond b 1 0) (fails_before_first not page.used k false (omega arith))) in
    absurd (omega arith))
    (cases_lt (first_free_in page) (length page.used))
