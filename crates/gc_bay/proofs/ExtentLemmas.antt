-- Where halves and cells lie, and that the next words of each are a fresh extent.
use Rattle.std.proofs.Common.{◌≡◌, ⊎_elim, ℕ, ◌+◌, ◌-◌, ◌*◌, ◌/◌, ◌%◌, ◌<◌, ◌≤◌, Bool, true, false, if◌then◌else◌, nat_le, Option, Some, None, List, length, refl, sym, subst, ap, ◌∙◌, cond, leb-true, get_or-set_same, arith}
use Rattle.std.proofs.Math.Nat.{mul-le-mul_right}
use Rattle.std.proofs.lemmas.List.{length-set}
use Rattle.std.proofs.lemmas.List.Sums.{sum_by-set}
use Rattle.std.specs.Prelude.{is_none}
use Rattle.gc_gen2.specs.Cells.{IsWellFormed, free_pages, TakesCell, next_cell, page_at, page_for, with_cell}
use Rattle.gc_gen2.specs.Class.{IsClass}
use Rattle.gc_gen2.specs.Page.{Page, free_page, is_free_page, with_used}
use Rattle.gc_gen2.proofs.NextCellLaws.{IsWellFormed-with_cell, TakesCell-next}
use Rattle.gc_gen2.proofs.PagesLemmas.{page-within}
use Rattle.gc_layout.specs.Places.{Layout, address_of, cell_address, region_start}
use Rattle.gc_layout.specs.declared.places.Part.TheVariants.{Half, Page as InPage}
use Rattle.gc_bay.specs.Bay.{Bay, IsBay}
use Rattle.gc_bay.specs.Extent.{IsUsedInHalf, IsUsedInCells, IsFreshExtent, next_in_half}

-- a word of a half, or its end, lies before the pages
pub half-ends : (layout : Layout) (m half used : ℕ) → half < 2 → used ≤ layout.nursery
    → address_of layout m (Half half used) ≤ address_of layout m (InPage 0 0)
half-ends layout m half used below within =
    let first : half ≤ 1 = omega arith in omega (arith, mul-le-mul_right layout.nursery first)

-- the pages end with the region
pub pages-end : (layout : Layout) (m offset class : ℕ) → offset + class ≤ 1024 * layout.pages
    → cell_address layout m offset + class ≤ region_start layout (m + 1)
pages-end layout m offset class inside = omega arith

-- the next words of the current half are a fresh extent
pub fresh-in_half : (bay : Bay) (size : ℕ) → IsBay bay → bay.used + size ≤ bay.layout.nursery
    → IsFreshExtent bay (address_of bay.layout bay.mutator (Half bay.half bay.used)) size
fresh-in_half bay size is fits =
    let end : address_of bay.layout bay.mutator (Half bay.half (bay.used + size)) ≤ address_of bay.layout bay.mutator (InPage 0 0) =
    half-ends bay.layout bay.mutator bay.half (bay.used + size) is.half fits in
    record {
      from = omega arith;
      to = omega (arith, end, pages-end bay.layout bay.mutator 0 0);
      apart = λ a from to used. ⊎_elim
          (λ (half : IsUsedInHalf bay a). omega (arith, half.to))
          (λ (cell : IsUsedInCells bay a). omega (arith, end, cell.from))
          used;
    }

-- what is given where a test holds, and else nothing, is given where it holds
given-where : (test : Bool) (address a : ℕ) → Some a ≡ (if test then Some address else None) → (test ≡ true) × (a ≡ address)
given-where true address a given = (refl, cc)
given-where false address a given = cc

-- so what a half gives next is one
pub fresh-next : (bay : Bay) (size a : ℕ) → IsBay bay → Some a ≡ next_in_half bay size → IsFreshExtent bay a size
fresh-next bay size a is given =
    let fits = nat_le (bay.used + size) bay.layout.nursery in
    let next = given-where fits (address_of bay.layout bay.mutator (Half bay.half bay.used)) a given in
    subst (λ start. IsFreshExtent bay start size) (sym next.1)
    (fresh-in_half bay size is (leb-true (bay.used + size) bay.layout.nursery next.0))

-- a cell that is taken is a fresh extent for each size that it holds
pub fresh-in_cells : (bay : Bay) (pages : List Page) (class offset size : ℕ) → IsBay bay → size ≤ class
    → offset + class ≤ 1024 * bay.layout.pages → TakesCell bay.pages pages class offset
    → IsFreshExtent bay (cell_address bay.layout bay.mutator offset) size
fresh-in_cells bay pages class offset size is fits inside takes =
    let end : address_of bay.layout bay.mutator (Half bay.half bay.used) ≤ address_of bay.layout bay.mutator (InPage 0 0) =
    half-ends bay.layout bay.mutator bay.half bay.used is.half is.used in
    record {
      from = omega arith;
      to = omega (arith, pages-end bay.layout bay.mutator offset class inside);
      apart = λ a from to used. ⊎_elim
          (λ (half : IsUsedInHalf bay a). omega (arith, end, half.to))
          (λ (cell : IsUsedInCells bay a). ⊎_elim
          (λ (before : offset + class ≤ cell.offset). omega (arith, cell.from))
          (λ (behind : cell.offset + cell.class ≤ offset). omega (arith, cell.to))
          (takes.apart cell.class cell.offset cell.cell))
          used;
    }

-- the next cell lies inside the pages
pub next-inside : (pages : List Page) (class offset : ℕ) → IsWellFormed pages → IsClass class
    → next_cell pages class ≡ Some offset → offset + class ≤ 1024 * length pages
next-inside pages class offset are is next =
    let takes = TakesCell-next pages class offset are is next in
    let there : offset / 1024 < length (with_cell pages class offset) =
    page-within (with_cell pages class offset) (offset / 1024) class takes.used.cell.page in
    omega (arith, there, takes.inside, length-set pages (offset / 1024))

-- one for a free page
free_count : Page → ℕ
free_count page = cond (is_free_page page) 1 0

-- a page that has a class is no free page
counts-nothing : (page : Page) (class : ℕ) → page.class ≡ Some class → free_count page ≡ 0
unfolding free_count
counts-nothing page class of = ap (λ (own : Option ℕ). let n : ℕ = cond (is_none own) 1 0 in n) of

-- no page loses its class where a cell is taken
pub free_pages-with_cell : (pages : List Page) (class offset : ℕ) → IsWellFormed pages → IsClass class
    → next_cell pages class ≡ Some offset → free_pages (with_cell pages class offset) ≤ free_pages pages
unfolding free_count
free_pages-with_cell pages class offset are is next =
    let index = offset / 1024 in
    let takes = TakesCell-next pages class offset are is next in
    let there : index < length pages =
    omega (arith, page-within (with_cell pages class offset) index class takes.used.cell.page, length-set pages index) in
    let page : Page = with_used (page_for (page_at pages index) class) (offset % 1024 / class) in
    let of : page.class ≡ Some class =
    ap (λ (each : Page). each.class) (sym (get_or-set_same pages index page free_page there)) ∙ takes.used.cell.page in
    omega (arith, sum_by-set free_count pages index page free_page there, counts-nothing page class of)

-- a bay with the next cell of a class used, and with the pages counted that were given one
pub bay-with_cell : (bay : Bay) (pages : List Page) (class offset given : ℕ) → IsBay bay → IsClass class
    → next_cell bay.pages class ≡ Some offset → pages ≡ with_cell bay.pages class offset
    → given ≡ bay.given + (free_pages bay.pages - free_pages pages) → IsBay (record bay { pages = pages; given = given })
bay-with_cell bay pages class offset given is of next same counted =
    record {
      limits = is.limits;
      mutator = is.mutator;
      registers = is.registers;
      half = is.half;
      used = is.used;
      remembered = is.remembered;
      grey = is.grey;
      pages = rw same (IsWellFormed-with_cell bay.pages class offset is.pages of next);
      page_count = ap length same ∙ length-set bay.pages (offset / 1024) _ ∙ is.page_count;
      given = omega (arith, counted, is.given, ap free_pages same, free_pages-with_cell bay.pages class offset is.pages of next);
      batches = is.batches;
      objects = is.objects;
      words = is.words;
    }
