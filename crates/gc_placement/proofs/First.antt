-- The first memory: all bays are fresh, but that of mutator 0, which has taken its first cell for the common object.
use Rattle.std.proofs.Common.{◌≡◌, ◌∙◌, ◌⊎◌, ℕ, ◌/◌, ◌<◌, ◌≤◌, true, List, [], length, replicate, None, Some, inl, inr, refl, sym, ap, subst, arith, lit<}
use Rattle.std.proofs.lemmas.List.{length-replicate}
use Rattle.std.proofs.lemmas.List.Elements.{All-replicate}
use Rattle.std.proofs.lemmas.List.Sums.{count_by-le-length}
use Rattle.std.proofs.lemmas.Option.{none-some}
use Rattle.std.specs.Prelude.{option_map}
use Rattle.gc_bay.specs.Bay.{Bay, IsBay, fresh_bay}
use Rattle.gc_bay.specs.Extent.{next_in_cells}
use Rattle.gc_gen2.proofs.ListLemmas.{count_by-all, position-first, position-none}
use Rattle.gc_gen2.proofs.NextCellLaws.{next-fresh}
use Rattle.gc_gen2.proofs.PageLemmas.{IsWellFormedPage-free}
use Rattle.gc_gen2.specs.Cells.{IsUsed, IsWellFormed, class_at, first_free_page, first_page_with_room, free_pages, next_cell}
use Rattle.gc_gen2.specs.Class.{class_of}
use Rattle.gc_gen2.specs.Page.{IsWellFormedPage, Page, free_page, has_room, is_free_page}
use Rattle.gc_layout.specs.declared.shape.TypeNo.{TypeNo}
use Rattle.gc_layout.specs.Places.{IsWithinLimits, Layout, cell_address}
use Rattle.gc_layout.specs.Types.{AreTypes}
use Rattle.gc_model.specs.Graph.{object_at, object_size}
use Rattle.gc_model.specs.World.{first_world, fresh_mutator}
use Rattle.gc_placement.specs.Bays.{AreBays}
use Rattle.gc_placement.specs.Changes.{ChangesBay, HasOneMoreExtent, WritesFresh}
use Rattle.gc_placement.specs.Extents.{AllLie, EachCellHolds, HoldsPlaced, IsInAPage, LiesIn, home_of}
use Rattle.gc_placement.specs.Memory.{Memory}
use Rattle.gc_placement.specs.Placement.{Placement, with_place}
use Rattle.gc_placement.specs.Shows.{Shows, nowhere}
use Rattle.gc_placement.proofs.Bays.{are_bays-changed, each-changed}
use Rattle.gc_placement.proofs.Lists.{replicate-at}
use Rattle.gc_placement.proofs.Names.{covers-first}
use Rattle.gc_placement.proofs.Objects.{all_stand-first}
use Rattle.gc_placement.proofs.OldInPages.{old-new}
use Rattle.gc_placement.proofs.Placement.{with_place-from}
use Rattle.gc_placement.proofs.Registers.{have_registers-first}

-- ---- fresh bays

-- pages that have no class are well formed
fresh-well_formed : (n : ℕ) → 1 ≤ n → n ≤ 128 → IsWellFormed (replicate n free_page)
fresh-well_formed n some few = record {
  some = omega (arith, some, length-replicate n free_page);
  few = omega (arith, few, length-replicate n free_page);
  each = All-replicate IsWellFormedPage n free_page IsWellFormedPage-free;
}

-- a fresh bay is a bay
pub IsBay-fresh : (layout : Layout) (m : ℕ) → IsWithinLimits layout → m < layout.mutators → IsBay (fresh_bay layout m)
IsBay-fresh layout m limits below =
    let pages = replicate layout.pages free_page in
    let count : length pages ≡ layout.pages = length-replicate layout.pages free_page in
    record {
      limits = limits;
      mutator = below;
      registers = length-replicate {A = ℕ} 16 0;
      half = lit< tt;
      used = omega arith;
      remembered = omega arith;
      grey = omega arith;
      pages = fresh-well_formed layout.pages limits.some_page limits.few_pages;
      page_count = count;
      given = omega (arith, count, count_by-le-length is_free_page pages);
      batches = length-replicate {A = List ℕ} layout.mutators [];
      objects = lit< tt;
      words = lit< tt;
    }

-- where each mutator has a fresh bay, these are bays
are_bays-fresh : (layout : Layout) (bay : ℕ → Bay) → IsWithinLimits layout
    → ((t : ℕ) → t < layout.mutators → bay t ≡ fresh_bay layout t) → AreBays layout bay
are_bays-fresh layout bay limits fresh = record {
  limits = limits;
  each = λ t below. subst IsBay (sym (fresh t below)) (IsBay-fresh layout t limits below);
  layout_is = λ t below. ap (λ (own : Bay). own.layout) (fresh t below);
  mutator_is = λ t below. ap (λ (own : Bay). own.mutator) (fresh t below);
}

-- ---- pages that have no class

-- no cell of them is used
fresh-unused : (n offset : ℕ) → IsUsed (replicate n free_page) offset → ⊥
fresh-unused n offset used =
    let none : class_at (replicate n free_page) (offset / 1024) ≡ None =
    ap (λ (page : Page). page.class) (replicate-at n (offset / 1024) free_page) in
    none-some used.0 (sym none ∙ used.1.cell.page)

-- all of them are free
pub fresh-free_pages : (n : ℕ) → free_pages (replicate n free_page) ≡ n
fresh-free_pages n =
    count_by-all is_free_page (replicate n free_page) free_page (λ k below. ap is_free_page (replicate-at n k free_page))
    ∙ length-replicate n free_page

-- the next cell is the first one
pub fresh-next_cell : (n class : ℕ) → 1 ≤ n → next_cell (replicate n free_page) class ≡ Some 0
fresh-next_cell n class some =
    let pages = replicate n free_page in
    let full : first_page_with_room pages class ≡ None =
    position-none (λ page. has_room page class) pages free_page
    (λ k below. ap (λ (page : Page). has_room page class) (replicate-at n k free_page)) in
    let first : first_free_page pages ≡ Some 0 =
    position-first is_free_page pages 0 free_page (omega (arith, some, length-replicate n free_page))
    (λ k below. absurd (omega (arith, below))) (ap is_free_page (replicate-at n 0 free_page)) in
    next-fresh pages class (Some 0) full first ∙ ap Some (omega arith)

-- so a fresh bay's first cell is its next one
pub fresh-next_in_cells : (layout : Layout) (m size : ℕ) → 1 ≤ layout.pages
    → next_in_cells (fresh_bay layout m) size ≡ Some (cell_address layout m 0)
fresh-next_in_cells layout m size some =
    ap (option_map (cell_address layout m)) (fresh-next_cell layout.pages (class_of size) some)

-- ---- the first memory

-- the placement of the common object alone
abbrev pub first_placement : ℕ → Placement
first_placement address = with_place (λ number. None) 0 address

-- it places nothing else
first-placed : (address number place : ℕ) → first_placement address number ≡ Some place → (number ≡ 0) × (place ≡ address)
first-placed address number place at = elim (with_place-from (λ each. None) 0 address number place at) [
  | inl here ↦ here
  | inr before ↦ absurd (none-some place before.1)
]

-- the first cell of mutator 0 is in a page
first-in_page : (layout : Layout) (address : ℕ) → IsWithinLimits layout → address ≡ cell_address layout 0 0 → IsInAPage layout address
first-in_page layout address limits at =
    record { mutator = 0; inside = record { from = omega (arith, at); to = omega (arith, at, limits.some_page) } }

-- the common object lies in it
first-lies : (mutators : ℕ) (bay : ℕ → Bay) (address : ℕ) → 1 ≤ mutators → LiesIn (bay 0) address 18
    → AllLie mutators bay (first_placement address) (first_world mutators).graph
first-lies mutators bay address some lies =
    let graph = (first_world mutators).graph in
    record {
      there = λ number place at. omega (arith, (first-placed address number place at).0);
      home = λ number place at.
          subst (λ (n : ℕ). home_of (object_at graph n).maker < mutators) (sym (first-placed address number place at).0)
          (omega (arith, some));
      lying = λ number place at.
          let is = first-placed address number place at in
          subst (λ (n : ℕ). LiesIn (bay (home_of (object_at graph n).maker)) place (object_size (object_at graph n))) (sym is.0)
          (subst (λ (a : ℕ). LiesIn (bay 0) a 18) (sym is.1) lies);
    }

-- no other cell is used
first-cells : (layout : Layout) (old new : ℕ → Bay) (bay : Bay) (address : ℕ)
    → ((t : ℕ) → t < layout.mutators → old t ≡ fresh_bay layout t) → ChangesBay old new 0 bay
    → HasOneMoreExtent (old 0) bay address 18 → EachCellHolds layout.mutators new (first_placement address) nowhere
first-cells layout old new bay address fresh changes more t offset =
    let unused : (u at : ℕ) → u < layout.mutators → IsUsed (old u).pages at → ⊥ = λ u at below used.
    fresh-unused layout.pages at (subst (λ (own : Bay). IsUsed own.pages at) (fresh u below) used) in
    each-changed
    (λ m each. (at : ℕ) → m < layout.mutators → IsUsed each.pages at
    → HoldsPlaced (first_placement address) (cell_address each.layout each.mutator at)
    ⊎ (nowhere (cell_address each.layout each.mutator at) ≡ true))
    old new 0 bay changes
    (λ at there used. elim (more.more at used) [
      | inl was ↦ absurd (unused 0 at there was)
      | inr here ↦ rw here (inl (record { number = 0; at = refl }))
    ])
    (λ m differs at there used. absurd (unused m at there used)) t offset

-- where all bays were fresh and the common object was written into a cell that mutator 0 took, the memory shows the
-- first world
pub shows-first : (old new : Memory) (address : ℕ) (ty : TypeNo) (bay : Bay) → AreTypes new.types → IsWithinLimits new.layout
    → ((t : ℕ) → t < new.layout.mutators → old.bay t ≡ fresh_bay new.layout t) → address ≡ cell_address new.layout 0 0
    → ty.0 ≡ 0 → WritesFresh old.word new.word address 18 ty true → ChangesBay old.bay new.bay 0 bay
    → HasOneMoreExtent (old.bay 0) bay address 18 → bay.registers ≡ (old.bay 0).registers
    → Shows new (first_placement address) (first_world new.layout.mutators)
shows-first old new address ty bay are_types limits fresh at kind_is writes changes more registers =
    let layout = new.layout in
    let nothing : Placement = λ number. None in
    let some : 0 < layout.mutators = limits.some_mutator in
    record {
      are_types = are_types;
      bays = are_bays-changed layout old.bay new.bay 0 bay (are_bays-fresh layout old.bay limits fresh) changes (λ _. more.owner);
      mutators = length-replicate layout.mutators fresh_mutator;
      standing = all_stand-first new.word layout.mutators address ty kind_is writes.header writes.zeros;
      old = old-new old.word new.word layout nothing [] 0 address 18 ty true (λ number place placed. absurd (none-some place placed))
          (omega (arith, kind_is)) writes (λ _. first-in_page layout address limits at, λ _. refl)
          (λ each a word. absurd (none-some word.address word.at));
      lying = first-lies layout.mutators new.bay address limits.some_mutator
          (subst (λ (own : Bay). LiesIn own address 18) (sym changes.here) more.lies);
      common = ap Some at;
      apart = λ a i j one other. (first-placed address i one.address one.at).0 ∙ sym (first-placed address j other.address other.at).0;
      cells = first-cells layout old.bay new.bay bay address fresh changes more;
      registers = have_registers-first layout.mutators new.bay (first_placement address)
          (each-changed (λ t own. t < layout.mutators → own.registers ≡ replicate 16 0) old.bay new.bay 0 bay changes
          (λ below. registers ∙ ap (λ (own : Bay). own.registers) (fresh 0 below))
          (λ t differs below. ap (λ (own : Bay). own.registers) (fresh t below)));
      covers = covers-first layout.mutators address;
    }
