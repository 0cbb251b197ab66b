-- How the heap that was just made shows the first world.
use Rattle.std.proofs.Common.{◌≡◌, ◌∙◌, ℕ, ◌+◌, ◌<◌, Bool, false, List, length, replicate, Some, refl, sym, ap, slice_index, slice_index_or, slice_set, arith, true}
use Rattle.std.proofs.lemmas.List.{get_or-set_other, get_or-set_same, length-set}
use Rattle.gc_bay.specs.Bay.{Bay, IsBay, fresh_bay}
use Rattle.gc_bay.specs.Extent.{next_in_cells}
use Rattle.gc_gen2.specs.Cells.{TakesCell, next_cell}
use Rattle.gc_gen2.specs.Class.{class_of}
use Rattle.gc_layout.specs.declared.shape.TypeNo.{TypeNo}
use Rattle.gc_layout.specs.Places.{IsWithinLimits, cell_address, word_count}
use Rattle.gc_layout.specs.Types.{AreTypes}
use Rattle.gc_model.specs.World.{Mutator, first_world, fresh_mutator}
use Rattle.gc_placement.specs.Changes.{ChangesBay, HasSameExtents, WritesFresh}
use Rattle.gc_placement.proofs.Extents.{more-cell, more-then_same}
use Rattle.gc_placement.proofs.First.{first_placement, fresh-next_in_cells}
use Rattle.gc_placement.proofs.Lists.{replicate-at}
use Rattle.gc_placement.proofs.Rest.{HasSameLists, rest-first}
use Rattle.gc_solo.specs.Kept.{Kept, ShowsBy, bay_at, memory_of, most_mutators, no_bay}

-- a heap in which nothing was done yet
pub record IsFresh (kept : Kept) : Type 0 where
  pub types : AreTypes kept.types
  pub limits : IsWithinLimits kept.layout
  pub words : length kept.words ≡ 1 + word_count kept.layout
  pub bays : length kept.bays ≡ kept.layout.mutators
  pub fresh : (t : ℕ) → t < kept.layout.mutators → bay_at kept.bays t ≡ fresh_bay kept.layout t
  pub blocked : kept.blocked ≡ replicate most_mutators false

-- a bay has taken its next cell for so many words
pub record TookCell (old new : Bay) (size address : ℕ) : Type 0 where
  pub address_is : Some address ≡ next_in_cells old size
  pub takes : (offset : ℕ) → next_cell old.pages (class_of size) ≡ Some offset → TakesCell old.pages new.pages (class_of size) offset
  pub rest : new ≡ record old { pages = new.pages; given = new.given }
  pub is : IsBay new

-- the count of the pages that were given a class is no part of a bay's extents
same-given : (bay : Bay) → IsBay (record bay { given = 0 }) → HasSameExtents bay (record bay { given = 0 })
same-given bay is = record { owner = record { bay = is; layout = refl; mutator = refl }; half = refl; used = refl; pages = refl }

-- nor of its lists, and taking a cell changes none
took-lists : (old took : Bay) (size address : ℕ) → TookCell old took size address → HasSameLists old (record took { given = 0 })
took-lists old took size address cell = record {
  remembered = ap (λ (own : Bay). own.remembered) cell.rest;
  grey = ap (λ (own : Bay). own.grey) cell.rest;
}

-- where a bay of the list is another one, one bay changes
changes-bay : (bays : List Bay) (t : ℕ) (bay : Bay) → t < length bays
    → ChangesBay (λ u. bay_at bays u) (λ u. bay_at (slice_set bays t bay) u) t bay
changes-bay bays t bay below =
    record { here = get_or-set_same bays t bay no_bay below; elsewhere = λ u differs. get_or-set_other bays t u bay no_bay differs }

-- where the common object was written into a cell that mutator 0 took, a heap in which nothing was done shows the first
-- world
pub first-shown : (old : Kept) (took : Bay) (words : List ℕ) (address : ℕ) (ty : TypeNo) → IsFresh old
    → TookCell (bay_at old.bays 0) took 18 address → IsBay (record took { given = 0 }) → ty.0 ≡ 0
    → WritesFresh (λ a. slice_index old.words a) (λ a. slice_index words a) address 18 ty true → length words ≡ length old.words
    → ShowsBy (record old { words = words; bays = slice_set old.bays 0 (record took { given = 0 }) }) (first_placement address)
    (first_world old.layout.mutators)
first-shown old took words address ty fresh cell is kind_is writes count =
    let layout = old.layout in
    let bay : Bay = record took { given = 0 } in
    let bays = slice_set old.bays 0 bay in
    let new : Kept = record old { words = words; bays = bays } in
    let some : 0 < length old.bays = omega (arith, fresh.bays, fresh.limits.some_mutator) in
    let first : bay_at old.bays 0 ≡ fresh_bay layout 0 = fresh.fresh 0 fresh.limits.some_mutator in
    let changes = changes-bay old.bays 0 bay some in
    let at : Some address ≡ Some (cell_address layout 0 0) =
    cell.address_is ∙ ap (λ (own : Bay). next_in_cells own 18) first ∙ fresh-next_in_cells layout 0 18 fresh.limits.some_page in
    let more = more-then_same (bay_at old.bays 0) took bay address 18
    (more-cell (bay_at old.bays 0) took 18 address cell.address_is cell.takes cell.rest cell.is) (same-given took is) in
    record {
      rest = rest-first (memory_of old) (memory_of new) address ty bay fresh.types fresh.limits fresh.fresh (cc (at)) kind_is writes
          changes more (took-lists (bay_at old.bays 0) took 18 address cell) (ap (λ (own : Bay). own.registers) cell.rest);
      words = count ∙ fresh.words;
      bays = length-set old.bays 0 bay ∙ fresh.bays;
      eight = ap length fresh.blocked;
      blocked = λ t below.
          ap (λ (all : List Bool). slice_index_or all t false) fresh.blocked ∙ replicate-at 8 t false
          ∙ sym (ap (λ (mutator : Mutator). mutator.blocked) (replicate-at layout.mutators t fresh_mutator));
    }
