-- The heap was fresh, and mutator 0 took its first cell for the common object.
use Rattle.std.proofs.Common.{◌≡◌, ◌∙◌, ℕ, ◌<◌, length, slice_index, slice_set, refl, sym, subst, arith, true}
use Rattle.std.proofs.lemmas.List.{get_or_read}
use Rattle.gc_bay.specs.Bay.{Bay, IsBay}
use Rattle.gc_model.specs.World.{first_world}
use Rattle.gc_placement.specs.Changes.{WritesFresh}
use Rattle.gc_placement.specs.Placement.{Placement}
use Rattle.gc_placement.proofs.First.{first_placement}
use Rattle.gc_solo.specs.declared.heap.Heap.{Heap}
use Rattle.gc_solo.specs.Kept.{ShowsBy, bay_at, kept_of, memory_of, no_bay}
use Rattle.gc_solo.proofs.First.{IsFresh, TookCell, first-shown}
use Rattle.gc_solo.proofs.heap.Heap.make_common.Goals as goal

pub returns-clause-shown : goal.returns-clause-shown
returns-clause-shown c =
    let old = c.args.self.now in
    let was = c.index_mut-bay.result.now in
    let address = c.unwrap-address.result in
    let some : 0 < length old.bays.items = omega (arith, c.requires.bays, c.requires.limits.some_mutator) in
    let first : was ≡ bay_at old.bays.items 0 = get_or_read old.bays.items 0 was some c.index_mut-bay.ensures.value no_bay in
    let fresh : IsFresh (kept_of old) = record {
      types = c.requires.types;
      limits = c.requires.limits;
      words = c.requires.words;
      bays = c.requires.bays;
      fresh = c.requires.fresh;
      blocked = c.requires.blocked;
    } in
    let sized : TookCell was c.cell.new.self c.size-size.result address = record {
      address_is = sym c.unwrap-address.ensures ∙ c.cell.ensures.address;
      takes = c.cell.ensures.takes;
      rest = c.cell.ensures.rest;
      is = c.cell.ensures.bay;
    } in
    let cell : TookCell (bay_at old.bays.items 0) c.cell.new.self 18 address =
    subst (λ (own : Bay). TookCell own c.cell.new.self 18 address) first
    (subst (λ (size : ℕ). TookCell was c.cell.new.self size address) c.size-size.ensures sized) in
    let words = c.write_fresh.new.self.words.items in
    let Written : ℕ → Type 0 =
    λ size. WritesFresh (memory_of (kept_of old)).word (λ a. slice_index words a) address size (record { 0 = 0 }) true in
    let written : Written 18 = subst Written c.size-size.ensures c.write_fresh.ensures.written in
    let reset = c.reset_given.ensures.given in
    let is : IsBay (record c.cell.new.self { given = 0 }) = subst IsBay reset c.reset_given.ensures.bay in
    let Shown : Bay → Type 0 =
    λ own. ShowsBy (record (kept_of old) { words = words; bays = slice_set old.bays.items 0 own }) (first_placement address)
    (first_world old.places.mutators) in
    let shown : Shown c.reset_given.new.self =
    subst Shown (sym reset)
    (first-shown (kept_of old) c.cell.new.self words address (record { 0 = 0 }) fresh cell is refl written c.write_fresh.ensures.count) in
    subst (λ (heap : Heap). (placement : Placement) × ShowsBy (kept_of heap) placement (first_world heap.places.mutators))
    (sym c.write_fresh.ensures.rest) (first_placement address, shown)
