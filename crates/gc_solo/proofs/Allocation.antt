-- What is shown where a mutator makes an object in the next words of its current half, or in a cell of its pages.
use Rattle.std.proofs.Common.{◌≡◌, ◌↔◌, ℕ, ◌+◌, ◌≤◌, ◌<◌, List, length, Bool, Option, true, false, Some, refl, sym, ap, subst, ◌∙◌, arith, nat_le, slice_index, slice_get, slice_set}
use Rattle.std.proofs.lemmas.Bool.{false≢true}
use Rattle.std.proofs.lemmas.List.{length-set}
use Rattle.std.proofs.lemmas.Option.{cond_some, get_or_from_slice_get}
use Rattle.gc_bay.specs.Bay.{Bay, IsBay}
use Rattle.gc_bay.specs.Extent.{IsFreshExtent, next_in_cells, next_in_half}
use Rattle.gc_gen2.specs.Cells.{TakesCell, next_cell}
use Rattle.gc_gen2.specs.Class.{class_of}
use Rattle.gc_layout.specs.declared.places.Part.TheVariants.{Half}
use Rattle.gc_layout.specs.declared.shape.Shape.{Shape}
use Rattle.gc_layout.specs.declared.shape.TypeNo.{TypeNo}
use Rattle.gc_layout.specs.Places.{Layout, address_of}
use Rattle.gc_layout.specs.Shape.{common_shape, size_of}
use Rattle.gc_model.specs.Answer.{shape_at}
use Rattle.gc_model.specs.Graph.{fresh_object}
use Rattle.gc_model.specs.World.{World, with_object}
use Rattle.gc_model.proofs.Sound.{mutator_at-sound}
use Rattle.gc_placement.specs.Changes.{HasOneMoreExtent, HasSameExtents, WritesFresh}
use Rattle.gc_placement.specs.Extents.{IsInAPage, LiesInHalf}
use Rattle.gc_placement.specs.Placement.{Placement, with_place}
use Rattle.gc_placement.proofs.Extents.{cell-in_page, cell-taken, half-not_in_page, more-bump, more-cell, more-then_same, same-register}
use Rattle.gc_placement.proofs.Placement.{with_place-same}
use Rattle.gc_placement.proofs.Rest.{HasSameLists, rest-new, with_place-keeps}
use Rattle.gc_solo.specs.Allocation.{HasMade}
use Rattle.gc_solo.specs.Kept.{Kept, bay_at, memory_of}
use Rattle.gc_solo.specs.Stands.{IsReadyFor}
use Rattle.gc_solo.proofs.Registers.{bay-written, blocked-same, ready-bay, ready-mutator, with_registers}

-- ---- what is read

-- the size that is computed of a type's shape is that of its objects
pub size-read : (types : List Shape) (ty size : ℕ) (found : Option Shape) (shape : Shape) → found ≡ slice_get types ty
    → found ≡ Some shape → size ≡ size_of shape → size ≡ size_of (shape_at types ty)
size-read types ty size found shape is some size_is =
    size_is ∙ ap size_of (sym (get_or_from_slice_get types ty shape common_shape (sym is ∙ some)))

-- a mutator's bay is in the layout
pub layout-read : (kept : Kept) (placement : Placement) (world : World) (t : ℕ) → IsReadyFor kept placement world t
    → (bay_at kept.bays t).layout ≡ kept.layout
layout-read kept placement world t ready =
    ready.shows.rest.shown.bays.layout_is t (ready-mutator kept placement world t ready)

-- ---- what is taken

-- the bay of which so many words more of the current half are used
abbrev pub with_more : Bay → ℕ → Bay
with_more bay size = record bay { used = bay.used + size }

-- a bay has taken so many fresh words from an address on, in a page or not, and else is as it was
pub record TookExtent (old new : Bay) (address size : ℕ) (in_page : Bool) : Type 0 where
  pub fresh : IsFreshExtent old address size
  pub more : HasOneMoreExtent old new address size
  pub lists : HasSameLists old new
  pub registers : new.registers ≡ old.registers
  pub paged : (in_page ≡ true) ↔ IsInAPage old.layout address

-- the next words of a half lie in it
bump-lies : (bay : Bay) (size address : ℕ) → Some address ≡ next_in_half bay size
    → LiesInHalf bay.layout bay.mutator bay.half (bay.used + size) address size
bump-lies bay size address next =
    let start : address_of bay.layout bay.mutator (Half bay.half bay.used) ≡ address =
    (cond_some (nat_le (bay.used + size) bay.layout.nursery) (address_of bay.layout bay.mutator (Half bay.half bay.used)) address
    (sym next)).1 in
    record { from = omega (arith, start); to = omega (arith, start) }

-- so they lie in no page
bump-young : (bay : Bay) (size address : ℕ) → IsBay (with_more bay size) → 1 ≤ size → Some address ≡ next_in_half bay size
    → (false ≡ true) ↔ IsInAPage bay.layout address
bump-young bay size address is some next = (
  λ same. absurd (false≢true same),
  λ page. absurd (half-not_in_page bay.layout bay.mutator bay.half (bay.used + size) address size is.half is.used some
      (bump-lies bay size address next) page),
)

-- the next words of the current half are taken
pub took-words : (old new : Bay) (size address : ℕ) → 1 ≤ size → Some address ≡ next_in_half old size → IsFreshExtent old address size
    → new ≡ with_more old size → IsBay new → TookExtent old new address size false
took-words old new size address some next fresh taken new_is =
    let is : IsBay (with_more old size) = subst IsBay taken new_is in
    subst (λ (each : Bay). TookExtent old each address size false) (sym taken)
    (record {
      fresh = fresh;
      more = more-bump old size address is next;
      lists = record { remembered = refl; grey = refl };
      registers = refl;
      paged = bump-young old size address is some next;
    })

-- the next cell of the size's class is taken
pub took-cell : (old new : Bay) (size address : ℕ) → Some address ≡ next_in_cells old size → IsFreshExtent old address size
    → ((offset : ℕ) → next_cell old.pages (class_of size) ≡ Some offset → TakesCell old.pages new.pages (class_of size) offset)
    → new ≡ record old { pages = new.pages; given = new.given } → IsBay new → TookExtent old new address size true
took-cell old new size address next fresh takes rest is =
    let layout : new.layout ≡ old.layout = ap (λ (bay : Bay). bay.layout) rest in
    let inside : IsInAPage new.layout address =
    cell-in_page new.layout new.mutator new.pages address size is.page_count (cell-taken old new size address next takes rest) in
    record {
      fresh = fresh;
      more = more-cell old new size address next takes rest is;
      lists = record { remembered = ap (λ (bay : Bay). bay.remembered) rest; grey = ap (λ (bay : Bay). bay.grey) rest };
      registers = ap (λ (bay : Bay). bay.registers) rest;
      paged = (λ same. subst (λ (each : Layout). IsInAPage each address) layout inside, λ page. refl);
    }

-- ---- what is made

-- a new object is written to what its maker's bay has taken for it, and a register comes to name it
pub made-new : (kept : Kept) (placement : Placement) (world : World) (t into address size : ℕ) (ty : TypeNo) (in_page : Bool)
    (words : List ℕ) (mid bay : Bay) → IsReadyFor kept placement world t → into < 16 → ty.0 < length kept.types
    → size ≡ size_of (shape_at kept.types ty.0) → TookExtent (bay_at kept.bays t) mid address size in_page
    → bay ≡ with_registers mid (slice_set mid.registers into address) → IsBay bay
    → WritesFresh (λ a. slice_index kept.words a) (λ a. slice_index words a) address size ty in_page
    → length words ≡ length kept.words
    → HasMade kept (record kept { words = words; bays = slice_set kept.bays t bay }) placement world t into ty.0
made-new kept placement world t into address size ty in_page words mid bay ready within known size_is took named bay_is writes count =
    let old = bay_at kept.bays t in
    let shows = ready.shows in
    let below = ready-mutator kept placement world t ready in
    let there = ready-bay kept placement world t ready in
    let new : Kept = record kept { words = words; bays = slice_set kept.bays t bay } in
    let same : HasSameExtents mid bay =
    subst (HasSameExtents mid) (sym named) (same-register mid (slice_set mid.registers into address) (subst IsBay named bay_is)) in
    let lists : HasSameLists old bay = record {
      remembered = ap (λ (each : Bay). each.remembered) named ∙ took.lists.remembered;
      grey = ap (λ (each : Bay). each.grey) named ∙ took.lists.grey;
    } in
    let registers : bay.registers ≡ slice_set old.registers into address =
    ap (λ (each : Bay). each.registers) named ∙ ap (λ (each : List ℕ). slice_set each into address) took.registers in
    let paged : (in_page ≡ true) ↔ IsInAPage kept.layout address =
    subst (λ (each : Layout). (in_page ≡ true) ↔ IsInAPage each address) (layout-read kept placement world t ready) took.paged in
    record {
      same = record { types = refl; layout = refl; reports = refl; room = refl; due = refl };
      after = with_place placement (length world.graph) address;
      shown = record {
        rest = rest-new (memory_of kept) (memory_of new) placement world t into address size ty in_page bay shows.rest refl refl below
            within known size_is took.fresh writes paged (bay-written kept.bays t bay there)
            (more-then_same old mid bay address size took.more same) lists registers (mutator_at-sound world ready.sound t).0;
        words = count ∙ shows.words;
        bays = length-set kept.bays t bay ∙ shows.bays;
        eight = shows.eight;
        blocked = blocked-same kept.layout.mutators kept.blocked
            (with_object world (fresh_object ty.0 (Some t) (shape_at kept.types ty.0))) t _ refl shows.blocked;
      };
      more = with_place-keeps placement world.graph address shows.rest.shown.lying.there;
      placed = record { address = address; at = with_place-same placement (length world.graph) address };
    }
