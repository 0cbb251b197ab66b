-- What leaves a memory at rest: each step of the placement law carries the remembered set too, and greys nothing.
use Rattle.std.proofs.Common.{◌≡◌, ◌≢◌, ◌∙◌, ◌⊎◌, ◌↔◌, ⊎_elim, ℕ, ◌+◌, ◌<◌, ◌≤◌, Bool, true, [], length, Option, None, Some, refl, ap, sym, subst, arith, slice_index, slice_index_or, slice_set}
use Rattle.gc_bay.specs.Bay.{Bay, fresh_bay}
use Rattle.gc_bay.specs.Extent.{IsFreshExtent}
use Rattle.gc_layout.specs.declared.head.Head.{Head}
use Rattle.gc_layout.specs.declared.shape.TypeNo.{TypeNo}
use Rattle.gc_layout.specs.Head.{fresh_head}
use Rattle.gc_layout.specs.Places.{IsWithinLimits, Layout, cell_address}
use Rattle.gc_layout.specs.Shape.{size_of}
use Rattle.gc_layout.specs.Types.{AreTypes}
use Rattle.gc_model.specs.Answer.{shape_at, with_new}
use Rattle.gc_model.specs.Graph.{Graph, object_at}
use Rattle.gc_model.specs.World.{Mutator, World, first_world, mutator_at, slot_at, with_blocked, with_mutator, with_number, with_register}
use Rattle.gc_placement.specs.Changes.{ChangesBay, HasOneMoreExtent, HasSameExtents, KeepsBays, KeepsWords, Stores, WritesFresh}
use Rattle.gc_placement.specs.Extents.{IsInAPage}
use Rattle.gc_placement.specs.Headers.{head_of}
use Rattle.gc_placement.specs.Memory.{Memory}
use Rattle.gc_placement.specs.Rest.{IsAtRest}
use Rattle.gc_placement.specs.Placement.{IsNamePlaced, IsPlaced, IsWordOf, Placement, name_address, with_place}
use Rattle.gc_placement.specs.Remembered.{AreLists, IsRemembered}
use Rattle.gc_placement.specs.Shows.{Shows, nowhere}
use Rattle.gc_placement.proofs.Bays.{each-changed}
use Rattle.gc_placement.proofs.Extents.{fresh-apart}
use Rattle.gc_placement.proofs.First.{first_placement, shows-first}
use Rattle.gc_placement.proofs.Headers.{head_of-head_word}
use Rattle.gc_placement.proofs.OldInPages.{headers-stored}
use Rattle.gc_placement.proofs.Placement.{with_place-other}
use Rattle.gc_placement.proofs.Remembered.{bits-frame, bits-new, bits-none, lists-first, lists-frame, lists-placed, remembered-frame, unplaced-on_no_list, young-first, young-frame, young-new}
use Rattle.gc_placement.proofs.Shows.{shows-blocked, shows-mutator, shows-new, shows-number, shows-register}
use Rattle.gc_placement.proofs.Worlds.{slot_at-number}

-- ---- the lists of bays

-- a bay's lists are as before
pub record HasSameLists (old new : Bay) : Type 0 where
  pub remembered : new.remembered ≡ old.remembered
  pub grey : new.grey ≡ old.grey

-- a bay that is as it was has the lists that it had
same_lists-of : (old new : Bay) → new ≡ old → HasSameLists old new
same_lists-of old new same =
    record { remembered = ap (λ (bay : Bay). bay.remembered) same; grey = ap (λ (bay : Bay). bay.grey) same }

-- one bay changes and keeps its lists: so do all
pub same_lists-changed : (old new : ℕ → Bay) (t : ℕ) (bay : Bay) → ChangesBay old new t bay → HasSameLists (old t) bay
    → (u : ℕ) → HasSameLists (old u) (new u)
same_lists-changed old new t bay changes same =
    each-changed (λ u each. HasSameLists (old u) each) old new t bay changes same (λ u differs. same_lists-of (old u) (old u) refl)

-- ---- a memory at rest

-- what shows a world with its remembered set, and greys nothing, is at rest, also where its layout is told by another name
pub rest-made : (memory : Memory) (layout : Layout) (placement : Placement) (world : World) → memory.layout ≡ layout
    → Shows memory placement world → IsRemembered memory.word layout memory.bay placement world nowhere
    → ((t : ℕ) → t < layout.mutators → (memory.bay t).grey ≡ []) → IsAtRest memory placement world
rest-made memory layout placement world same shown remembered no_grey = record {
  shown = shown;
  remembered = subst (λ (each : Layout). IsRemembered memory.word each memory.bay placement world nowhere) (sym same) remembered;
  no_grey = λ t below. no_grey t (omega (arith, below, ap (λ (each : Layout). each.mutators) same));
}

-- no list is grey where the lists are as before
grey-frame : (old new : Memory) (placement : Placement) (world : World) → IsAtRest old placement world
    → ((u : ℕ) → HasSameLists (old.bay u) (new.bay u)) → (t : ℕ) → t < old.layout.mutators → (new.bay t).grey ≡ []
grey-frame old new placement world rest lists t below = (lists t).grey ∙ rest.no_grey t below

-- the lists, and the headers and slots of placed objects, are as before
pub rest-frame : (old new : Memory) (placement : Placement) (world after : World) → IsAtRest old placement world
    → Shows new placement after → new.layout ≡ old.layout → ((u : ℕ) → HasSameLists (old.bay u) (new.bay u))
    → ((number address : ℕ) → placement number ≡ Some address → new.word address ≡ old.word address)
    → ((number place : ℕ) → IsPlaced placement number → slot_at after number place ≡ slot_at world number place)
    → IsAtRest new placement after
rest-frame old new placement world after rest shown layout lists headers slots =
    rest-made new old.layout placement after layout shown
    (remembered-frame old.word new.word old.layout old.bay new.bay placement world after nowhere rest.remembered headers
    (λ t below. (lists t).remembered) slots)
    (grey-frame old new placement world rest lists)

-- a number of an object is another one, where the word for it is stored
pub rest-number : (old new : Memory) (placement : Placement) (world : World) (number place address at v : ℕ)
    → IsAtRest old placement world → KeepsBays old new → Stores old.word new.word at v → placement number ≡ Some address
    → place < length (object_at world.graph number).numbers → at ≡ address + 2 + length (object_at world.graph number).slots + place
    → IsAtRest new placement (with_number world number place v)
rest-number old new placement world number place address at v rest keeps stores placed below at_is =
    rest-frame old new placement world (with_number world number place v) rest
    (shows-number old new placement world number place address at v rest.shown keeps stores placed below at_is)
    keeps.layout
    (λ u. same_lists-of (old.bay u) (new.bay u) (keeps.bays u))
    (headers-stored old.word new.word placement world.graph number address at v rest.shown.apart placed (omega (arith, at_is))
    (omega (arith, at_is, below)) stores)
    (λ other slot placed_other. slot_at-number world number place v other slot)

-- a mutator is another one, and so are the registers of its bay
pub rest-mutator : (old new : Memory) (placement : Placement) (world : World) (t : ℕ) (bay : Bay) (mutator : Mutator)
    → IsAtRest old placement world → KeepsWords old new → ChangesBay old.bay new.bay t bay → t < old.layout.mutators
    → HasSameExtents (old.bay t) bay → HasSameLists (old.bay t) bay
    → ((reg : ℕ) → slice_index bay.registers reg ≡ name_address placement (slice_index_or mutator.registers reg None))
    → ((reg : ℕ) → IsNamePlaced placement (slice_index_or mutator.registers reg None))
    → IsAtRest new placement (with_mutator world t mutator)
rest-mutator old new placement world t bay mutator rest keeps changes below same lists registers named =
    rest-frame old new placement world (with_mutator world t mutator) rest
    (shows-mutator old new placement world t bay mutator rest.shown keeps changes below same registers named)
    keeps.layout
    (same_lists-changed old.bay new.bay t bay changes lists)
    (λ number address placed. keeps.words address)
    (λ number place placed. refl)

-- a register comes to name what is placed, where its bay holds the address
pub rest-register : (old new : Memory) (placement : Placement) (world : World) (t reg address : ℕ) (bay : Bay) (name : Option ℕ)
    → IsAtRest old placement world → KeepsWords old new → ChangesBay old.bay new.bay t bay → t < old.layout.mutators
    → HasSameExtents (old.bay t) bay → HasSameLists (old.bay t) bay
    → bay.registers ≡ slice_set (old.bay t).registers reg address → reg < 16 → length (mutator_at world t).registers ≡ 16
    → address ≡ name_address placement name → IsNamePlaced placement name → IsAtRest new placement (with_register world t reg name)
rest-register old new placement world t reg address bay name rest keeps changes below same lists set within sixteen address_is named =
    rest-frame old new placement world (with_register world t reg name) rest
    (shows-register old new placement world t reg address bay name rest.shown keeps changes below same set within sixteen address_is
    named)
    keeps.layout
    (same_lists-changed old.bay new.bay t bay changes lists)
    (λ number a placed. keeps.words a)
    (λ number place placed. refl)

-- a mutator is blocked, or unblocked: the memory says nothing of it
pub rest-blocked : (memory : Memory) (placement : Placement) (world : World) (t : ℕ) (blocked : Bool)
    → IsAtRest memory placement world → IsAtRest memory placement (with_blocked world t blocked)
rest-blocked memory placement world t blocked rest =
    rest-frame memory memory placement world (with_blocked world t blocked) rest
    (shows-blocked memory placement world t blocked rest.shown)
    refl
    (λ u. same_lists-of (memory.bay u) (memory.bay u) refl)
    (λ number address placed. refl)
    (λ number place placed. refl)

-- ---- a new object

-- what was placed is placed where it was where one more is, that is none of the graph yet
pub with_place-keeps : (placement : Placement) (graph : Graph) (address : ℕ)
    → ((number a : ℕ) → placement number ≡ Some a → number < length graph) → (number a : ℕ) → placement number ≡ Some a
    → with_place placement (length graph) address number ≡ Some a
with_place-keeps placement graph address known number a at =
    with_place-other placement (length graph) address number
    (λ same. let below = known number a at in omega (arith, below, same)) ∙ at

-- no object is placed where a fresh one is written
fresh-unplaced : (placement : Placement) (graph : Graph) (address size : ℕ) → 1 ≤ size
    → ((number a : ℕ) → IsWordOf placement graph number a → (a < address) ⊎ (address + size ≤ a))
    → (number : ℕ) → placement number ≢ Some address
fresh-unplaced placement graph address size some outside number at =
    ⊎_elim (λ before. omega (arith, before)) (λ behind. omega (arith, behind, some))
    (outside number address (record { address = address; at = at; from = omega arith; to = omega arith }))

-- the remembered set where a fresh object is given a place: it stands on no list
remembered-new : (old new : Memory) (placement : Placement) (world : World) (t into address size : ℕ) (ty : TypeNo) (in_page : Bool)
    → IsAtRest old placement world → ty.0 < 256 → 1 ≤ size → WritesFresh old.word new.word address size ty in_page
    → ((u : ℕ) → HasSameLists (old.bay u) (new.bay u))
    → ((number a : ℕ) → IsWordOf placement world.graph number a → (a < address) ⊎ (address + size ≤ a))
    → IsRemembered new.word old.layout new.bay (with_place placement (length world.graph) address)
    (with_new old.types world t into ty.0) nowhere
remembered-new old new placement world t into address size ty in_page rest small some writes lists outside =
    let mutators = old.layout.mutators in
    let known = rest.shown.lying.there in
    let read = head_of-head_word (fresh_head ty in_page) small in
    let head : head_of (new.word address) ≡ fresh_head ty in_page = ap head_of writes.header ∙ read in
    let headers : (number a : ℕ) → placement number ≡ Some a → new.word a ≡ old.word a = λ number a at.
    writes.elsewhere a (outside number a (record { address = a; at = at; from = omega arith; to = omega arith })) in
    let listed : (u : ℕ) → u < mutators → (new.bay u).remembered ≡ (old.bay u).remembered = λ u below. (lists u).remembered in
    let are : AreLists old.layout mutators new.bay placement =
    lists-frame old.layout mutators old.bay new.bay placement rest.remembered.lists listed in
    let young = young-frame old.word new.word old.layout placement world world nowhere rest.remembered.young headers
    (λ number place placed. refl) in
    record {
      lists = lists-placed old.layout mutators new.bay placement (with_place placement (length world.graph) address) are
          (with_place-keeps placement world.graph address known);
      bits = bits-new new.word mutators new.bay placement (length world.graph) address
          (bits-frame old.word new.word mutators old.bay new.bay placement rest.remembered.bits headers listed)
          (ap (λ (each : Head). each.remembered) head) (ap (λ (each : Head). each.marked) head)
          (unplaced-on_no_list old.layout mutators new.bay placement address are
          (fresh-unplaced placement world.graph address size some outside));
      young = young-new old.types new.word old.layout placement world nowhere t into ty.0 address young rest.shown.covers known;
    }

-- a new object stands in a fresh extent of its maker's bay, and a register comes to name it
pub rest-new : (old new : Memory) (placement : Placement) (world : World) (t into address size : ℕ) (ty : TypeNo) (in_page : Bool)
    (bay : Bay) → IsAtRest old placement world → new.types ≡ old.types → new.layout ≡ old.layout → t < old.layout.mutators → into < 16
    → ty.0 < length old.types → size ≡ size_of (shape_at old.types ty.0) → IsFreshExtent (old.bay t) address size
    → WritesFresh old.word new.word address size ty in_page → (in_page ≡ true) ↔ IsInAPage old.layout address
    → ChangesBay old.bay new.bay t bay → HasOneMoreExtent (old.bay t) bay address size → HasSameLists (old.bay t) bay
    → bay.registers ≡ slice_set (old.bay t).registers into address → length (mutator_at world t).registers ≡ 16
    → IsAtRest new (with_place placement (length world.graph) address) (with_new old.types world t into ty.0)
rest-new old new placement world t into address size ty in_page bay rest types layout below within known size_is fresh writes pages
    changes more same registers sixteen =
    let shown = rest.shown in
    let lists = same_lists-changed old.bay new.bay t bay changes same in
    rest-made new old.layout (with_place placement (length world.graph) address) (with_new old.types world t into ty.0) layout
    (shows-new old new placement world t into address size ty in_page bay shown types layout below within known size_is fresh writes pages
    changes more registers sixteen)
    (remembered-new old new placement world t into address size ty in_page rest (omega (arith, known, shown.are_types.few))
    (omega (arith, size_is)) writes lists
    (fresh-apart old.layout old.bay placement world.graph t address size shown.bays shown.lying below fresh))
    (grey-frame old new placement world rest lists)

-- ---- the first memory

-- all lists of fresh bays are empty
first-lists : (layout : Layout) (old new : ℕ → Bay) (bay : Bay) → ((t : ℕ) → t < layout.mutators → old t ≡ fresh_bay layout t)
    → ChangesBay old new 0 bay → HasSameLists (old 0) bay → (t : ℕ) → t < layout.mutators
    → ((new t).remembered ≡ []) × ((new t).grey ≡ [])
first-lists layout old new bay fresh changes same t below =
    let lists = same_lists-changed old new 0 bay changes same t in (
      lists.remembered ∙ ap (λ (own : Bay). own.remembered) (fresh t below),
      lists.grey ∙ ap (λ (own : Bay). own.grey) (fresh t below),
    )

-- where all bays were fresh and the common object was written into a cell that mutator 0 took, the memory is at rest and
-- shows the first world
pub rest-first : (old new : Memory) (address : ℕ) (ty : TypeNo) (bay : Bay) → AreTypes new.types → IsWithinLimits new.layout
    → ((t : ℕ) → t < new.layout.mutators → old.bay t ≡ fresh_bay new.layout t) → address ≡ cell_address new.layout 0 0
    → ty.0 ≡ 0 → WritesFresh old.word new.word address 18 ty true → ChangesBay old.bay new.bay 0 bay
    → HasOneMoreExtent (old.bay 0) bay address 18 → HasSameLists (old.bay 0) bay → bay.registers ≡ (old.bay 0).registers
    → IsAtRest new (first_placement address) (first_world new.layout.mutators)
rest-first old new address ty bay are_types limits fresh at kind_is writes changes more same registers =
    let layout = new.layout in
    let lists = first-lists layout old.bay new.bay bay fresh changes same in
    let empty : (t : ℕ) → t < layout.mutators → (new.bay t).remembered ≡ [] = λ t below. (lists t below).0 in
    let nothing : Placement = λ number. None in
    let are : AreLists layout layout.mutators new.bay nothing = lists-first layout layout.mutators new.bay nothing empty in
    let read = head_of-head_word (fresh_head ty true) (omega (arith, kind_is)) in
    let head : head_of (new.word address) ≡ fresh_head ty true = ap head_of writes.header ∙ read in
    record {
      shown = shows-first old new address ty bay are_types limits fresh at kind_is writes changes more registers;
      remembered = record {
        lists = lists-first layout layout.mutators new.bay (first_placement address) empty;
        bits = bits-new new.word layout.mutators new.bay nothing 0 address (bits-none new.word layout.mutators new.bay)
            (ap (λ (each : Head). each.remembered) head) (ap (λ (each : Head). each.marked) head)
            (unplaced-on_no_list layout layout.mutators new.bay nothing address are (λ number placed. cc));
        young = young-first new.word layout (first_placement address) layout.mutators nowhere;
      };
      no_grey = λ t below. (lists t below).1;
    }
