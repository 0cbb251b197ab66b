-- The steps of a world and of a memory that shows it: a slot, a number, a register or a mutator changed, a new object at
-- a fresh extent, a bay changed, words changed outside of all extents. Each part is carried by its own laws.
use Rattle.std.proofs.Common.{◌≡◌, ◌↔◌, ℕ, ◌+◌, ◌<◌, Bool, true, Option, None, Some, List, length, slice_index, slice_index_or, slice_set, refl, sym, subst, ◌∙◌, arith}
use Rattle.gc_bay.specs.Bay.{Bay}
use Rattle.gc_bay.specs.Extent.{IsFreshExtent}
use Rattle.gc_layout.specs.declared.shape.Shape.{Shape}
use Rattle.gc_layout.specs.declared.shape.TypeNo.{TypeNo}
use Rattle.gc_layout.specs.Places.{Layout}
use Rattle.gc_layout.specs.Shape.{size_of, slot_address}
use Rattle.gc_model.specs.Answer.{shape_at, with_new}
use Rattle.gc_model.specs.Graph.{object_at}
use Rattle.gc_model.specs.World.{Mutator, World, mutator_at, with_blocked, with_mutator, with_number, with_register, with_slot}
use Rattle.gc_placement.specs.Changes.{ChangesBay, HasOneMoreExtent, HasSameExtents, KeepsBays, KeepsWords, Stores, WritesFresh}
use Rattle.gc_placement.specs.Extents.{IsInAPage}
use Rattle.gc_placement.specs.Memory.{Memory}
use Rattle.gc_placement.specs.Placement.{Placement, IsNamePlaced, IsWordOf, name_address, with_place}
use Rattle.gc_placement.specs.Shows.{Shows, nowhere}
use Rattle.gc_placement.proofs.Bays.{are_bays-changed, are_bays-same}
use Rattle.gc_placement.proofs.Extents.{all_lie-bay, all_lie-graph, all_lie-new, all_lie-same, apart-graph, apart-new, cells-bay, cells-new, cells-same, common-new, fresh-apart}
use Rattle.gc_placement.proofs.Graphs.{with_number-keeps, with_slot-keeps}
use Rattle.gc_placement.proofs.Names.{covers-blocked, covers-mutator, covers-new, covers-number, covers-register, covers-slot}
use Rattle.gc_placement.proofs.Objects.{all_stand-new, all_stand-number, all_stand-outside, all_stand-slot}
use Rattle.gc_placement.proofs.OldInPages.{old-frame, old-new, old-stored}
use Rattle.gc_placement.proofs.Registers.{have_registers-bay, have_registers-blocked, have_registers-graph, have_registers-mutator, have_registers-new, have_registers-register, have_registers-same}
use Rattle.std.proofs.lemmas.List.{length-set}

-- a memory of the same types and the same layout shows what these words and bays show in them
pub in_place : (new : Memory) (types : List Shape) (layout : Layout) (placement : Placement) (world : World) → new.types ≡ types
    → new.layout ≡ layout → Shows (record { types = types; layout = layout; word = new.word; bay = new.bay }) placement world
    → Shows new placement world
in_place new types layout placement world same_types same_layout shown =
    let there = subst (λ (each : Layout). Shows (record { types = types; layout = each; word = new.word; bay = new.bay }) placement world)
    (sym same_layout) shown in
    subst (λ (each : List Shape). Shows (record { types = each; layout = new.layout; word = new.word; bay = new.bay }) placement world)
    (sym same_types) there

-- a slot of an object comes to name what is placed, where the word for it is stored
pub shows-slot : (old new : Memory) (placement : Placement) (world : World) (number place address at v : ℕ) (name : Option ℕ)
    → Shows old placement world → KeepsBays old new → Stores old.word new.word at v → placement number ≡ Some address
    → place < length (object_at world.graph number).slots → at ≡ slot_address address place → v ≡ name_address placement name
    → IsNamePlaced placement name → Shows new placement (with_slot world number place name)
shows-slot old new placement world number place address at v name shown keeps stores placed below at_is v_is named =
    let sizes = with_slot-keeps world number place name in
    let object = object_at world.graph number in
    in_place new old.types old.layout placement (with_slot world number place name) keeps.types keeps.layout (record {
      are_types = shown.are_types;
      bays = are_bays-same old.layout old.bay new.bay shown.bays keeps.bays;
      mutators = shown.mutators;
      standing = all_stand-slot old.word new.word placement world number place address at v name shown.standing shown.apart placed
          (shown.lying.there number address placed) below at_is v_is stores;
      old = old-stored old.word new.word old.layout placement world.graph number address at v shown.old shown.apart placed
          (omega (arith, at_is)) (omega (arith, at_is, below)) stores;
      lying = all_lie-graph old.layout.mutators new.bay placement world.graph (with_slot world number place name).graph sizes
          (all_lie-same old.layout.mutators old.bay new.bay placement world.graph keeps.bays shown.lying);
      common = shown.common;
      apart = apart-graph placement world.graph (with_slot world number place name).graph sizes.size shown.apart;
      cells = cells-same old.layout.mutators old.bay new.bay placement nowhere keeps.bays shown.cells;
      registers = have_registers-graph old.layout.mutators new.bay placement world (with_slot world number place name)
          (have_registers-same old.layout.mutators old.bay new.bay placement world shown.registers keeps.bays) refl;
      covers = covers-slot placement world number place name shown.covers named;
    })

-- a number of an object is another one, where the word for it is stored
pub shows-number : (old new : Memory) (placement : Placement) (world : World) (number place address at v : ℕ)
    → Shows old placement world → KeepsBays old new → Stores old.word new.word at v → placement number ≡ Some address
    → place < length (object_at world.graph number).numbers → at ≡ address + 2 + length (object_at world.graph number).slots + place
    → Shows new placement (with_number world number place v)
shows-number old new placement world number place address at v shown keeps stores placed below at_is =
    let sizes = with_number-keeps world number place v in
    in_place new old.types old.layout placement (with_number world number place v) keeps.types keeps.layout (record {
      are_types = shown.are_types;
      bays = are_bays-same old.layout old.bay new.bay shown.bays keeps.bays;
      mutators = shown.mutators;
      standing = all_stand-number old.word new.word placement world number place address at v shown.standing shown.apart placed
          (shown.lying.there number address placed) below at_is stores;
      old = old-stored old.word new.word old.layout placement world.graph number address at v shown.old shown.apart placed
          (omega (arith, at_is)) (omega (arith, at_is, below)) stores;
      lying = all_lie-graph old.layout.mutators new.bay placement world.graph (with_number world number place v).graph sizes
          (all_lie-same old.layout.mutators old.bay new.bay placement world.graph keeps.bays shown.lying);
      common = shown.common;
      apart = apart-graph placement world.graph (with_number world number place v).graph sizes.size shown.apart;
      cells = cells-same old.layout.mutators old.bay new.bay placement nowhere keeps.bays shown.cells;
      registers = have_registers-graph old.layout.mutators new.bay placement world (with_number world number place v)
          (have_registers-same old.layout.mutators old.bay new.bay placement world shown.registers keeps.bays) refl;
      covers = covers-number placement world number place v shown.covers;
    })

-- words change outside of all placed objects
pub shows-outside : (old new : Memory) (placement : Placement) (world : World) → Shows old placement world → KeepsBays old new
    → ((number a : ℕ) → IsWordOf placement world.graph number a → new.word a ≡ old.word a) → Shows new placement world
shows-outside old new placement world shown keeps outside =
    in_place new old.types old.layout placement world keeps.types keeps.layout (record {
      are_types = shown.are_types;
      bays = are_bays-same old.layout old.bay new.bay shown.bays keeps.bays;
      mutators = shown.mutators;
      standing = all_stand-outside old.word new.word placement _ world.graph shown.standing outside;
      old = old-frame old.word new.word old.layout placement shown.old
          (λ number address placed. outside number address
          (record { address = address; at = placed; from = omega arith; to = omega arith }));
      lying = all_lie-same old.layout.mutators old.bay new.bay placement world.graph keeps.bays shown.lying;
      common = shown.common;
      apart = shown.apart;
      cells = cells-same old.layout.mutators old.bay new.bay placement nowhere keeps.bays shown.cells;
      registers = have_registers-same old.layout.mutators old.bay new.bay placement world shown.registers keeps.bays;
      covers = shown.covers;
    })

-- a mutator is another one, and so are the registers of its bay
pub shows-mutator : (old new : Memory) (placement : Placement) (world : World) (t : ℕ) (bay : Bay) (mutator : Mutator)
    → Shows old placement world → KeepsWords old new → ChangesBay old.bay new.bay t bay → t < old.layout.mutators
    → HasSameExtents (old.bay t) bay
    → ((reg : ℕ) → slice_index bay.registers reg ≡ name_address placement (slice_index_or mutator.registers reg None))
    → ((reg : ℕ) → IsNamePlaced placement (slice_index_or mutator.registers reg None))
    → Shows new placement (with_mutator world t mutator)
shows-mutator old new placement world t bay mutator shown keeps changes below same registers named =
    in_place new old.types old.layout placement (with_mutator world t mutator) keeps.types keeps.layout (record {
      are_types = shown.are_types;
      bays = are_bays-changed old.layout old.bay new.bay t bay shown.bays changes (λ _. same.owner);
      mutators = length-set world.mutators t mutator ∙ shown.mutators;
      standing = all_stand-outside old.word new.word placement _ world.graph shown.standing (λ number a word. keeps.words a);
      old = old-frame old.word new.word old.layout placement shown.old (λ number address placed. keeps.words address);
      lying = all_lie-bay old.layout.mutators old.bay new.bay t bay placement world.graph changes (λ _. same) shown.lying;
      common = shown.common;
      apart = shown.apart;
      cells = cells-bay old.layout.mutators old.bay new.bay t bay placement nowhere changes (λ _. same) shown.cells;
      registers = have_registers-mutator old.layout.mutators old.bay new.bay placement world t bay mutator shown.registers changes
          (omega (arith, below, shown.mutators)) registers;
      covers = covers-mutator placement world t mutator shown.covers named;
    })

-- a register comes to name what is placed, where its bay holds the address
pub shows-register : (old new : Memory) (placement : Placement) (world : World) (t reg address : ℕ) (bay : Bay) (name : Option ℕ)
    → Shows old placement world → KeepsWords old new → ChangesBay old.bay new.bay t bay → t < old.layout.mutators
    → HasSameExtents (old.bay t) bay → bay.registers ≡ slice_set (old.bay t).registers reg address → reg < 16
    → length (mutator_at world t).registers ≡ 16 → address ≡ name_address placement name → IsNamePlaced placement name
    → Shows new placement (with_register world t reg name)
shows-register old new placement world t reg address bay name shown keeps changes below same set within sixteen address_is named =
    in_place new old.types old.layout placement (with_register world t reg name) keeps.types keeps.layout (record {
      are_types = shown.are_types;
      bays = are_bays-changed old.layout old.bay new.bay t bay shown.bays changes (λ _. same.owner);
      mutators = length-set world.mutators t _ ∙ shown.mutators;
      standing = all_stand-outside old.word new.word placement _ world.graph shown.standing (λ number a word. keeps.words a);
      old = old-frame old.word new.word old.layout placement shown.old (λ number address placed. keeps.words address);
      lying = all_lie-bay old.layout.mutators old.bay new.bay t bay placement world.graph changes (λ _. same) shown.lying;
      common = shown.common;
      apart = shown.apart;
      cells = cells-bay old.layout.mutators old.bay new.bay t bay placement nowhere changes (λ _. same) shown.cells;
      registers = have_registers-register old.layout.mutators old.bay new.bay placement world t reg address bay name shown.registers
          changes (omega (arith, below, shown.mutators)) set within (shown.bays.each t below).registers sixteen address_is;
      covers = covers-register placement world t reg name shown.covers named;
    })

-- a mutator is blocked, or unblocked: the memory says nothing of it
pub shows-blocked : (memory : Memory) (placement : Placement) (world : World) (t : ℕ) (blocked : Bool) → Shows memory placement world
    → Shows memory placement (with_blocked world t blocked)
shows-blocked memory placement world t blocked shown = record {
  are_types = shown.are_types;
  bays = shown.bays;
  mutators = length-set world.mutators t _ ∙ shown.mutators;
  standing = shown.standing;
  old = shown.old;
  lying = shown.lying;
  common = shown.common;
  apart = shown.apart;
  cells = shown.cells;
  registers = have_registers-blocked memory.layout.mutators memory.bay memory.bay placement world t blocked shown.registers (λ u. refl);
  covers = covers-blocked placement world t blocked shown.covers;
}

-- a bay changes in what no part reads: its extents and registers stay
pub shows-bay : (old new : Memory) (placement : Placement) (world : World) (t : ℕ) (bay : Bay) → Shows old placement world
    → KeepsWords old new → ChangesBay old.bay new.bay t bay → HasSameExtents (old.bay t) bay
    → bay.registers ≡ (old.bay t).registers → Shows new placement world
shows-bay old new placement world t bay shown keeps changes same registers =
    in_place new old.types old.layout placement world keeps.types keeps.layout (record {
      are_types = shown.are_types;
      bays = are_bays-changed old.layout old.bay new.bay t bay shown.bays changes (λ _. same.owner);
      mutators = shown.mutators;
      standing = all_stand-outside old.word new.word placement _ world.graph shown.standing (λ number a word. keeps.words a);
      old = old-frame old.word new.word old.layout placement shown.old (λ number address placed. keeps.words address);
      lying = all_lie-bay old.layout.mutators old.bay new.bay t bay placement world.graph changes (λ _. same) shown.lying;
      common = shown.common;
      apart = shown.apart;
      cells = cells-bay old.layout.mutators old.bay new.bay t bay placement nowhere changes (λ _. same) shown.cells;
      registers = have_registers-bay old.layout.mutators old.bay new.bay placement world t bay shown.registers changes registers;
      covers = shown.covers;
    })

-- a new object stands in a fresh extent of its maker's bay, and a register comes to name it
pub shows-new : (old new : Memory) (placement : Placement) (world : World) (t into address size : ℕ) (ty : TypeNo) (in_page : Bool)
    (bay : Bay) → Shows old placement world → new.types ≡ old.types → new.layout ≡ old.layout → t < old.layout.mutators → into < 16
    → ty.0 < length old.types → size ≡ size_of (shape_at old.types ty.0) → IsFreshExtent (old.bay t) address size
    → WritesFresh old.word new.word address size ty in_page → (in_page ≡ true) ↔ IsInAPage old.layout address
    → ChangesBay old.bay new.bay t bay → HasOneMoreExtent (old.bay t) bay address size
    → bay.registers ≡ slice_set (old.bay t).registers into address → length (mutator_at world t).registers ≡ 16
    → Shows new (with_place placement (length world.graph) address) (with_new old.types world t into ty.0)
shows-new old new placement world t into address size ty in_page bay shown types layout below within known size_is fresh writes pages
    changes more registers sixteen =
    let after = with_place placement (length world.graph) address in
    let there = shown.lying.there in
    let apart = fresh-apart old.layout old.bay placement world.graph t address size shown.bays shown.lying below fresh in
    let small : ty.0 < 256 = omega (arith, known, shown.are_types.few) in
    let some : 0 < length world.graph = there 0 _ shown.common in
    in_place new old.types old.layout after (with_new old.types world t into ty.0) types layout (record {
      are_types = shown.are_types;
      bays = are_bays-changed old.layout old.bay new.bay t bay shown.bays changes (λ _. more.owner);
      mutators = length-set world.mutators t _ ∙ shown.mutators;
      standing = all_stand-new old.types old.word new.word placement world t address size ty in_page shown.standing there shown.covers
          small size_is writes apart;
      old = old-new old.word new.word old.layout placement world.graph (length world.graph) address size ty in_page shown.old small
          writes pages apart;
      lying = all_lie-new old.types world old.layout.mutators old.bay new.bay t ty.0 bay placement address size changes more below
          size_is shown.lying;
      common = common-new old.layout placement (length world.graph) address some shown.common;
      apart = apart-new old.types world old.layout.mutators old.bay t ty.0 placement address size shown.lying apart size_is shown.apart;
      cells = cells-new old.layout.mutators old.bay new.bay t bay placement world.graph nowhere address size changes more shown.lying
          shown.cells;
      registers = have_registers-new old.types old.layout.mutators old.bay new.bay placement world t into ty.0 address bay
          shown.registers changes (omega (arith, below, shown.mutators)) registers within (shown.bays.each t below).registers
          sixteen shown.covers there;
      covers = covers-new old.types placement world t into ty.0 address shown.covers;
    })
