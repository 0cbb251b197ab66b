-- What the registers of bays hold: which changes of a bay, of the world and of the placement they follow.
use Rattle.std.proofs.Common.{◌≡◌, ◌≢◌, ◌∙◌, ℕ, ◌<◌, Bool, List, length, replicate, Option, None, Some, inl, inr, refl, ap, sym, subst, arith, slice_index, slice_index_or, slice_set}
use Rattle.std.proofs.lemmas.Bool.{cases_eq}
use Rattle.std.proofs.lemmas.List.{get_or-set_other, get_or-set_same}
use Rattle.gc_bay.specs.Bay.{Bay}
use Rattle.gc_layout.specs.declared.shape.Shape.{Shape}
use Rattle.gc_model.specs.Answer.{shape_at, with_new}
use Rattle.gc_model.specs.Graph.{fresh_object}
use Rattle.gc_model.specs.World.{Mutator, World, first_world, fresh_mutator, mutator_at, named_by, with_blocked, with_mutator, with_object, with_register}
use Rattle.gc_placement.specs.Changes.{ChangesBay}
use Rattle.gc_placement.specs.Names.{Covers}
use Rattle.gc_placement.specs.Placement.{Placement, name_address, or_nothing, with_place}
use Rattle.gc_placement.specs.Registers.{HaveRegisters}
use Rattle.gc_placement.proofs.Lists.{replicate-at}
use Rattle.gc_placement.proofs.Placement.{name_address-with_place, with_place-same}
use Rattle.gc_placement.proofs.Worlds.{named_by-blocked, named_by-first, named_by-mutator_other, named_by-mutator_same}

-- what changes no register, neither in a bay nor in the world, leaves all as they are
pub have_registers-frame : (mutators : ℕ) (old new : ℕ → Bay) (placement : Placement) (world after : World)
    → HaveRegisters mutators old placement world → ((t : ℕ) → t < mutators → (new t).registers ≡ (old t).registers)
    → ((t reg : ℕ) → t < mutators → named_by after t reg ≡ named_by world t reg) → HaveRegisters mutators new placement after
have_registers-frame mutators old new placement world after have bays names t reg below =
    ap (λ (registers : List ℕ). slice_index registers reg) (bays t below) ∙ have t reg below
    ∙ sym (ap (name_address placement) (names t reg below))

-- all bays are as before
pub have_registers-same : (mutators : ℕ) (old new : ℕ → Bay) (placement : Placement) (world : World)
    → HaveRegisters mutators old placement world → ((t : ℕ) → new t ≡ old t) → HaveRegisters mutators new placement world
have_registers-same mutators old new placement world have same =
    have_registers-frame mutators old new placement world world have
    (λ t below. ap (λ (bay : Bay). bay.registers) (same t)) (λ t reg below. refl)

-- a bay is another one with the same registers
pub have_registers-bay : (mutators : ℕ) (old new : ℕ → Bay) (placement : Placement) (world : World) (t : ℕ) (bay : Bay)
    → HaveRegisters mutators old placement world → ChangesBay old new t bay → bay.registers ≡ (old t).registers
    → HaveRegisters mutators new placement world
have_registers-bay mutators old new placement world t bay have changes same =
    have_registers-frame mutators old new placement world world have
    (λ u below. elim (cases_eq u t) [
      | inl here ↦ ap (λ (m : ℕ). (new m).registers) here ∙ ap (λ (each : Bay). each.registers) changes.here ∙ same
          ∙ ap (λ (m : ℕ). (old m).registers) (sym here)
      | inr elsewhere ↦ ap (λ (each : Bay). each.registers) (changes.elsewhere u elsewhere)
    ]) (λ u reg below. refl)

-- a mutator is blocked, or no longer blocked, and all bays are as before
pub have_registers-blocked : (mutators : ℕ) (old new : ℕ → Bay) (placement : Placement) (world : World) (t : ℕ) (blocked : Bool)
    → HaveRegisters mutators old placement world → ((u : ℕ) → new u ≡ old u)
    → HaveRegisters mutators new placement (with_blocked world t blocked)
have_registers-blocked mutators old new placement world t blocked have same =
    have_registers-frame mutators old new placement world (with_blocked world t blocked) have
    (λ u below. ap (λ (bay : Bay). bay.registers) (same u)) (λ u reg below. named_by-blocked world t u reg blocked)

-- a world with the same mutators has the same registers
pub have_registers-graph : (mutators : ℕ) (bay : ℕ → Bay) (placement : Placement) (world after : World)
    → HaveRegisters mutators bay placement world → after.mutators ≡ world.mutators → HaveRegisters mutators bay placement after
have_registers-graph mutators bay placement world after have same =
    have_registers-frame mutators bay bay placement world after have (λ t below. refl)
    (λ t reg below. ap (λ (all : List Mutator). slice_index_or (slice_index_or all t fresh_mutator).registers reg None) same)

-- a mutator takes another's place, and where it is one of so many, its bay has its registers
change : (mutators : ℕ) (old new : ℕ → Bay) (placement : Placement) (world : World) (t : ℕ) (bay : Bay) (mutator : Mutator)
    → HaveRegisters mutators old placement world → ChangesBay old new t bay → t < length world.mutators
    → (t < mutators → (reg : ℕ) → slice_index bay.registers reg ≡ name_address placement (slice_index_or mutator.registers reg None))
    → HaveRegisters mutators new placement (with_mutator world t mutator)
change mutators old new placement world t bay mutator have changes there own u reg below =
    elim (cases_eq u t) [
      | inl here ↦
          let Holds : ℕ → Type 0 =
          λ m. slice_index (new m).registers reg ≡ name_address placement (named_by (with_mutator world t mutator) m reg) in
          subst Holds (sym here)
          (ap (λ (each : Bay). slice_index each.registers reg) changes.here ∙ own (subst (λ m. m < mutators) here below) reg
          ∙ sym (ap (name_address placement) (named_by-mutator_same world t reg mutator there)))
      | inr elsewhere ↦ ap (λ (each : Bay). slice_index each.registers reg) (changes.elsewhere u elsewhere) ∙ have u reg below
          ∙ sym (ap (name_address placement) (named_by-mutator_other world t u reg mutator elsewhere))
    ]

-- a mutator takes another's place, and its bay has its registers
pub have_registers-mutator : (mutators : ℕ) (old new : ℕ → Bay) (placement : Placement) (world : World) (t : ℕ) (bay : Bay)
    (mutator : Mutator) → HaveRegisters mutators old placement world → ChangesBay old new t bay → t < length world.mutators
    → ((reg : ℕ) → slice_index bay.registers reg ≡ name_address placement (slice_index_or mutator.registers reg None))
    → HaveRegisters mutators new placement (with_mutator world t mutator)
have_registers-mutator mutators old new placement world t bay mutator have changes there own =
    change mutators old new placement world t bay mutator have changes there (λ below. own)

-- a register of a mutator comes to name what has its address
pub have_registers-register : (mutators : ℕ) (old new : ℕ → Bay) (placement : Placement) (world : World) (t reg address : ℕ) (bay : Bay)
    (name : Option ℕ) → HaveRegisters mutators old placement world → ChangesBay old new t bay → t < length world.mutators
    → bay.registers ≡ slice_set (old t).registers reg address → reg < 16 → length (old t).registers ≡ 16
    → length (mutator_at world t).registers ≡ 16 → address ≡ name_address placement name
    → HaveRegisters mutators new placement (with_register world t reg name)
have_registers-register mutators old new placement world t reg address bay name have changes there set within bay_sixteen sixteen is =
    let names = (mutator_at world t).registers in
    let inside : reg < length (old t).registers = omega (arith, within, bay_sixteen) in
    let inside_names : reg < length names = omega (arith, within, sixteen) in
    change mutators old new placement world t bay _ have changes there (λ below other.
    ap (λ (registers : List ℕ). slice_index registers other) set ∙ (elim (cases_eq other reg) [
      | inl same ↦
          let Holds : ℕ → Type 0 =
          λ k. slice_index (slice_set (old t).registers reg address) k
          ≡ name_address placement (slice_index_or (slice_set names reg name) k None) in
          subst Holds (sym same)
          (get_or-set_same (old t).registers reg address 0 inside ∙ is
          ∙ sym (ap (name_address placement) (get_or-set_same names reg name None inside_names)))
      | inr differs ↦ get_or-set_other (old t).registers reg other address 0 differs ∙ have t other below
          ∙ sym (ap (name_address placement) (get_or-set_other names reg other name None differs))
    ]))

-- one more object is given a place: what is named has the address that it had
pub have_registers-with_place : (mutators : ℕ) (bay : ℕ → Bay) (placement : Placement) (world : World) (number address : ℕ)
    → HaveRegisters mutators bay placement world → Covers placement world → ((a : ℕ) → placement number ≢ Some a)
    → HaveRegisters mutators bay (with_place placement number address) world
have_registers-with_place mutators bay placement world number address have covers unplaced t reg below =
    have t reg below ∙ sym (name_address-with_place placement number address (named_by world t reg) (covers.registers t reg) unplaced)

-- a register of a mutator comes to name a new object that is given a place
pub have_registers-new : (types : List Shape) (mutators : ℕ) (old new : ℕ → Bay) (placement : Placement) (world : World)
    (t into ty address : ℕ) (bay : Bay) → HaveRegisters mutators old placement world → ChangesBay old new t bay
    → t < length world.mutators → bay.registers ≡ slice_set (old t).registers into address → into < 16
    → length (old t).registers ≡ 16 → length (mutator_at world t).registers ≡ 16 → Covers placement world
    → ((number a : ℕ) → placement number ≡ Some a → number < length world.graph)
    → HaveRegisters mutators new (with_place placement (length world.graph) address) (with_new types world t into ty)
have_registers-new types mutators old new placement world t into ty address bay have changes there set within bay_sixteen sixteen covers
    known =
    let count = length world.graph in
    let after = with_place placement count address in
    let more = with_object world (fresh_object ty (Some t) (shape_at types ty)) in
    let placed : HaveRegisters mutators old after world = have_registers-with_place mutators old placement world count address have covers
    (λ a at. let below : count < count = known count a at in omega (arith, below)) in
    have_registers-register mutators old new after more t into address bay (Some count) placed changes there set within bay_sixteen sixteen
    (sym (ap or_nothing (with_place-same placement count address)))

-- at first all registers are nothing
pub have_registers-first : (mutators : ℕ) (bay : ℕ → Bay) (placement : Placement)
    → ((t : ℕ) → t < mutators → (bay t).registers ≡ replicate 16 0) → HaveRegisters mutators bay placement (first_world mutators)
have_registers-first mutators bay placement nothing t reg below =
    ap (λ (registers : List ℕ). slice_index registers reg) (nothing t below) ∙ replicate-at 16 reg 0
    ∙ sym (ap (name_address placement) (named_by-first mutators t reg))
