-- What the registers and the slots of a world name after a step of it.
use Rattle.std.proofs.Common.{◌≡◌, ◌≢◌, ◌∙◌, ℕ, ◌<◌, ◌≤◌, Bool, [], ◌∷◌, length, Option, None, inl, inr, refl, ap, sym, arith, slice_index_or}
use Rattle.std.proofs.lemmas.Bool.{cases_eq}
use Rattle.std.proofs.lemmas.List.{get_or-set_other, get_or-set_same, get_or_append_left, get_or_past, get_or_push, length_push}
use Rattle.gc_layout.specs.declared.shape.Shape.{Shape}
use Rattle.gc_model.specs.Graph.{Object, common_object, fresh_object, object_at}
use Rattle.gc_model.specs.World.{Mutator, World, first_world, fresh_mutator, named_by, slot_at, with_blocked, with_mutator, with_number, with_object, with_slot}
use Rattle.gc_placement.proofs.Lists.{replicate-at, set-either}

-- what holds of a mutator's registers and of those before at a number holds where the mutator took another's place
pub named_by-either : (P : Option ℕ → Type 0) (world : World) (t u reg : ℕ) (mutator : Mutator)
    → P (slice_index_or mutator.registers reg None) → P (named_by world u reg) → P (named_by (with_mutator world t mutator) u reg)
named_by-either P world t u reg mutator new old =
    set-either (λ (each : Mutator). P (slice_index_or each.registers reg None)) world.mutators t u mutator fresh_mutator new old

-- a mutator that is there now has the registers of the one that took its place
pub named_by-mutator_same : (world : World) (t reg : ℕ) (mutator : Mutator) → t < length world.mutators
    → named_by (with_mutator world t mutator) t reg ≡ slice_index_or mutator.registers reg None
named_by-mutator_same world t reg mutator below =
    ap (λ (each : Mutator). slice_index_or each.registers reg None) (get_or-set_same world.mutators t mutator fresh_mutator below)

-- the registers of another mutator name what they named
pub named_by-mutator_other : (world : World) (t u reg : ℕ) (mutator : Mutator) → u ≢ t
    → named_by (with_mutator world t mutator) u reg ≡ named_by world u reg
named_by-mutator_other world t u reg mutator differs =
    ap (λ (each : Mutator). slice_index_or each.registers reg None) (get_or-set_other world.mutators t u mutator fresh_mutator differs)

-- blocking changes no register
pub named_by-blocked : (world : World) (t u reg : ℕ) (blocked : Bool)
    → named_by (with_blocked world t blocked) u reg ≡ named_by world u reg
named_by-blocked world t u reg blocked =
    elim (cases_eq u t) [
      | inl same ↦ named_by-either (λ name. name ≡ named_by world u reg) world t u reg _
          (ap (λ m. named_by world m reg) (sym same)) refl
      | inr differs ↦ named_by-mutator_other world t u reg _ differs
    ]

-- at first no register names anything
pub named_by-first : (mutators t reg : ℕ) → named_by (first_world mutators) t reg ≡ None
named_by-first mutators t reg =
    ap (λ (each : Mutator). slice_index_or each.registers reg None) (replicate-at mutators t fresh_mutator) ∙ replicate-at 16 reg None

-- what holds of the name that is stored and of that before at a place holds of what the object's slot names afterwards
pub slot_at-either : (P : Option ℕ → Type 0) (world : World) (number place at : ℕ) (name : Option ℕ) → P name
    → P (slot_at world number at) → P (slot_at (with_slot world number place name) number at)
slot_at-either P world number place at name new old =
    let slots = (object_at world.graph number).slots in
    set-either (λ (each : Object). P (slice_index_or each.slots at None)) world.graph number number _ common_object
    (set-either P slots place at name None new old) old

-- the slots of another object name what they named
pub slot_at-other : (world : World) (number place other at : ℕ) (name : Option ℕ) → other ≢ number
    → slot_at (with_slot world number place name) other at ≡ slot_at world other at
slot_at-other world number place other at name differs =
    ap (λ (each : Object). slice_index_or each.slots at None) (get_or-set_other world.graph number other _ common_object differs)

-- a number that changes is no slot
pub slot_at-number : (world : World) (number place value other at : ℕ)
    → slot_at (with_number world number place value) other at ≡ slot_at world other at
slot_at-number world number place value other at =
    let same_slots = λ (each : Object). slice_index_or each.slots at None ≡ slot_at world other at in
    elim (cases_eq other number) [
      | inl same ↦ set-either same_slots world.graph number other _ common_object
          (ap (λ k. slot_at world k at) (sym same)) refl
      | inr differs ↦ ap (λ (each : Object). slice_index_or each.slots at None)
          (get_or-set_other world.graph number other _ common_object differs)
    ]

-- the slots of the objects that were there name what they named where there is one more
pub slot_at-object : (world : World) (object : Object) (number place : ℕ) → number < length world.graph
    → slot_at (with_object world object) number place ≡ slot_at world number place
slot_at-object world object number place below =
    ap (λ (each : Object). slice_index_or each.slots place None)
    (get_or_append_left world.graph (object ∷ []) common_object number below)

-- the slots of a new object, and of what isn't there, name nothing
pub slot_at-fresh : (world : World) (ty : ℕ) (maker : Option ℕ) (shape : Shape) (number place : ℕ) → length world.graph ≤ number
    → slot_at (with_object world (fresh_object ty maker shape)) number place ≡ None
slot_at-fresh world ty maker shape number place above =
    let object = fresh_object ty maker shape in
    elim (cases_eq number (length world.graph)) [
      | inl last ↦ ap (λ (each : Object). slice_index_or each.slots place None)
          (get_or_push world.graph object common_object number (sym last)) ∙ replicate-at shape.slots place None
      | inr beyond ↦
          let past : length (with_object world object).graph ≤ number = omega (arith, above, beyond, length_push world.graph object) in
          ap (λ (each : Object). slice_index_or each.slots place None)
          (get_or_past (with_object world object).graph number common_object past) ∙ replicate-at 16 place None
    ]

-- at first no slot names anything
pub slot_at-first : (mutators number place : ℕ) → slot_at (first_world mutators) number place ≡ None
slot_at-first mutators number place =
    ap (λ (each : Object). slice_index_or each.slots place None) (replicate-at 1 number common_object) ∙ replicate-at 16 place None
