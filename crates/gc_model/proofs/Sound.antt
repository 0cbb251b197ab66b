-- What changes in a sound world leaves it sound, as long as it names only objects that are there.
use Rattle.std.proofs.Common.{◌≡◌, ◌∙◌, ℕ, ◌<◌, ◌≤◌, Bool, Option, None, Some, List, [], ◌∷◌, ◌++◌, All, length, length-set, length-append, refl, sym, subst, arith, lit<, slice_set}
use Rattle.std.proofs.lemmas.List.Elements.{All-set, All-append, All-replicate}
use Rattle.gc_layout.specs.declared.shape.Shape.{Shape}
use Rattle.gc_model.specs.Answer.{shape_at, with_new}
use Rattle.gc_model.specs.Graph.{Object, common_object, fresh_object, object_at}
use Rattle.gc_model.specs.Laws.{IsThere, AreThere, IsSound}
use Rattle.gc_model.specs.World.{World, Mutator, first_world, fresh_mutator, mutator_at, named_by, slot_at, with_mutator, with_register, with_blocked, with_object, with_slot, with_number}
use Rattle.gc_model.proofs.Lists.{or_default}

-- 16 registers that name one of so many objects each, or nothing
abbrev pub IsSoundMutator : ℕ → Mutator → Type 0
IsSoundMutator count mutator = (length mutator.registers ≡ 16) × AreThere count mutator.registers

-- what names one of fewer objects names one of more
there-more : (fewer more : ℕ) → fewer ≤ more → (name : Option ℕ) → IsThere fewer name → IsThere more name
there-more fewer more at_most None there = tt
there-more fewer more at_most (Some number) there = omega (arith, at_most, there)

-- the same of a list of names
all_there-more : (fewer more : ℕ) → fewer ≤ more → (names : List (Option ℕ)) → AreThere fewer names → AreThere more names
all_there-more fewer more at_most names all k d below = there-more fewer more at_most _ (all k d below)

-- registers that are nothing name no object that is missing
pub fresh_mutator-sound : (count : ℕ) → IsSoundMutator count fresh_mutator
fresh_mutator-sound count = (refl, All-replicate (IsThere count) 16 None tt)

-- each mutator of a sound world is sound
pub mutator_at-sound : (world : World) → IsSound world → (t : ℕ) → IsSoundMutator (length world.graph) (mutator_at world t)
mutator_at-sound world sound t =
    or_default (IsSoundMutator (length world.graph)) world.mutators t fresh_mutator sound.registers (fresh_mutator-sound _)

-- a register of a sound world names an object that is there
pub named_by-there : (world : World) → IsSound world → (t reg : ℕ) → IsThere (length world.graph) (named_by world t reg)
named_by-there world sound t reg =
    or_default (IsThere (length world.graph)) (mutator_at world t).registers reg None (mutator_at-sound world sound t).1 tt

-- so the object that it names is there
pub named_by-number : (world : World) → IsSound world → (t reg number : ℕ) → named_by world t reg ≡ Some number
    → number < length world.graph
named_by-number world sound t reg number named = subst (IsThere (length world.graph)) named (named_by-there world sound t reg)

-- the slots of each object of a sound world name objects that are there
pub object_at-there : (world : World) → IsSound world → (number : ℕ) → AreThere (length world.graph) (object_at world.graph number).slots
object_at-there world sound number =
    let There : Object → Type 0 = λ object. AreThere (length world.graph) object.slots in
    or_default There world.graph number common_object sound.slots (All-replicate (IsThere (length world.graph)) 16 None tt)

-- so does each slot
pub slot-there : (world : World) → IsSound world → (number place : ℕ) → IsThere (length world.graph) (slot_at world number place)
slot-there world sound number place =
    or_default (IsThere (length world.graph)) (object_at world.graph number).slots place None (object_at-there world sound number) tt

-- a sound mutator takes another's place
pub with_mutator-sound : (world : World) → IsSound world → (t : ℕ) (mutator : Mutator) → IsSoundMutator (length world.graph) mutator
    → IsSound (with_mutator world t mutator)
with_mutator-sound world sound t mutator own = record {
  common = sound.common;
  registers = All-set (IsSoundMutator (length world.graph)) world.mutators t mutator own sound.registers;
  slots = sound.slots;
}

-- a register comes to name an object that is there
pub with_register-sound : (world : World) → IsSound world → (t reg : ℕ) (name : Option ℕ) → IsThere (length world.graph) name
    → IsSound (with_register world t reg name)
with_register-sound world sound t reg name there =
    let own = mutator_at-sound world sound t in
    let registers = (mutator_at world t).registers in
    with_mutator-sound world sound t _
    (length-set registers reg name ∙ own.0, All-set (IsThere (length world.graph)) registers reg name there own.1)

-- blocking changes no name
pub with_blocked-sound : (world : World) → IsSound world → (t : ℕ) (blocked : Bool) → IsSound (with_blocked world t blocked)
with_blocked-sound world sound t blocked = with_mutator-sound world sound t _ (mutator_at-sound world sound t)

-- an object whose slots name objects that are there takes another's place
with_changed-sound : (world : World) → IsSound world → (number : ℕ) (object : Object) → AreThere (length world.graph) object.slots
    → IsSound (record world { graph = slice_set world.graph number object })
with_changed-sound world sound number object there =
    let changed = slice_set world.graph number object in
    let Sound : ℕ → Type 0 =
    λ count. (0 < count) × All (IsSoundMutator count) world.mutators × All (λ each. AreThere count each.slots) changed in
    let same : Sound (length changed) =
    subst Sound (sym (length-set world.graph number object)) (
      sound.common,
      sound.registers,
      All-set (λ each. AreThere (length world.graph) each.slots) world.graph number object there sound.slots,
    ) in
    record { common = same.0; registers = same.1; slots = same.2 }

-- a slot comes to name an object that is there
pub with_slot-sound : (world : World) → IsSound world → (number place : ℕ) (name : Option ℕ) → IsThere (length world.graph) name
    → IsSound (with_slot world number place name)
with_slot-sound world sound number place name there =
    let slots = (object_at world.graph number).slots in
    with_changed-sound world sound number _
    (All-set (IsThere (length world.graph)) slots place name there (object_at-there world sound number))

-- a number names nothing
pub with_number-sound : (world : World) → IsSound world → (number place value : ℕ) → IsSound (with_number world number place value)
with_number-sound world sound number place value = with_changed-sound world sound number _ (object_at-there world sound number)

-- a new object names nothing, and the old names stay
pub with_object-sound : (world : World) → IsSound world → (ty : ℕ) (maker : Option ℕ) (shape : Shape)
    → IsSound (with_object world (fresh_object ty maker shape))
with_object-sound world sound ty maker shape =
    let object = fresh_object ty maker shape in
    let count = length world.graph in
    let more = length (world.graph ++ object ∷ []) in
    let at_most : count ≤ more = omega (arith, length-append world.graph (object ∷ [])) in
    record {
      common = omega (arith, sound.common, at_most);
      registers = λ k d below. ((sound.registers k d below).0, all_there-more count more at_most _ (sound.registers k d below).1);
      slots = All-append (λ each. AreThere more each.slots) world.graph (object ∷ [])
          (λ k d below. all_there-more count more at_most _ (sound.slots k d below))
          (All-replicate (λ each. AreThere more each.slots) 1 object (All-replicate (IsThere more) shape.slots None tt));
    }

-- a register comes to name the new object
pub with_new-sound : (types : List Shape) (world : World) → IsSound world → (t into ty : ℕ) → IsSound (with_new types world t into ty)
with_new-sound types world sound t into ty =
    let object = fresh_object ty (Some t) (shape_at types ty) in
    with_register-sound (with_object world object) (with_object-sound world sound ty (Some t) (shape_at types ty)) t into
    (Some (length world.graph)) (omega (arith, length-append world.graph (object ∷ [])))

-- the first world is sound
pub first_world-sound : (mutators : ℕ) → IsSound (first_world mutators)
first_world-sound mutators = record {
  common = lit< tt;
  registers = All-replicate (IsSoundMutator 1) mutators fresh_mutator (fresh_mutator-sound 1);
  slots = All-replicate (λ object. AreThere 1 object.slots) 1 common_object (All-replicate (IsThere 1) 16 None tt);
}
