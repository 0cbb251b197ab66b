-- What changes in a well-typed world leaves it well typed, and what a well-typed world has.
use Rattle.std.proofs.Common.{◌≡◌, ◌∙◌, ℕ, ◌<◌, ◌≤◌, Option, None, Some, List, [], ◌∷◌, ◌++◌, All, length, refl, ap, sym, subst, arith, slice_index_or}
use Rattle.std.proofs.lemmas.List.{get_or_append_left, length-map, length-replicate, map-append}
use Rattle.std.proofs.lemmas.List.Elements.{All-map, All-push, All-replicate}
use Rattle.std.proofs.lemmas.Option.{get_or_from_slice_get, slice_get_within}
use Rattle.gc_layout.specs.declared.shape.Shape.{Shape}
use Rattle.gc_layout.specs.Shape.{common_shape, size_of}
use Rattle.gc_layout.specs.Types.{AreTypes}
use Rattle.gc_model.specs.Answer.{shape_at}
use Rattle.gc_model.specs.Graph.{Graph, common_object, fresh_object, object_at, object_size}
use Rattle.gc_model.specs.Laws.{IsSound, IsTyped, IsWellTyped, Kind, kind_of, kinds_of}
use Rattle.gc_model.specs.Plain.{IsWellFormed, Plain, with_world}
use Rattle.gc_model.specs.Step.{HasSlot, HasNumber}
use Rattle.gc_model.specs.World.{World, first_world, named_by, with_object}
use Rattle.gc_model.proofs.Lists.{All-unmap}
use Rattle.gc_model.proofs.Objects.{new_kind}
use Rattle.gc_model.proofs.Sound.{named_by-number, with_object-sound}

-- an object that a register names has the slot whose place is below its count
pub has-slot : (world : World) (t base number place : ℕ) → IsSound world → named_by world t base ≡ Some number
    → place < length (object_at world.graph number).slots → HasSlot world number place
has-slot world t base number place sound named below = (named_by-number world sound t base number named, below)

-- so it has the number
pub has-number : (world : World) (t base number place : ℕ) → IsSound world → named_by world t base ≡ Some number
    → place < length (object_at world.graph number).numbers → HasNumber world number place
has-number world t base number place sound named below = (named_by-number world sound t base number named, below)

-- the common object has 16 slots
pub has-common_slot : (types : List Shape) (world : World) (place : ℕ) → IsSound world → IsWellTyped types world → place < 16
    → HasSlot world 0 place
has-common_slot types world place sound typed below =
    (sound.common, omega (arith, below, ap (λ (kind : Kind). kind.slots) typed.common))

-- the kind of object 0 is the first of the kinds
first-kind : (graph : Graph) → slice_index_or (kinds_of graph) 0 (kind_of common_object) ≡ kind_of (object_at graph 0)
first-kind [] = refl
first-kind (object ∷ graph) = refl

-- objects of the same kinds are as well typed
pub same-typed : (types : List Shape) (old new : World) → kinds_of new.graph ≡ kinds_of old.graph → IsWellTyped types old
    → IsWellTyped types new
same-typed types old new same typed = record {
  objects = All-unmap (IsTyped types) kind_of new.graph
      (subst (All (IsTyped types)) (sym same) (All-map (IsTyped types) kind_of old.graph typed.objects));
  common = sym (first-kind new.graph) ∙ ap (λ (kinds : List Kind). slice_index_or kinds 0 (kind_of common_object)) same
      ∙ first-kind old.graph ∙ typed.common;
}

-- one more object of a kind that is typed leaves the world well typed
pub more-typed : (types : List Shape) (old new : World) (kind : Kind) → 0 < length old.graph
    → kinds_of new.graph ≡ kinds_of old.graph ++ kind ∷ [] → IsTyped types kind → IsWellTyped types old → IsWellTyped types new
more-typed types old new kind some more own typed =
    let kinds = kinds_of old.graph in
    let count : 0 < length kinds = omega (arith, some, length-map old.graph kind_of) in
    record {
      objects = All-unmap (IsTyped types) kind_of new.graph
          (subst (All (IsTyped types)) (sym more)
          (All-push (IsTyped types) kinds kind (All-map (IsTyped types) kind_of old.graph typed.objects) own));
      common = sym (first-kind new.graph) ∙ ap (λ (all : List Kind). slice_index_or all 0 (kind_of common_object)) more
          ∙ get_or_append_left kinds (kind ∷ []) (kind_of common_object) 0 count ∙ first-kind old.graph ∙ typed.common;
    }

-- a new object of a type that is known is of a typed kind
pub new_kind-typed : (types : List Shape) (t ty : ℕ) → ty < length types → IsTyped types (new_kind types t ty)
new_kind-typed types t ty known = record {
  known = known;
  slots = length-replicate {A = Option ℕ} (shape_at types ty).slots None;
  numbers = length-replicate {A = ℕ} (shape_at types ty).numbers 0;
}

-- a new object of a type that is known leaves a plain graph well formed
pub with_object-well_formed : (plain : Plain) → IsWellFormed plain → (t ty : ℕ) (shape : Shape) → ty < length plain.types
    → shape ≡ shape_at plain.types ty → IsWellFormed (with_world plain (with_object plain.world (fresh_object ty (Some t) shape)))
with_object-well_formed plain formed t ty shape known is =
    let world = plain.world in
    let object = fresh_object ty (Some t) shape in
    let own : IsTyped plain.types (kind_of object) =
    subst (λ (each : Shape). IsTyped plain.types (kind_of (fresh_object ty (Some t) each))) (sym is)
    (new_kind-typed plain.types t ty known) in
    record {
      types = formed.types;
      sound = with_object-sound world formed.sound ty (Some t) shape;
      typed = more-typed plain.types world (with_object world object) (kind_of object) formed.sound.common
          (map-append kind_of world.graph (object ∷ [])) own formed.typed;
    }

-- type 0 is the common object's
pub common-shape : (types : List Shape) → AreTypes types → shape_at types 0 ≡ common_shape
common-shape types are_types = get_or_from_slice_get types 0 common_shape common_shape are_types.common

-- the first world is well typed
pub first_world-typed : (types : List Shape) (mutators : ℕ) → AreTypes types → IsWellTyped types (first_world mutators)
first_world-typed types mutators are_types =
    let first = common-shape types are_types in
    let own : IsTyped types (kind_of common_object) = record {
      known = slice_get_within types 0 common_shape are_types.common;
      slots = ap (λ (shape : Shape). shape.slots) (sym first);
      numbers = ap (λ (shape : Shape). shape.numbers) (sym first);
    } in
    record { objects = All-replicate (λ object. IsTyped types (kind_of object)) 1 common_object own; common = refl }

-- no object of a well-typed world has more than 64 words
pub typed-size : (types : List Shape) (world : World) → AreTypes types → IsWellTyped types world
    → All (λ object. object_size object ≤ 64) world.graph
typed-size types world are_types typed index d below =
    let own = typed.objects index d below in
    let small : size_of (shape_at types (slice_index_or world.graph index d).ty) ≤ 64 = are_types.sizes _ common_shape own.known in
    omega (arith, small, own.slots, own.numbers)
