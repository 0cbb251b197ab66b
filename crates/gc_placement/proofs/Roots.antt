-- What a collection reaches: what registers name, and what the slots of remembered objects and of reached ones name.
use Rattle.std.proofs.Common.{◌≡◌, ◌∙◌, ◌⊎◌, inl, inr, ℕ, zero, suc, ◌<◌, true, List, [], ◌∷◌, ◌++◌, length, Option, None, Some, if◌then◌else◌, refl, sym, ap, subst, arith, slice_index_or}
use Rattle.std.proofs.lemmas.Bool.{cases_lt, eq-eqb, or_left, or_right}
use Rattle.std.proofs.lemmas.List.{get_or_past}
use Rattle.std.proofs.lemmas.List.Folds.{list_any-append, list_any_at}
use Rattle.std.proofs.lemmas.List.FromFn.{get_or-enumerate_from, length-enumerate_from}
use Rattle.std.proofs.lemmas.Option.{none-some}
use Rattle.std.specs.List.{enumerate_from, flat_map}
use Rattle.gc_model.specs.Graph.{Object, common_object, object_at}
use Rattle.gc_model.specs.Reach.{is_named, is_reachable, is_reached, names, registers_of, whole}
use Rattle.gc_model.specs.World.{Mutator, World, fresh_mutator, named_by, slot_at}
use Rattle.gc_model.proofs.Reached.{reached-closed}
use Rattle.gc_placement.specs.Memory.{Memory}
use Rattle.gc_placement.specs.Placement.{Placement}
use Rattle.gc_placement.specs.Sums.{is_young}
use Rattle.gc_placement.specs.Tracings.{is_remembered, minor_tracing, remembered_slots}

-- a name that stands at a place of a list is among its names
pub named-at : (number : ℕ) (all : List (Option ℕ)) (place : ℕ) → slice_index_or all place None ≡ Some number
    → is_named number all ≡ true
named-at number all place is = elim (cases_lt place (length all)) [
  | inl below ↦ list_any_at (names number) all place None below (rw is (eq-eqb number number refl))
  | inr past ↦ absurd (none-some number (sym (get_or_past all place None past) ∙ is))
]

-- what is among the names of one of two lists is among those of both
pub named-left : (number : ℕ) (left right : List (Option ℕ)) → is_named number left ≡ true → is_named number (left ++ right) ≡ true
named-left number left right is = list_any-append (names number) left right ∙ or_left _ _ is

pub named-right : (number : ℕ) (left right : List (Option ℕ)) → is_named number right ≡ true → is_named number (left ++ right) ≡ true
named-right number left right is = list_any-append (names number) left right ∙ or_right _ _ is

-- what is among the names of one of several lists is among those of all
pub named-flat_map : {X : Type 0} (number : ℕ) (f : X → List (Option ℕ)) (xs : List X) (i : ℕ) (d : X) → i < length xs
    → is_named number (f (slice_index_or xs i d)) ≡ true → is_named number (flat_map f xs) ≡ true
named-flat_map number f [] i d below is = absurd (omega (arith, below))
named-flat_map number f (x ∷ xs) zero d below is = named-left number (f x) (flat_map f xs) is
named-flat_map number f (x ∷ xs) (suc i) d below is =
    named-right number (f x) (flat_map f xs) (named-flat_map number f xs i d (omega (arith, below)) is)

-- what a register names is among what registers name
pub register-named : (world : World) (t reg number : ℕ) → t < length world.mutators → named_by world t reg ≡ Some number
    → is_named number (registers_of world.mutators) ≡ true
register-named world t reg number there is =
    named-flat_map number (λ (mutator : Mutator). mutator.registers) world.mutators t fresh_mutator there
    (named-at number (slice_index_or world.mutators t fresh_mutator).registers reg is)

-- what a slot of a remembered object names is among what their slots name
pub remembered-named : (word : ℕ → ℕ) (placement : Placement) (world : World) (member place number : ℕ)
    → member < length world.graph → is_remembered word placement member ≡ true → slot_at world member place ≡ Some number
    → is_named number (remembered_slots word placement world.graph) ≡ true
remembered-named word placement world member place number there has is =
    let graph = world.graph in
    let Member = ℕ × Object in
    let slots : Member → List (Option ℕ) = λ each. if is_remembered word placement each.0 then each.1.slots else [] in
    let first : Member = (0, common_object) in
    let at : slice_index_or (enumerate_from 0 graph) member first ≡ (member, object_at graph member) =
    get_or-enumerate_from 0 graph member first there ∙ ap (λ (n : ℕ). (n, object_at graph member)) (omega arith) in
    let these : slots (slice_index_or (enumerate_from 0 graph) member first) ≡ (object_at graph member).slots =
    ap slots at ∙ ap (λ each. if each then (object_at graph member).slots else []) has in
    named-flat_map number slots (enumerate_from 0 graph) member first (omega (arith, there, length-enumerate_from 0 graph))
    (subst (λ all. is_named number all ≡ true) (sym these) (named-at number (object_at graph member).slots place is))

-- an object in a half that a register names is reached
pub register-reached : (memory : Memory) (placement : Placement) (world : World) (t reg number : ℕ) → t < length world.mutators
    → named_by world t reg ≡ Some number → is_young memory.layout placement number ≡ true
    → is_reached (minor_tracing memory placement world) number ≡ true
register-reached memory placement world t reg number there is young =
    (reached-closed (minor_tracing memory placement world)).roots number young
    (named-left number (registers_of world.mutators) (remembered_slots memory.word placement world.graph)
    (register-named world t reg number there is))

-- so is one that a slot of an object names that is reached or remembered
pub slot-reached : (memory : Memory) (placement : Placement) (world : World) (member place number : ℕ)
    → member < length world.graph
    → (is_reached (minor_tracing memory placement world) member ≡ true) ⊎ (is_remembered memory.word placement member ≡ true)
    → slot_at world member place ≡ Some number → is_young memory.layout placement number ≡ true
    → is_reached (minor_tracing memory placement world) number ≡ true
slot-reached memory placement world member place number there either is young =
    let tracing = minor_tracing memory placement world in
    let closed = reached-closed tracing in
    elim either as (λ _. is_reached tracing number ≡ true) [
      | inl reached ↦
          closed.slots member number there reached young (named-at number (object_at world.graph member).slots place is)
      | inr remembered ↦
          closed.roots number young
          (named-right number (registers_of world.mutators) (remembered_slots memory.word placement world.graph)
          (remembered-named memory.word placement world member place number there remembered is))
    ]

-- ---- a full collection

-- what a register names is reachable
pub full-register_reached : (world : World) (t reg number : ℕ) → t < length world.mutators → named_by world t reg ≡ Some number
    → is_reachable world number ≡ true
full-register_reached world t reg number there is =
    (reached-closed (whole world)).roots number refl
    (named-right number (Some 0 ∷ []) (registers_of world.mutators) (register-named world t reg number there is))

-- so is what a slot of a reachable object names
pub full-slot_reached : (world : World) (member place number : ℕ) → member < length world.graph → is_reachable world member ≡ true
    → slot_at world member place ≡ Some number → is_reachable world number ≡ true
full-slot_reached world member place number there reached is =
    (reached-closed (whole world)).slots member number there reached refl
    (named-at number (object_at world.graph member).slots place is)
