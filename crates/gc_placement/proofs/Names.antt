-- What a placement covers: all that is reachable, and what each step of the world leaves of it.
use Rattle.std.proofs.Common.{◌≡◌, ◌≢◌, ◌∙◌, ℕ, Bool, true, List, All, length, Option, None, Some, inl, inr, refl, ap, sym, subst, arith, slice_index_or}
use Rattle.std.proofs.lemmas.Bool.{cases_eq, cases_lt, eqb-true, false≢true}
use Rattle.std.proofs.lemmas.List.Elements.{All-cons, All-from_get_or}
use Rattle.std.proofs.lemmas.List.Folds.{Any-from_list_any}
use Rattle.std.specs.Prelude.{is_some}
use Rattle.gc_layout.specs.declared.shape.Shape.{Shape}
use Rattle.gc_model.proofs.Reached.{reached-least}
use Rattle.gc_model.specs.Answer.{shape_at, with_new}
use Rattle.gc_model.specs.Graph.{fresh_object, object_at}
use Rattle.gc_model.specs.Reach.{is_named, names, registers_of, root_names, whole}
use Rattle.gc_model.specs.World.{Mutator, World, first_world, fresh_mutator, mutator_at, named_by, slot_at, with_blocked, with_mutator, with_number, with_object, with_register, with_slot}
use Rattle.gc_placement.specs.Names.{Covers, ReachableIsPlaced}
use Rattle.gc_placement.specs.Placement.{Placement, IsNamePlaced, IsPlaced, name_address, or_nothing, with_place}
use Rattle.gc_placement.proofs.Lists.{All-flat_map, set-either}
use Rattle.gc_placement.proofs.Placement.{with_place-other, with_place-same}
use Rattle.gc_placement.proofs.Worlds.{named_by-either, named_by-first, slot_at-either, slot_at-first, slot_at-fresh, slot_at-number, slot_at-object, slot_at-other}

-- whether an object is placed
abbrev pub is_placed : Placement → ℕ → Bool
is_placed placement number = is_some (placement number)

-- an address that is there is one
address_of_some : (address : Option ℕ) → is_some address ≡ true → (a : ℕ) × (address ≡ Some a)
address_of_some None is = absurd (false≢true is)
address_of_some (Some a) is = (a, refl)

-- so what has an address is placed
pub placed-from_test : (placement : Placement) (number : ℕ) → is_placed placement number ≡ true → IsPlaced placement number
placed-from_test placement number is =
    let some = address_of_some (placement number) is in
    record { address = some.0; at = some.1 }

-- an object that a placed name names is placed
placed-named : (placement : Placement) (number : ℕ) (name : Option ℕ) → IsNamePlaced placement name → names number name ≡ true
    → IsPlaced placement number
placed-named placement number None placed named = absurd (false≢true named)
placed-named placement number (Some other) placed named = subst (IsPlaced placement) (eqb-true other number named) placed

-- an object that one of these names names is placed where each name is
pub placed-among : (placement : Placement) (number : ℕ) (named : List (Option ℕ)) → All (IsNamePlaced placement) named
    → is_named number named ≡ true → is_placed placement number ≡ true
placed-among placement number named all some =
    let one = Any-from_list_any (names number) named some in
    let placed = subst (IsNamePlaced placement) one.3 (all one.0 one.1 one.2) in
    ap is_some (placed-named placement number one.1 placed one.4).at

-- each name that a register holds is placed
pub registers-placed : (placement : Placement) (world : World) → Covers placement world
    → All (IsNamePlaced placement) (registers_of world.mutators)
registers-placed placement world covers =
    All-flat_map (IsNamePlaced placement) (λ (mutator : Mutator). mutator.registers) world.mutators
    (All-from_get_or (λ (mutator : Mutator). All (IsNamePlaced placement) mutator.registers) world.mutators fresh_mutator (λ t below.
    All-from_get_or (IsNamePlaced placement) (mutator_at world t).registers None (λ reg within. covers.registers t reg)))

-- each name that a slot of a placed object holds is placed
pub slots-placed : (placement : Placement) (world : World) → Covers placement world → (number : ℕ) → IsPlaced placement number
    → All (IsNamePlaced placement) (object_at world.graph number).slots
slots-placed placement world covers number placed =
    All-from_get_or (IsNamePlaced placement) (object_at world.graph number).slots None
    (λ place within. covers.slots number place placed)

-- all that is reachable is placed
pub reachable-placed : ReachableIsPlaced
reachable-placed placement world covers number reachable =
    let roots = All-cons (IsNamePlaced placement) (Some 0) (registers_of world.mutators) covers.common
    (registers-placed placement world covers) in
    placed-from_test placement number (reached-least (whole world) (is_placed placement) (record {
      roots = λ root own named. placed-among placement root (root_names world.mutators) roots named;
      slots = λ member other there has own named.
          placed-among placement other (object_at world.graph member).slots
          (slots-placed placement world covers member (placed-from_test placement member has)) named;
    }) number reachable)

-- a mutator whose registers name what is placed takes another's place
pub covers-mutator : (placement : Placement) (world : World) (t : ℕ) (mutator : Mutator) → Covers placement world
    → ((reg : ℕ) → IsNamePlaced placement (slice_index_or mutator.registers reg None)) → Covers placement (with_mutator world t mutator)
covers-mutator placement world t mutator covers placed = record {
  common = covers.common;
  registers = λ u reg. named_by-either (IsNamePlaced placement) world t u reg mutator (placed reg) (covers.registers u reg);
  slots = covers.slots;
}

-- a register comes to name what is placed
pub covers-register : (placement : Placement) (world : World) (t reg : ℕ) (name : Option ℕ) → Covers placement world
    → IsNamePlaced placement name → Covers placement (with_register world t reg name)
covers-register placement world t reg name covers placed =
    covers-mutator placement world t _ covers
    (λ other. set-either (IsNamePlaced placement) (mutator_at world t).registers reg other name None placed (covers.registers t other))

-- blocking changes no name
pub covers-blocked : (placement : Placement) (world : World) (t : ℕ) (blocked : Bool) → Covers placement world
    → Covers placement (with_blocked world t blocked)
covers-blocked placement world t blocked covers = covers-mutator placement world t _ covers (covers.registers t)

-- a slot comes to name what is placed
pub covers-slot : (placement : Placement) (world : World) (number place : ℕ) (name : Option ℕ) → Covers placement world
    → IsNamePlaced placement name → Covers placement (with_slot world number place name)
covers-slot placement world number place name covers placed = record {
  common = covers.common;
  registers = covers.registers;
  slots = λ other at there. elim (cases_eq other number) [
    | inl same ↦
        let Placed = λ (owner : ℕ). IsNamePlaced placement (slot_at (with_slot world number place name) owner at) in
        subst Placed (sym same) (slot_at-either (IsNamePlaced placement) world number place at name placed
        (covers.slots number at (subst (IsPlaced placement) same there)))
    | inr differs ↦ rw (slot_at-other world number place other at name differs) (covers.slots other at there)
  ];
}

-- a number names nothing
pub covers-number : (placement : Placement) (world : World) (number place value : ℕ) → Covers placement world
    → Covers placement (with_number world number place value)
covers-number placement world number place value covers = record {
  common = covers.common;
  registers = covers.registers;
  slots = λ other at there. rw (slot_at-number world number place value other at) (covers.slots other at there);
}

-- a placed object stays placed where one more is given a place
pub placed-with_place : (placement : Placement) (number address other : ℕ) → IsPlaced placement other
    → IsPlaced (with_place placement number address) other
placed-with_place placement number address other placed =
    elim (cases_eq other number) [
      | inl same ↦ record {
        address = address;
        at = ap (with_place placement number address) same ∙ with_place-same placement number address;
      }
      | inr differs ↦ record { address = placed.address; at = with_place-other placement number address other differs ∙ placed.at }
    ]

-- so does a placed name
pub name_placed-with_place : (placement : Placement) (number address : ℕ) (name : Option ℕ) → IsNamePlaced placement name
    → IsNamePlaced (with_place placement number address) name
name_placed-with_place placement number address None placed = placed
name_placed-with_place placement number address (Some other) placed = placed-with_place placement number address other placed

-- a new object is given a place: what was placed stays so, and its own slots name nothing
covers-object : (types : List Shape) (placement : Placement) (world : World) (t ty address : ℕ) → Covers placement world
    → Covers (with_place placement (length world.graph) address) (with_object world (fresh_object ty (Some t) (shape_at types ty)))
covers-object types placement world t ty address covers =
    let count = length world.graph in
    let object = fresh_object ty (Some t) (shape_at types ty) in
    record {
      common = placed-with_place placement count address 0 covers.common;
      registers = λ u reg. name_placed-with_place placement count address (named_by world u reg) (covers.registers u reg);
      slots = λ number place there. elim (cases_lt number count) [
        | inl below ↦
            let differs : number ≢ count = omega (arith, below) in
            let placed : IsPlaced placement number = record {
              address = there.address;
              at = sym (with_place-other placement count address number differs) ∙ there.at;
            } in
            rw (slot_at-object world object number place below)
            (name_placed-with_place placement count address (slot_at world number place) (covers.slots number place placed))
        | inr above ↦ rw (slot_at-fresh world ty (Some t) (shape_at types ty) number place above) tt
      ];
    }

-- and a register comes to name it
pub covers-new : (types : List Shape) (placement : Placement) (world : World) (t into ty address : ℕ) → Covers placement world
    → Covers (with_place placement (length world.graph) address) (with_new types world t into ty)
covers-new types placement world t into ty address covers =
    let after = with_place placement (length world.graph) address in
    covers-register after (with_object world (fresh_object ty (Some t) (shape_at types ty))) t into (Some (length world.graph))
    (covers-object types placement world t ty address covers)
    (record { address = address; at = with_place-same placement (length world.graph) address })

-- at first the common object alone is needed
pub covers-first : (mutators address : ℕ) → Covers (with_place (λ number. None) 0 address) (first_world mutators)
covers-first mutators address = record {
  common = record { address = address; at = refl };
  registers = λ t reg. rw (named_by-first mutators t reg) tt;
  slots = λ number place there. rw (slot_at-first mutators number place) tt;
}

-- a placed name that has an address other than 0 is of the object there
pub some-name : (placement : Placement) (name : Option ℕ) (address : ℕ) → IsNamePlaced placement name
    → address ≡ name_address placement name → address ≢ 0 → (number : ℕ) × (name ≡ Some number) × (placement number ≡ Some address)
some-name placement None address placed is some = absurd (some is)
some-name placement (Some number) address placed is some =
    (number, refl, placed.at ∙ ap Some (sym (is ∙ ap or_nothing placed.at)))

-- a placed name with address 0 names nothing
pub nothing-name : (placement : Placement) (name : Option ℕ) → ((i : ℕ) → placement i ≢ Some 0) → IsNamePlaced placement name
    → name_address placement name ≡ 0 → name ≡ None
nothing-name placement None some placed is = refl
nothing-name placement (Some number) some placed is =
    absurd (some number (placed.at ∙ ap Some (sym (ap or_nothing placed.at) ∙ is)))

-- two placed names with one address are one
pub same-name : (placement : Placement) (left right : Option ℕ)
    → ((i j a : ℕ) → placement i ≡ Some a → placement j ≡ Some a → i ≡ j) → ((i : ℕ) → placement i ≢ Some 0)
    → IsNamePlaced placement left → IsNamePlaced placement right → name_address placement left ≡ name_address placement right
    → left ≡ right
same-name placement None right own some left_placed right_placed same = sym (nothing-name placement right some right_placed (sym same))
same-name placement (Some number) None own some left_placed right_placed same =
    nothing-name placement (Some number) some left_placed same
same-name placement (Some number) (Some other) own some left_placed right_placed same =
    let addresses : left_placed.address ≡ right_placed.address =
    sym (ap or_nothing left_placed.at) ∙ same ∙ ap or_nothing right_placed.at in
    ap Some (own number other right_placed.address (left_placed.at ∙ ap Some addresses) right_placed.at)
