-- How objects stand in the words, and what a change of the words or of the placement leaves of it.
use Rattle.std.proofs.Common.{◌≢◌, ◌≡◌, ◌⊎◌, ◌∙◌, ℕ, ◌+◌, ◌<◌, ◌≤◌, Bool, true, List, [], ◌∷◌, ◌++◌, length, Option, None, Some, inl, inr, refl, replicate, ap, sym, subst, arith, slice_index, slice_index_or, slice_set, length-set}
use Rattle.std.proofs.lemmas.Bool.{cases_eq}
use Rattle.std.proofs.lemmas.List.{get_or-replicate, get_or-set_same, get_or-set_other, get_or_append_left, get_or_push, length-replicate}
use Rattle.gc_layout.specs.declared.shape.Shape.{Shape}
use Rattle.gc_layout.specs.declared.shape.TypeNo.{TypeNo}
use Rattle.gc_layout.specs.Head.{fresh_head, head_word}
use Rattle.gc_layout.specs.Shape.{common_shape, size_of, slot_address}
use Rattle.gc_model.specs.Answer.{shape_at}
use Rattle.gc_model.specs.Graph.{Graph, Object, common_object, fresh_object, object_at, object_size}
use Rattle.gc_model.specs.World.{World, first_world, number_at, slot_at, with_number, with_object, with_slot}
use Rattle.gc_placement.specs.Changes.{Stores, WritesFresh}
use Rattle.gc_placement.specs.Extents.{AreApart}
use Rattle.gc_placement.specs.Headers.{IsHeader}
use Rattle.gc_placement.specs.Names.{Covers}
use Rattle.gc_placement.specs.Objects.{AllStand, Naming, StandsAt, by_place}
use Rattle.gc_placement.specs.Placement.{IsWordOf, Placement, name_address, with_place}
use Rattle.gc_placement.proofs.Headers.{IsHeader-fresh}
use Rattle.gc_placement.proofs.Placement.{name_address-with_place, with_place-other, with_place-same}

-- an object stands in each memory that has its words
pub stands-frame : (word other : ℕ → ℕ) (address : ℕ) (naming : Naming) (number : ℕ) (object : Object)
    → StandsAt word address naming number object
    → ((a : ℕ) → address ≤ a → a < address + object_size object → other a ≡ word a) → StandsAt other address naming number object
stands-frame word other address naming number object stands same = grind arith

-- it stands under each naming that gives its slots the same words
pub stands-renamed : (word : ℕ → ℕ) (address : ℕ) (naming other : Naming) (number : ℕ) (object : Object)
    → StandsAt word address naming number object
    → ((place : ℕ) → place < length object.slots
    → other number place (slice_index_or object.slots place None) ≡ naming number place (slice_index_or object.slots place None))
    → StandsAt word address other number object
stands-renamed word address naming other number object stands same = record {
  header = stands.header;
  forwarding = stands.forwarding;
  slots = λ place below. stands.slots place below ∙ sym (same place below);
  numbers = stands.numbers;
}

-- what changes no word of a placed object leaves all standing
pub all_stand-outside : (word other : ℕ → ℕ) (placement : Placement) (naming : Naming) (graph : Graph)
    → AllStand word placement naming graph → ((number a : ℕ) → IsWordOf placement graph number a → other a ≡ word a)
    → AllStand other placement naming graph
all_stand-outside word other placement naming graph standing outside number address at =
    stands-frame word other address naming number (object_at graph number) (standing number address at)
    (λ a from to. outside number a (record { address = address; at = at; from = from; to = to }))

-- where a word of a placed object is stored and the object then stands as another one, all stand
all_stand-replaced : (word other : ℕ → ℕ) (placement : Placement) (naming : Naming) (graph : Graph) (number address at v : ℕ)
    (object : Object) → AllStand word placement naming graph → AreApart placement graph → placement number ≡ Some address
    → number < length graph → address ≤ at → at < address + object_size (object_at graph number) → Stores word other at v
    → StandsAt other address naming number object → AllStand other placement naming (slice_set graph number object)
all_stand-replaced word other placement naming graph number address at v object standing apart placed there from to stores stands
    each each_address each_at =
    elim (cases_eq each number) as (λ _. StandsAt other each_address naming each (object_at (slice_set graph number object) each)) [
      | inl same ↦
          let moved : Some each_address ≡ Some address = sym each_at ∙ ap placement same ∙ placed in
          let here : each_address ≡ address = cc in
          rw (same, here, get_or-set_same graph number object common_object there) stands
      | inr differs ↦
          rw (get_or-set_other graph number each object common_object differs)
          (stands-frame word other each_address naming each (object_at graph each) (standing each each_address each_at)
          (λ a first last. stores.elsewhere a (λ meet. differs (apart a each number
          (record { address = each_address; at = each_at; from = first; to = last })
          (record { address = address; at = placed; from = omega (arith, from, meet); to = omega (arith, to, meet) })))))
    ]

-- where the address of what a slot comes to name is stored in it, all stand in the world with that slot
pub all_stand-slot : (word other : ℕ → ℕ) (placement : Placement) (world : World) (number place address at v : ℕ) (name : Option ℕ)
    → AllStand word placement (by_place placement) world.graph → AreApart placement world.graph → placement number ≡ Some address
    → number < length world.graph → place < length (object_at world.graph number).slots → at ≡ slot_address address place
    → v ≡ name_address placement name → Stores word other at v
    → AllStand other placement (by_place placement) (with_slot world number place name).graph
all_stand-slot word other placement world number place address at v name standing apart placed there below at_is v_is stores =
    let object = object_at world.graph number in
    let stands = standing number address placed in
    let slots = slice_set object.slots place name in
    let count : length slots ≡ length object.slots = length-set object.slots place name in
    all_stand-replaced word other placement (by_place placement) world.graph number address at v (record object { slots = slots })
    standing apart placed there (omega (arith, at_is)) (omega (arith, at_is, below)) stores
    (record {
      header = rw (stores.elsewhere address (λ meet. omega (arith, at_is, meet))) stands.header;
      forwarding = stores.elsewhere (address + 1) (λ meet. omega (arith, at_is, meet)) ∙ stands.forwarding;
      slots = λ each within.
          elim (cases_eq each place)
          as (λ _. other (slot_address address each) ≡ name_address placement (slice_index_or slots each None)) [
            | inl same ↦
                rw (same, get_or-set_same object.slots place name None below)
                (ap other (sym at_is) ∙ stores.here ∙ v_is)
            | inr differs ↦
                rw (get_or-set_other object.slots place each name None differs)
                (stores.elsewhere (slot_address address each) (λ meet. differs (omega (arith, at_is, meet)))
                ∙ stands.slots each (omega (arith, within, count)))
          ];
      numbers = λ each within.
          rw count
          (stores.elsewhere (address + 2 + length object.slots + each) (λ meet. omega (arith, at_is, meet, below))
          ∙ stands.numbers each within);
    })

-- where a number is stored in its word, all stand in the world with that number
pub all_stand-number : (word other : ℕ → ℕ) (placement : Placement) (world : World) (number place address at v : ℕ)
    → AllStand word placement (by_place placement) world.graph → AreApart placement world.graph → placement number ≡ Some address
    → number < length world.graph → place < length (object_at world.graph number).numbers
    → at ≡ address + 2 + length (object_at world.graph number).slots + place → Stores word other at v
    → AllStand other placement (by_place placement) (with_number world number place v).graph
all_stand-number word other placement world number place address at v standing apart placed there below at_is stores =
    let object = object_at world.graph number in
    let stands = standing number address placed in
    let numbers = slice_set object.numbers place v in
    let count : length numbers ≡ length object.numbers = length-set object.numbers place v in
    all_stand-replaced word other placement (by_place placement) world.graph number address at v
    (record object { numbers = numbers }) standing apart placed there (omega (arith, at_is)) (omega (arith, at_is, below)) stores
    (record {
      header = rw (stores.elsewhere address (λ meet. omega (arith, at_is, meet))) stands.header;
      forwarding = stores.elsewhere (address + 1) (λ meet. omega (arith, at_is, meet)) ∙ stands.forwarding;
      slots = λ each within.
          stores.elsewhere (slot_address address each) (λ meet. omega (arith, at_is, meet, within)) ∙ stands.slots each within;
      numbers = λ each within.
          elim (cases_eq each place)
          as (λ _. other (address + 2 + length object.slots + each) ≡ slice_index numbers each) [
            | inl same ↦
                rw (same, get_or-set_same object.numbers place v 0 below) (ap other (sym at_is) ∙ stores.here)
            | inr differs ↦
                rw (get_or-set_other object.numbers place each v 0 differs)
                (stores.elsewhere (address + 2 + length object.slots + each) (λ meet. differs (omega (arith, at_is, meet)))
                ∙ stands.numbers each (omega (arith, within, count)))
          ];
    })

-- where a header is written and the words behind it are 0, a fresh object stands, whatever its number
stands-fresh : (word : ℕ → ℕ) (placement : Placement) (number address size kind : ℕ) (maker : Option ℕ) (ty : TypeNo) (in_page : Bool)
    (shape : Shape) → ty.0 < 256 → ty.0 ≡ kind → size ≡ size_of shape → word address ≡ head_word (fresh_head ty in_page)
    → ((a : ℕ) → address < a → a < address + size → word a ≡ 0)
    → StandsAt word address (by_place placement) number (fresh_object kind maker shape)
stands-fresh word placement number address size kind maker ty in_page shape below kind_is size_is header zeros =
    let slots = length-replicate {A = Option ℕ} shape.slots None in
    let numbers = length-replicate {A = ℕ} shape.numbers 0 in
    record {
      header = rw header (subst (IsHeader (head_word (fresh_head ty in_page))) kind_is (IsHeader-fresh ty in_page below));
      forwarding = zeros (address + 1) (omega arith) (omega (arith, size_is));
      slots = λ place within.
          rw (get_or-replicate {A = Option ℕ} shape.slots place None None (omega (arith, within, slots)))
          (zeros (slot_address address place) (omega arith) (omega (arith, within, slots, size_is)));
      numbers = λ place within.
          rw (get_or-replicate {A = ℕ} shape.numbers place 0 0 (omega (arith, within, numbers)))
          (zeros (address + 2 + length (replicate shape.slots None) + place) (omega arith)
          (omega (arith, within, slots, numbers, size_is)));
    }

-- where a fresh object is written outside of the placed ones, all stand in the world with one more object
pub all_stand-new : (types : List Shape) (word other : ℕ → ℕ) (placement : Placement) (world : World) (t address size : ℕ)
    (ty : TypeNo) (in_page : Bool) → AllStand word placement (by_place placement) world.graph
    → ((number a : ℕ) → placement number ≡ Some a → number < length world.graph) → Covers placement world → ty.0 < 256
    → size ≡ size_of (shape_at types ty.0) → WritesFresh word other address size ty in_page
    → ((number a : ℕ) → IsWordOf placement world.graph number a → (a < address) ⊎ (address + size ≤ a))
    → AllStand other (with_place placement (length world.graph) address)
    (by_place (with_place placement (length world.graph) address))
    (with_object world (fresh_object ty.0 (Some t) (shape_at types ty.0))).graph
all_stand-new types word other placement world t address size ty in_page standing there covers below size_is writes outside
    each each_address each_at =
    let count = length world.graph in
    let after = with_place placement count address in
    let new = fresh_object ty.0 (Some t) (shape_at types ty.0) in
    let unplaced : (a : ℕ) → placement count ≢ Some a = λ a at. omega (arith, there count a at) in
    elim (cases_eq each count)
    as (λ _. StandsAt other each_address (by_place after) each (object_at (world.graph ++ new ∷ []) each)) [
      | inl same ↦
          let moved : Some each_address ≡ Some address =
          sym each_at ∙ ap after same ∙ with_place-same placement count address in
          let here : each_address ≡ address = cc in
          rw (here, get_or_push world.graph new common_object each (sym same))
          (stands-fresh other after each address size ty.0 (Some t) ty in_page (shape_at types ty.0) below refl size_is writes.header
          writes.zeros)
      | inr differs ↦
          let before : placement each ≡ Some each_address =
          sym (with_place-other placement count address each differs) ∙ each_at in
          let within : each < count = there each each_address before in
          let object = object_at world.graph each in
          let kept = stands-frame word other each_address (by_place placement) each object (standing each each_address before)
          (λ a from to. writes.elsewhere a
          (outside each a (record { address = each_address; at = before; from = from; to = to }))) in
          rw (get_or_append_left world.graph (new ∷ []) common_object each within)
          (stands-renamed other each_address (by_place placement) (by_place after) each object kept
          (λ place _. name_address-with_place placement count address (slot_at world each place)
          (covers.slots each place (record { address = each_address; at = before })) unplaced))
    ]

-- where the common object is written alone, all stand in the first world
pub all_stand-first : (word : ℕ → ℕ) (mutators address : ℕ) (ty : TypeNo) → ty.0 ≡ 0 → word address ≡ head_word (fresh_head ty true)
    → ((a : ℕ) → address < a → a < address + 18 → word a ≡ 0)
    → AllStand word (with_place (λ number. None) 0 address) (by_place (with_place (λ number. None) 0 address))
    (first_world mutators).graph
all_stand-first word mutators address ty kind_is header zeros each each_address each_at =
    let nowhere : Placement = λ number. None in
    let after = with_place nowhere 0 address in
    elim (cases_eq each 0) as (λ _. StandsAt word each_address (by_place after) each (object_at (common_object ∷ []) each)) [
      | inl same ↦
          let moved : Some each_address ≡ Some address = sym each_at ∙ ap after same in
          let here : each_address ≡ address = cc in
          rw (same, here)
          (stands-fresh word after 0 address 18 0 None ty true common_shape (omega (arith, kind_is)) kind_is refl header zeros)
      | inr differs ↦
          let none : None ≡ Some each_address = sym (with_place-other nowhere 0 address each differs) ∙ each_at in
          cc
    ]

-- the word of a slot holds the address of what the slot names
pub slot_read : (word : ℕ → ℕ) (placement : Placement) (world : World) (number place address at : ℕ)
    → AllStand word placement (by_place placement) world.graph → placement number ≡ Some address
    → place < length (object_at world.graph number).slots → at ≡ slot_address address place
    → word at ≡ name_address placement (slot_at world number place)
slot_read word placement world number place address at standing placed below at_is =
    ap word at_is ∙ (standing number address placed).slots place below

-- the word of a number holds it
pub number_read : (word : ℕ → ℕ) (placement : Placement) (naming : Naming) (world : World) (number place address at : ℕ)
    → AllStand word placement naming world.graph → placement number ≡ Some address
    → place < length (object_at world.graph number).numbers
    → at ≡ address + 2 + length (object_at world.graph number).slots + place → word at ≡ number_at world number place
number_read word placement naming world number place address at standing placed below at_is =
    ap word at_is ∙ (standing number address placed).numbers place below

-- the word at a placed object's address is a header's of its type
pub header_read : (word : ℕ → ℕ) (placement : Placement) (naming : Naming) (graph : Graph) (number address : ℕ)
    → AllStand word placement naming graph → placement number ≡ Some address
    → IsHeader (word address) (object_at graph number).ty
header_read word placement naming graph number address standing placed = (standing number address placed).header
