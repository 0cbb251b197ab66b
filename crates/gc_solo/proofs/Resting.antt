-- What is known of a placed object where a heap is at rest: where its words lie, what its header says, and what its slots hold.
use Rattle.std.proofs.Common.{◌≡◌, ◌≢◌, ◌∙◌, ℕ, ◌+◌, ◌*◌, ◌<◌, ◌≤◌, true, false, length, None, Some, sym, ap, arith, slice_index}
use Rattle.std.proofs.lemmas.Bool.{false_from_ne_true, false≢true}
use Rattle.std.proofs.lemmas.List.{get_or_past}
use native.Mathlib.Nat.{mul-le-mul_right}
use Rattle.gc_layout.specs.declared.shape.Shape.{Shape}
use Rattle.gc_layout.specs.Places.{region_words, word_count}
use Rattle.gc_layout.specs.Shape.{slot_address}
use Rattle.gc_model.specs.Answer.{shape_at}
use Rattle.gc_model.specs.Graph.{common_object, object_at}
use Rattle.gc_model.specs.Laws.{IsTyped, IsWellTyped, kind_of}
use Rattle.gc_model.specs.World.{World, slot_at}
use Rattle.gc_placement.specs.Extents.{IsInAPage}
use Rattle.gc_placement.specs.Headers.{IsHeader, head_of}
use Rattle.gc_placement.specs.Rest.{IsAtRest}
use Rattle.gc_placement.specs.Placement.{IsWordOf, Placement, name_address, or_nothing}
use Rattle.gc_placement.specs.Remembered.{NamesYoung}
use Rattle.gc_placement.proofs.Extents.{word-within}
use Rattle.gc_placement.proofs.Names.{some-name}
use Rattle.gc_solo.specs.Kept.{Kept, bay_at, memory_of}

-- the words and bays are at rest and show a world in which each object has its type's counts, and there is a word for each
-- address
pub record IsResting (kept : Kept) (placement : Placement) (world : World) : Type 0 where
  pub rest : IsAtRest (memory_of kept) placement world
  pub typed : IsWellTyped kept.types world
  pub words : length kept.words ≡ 1 + word_count kept.layout

-- ---- where its words lie

-- the address of a word of a placed object is that of one of the words
pub resting-inside : (kept : Kept) (placement : Placement) (world : World) (number a : ℕ) → IsResting kept placement world
    → IsWordOf placement world.graph number a → (1 ≤ a) × (a < length kept.words)
resting-inside kept placement world number a resting word =
    let shown = resting.rest.shown in
    let within = word-within kept.layout (λ t. bay_at kept.bays t) placement world.graph number a shown.bays shown.lying word in
    (within.0, omega (arith, within.1, resting.words))

-- so is that of its header, and few addresses are less
pub resting-header_inside : (kept : Kept) (placement : Placement) (world : World) (number address : ℕ) → IsResting kept placement world
    → placement number ≡ Some address → (1 ≤ address) × (address < length kept.words) × (address < 2097281)
resting-header_inside kept placement world number address resting at =
    let inside =
    resting-inside kept placement world number address resting
    (record { address = address; at = at; from = omega arith; to = omega arith }) in
    let limits = resting.rest.shown.bays.limits in
    let region : region_words kept.layout ≤ 262160 = omega (arith, limits.small_nursery, limits.few_pages) in
    let all : kept.layout.mutators * region_words kept.layout ≤ 8 * region_words kept.layout =
    mul-le-mul_right (region_words kept.layout) limits.few_mutators in
    (inside.0, inside.1, omega (arith, inside.1, resting.words, all, region))

-- ---- its type

-- the header of a placed object says its type
pub resting-header : (kept : Kept) (placement : Placement) (world : World) (number address : ℕ) → IsResting kept placement world
    → placement number ≡ Some address → IsHeader (slice_index kept.words address) (object_at world.graph number).ty
resting-header kept placement world number address resting at = (resting.rest.shown.standing number address at).header

-- it is of a known type, and has that type's counts
pub resting-typed : (kept : Kept) (placement : Placement) (world : World) (number address : ℕ) → IsResting kept placement world
    → placement number ≡ Some address → IsTyped kept.types (kind_of (object_at world.graph number))
resting-typed kept placement world number address resting at =
    resting.typed.objects number common_object (resting.rest.shown.lying.there number address at)

-- so a shape that is that of its header's type counts its slots
pub resting-slots : (kept : Kept) (placement : Placement) (world : World) (number address : ℕ) (shape : Shape)
    → IsResting kept placement world → placement number ≡ Some address
    → ((ty : ℕ) → IsHeader (slice_index kept.words address) ty → shape ≡ shape_at kept.types ty)
    → length (object_at world.graph number).slots ≡ shape.slots
resting-slots kept placement world number address shape resting at is =
    let shape_is : shape ≡ shape_at kept.types (object_at world.graph number).ty =
    is (object_at world.graph number).ty (resting-header kept placement world number address resting at) in
    (resting-typed kept placement world number address resting at).slots ∙ ap (λ (each : Shape). each.slots) (sym shape_is)

-- it has the bit old where it lies in a page
pub resting-old : (kept : Kept) (placement : Placement) (world : World) (number address : ℕ) → IsResting kept placement world
    → placement number ≡ Some address → (head_of (slice_index kept.words address)).old ≡ true → IsInAPage kept.layout address
resting-old kept placement world number address resting at = (resting.rest.shown.old number address at).0

-- and there alone
pub resting-young : (kept : Kept) (placement : Placement) (world : World) (number address : ℕ) → IsResting kept placement world
    → placement number ≡ Some address → ¬ IsInAPage kept.layout address → (head_of (slice_index kept.words address)).old ≡ false
resting-young kept placement world number address resting at outside =
    false_from_ne_true (head_of (slice_index kept.words address)).old
    (λ old. outside (resting-old kept placement world number address resting at old))

-- ---- its slots

-- the address of a slot is that of one of the words
pub resting-slot_inside : (kept : Kept) (placement : Placement) (world : World) (number address place : ℕ)
    → IsResting kept placement world → placement number ≡ Some address → place < length (object_at world.graph number).slots
    → slot_address address place < length kept.words
resting-slot_inside kept placement world number address place resting at within =
    (resting-inside kept placement world number (slot_address address place) resting
    (record { address = address; at = at; from = omega arith; to = omega (arith, within) })).1

-- a slot holds the address of what it names
pub resting-slot : (kept : Kept) (placement : Placement) (world : World) (number address place : ℕ)
    → IsResting kept placement world → placement number ≡ Some address → place < length (object_at world.graph number).slots
    → slice_index kept.words (slot_address address place) ≡ name_address placement (slot_at world number place)
resting-slot kept placement world number address place resting at within =
    (resting.rest.shown.standing number address at).slots place within

-- so where that isn't 0 it names an object that is placed there
pub resting-named : (kept : Kept) (placement : Placement) (world : World) (number address place held : ℕ)
    → IsResting kept placement world → placement number ≡ Some address → place < length (object_at world.graph number).slots
    → held ≡ slice_index kept.words (slot_address address place) → held ≢ 0
    → (named : ℕ) × (slot_at world number place ≡ Some named) × (placement named ≡ Some held)
resting-named kept placement world number address place held resting at within is some =
    some-name placement (slot_at world number place) held
    (resting.rest.shown.covers.slots number place (record { address = address; at = at }))
    (is ∙ resting-slot kept placement world number address place resting at within) some

-- a slot that names an object in a half holds the address of a header without the bit old
pub resting-names_young : (kept : Kept) (placement : Placement) (world : World) (number address place held : ℕ)
    → IsResting kept placement world → placement number ≡ Some address → place < length (object_at world.graph number).slots
    → held ≡ slice_index kept.words (slot_address address place) → NamesYoung kept.layout placement world number place
    → (held ≢ 0) × ((head_of (slice_index kept.words held)).old ≡ false)
resting-names_young kept placement world number address place held resting at within is names =
    let there : held ≡ names.named_address =
    is ∙ resting-slot kept placement world number address place resting at within
    ∙ ap (name_address placement) names.named_is ∙ ap or_nothing names.named_at in
    let some = resting-header_inside kept placement world names.named names.named_address resting names.named_at in
    let young = resting-young kept placement world names.named names.named_address resting names.named_at names.young in
    (λ nothing. omega (arith, nothing, there, some.0), ap (λ a. (head_of (slice_index kept.words a)).old) there ∙ young)

-- and one of an object in a page that holds such an address names such an object
pub resting-young_named : (kept : Kept) (placement : Placement) (world : World) (number address place held : ℕ)
    → IsResting kept placement world → placement number ≡ Some address → place < length (object_at world.graph number).slots
    → held ≡ slice_index kept.words (slot_address address place) → IsInAPage kept.layout address → held ≢ 0
    → (head_of (slice_index kept.words held)).old ≡ false → NamesYoung kept.layout placement world number place
resting-young_named kept placement world number address place held resting at within is page some young =
    let named = resting-named kept placement world number address place held resting at within is some in
    record {
      address = address;
      at = at;
      old = page;
      named = named.0;
      named_is = named.1;
      named_address = held;
      named_at = named.2;
      young = λ inside. false≢true (sym young ∙ (resting.rest.shown.old named.0 held named.2).1 inside);
    }

-- a slot that isn't one of the object's names nothing
pub resting-no_slot : (kept : Kept) (placement : Placement) (world : World) (number place : ℕ)
    → length (object_at world.graph number).slots ≤ place → ¬ NamesYoung kept.layout placement world number place
resting-no_slot kept placement world number place past names =
    let nothing : None ≡ Some names.named =
    sym (get_or_past (object_at world.graph number).slots place None past) ∙ names.named_is in cc
