-- The slots and numbers that calls work on: which is meant, what is read there, and what a store leaves shown.
use Rattle.std.proofs.Common.{◌≡◌, ◌≢◌, ◌∙◌, ℕ, ◌<◌, ◌≤◌, length, Option, Some, Ok, Err, refl, sym, subst, arith, eq-eqb, slice_index}
use Rattle.std.proofs.lemmas.Bool.{le-ltb, lt-ltb, ne_eqb}
use Rattle.gc_layout.specs.declared.shape.Shape.{Shape}
use Rattle.gc_layout.specs.Shape.{number_address, slot_address}
use Rattle.gc_model.specs.declared.reply.Reply.TheVariants.{Found, Range, Yes}
use Rattle.gc_model.specs.Answer.{base_object, keeps, number_owner, shape_at, slot_owner, swaps}
use Rattle.gc_model.specs.Graph.{object_at}
use Rattle.gc_model.specs.World.{World, named_by, number_at, slot_at, with_number}
use Rattle.gc_placement.specs.Changes.{Stores}
use Rattle.gc_placement.specs.Objects.{by_place}
use Rattle.gc_placement.specs.Placement.{IsNamePlaced, Placement, name_address}
use Rattle.gc_placement.proofs.Objects.{number_read, slot_read}
use Rattle.gc_placement.proofs.Rest.{rest-number}
use Rattle.gc_solo.specs.Fields.{IsNumber, IsNumberOf, IsSlot, IsSlotOf}
use Rattle.gc_solo.specs.Kept.{Kept, ShowsBy, bay_at, memory_of}
use Rattle.gc_solo.specs.Stands.{IsReadyFor}
use Rattle.gc_solo.proofs.Placed.{base-there, placed-shaped, word-inside}

-- ---- which field is meant

-- a call at a place below the count works on the object that the base names
base-goes : (name : Option ℕ) (count : ℕ → ℕ) (place object : ℕ) → name ≡ Some object → place < count object
    → base_object name count place ≡ Ok object
base-goes name count place object named below = rw (named, lt-ltb place (count object) below) refl

-- at another place it is refused
base-refused : (name : Option ℕ) (count : ℕ → ℕ) (place object : ℕ) → name ≡ Some object → count object ≤ place
    → base_object name count place ≡ Err Range
base-refused name count place object named above = rw (named, le-ltb place (count object) above) refl

-- the slot that is meant
pub slot-found : (kept : Kept) (placement : Placement) (world : World) (t base place start address : ℕ) (shape : Shape)
    → IsReadyFor kept placement world t → start ≡ slice_index (bay_at kept.bays t).registers base → start ≢ 0
    → ((number : ℕ) → placement number ≡ Some start → shape ≡ shape_at kept.types (object_at world.graph number).ty)
    → place < shape.slots → address ≡ slot_address start place → IsSlot placement world t base place address
slot-found kept placement world t base place start address shape ready is some shape_is below address_is =
    let named = base-there kept placement world t base start ready is some in
    let counts = placed-shaped kept placement world t named.object start shape ready named.at (shape_is named.object named.at) in
    let within : place < length (object_at world.graph named.object).slots = omega (arith, below, counts) in
    record {
      object = named.object;
      slot = record { start = start; at = named.at; within = within; address_is = address_is };
      owner = base-goes (named_by world t base) (λ number. length (object_at world.graph number).slots) place named.object named.named
          within;
    }

-- no slot is meant where the place isn't below the count
pub slot-missing : (kept : Kept) (placement : Placement) (world : World) (t base place start : ℕ) (shape : Shape)
    → IsReadyFor kept placement world t → start ≡ slice_index (bay_at kept.bays t).registers base → start ≢ 0
    → ((number : ℕ) → placement number ≡ Some start → shape ≡ shape_at kept.types (object_at world.graph number).ty)
    → shape.slots ≤ place → slot_owner world t base place ≡ Err Range
slot-missing kept placement world t base place start shape ready is some shape_is above =
    let named = base-there kept placement world t base start ready is some in
    let counts = placed-shaped kept placement world t named.object start shape ready named.at (shape_is named.object named.at) in
    base-refused (named_by world t base) (λ number. length (object_at world.graph number).slots) place named.object named.named
    (omega (arith, above, counts))

-- the number that is meant
pub number-found : (kept : Kept) (placement : Placement) (world : World) (t base place start address : ℕ) (shape : Shape)
    → IsReadyFor kept placement world t → start ≡ slice_index (bay_at kept.bays t).registers base → start ≢ 0
    → ((number : ℕ) → placement number ≡ Some start → shape ≡ shape_at kept.types (object_at world.graph number).ty)
    → place < shape.numbers → address ≡ number_address start shape place → IsNumber placement world t base place address
number-found kept placement world t base place start address shape ready is some shape_is below address_is =
    let named = base-there kept placement world t base start ready is some in
    let counts = placed-shaped kept placement world t named.object start shape ready named.at (shape_is named.object named.at) in
    let within : place < length (object_at world.graph named.object).numbers = omega (arith, below, counts) in
    record {
      object = named.object;
      number = record { start = start; at = named.at; within = within; address_is = omega (arith, address_is, counts) };
      owner = base-goes (named_by world t base) (λ number. length (object_at world.graph number).numbers) place named.object named.named
          within;
    }

-- no number is meant where the place isn't below the count
pub number-missing : (kept : Kept) (placement : Placement) (world : World) (t base place start : ℕ) (shape : Shape)
    → IsReadyFor kept placement world t → start ≡ slice_index (bay_at kept.bays t).registers base → start ≢ 0
    → ((number : ℕ) → placement number ≡ Some start → shape ≡ shape_at kept.types (object_at world.graph number).ty)
    → shape.numbers ≤ place → number_owner world t base place ≡ Err Range
number-missing kept placement world t base place start shape ready is some shape_is above =
    let named = base-there kept placement world t base start ready is some in
    let counts = placed-shaped kept placement world t named.object start shape ready named.at (shape_is named.object named.at) in
    base-refused (named_by world t base) (λ number. length (object_at world.graph number).numbers) place named.object named.named
    (omega (arith, above, counts))

-- ---- what is read

-- the address of a slot of a placed object is that of one of the words
pub slot-inside : (kept : Kept) (placement : Placement) (world : World) (number place address : ℕ) → ShowsBy kept placement world
    → IsSlotOf placement world number place address → address < length kept.words
slot-inside kept placement world number place address shows slot =
    word-inside kept placement world number address shows (record {
      address = slot.start;
      at = slot.at;
      from = omega (arith, slot.address_is);
      to = omega (arith, slot.address_is, slot.within);
    })

-- so is that of a number
pub number-inside : (kept : Kept) (placement : Placement) (world : World) (number place address : ℕ) → ShowsBy kept placement world
    → IsNumberOf placement world number place address → address < length kept.words
number-inside kept placement world number place address shows field =
    word-inside kept placement world number address shows (record {
      address = field.start;
      at = field.at;
      from = omega (arith, field.address_is);
      to = omega (arith, field.address_is, field.within);
    })

-- the word of a slot holds the address of what it names
pub slot-word : (kept : Kept) (placement : Placement) (world : World) (number place address : ℕ) → ShowsBy kept placement world
    → IsSlotOf placement world number place address
    → slice_index kept.words address ≡ name_address placement (slot_at world number place)
slot-word kept placement world number place address shows slot =
    slot_read (memory_of kept).word placement world number place slot.start address shows.rest.shown.standing slot.at slot.within
    slot.address_is

-- which is placed
pub slot-placed : (kept : Kept) (placement : Placement) (world : World) (number place address : ℕ) → ShowsBy kept placement world
    → IsSlotOf placement world number place address → IsNamePlaced placement (slot_at world number place)
slot-placed kept placement world number place address shows slot =
    shows.rest.shown.covers.slots number place (record { address = slot.start; at = slot.at })

-- the word of a number holds it
pub number-word : (kept : Kept) (placement : Placement) (world : World) (number place address : ℕ) → ShowsBy kept placement world
    → IsNumberOf placement world number place address → slice_index kept.words address ≡ number_at world number place
number-word kept placement world number place address shows field =
    number_read (memory_of kept).word placement (by_place placement) world number place field.start address shows.rest.shown.standing
    field.at field.within field.address_is

-- ---- what a store leaves

-- a number is another one, where that one is stored
pub shown-number : (old new : Kept) (placement : Placement) (world : World) (number place address v : ℕ)
    → ShowsBy old placement world → new ≡ record old { words = new.words } → length new.words ≡ length old.words
    → Stores (memory_of old).word (memory_of new).word address v → IsNumberOf placement world number place address
    → ShowsBy new placement (with_number world number place v)
shown-number old new placement world number place address v shows rest count stores field =
    let after : Kept = record old { words = new.words } in
    let shown : ShowsBy after placement (with_number world number place v) = record {
      rest = rest-number (memory_of old) (memory_of after) placement world number place field.start address v shows.rest
          (record { types = refl; layout = refl; bays = λ t. refl }) stores field.at field.within field.address_is;
      words = count ∙ shows.words;
      bays = shows.bays;
      eight = shows.eight;
      blocked = shows.blocked;
    } in
    subst (λ (each : Kept). ShowsBy each placement (with_number world number place v)) (sym rest) shown

-- a number that isn't the expected one is told
pub not-swapped : (world : World) (number place expected replacement there : ℕ) → there ≢ expected
    → swaps world number place expected replacement there ≡ keeps world (Found there)
not-swapped world number place expected replacement there differs = rw (ne_eqb there expected differs) refl

-- the expected one is replaced
pub is-swapped : (world : World) (number place expected replacement there : ℕ) → there ≡ expected
    → swaps world number place expected replacement there ≡ record { world = with_number world number place replacement; reply = Yes }
is-swapped world number place expected replacement there same = rw (eq-eqb there expected same) refl
