-- What is known of a placed object: where its words lie, what its header says, and which object a register names.
use Rattle.std.proofs.Common.{◌≡◌, ◌≢◌, ◌∙◌, ℕ, ◌*◌, ◌<◌, ◌≤◌, Some, length, inl, inr, sym, ap, arith, slice_index}
use Rattle.std.proofs.lemmas.Bool.{cases_eq}
use native.Mathlib.Nat.{mul-le-mul_right}
use Rattle.gc_layout.specs.declared.shape.Shape.{Shape}
use Rattle.gc_layout.specs.Places.{region_words}
use Rattle.gc_model.specs.Answer.{shape_at}
use Rattle.gc_model.specs.Graph.{object_at, common_object}
use Rattle.gc_model.specs.Laws.{IsTyped, kind_of}
use Rattle.gc_model.specs.World.{World, named_by}
use Rattle.gc_placement.specs.Headers.{IsHeader}
use Rattle.gc_placement.specs.Objects.{by_place}
use Rattle.gc_placement.specs.Placement.{IsWordOf, Placement}
use Rattle.gc_placement.proofs.Extents.{word-within}
use Rattle.gc_placement.proofs.Names.{some-name}
use Rattle.gc_placement.proofs.Objects.{header_read}
use Rattle.gc_solo.specs.Kept.{Kept, ShowsBy, bay_at, memory_of}
use Rattle.gc_solo.specs.Stands.{IsReadyFor, IsReadyIn}

-- the address of a word of a placed object is that of one of the words
pub word-inside : (kept : Kept) (placement : Placement) (world : World) (number a : ℕ) → ShowsBy kept placement world
    → IsWordOf placement world.graph number a → a < length kept.words
word-inside kept placement world number a shows word =
    omega (
      arith,
      word-within kept.layout (λ t. bay_at kept.bays t) placement world.graph number a shows.rest.shown.bays shows.rest.shown.lying word,
      shows.words,
    )

-- so is that of its header
pub header-inside : (kept : Kept) (placement : Placement) (world : World) (number start : ℕ) → ShowsBy kept placement world
    → placement number ≡ Some start → start < length kept.words
header-inside kept placement world number start shows at =
    word-inside kept placement world number start shows
    (record { address = start; at = at; from = omega arith; to = omega arith })

-- the heap has few words, so a sum of the address of a placed object and of its size fits
pub placed-small : (kept : Kept) (placement : Placement) (world : World) (number start : ℕ) → ShowsBy kept placement world
    → placement number ≡ Some start → start < 2097281
placed-small kept placement world number start shows at =
    let limits = shows.rest.shown.bays.limits in
    let region : region_words kept.layout ≤ 262160 = omega (arith, limits.small_nursery, limits.few_pages) in
    let all : kept.layout.mutators * region_words kept.layout ≤ 8 * region_words kept.layout =
    mul-le-mul_right (region_words kept.layout) limits.few_mutators in
    omega (arith, header-inside kept placement world number start shows at, shows.words, all, region)

-- a placed object is of a known type, and has that type's counts
pub placed-typed : (kept : Kept) (placement : Placement) (world : World) (t number start : ℕ) → IsReadyFor kept placement world t
    → placement number ≡ Some start → IsTyped kept.types (kind_of (object_at world.graph number))
placed-typed kept placement world t number start ready at =
    ready.typed.objects number common_object (ready.shows.rest.shown.lying.there number start at)

-- so it has as many slots and numbers as its shape says
pub placed-shaped : (kept : Kept) (placement : Placement) (world : World) (t number start : ℕ) (shape : Shape)
    → IsReadyFor kept placement world t → placement number ≡ Some start
    → shape ≡ shape_at kept.types (object_at world.graph number).ty
    → (length (object_at world.graph number).slots ≡ shape.slots) × (length (object_at world.graph number).numbers ≡ shape.numbers)
placed-shaped kept placement world t number start shape ready at is =
    let typed = placed-typed kept placement world t number start ready at in (
      typed.slots ∙ ap (λ (each : Shape). each.slots) (sym is),
      typed.numbers ∙ ap (λ (each : Shape). each.numbers) (sym is),
    )

-- ---- its header

-- the header of a placed object says its type
pub header-at : (kept : Kept) (placement : Placement) (world : World) (t number start word : ℕ) → IsReadyFor kept placement world t
    → placement number ≡ Some start → word ≡ slice_index kept.words start → IsHeader word (object_at world.graph number).ty
header-at kept placement world t number start word ready at is =
    rw is (header_read (memory_of kept).word placement (by_place placement) world.graph number start ready.shows.rest.shown.standing at)

-- ---- what a register names

-- a mutator of the world is one of the layout
pub mutator-there : (kept : Kept) (placement : Placement) (world : World) (t : ℕ) → IsReadyFor kept placement world t
    → t < kept.layout.mutators
mutator-there kept placement world t ready = omega (arith, ready.mutator, ready.shows.rest.shown.mutators)

-- a register names an object that is placed at an address
pub record IsBase (placement : Placement) (world : World) (t base start : ℕ) : Type 0 where
  pub object : ℕ
  pub named : named_by world t base ≡ Some object
  pub at : placement object ≡ Some start

-- it does where it holds an address
pub base-there : (kept : Kept) (placement : Placement) (world : World) (t base start : ℕ) → IsReadyFor kept placement world t
    → start ≡ slice_index (bay_at kept.bays t).registers base → start ≢ 0 → IsBase placement world t base start
base-there kept placement world t base start ready is some =
    let shown = ready.shows.rest.shown in
    let named = some-name placement (named_by world t base) start (shown.covers.registers t base)
    (is ∙ shown.registers t base (mutator-there kept placement world t ready)) some in
    record { object = named.0; named = named.1; at = named.2 }

-- so a sum of the address that a register holds and of a size fits
pub register-small : (kept : Kept) (t reg address : ℕ) → IsReadyIn kept t → address ≡ slice_index (bay_at kept.bays t).registers reg
    → address < 2097281
register-small kept t reg address in_some is =
    elim (cases_eq address 0) [
      | inl nothing ↦ omega arith
      | inr some ↦
          let base = base-there kept in_some.placement in_some.world t reg address in_some.ready is some in
          placed-small kept in_some.placement in_some.world base.object address in_some.ready.shows base.at
    ]
