-- What is known of a heap while a collection is under way: where the words of objects lie, what their headers say, and
-- when it is under way with other words and bays.
use Rattle.std.proofs.Common.{◌≡◌, ◌∙◌, ℕ, ◌+◌, ◌*◌, ◌<◌, ◌≤◌, IfSome, List, length, Some, true, sym, ap, arith, slice_index, slice_index_or}
use Rattle.std.proofs.lemmas.List.{get_or_read}
use native.Mathlib.Nat.{mul-le-mul_right}
use Rattle.gc_bay.specs.Bay.{Bay}
use Rattle.gc_layout.specs.declared.shape.Shape.{Shape}
use Rattle.gc_layout.specs.declared.shape.TypeNo.{TypeNo}
use Rattle.gc_layout.specs.Places.{region_words}
use Rattle.gc_layout.specs.Shape.{common_shape, size_of}
use Rattle.gc_model.specs.Answer.{shape_at}
use Rattle.gc_model.specs.Graph.{common_object, object_at, object_size}
use Rattle.gc_model.specs.Laws.{IsTyped, kind_of}
use Rattle.gc_placement.specs.Headers.{IsHeader}
use Rattle.gc_placement.specs.Holders.{Done}
use Rattle.gc_placement.specs.UnderWay.{IsCollectionUnderWay}
use Rattle.gc_placement.specs.Marks.{AreMarkedIn, Marks}
use Rattle.gc_placement.specs.Placement.{IsPlaced, IsWordOf, Placement}
use Rattle.gc_placement.proofs.Extents.{word-within}
use Rattle.gc_solo.specs.Collecting.{Beginning, HasMarked, IsCollecting, IsInHand, Stage, Waits}
use Rattle.gc_solo.specs.Kept.{Kept, bay_at, memory_of, no_bay}

-- ---- the words and bays

-- a collection is under way on a heap with other words and bays where it is for these
pub collecting-with : (kept : Kept) (start : Beginning) (after grown : Placement) (done now : Done) (stage next : Stage) (words : List ℕ)
    (bays : List Bay) (marks : Marks) → IsCollecting kept start after done stage → length words ≡ length kept.words
    → length bays ≡ length kept.bays
    → IsCollectionUnderWay start.kind start.memory start.placement start.world (λ a. slice_index words a) (bay_at bays) grown now
    (Waits start marks next)
    → AreMarkedIn start.kind start.memory.layout start.placement start.world (λ a. slice_index words a) (bay_at bays) grown now marks
    → IfSome next.in_hand (IsInHand (record kept { words = words; bays = bays }) start grown marks)
    → IsCollecting (record kept { words = words; bays = bays }) start grown now next
collecting-with kept start after grown done now stage next words bays marks collecting word_count_is bay_count_is under marked hand =
    record {
      rest = collecting.rest;
      sound = collecting.sound;
      typed = collecting.typed;
      types = collecting.types;
      layout = collecting.layout;
      words = word_count_is ∙ collecting.words;
      bays = bay_count_is ∙ collecting.bays;
      marks = marks;
      under_way = under;
      marked = marked;
      in_hand = hand;
    }

-- each mutator has a bay
pub bay-there : {kept : Kept} {start : Beginning} {after : Placement} {done : Done} {stage : Stage} (t : ℕ)
    → IsCollecting kept start after done stage → t < start.memory.layout.mutators → t < length kept.bays
bay-there t collecting there = omega (arith, collecting.bays, there)

-- what is read at a mutator's place is its bay
pub bay-at : {kept : Kept} {start : Beginning} {after : Placement} {done : Done} {stage : Stage} (t at : ℕ) (read : Bay)
    → IsCollecting kept start after done stage → t < start.memory.layout.mutators → at ≡ t → read ≡ slice_index_or kept.bays at read
    → read ≡ bay_at kept.bays t
bay-at {kept} t at read collecting there place is =
    let within : at < length kept.bays = omega (arith, place, bay-there t collecting there) in
    get_or_read kept.bays at read within is no_bay ∙ ap (bay_at kept.bays) place

-- ---- where the words of objects lie

-- the address of a word of an object that is kept is that of one of the words
pub kept-inside : {kept : Kept} {start : Beginning} {after : Placement} {done : Done} {stage : Stage} (number a : ℕ)
    → IsCollecting kept start after done stage → IsWordOf after start.world.graph number a → (1 ≤ a) × (a < length kept.words)
kept-inside {kept} {start} {after} number a collecting word =
    let under = collecting.under_way in
    let within =
    word-within start.memory.layout (memory_of kept).bay after start.world.graph number a under.bays under.lying word in
    (within.0, omega (arith, collecting.words, within.1))

-- so is that of a word of an object at its place before
pub before-inside : {kept : Kept} {start : Beginning} {after : Placement} {done : Done} {stage : Stage} (number a : ℕ)
    → IsCollecting kept start after done stage → IsWordOf start.placement start.world.graph number a
    → (1 ≤ a) × (a < length kept.words)
before-inside {kept} {start} number a collecting word =
    let shown = collecting.rest.shown in
    let within =
    word-within start.memory.layout start.memory.bay start.placement start.world.graph number a shown.bays shown.lying word in
    (within.0, omega (arith, collecting.words, within.1))

-- the words of an object that is kept are all there
pub kept-ends : {kept : Kept} {start : Beginning} {after : Placement} {done : Done} {stage : Stage} (number address : ℕ)
    → IsCollecting kept start after done stage → after number ≡ Some address
    → (1 ≤ address) × (address + object_size (object_at start.world.graph number) ≤ length kept.words)
kept-ends {kept} {start} number address collecting at =
    let last : ℕ = address + 1 + length (object_at start.world.graph number).slots + length (object_at start.world.graph number).numbers in
    let first = kept-inside number address collecting (record { address = address; at = at; from = omega arith; to = omega arith }) in
    let end = kept-inside number last collecting (record { address = address; at = at; from = omega arith; to = omega arith }) in
    (first.0, omega (arith, end.1))

-- so are those of an object at its place before
pub before-ends : {kept : Kept} {start : Beginning} {after : Placement} {done : Done} {stage : Stage} (number address : ℕ)
    → IsCollecting kept start after done stage → start.placement number ≡ Some address
    → (1 ≤ address) × (address + object_size (object_at start.world.graph number) ≤ length kept.words)
before-ends {kept} {start} number address collecting at =
    let last : ℕ = address + 1 + length (object_at start.world.graph number).slots + length (object_at start.world.graph number).numbers in
    let first = before-inside number address collecting (record { address = address; at = at; from = omega arith; to = omega arith }) in
    let end = before-inside number last collecting (record { address = address; at = at; from = omega arith; to = omega arith }) in
    (first.0, omega (arith, end.1))

-- there are few words, so a sum of an address and of a size fits
pub words-few : {kept : Kept} {start : Beginning} {after : Placement} {done : Done} {stage : Stage}
    → IsCollecting kept start after done stage → length kept.words ≤ 2097281
words-few {kept} {start} collecting =
    let layout = start.memory.layout in
    let limits = collecting.rest.shown.bays.limits in
    let region : region_words layout ≤ 262160 = omega (arith, limits.small_nursery, limits.few_pages) in
    let all : layout.mutators * region_words layout ≤ 8 * region_words layout =
    mul-le-mul_right (region_words layout) limits.few_mutators in
    omega (arith, collecting.words, all, region)

-- ---- headers

-- an object that is kept has a header of its type
pub kept-header : {kept : Kept} {start : Beginning} {after : Placement} {done : Done} {stage : Stage} (number address : ℕ)
    → IsCollecting kept start after done stage → after number ≡ Some address
    → IsHeader (slice_index kept.words address) (object_at start.world.graph number).ty
kept-header number address collecting at = (collecting.under_way.standing.kept number address at).header

-- so has an object at its place before, whether it is kept or not
pub before-header : {kept : Kept} {start : Beginning} {after : Placement} {done : Done} {stage : Stage} (number address : ℕ)
    → IsCollecting kept start after done stage → start.placement number ≡ Some address
    → IsHeader (slice_index kept.words address) (object_at start.world.graph number).ty
before-header number address collecting at =
    let was = (collecting.rest.shown.standing number address at).header in
    let stays = collecting.under_way.headers number address at in
    record { header = stays.header was.header; type_is = ap (λ (ty : TypeNo). ty.0) stays.type_is ∙ was.type_is }

-- ---- shapes

-- an object that is kept was placed before
pub kept-placed : {kept : Kept} {start : Beginning} {after : Placement} {done : Done} {stage : Stage} (number address : ℕ)
    → IsCollecting kept start after done stage → after number ≡ Some address → IsPlaced start.placement number
kept-placed number address collecting at = collecting.under_way.keeps.only number (record { address = address; at = at })

-- an object that was placed before is of a known type, and has that type's counts
pub before-typed : {kept : Kept} {start : Beginning} {after : Placement} {done : Done} {stage : Stage} (number address : ℕ)
    → IsCollecting kept start after done stage → start.placement number ≡ Some address
    → IsTyped kept.types (kind_of (object_at start.world.graph number))
before-typed number address collecting at =
    rw collecting.types
    (collecting.typed.objects number common_object (collecting.rest.shown.lying.there number address at))

-- an object has as many slots and numbers as its shape says, and 2 to 64 words
pub record IsShaped (kept : Kept) (start : Beginning) (number : ℕ) (shape : Shape) : Type 0 where
  pub slots : length (object_at start.world.graph number).slots ≡ shape.slots
  pub numbers : length (object_at start.world.graph number).numbers ≡ shape.numbers
  pub least : 2 ≤ object_size (object_at start.world.graph number)
  pub most : object_size (object_at start.world.graph number) ≤ 64

-- so has one that was placed before
pub before-shaped : {kept : Kept} {start : Beginning} {after : Placement} {done : Done} {stage : Stage} (number address : ℕ)
    (shape : Shape) → IsCollecting kept start after done stage → start.placement number ≡ Some address
    → shape ≡ shape_at kept.types (object_at start.world.graph number).ty → IsShaped kept start number shape
before-shaped {kept} {start} number address shape collecting at is =
    let object = object_at start.world.graph number in
    let typed = before-typed number address collecting at in
    let slots : length object.slots ≡ shape.slots = typed.slots ∙ ap (λ (each : Shape). each.slots) (sym is) in
    let numbers : length object.numbers ≡ shape.numbers = typed.numbers ∙ ap (λ (each : Shape). each.numbers) (sym is) in
    let was = collecting.typed.objects number common_object (collecting.rest.shown.lying.there number address at) in
    let size : size_of (shape_at start.memory.types object.ty) ≤ 64 =
    collecting.rest.shown.are_types.sizes object.ty common_shape was.known in
    record {
      slots = slots;
      numbers = numbers;
      least = omega arith;
      most = omega (arith, size, was.slots, was.numbers);
    }

-- ---- marks

-- an object is marked where a collection is under way on a heap with other words and bays, with marks that have it
pub marked-with : (kept : Kept) (start : Beginning) (after grown : Placement) (done now : Done) (stage next : Stage) (words : List ℕ)
    (bays : List Bay) (marks : Marks) (number : ℕ) → IsCollecting kept start after done stage → length words ≡ length kept.words
    → length bays ≡ length kept.bays
    → IsCollectionUnderWay start.kind start.memory start.placement start.world (λ a. slice_index words a) (bay_at bays) grown now
    (Waits start marks next)
    → AreMarkedIn start.kind start.memory.layout start.placement start.world (λ a. slice_index words a) (bay_at bays) grown now marks
    → IfSome next.in_hand (IsInHand (record kept { words = words; bays = bays }) start grown marks) → marks number ≡ true
    → HasMarked (record kept { words = words; bays = bays }) start grown now next number
unfolding collecting-with
marked-with kept start after grown done now stage next words bays marks number collecting word_count_is bay_count_is under marked hand
    is =
    record {
      collecting = collecting-with kept start after grown done now stage next words bays marks collecting word_count_is bay_count_is
          under marked hand;
      marked = is;
    }
