-- What scanning an object does to a collection under way: slot by slot, and as a whole.
use Rattle.std.proofs.Common.{◌≡◌, ◌∙◌, ℕ, ◌+◌, ◌<◌, ◌≤◌, Option, None, List, length, refl, sym, ap, subst, arith, slice_index}
use Rattle.gc_layout.specs.declared.shape.Shape.{Shape}
use Rattle.gc_layout.specs.Shape.{slot_address}
use Rattle.gc_model.specs.Answer.{shape_at}
use Rattle.gc_model.specs.Graph.{object_at}
use Rattle.gc_model.specs.World.{slot_at}
use Rattle.gc_model.specs.declared.entry.RunKind.{RunKind}
use Rattle.gc_placement.specs.Changes.{Stores}
use Rattle.gc_placement.specs.Headers.{IsHeader}
use Rattle.gc_placement.specs.Holders.{Done}
use Rattle.gc_placement.specs.Placement.{Placement}
use Rattle.gc_solo.specs.Collecting.{Beginning, HasGoneOn, Holds, IsCollecting, IsForwarded, IsToTreat, IsUnderWay, Stage, with_in_hand}
use Rattle.gc_solo.specs.Kept.{Kept, memory_of}
use Rattle.gc_solo.proofs.Collecting.{words-few}
use Rattle.gc_solo.proofs.Hands.{hand-emptied}
use Rattle.gc_solo.proofs.Slots.{gone_on-here, gone_on-then, kept-slots, slot-holds, slot-inside, slot-treated}

-- the shape that the header at an address tells
abbrev pub IsShapeAt : Kept → ℕ → Shape → Type 0
IsShapeAt kept address shape = (ty : ℕ) → IsHeader (slice_index kept.words address) ty → shape ≡ shape_at kept.types ty

-- the object at an address is scanned up to a place, whatever collection of a kind was under way: that went on
abbrev pub IsScannedTo : RunKind → Kept → Kept → ℕ → ℕ → Type 0
IsScannedTo kind old new address place =
    (start : Beginning) (after : Placement) (done : Done) (stage : Stage) (number : ℕ) → start.kind ≡ kind
    → IsCollecting old start after done (with_in_hand stage number 0) → IsToTreat start after stage number address
    → HasGoneOn new start after done (with_in_hand stage number place)

-- a value is the address at which what a word held is kept, whatever collection of a kind was under way
abbrev pub IsForwardedBy : RunKind → Kept → Kept → ℕ → ℕ → Type 0
IsForwardedBy kind old new word value =
    (start : Beginning) (after : Placement) (done : Done) (stage : Stage) (name : Option ℕ) → start.kind ≡ kind
    → IsCollecting old start after done stage → Holds start name word → IsForwarded new start after done stage name value

-- at first none of its slots is scanned
pub scanned_to-none : (kind : RunKind) (kept : Kept) (address : ℕ) → IsScannedTo kind kept kept address 0
scanned_to-none kind kept address start after done stage number kind_is collecting treat = gone_on-here collecting

-- an object that is treated where a collection went on is
treat-later : {kept : Kept} {start : Beginning} {after : Placement} {done : Done} {stage hand : Stage} {number address : ℕ}
    → IsToTreat start after stage number address → (gone : HasGoneOn kept start after done hand)
    → IsToTreat start gone.placement stage number address
treat-later {number = number} {address = address} treat gone =
    record { at = gone.more number address treat.at; traced = treat.traced; scanned = treat.scanned }

-- the slot in hand of an object that is scanned: where it lies, and what it holds
pub record IsSlotInHand (kept : Kept) (start : Beginning) (number address place word : ℕ) : Type 0 where
  pub inside : slot_address address place < length kept.words
  pub few : length kept.words ≤ 2097281
  pub holds : Holds start (slot_at start.world number place) word

-- there is one at each place below the count
pub slot-in_hand : (old kept : Kept) (start : Beginning) (after : Placement) (done : Done) (stage : Stage)
    (number address place : ℕ) (shape : Shape) → IsCollecting old start after done (with_in_hand stage number 0)
    → IsToTreat start after stage number address → IsShapeAt old address shape → place < shape.slots
    → HasGoneOn kept start after done (with_in_hand stage number place)
    → IsSlotInHand kept start number address place (slice_index kept.words (slot_address address place))
slot-in_hand old kept start after done stage number address place shape collecting treat is below gone =
    let slots = kept-slots old start after done (with_in_hand stage number 0) number address shape collecting treat.at is in
    let within : place < length (object_at start.world.graph number).slots = omega (arith, slots, below) in
    let at = gone.more number address treat.at in
    record {
      inside = slot-inside kept start gone.placement gone.now_done (with_in_hand stage number place) number address place gone.collecting at
          within;
      few = words-few gone.collecting;
      holds = slot-holds kept start gone.placement gone.now_done stage number address place gone.collecting at treat.traced within;
    }

-- the word of the slot in hand is one of the words still when what it names is kept
pub slot-stays_inside : (kind : RunKind) (old kept mid : Kept) (start : Beginning) (after : Placement) (done : Done) (stage : Stage)
    (number address place word value : ℕ) (shape : Shape) → start.kind ≡ kind
    → IsCollecting old start after done (with_in_hand stage number 0) → IsToTreat start after stage number address
    → IsShapeAt old address shape → place < shape.slots → HasGoneOn kept start after done (with_in_hand stage number place)
    → word ≡ slice_index kept.words (slot_address address place) → IsForwardedBy kind kept mid word value
    → slot_address address place < length mid.words
slot-stays_inside kind old kept mid start after done stage number address place word value shape kind_is collecting treat is below gone
    read forwards =
    let slots = kept-slots old start after done (with_in_hand stage number 0) number address shape collecting treat.at is in
    let hand = with_in_hand stage number place in
    let name = slot_at start.world number place in
    let slot = slot-in_hand old kept start after done stage number address place shape collecting treat is below gone in
    let forwarded = forwards start gone.placement gone.now_done hand name kind_is gone.collecting
    (subst (Holds start name) (sym read) slot.holds) in
    slot-inside mid start forwarded.placement gone.now_done hand number address place forwarded.collecting
    (forwarded.more number address (gone.more number address treat.at)) (omega (arith, slots, below))

-- one more slot is scanned
pub scanned_to-more : (kind : RunKind) (old kept mid new : Kept) (address place word value : ℕ) (shape : Shape)
    → IsScannedTo kind old kept address place → IsShapeAt old address shape → place < shape.slots
    → word ≡ slice_index kept.words (slot_address address place) → IsForwardedBy kind kept mid word value
    → new ≡ record mid { words = new.words } → length new.words ≡ length mid.words
    → Stores (memory_of mid).word (memory_of new).word (slot_address address place) value
    → IsScannedTo kind old new address (place + 1)
scanned_to-more kind old kept mid new address place word value shape scanned is below read forwards rest count stores start after done stage
    number kind_is collecting treat =
    let gone = scanned start after done stage number kind_is collecting treat in
    let slots = kept-slots old start after done (with_in_hand stage number 0) number address shape collecting treat.at is in
    let hand = with_in_hand stage number place in
    let name = slot_at start.world number place in
    let slot = slot-in_hand old kept start after done stage number address place shape collecting treat is below gone in
    let forwarded = forwards start gone.placement gone.now_done hand name kind_is gone.collecting
    (subst (Holds start name) (sym read) slot.holds) in
    let treated = slot-treated mid start gone.placement gone.now_done stage number address place value new.words (treat-later treat gone)
    (omega (arith, slots, below)) forwarded stores count in
    subst (λ (each : Kept). HasGoneOn each start after done (with_in_hand stage number (place + 1))) (sym rest)
    (gone_on-then after done gone.more gone.registers gone.common treated)

-- where all slots are scanned, the object is
pub scanned-all : (old kept : Kept) (start : Beginning) (after : Placement) (done : Done) (stage : Stage) (number address place : ℕ)
    (shape : Shape) → stage.in_hand ≡ None → IsCollecting old start after done (with_in_hand stage number 0)
    → IsToTreat start after stage number address → IsShapeAt old address shape → shape.slots ≤ place
    → HasGoneOn kept start after done (with_in_hand stage number place) → HasGoneOn kept start after done stage
scanned-all old kept start after done stage number address place shape idle collecting treat is all gone =
    let slots = kept-slots old start after done (with_in_hand stage number 0) number address shape collecting treat.at is in
    record {
      placement = gone.placement;
      now_done = gone.now_done;
      collecting = hand-emptied kept start gone.placement gone.now_done stage number place idle gone.collecting (omega (arith, slots, all));
      more = gone.more;
      registers = gone.registers;
      common = gone.common;
    }

-- ---- the grey objects

-- whatever collection of a kind was under way with nothing in hand, it went on
abbrev pub IsGoneOn : RunKind → Kept → Kept → Type 0
IsGoneOn kind old new =
    (start : Beginning) (after : Placement) (done : Done) (stage : Stage) → start.kind ≡ kind → stage.in_hand ≡ None
    → IsCollecting old start after done stage → HasGoneOn new start after done stage

-- so some is under way where some was
pub gone_on-under_way : (kind : RunKind) (old new : Kept) → IsGoneOn kind old new → IsUnderWay kind old → IsUnderWay kind new
gone_on-under_way kind old new gone some =
    let on = gone some.start some.after some.done some.stage some.kind_is some.idle some.collecting in
    record {
      start = some.start;
      kind_is = some.kind_is;
      after = on.placement;
      done = on.now_done;
      stage = some.stage;
      idle = some.idle;
      collecting = on.collecting;
    }

-- an object at an address is in hand that is to be scanned, whatever collection of a kind was under way
abbrev pub IsTakenInHand : RunKind → Kept → Kept → ℕ → Type 0
IsTakenInHand kind old new address =
    (start : Beginning) (after : Placement) (done : Done) (stage : Stage) → start.kind ≡ kind → stage.in_hand ≡ None
    → IsCollecting old start after done stage → (number : ℕ) × IsCollecting new start after done (with_in_hand stage number 0)
    × IsToTreat start after stage number address

-- the object at an address is scanned, whatever collection of a kind was under way
abbrev pub IsScanned : RunKind → Kept → Kept → ℕ → Type 0
IsScanned kind old new address =
    (start : Beginning) (after : Placement) (done : Done) (stage : Stage) (number : ℕ) → start.kind ≡ kind → stage.in_hand ≡ None
    → IsCollecting old start after done (with_in_hand stage number 0) → IsToTreat start after stage number address
    → HasGoneOn new start after done stage

-- one more object is taken in hand and scanned
pub gone_on-scanned : (kind : RunKind) (old kept mid new : Kept) (address : ℕ) → IsGoneOn kind old kept
    → IsTakenInHand kind kept mid address → IsScanned kind mid new address → IsGoneOn kind old new
gone_on-scanned kind old kept mid new address gone takes scans start after done stage kind_is idle collecting =
    let on = gone start after done stage kind_is idle collecting in
    let taken = takes start on.placement on.now_done stage kind_is idle on.collecting in
    gone_on-then after done on.more on.registers on.common
    (scans start on.placement on.now_done stage taken.0 kind_is idle taken.1 taken.2)
