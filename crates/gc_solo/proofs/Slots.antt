-- The slots of an object in hand: what each holds before it is treated, and where the collection stands once it is.
use Rattle.std.proofs.Common.{◌≡◌, ◌∙◌, ◌⊎◌, inl, inr, ℕ, ◌+◌, ◌<◌, ◌≤◌, Bool, true, false, Option, None, Some, IfSome, List, length, refl, sym, ap, subst, arith, slice_index}
use Rattle.std.proofs.lemmas.Bool.{cases_eq}
use Rattle.std.proofs.lemmas.Option.{same_Some}
use Rattle.gc_layout.specs.declared.shape.Shape.{Shape}
use Rattle.gc_layout.specs.Shape.{slot_address}
use Rattle.gc_model.specs.Answer.{shape_at}
use Rattle.gc_model.specs.Graph.{object_at}
use Rattle.gc_model.specs.Reach.{is_reached}
use Rattle.gc_model.specs.World.{slot_at}
use Rattle.gc_model.specs.declared.entry.RunKind.{RunKind}
use Rattle.gc_placement.specs.Changes.{Stores}
use Rattle.gc_placement.specs.Headers.{IsHeader}
use Rattle.gc_placement.specs.Holders.{Done, IsGrey, with_slot_done}
use Rattle.gc_placement.specs.Moves.{YoungAreReached, name_before_or_after}
use Rattle.gc_placement.specs.Placement.{IsPlaced, Placement, name_address}
use Rattle.gc_placement.specs.Tracings.{is_remembered, minor_tracing, tracing_of}
use Rattle.gc_placement.proofs.MarksByKind.{marks_in-slot}
use Rattle.gc_placement.proofs.MinorSlots.{TreatsSlot, slot-done, treated-header}
use Rattle.gc_placement.proofs.MinorSteps.{waiting-same_within}
use Rattle.gc_placement.proofs.Roots.{full-slot_reached, slot-reached}
use Rattle.gc_solo.specs.Collecting.{Beginning, HasGoneOn, Holds, IsCollecting, IsForwarded, IsReachedBy, IsToScan, IsToTreat, IsTracedObject, IsUnmarked, KeepsMore, Stage, Waits, with_in_hand}
use Rattle.gc_solo.specs.Kept.{Kept, bay_at, memory_of}
use Rattle.gc_solo.proofs.Collecting.{before-shaped, before-typed, collecting-with, kept-ends, kept-header, kept-inside}

-- ---- how a collection went on

-- what went on from where a collection had gone on went on from before
pub gone_on-then : {kept : Kept} {start : Beginning} {mid : Placement} {mid_done : Done} {stage : Stage} (after : Placement) (done : Done)
    → KeepsMore after mid → ((t reg : ℕ) → mid_done.registers t reg ≡ done.registers t reg) → mid_done.common ≡ done.common
    → HasGoneOn kept start mid mid_done stage → HasGoneOn kept start after done stage
gone_on-then after done more registers common gone = record {
  placement = gone.placement;
  now_done = gone.now_done;
  collecting = gone.collecting;
  more = λ number address at. gone.more number address (more number address at);
  registers = λ t reg. gone.registers t reg ∙ registers t reg;
  common = gone.common ∙ common;
}

-- where nothing changes it went on to where it is
pub gone_on-here : {kept : Kept} {start : Beginning} {after : Placement} {done : Done} {stage : Stage}
    → IsCollecting kept start after done stage → HasGoneOn kept start after done stage
gone_on-here {after = after} {done = done} collecting = record {
  placement = after;
  now_done = done;
  collecting = collecting;
  more = λ number address at. at;
  registers = λ t reg. refl;
  common = refl;
}

-- ---- what a slot in hand holds

-- what holds of the number of a name, whichever it is, holds of the name
pub if_some : (P : ℕ → Type 0) (name : Option ℕ) → ((number : ℕ) → name ≡ Some number → P number) → IfSome name P
if_some P None each = tt
if_some P (Some number) each = each number refl

-- a kept object has as many slots as its shape says
pub kept-slots : (kept : Kept) (start : Beginning) (after : Placement) (done : Done) (stage : Stage) (number address : ℕ) (shape : Shape)
    → IsCollecting kept start after done stage → after number ≡ Some address
    → ((ty : ℕ) → IsHeader (slice_index kept.words address) ty → shape ≡ shape_at kept.types ty)
    → length (object_at start.world.graph number).slots ≡ shape.slots
kept-slots kept start after done stage number address shape collecting at is =
    let was = collecting.under_way.keeps.only number (record { address = address; at = at }) in
    let shaped = before-shaped number was.address shape collecting was.at
    (is (object_at start.world.graph number).ty (kept-header number address collecting at)) in
    shaped.slots

-- a kept object has a header, of a known type
pub kept-known : (kept : Kept) (start : Beginning) (after : Placement) (done : Done) (stage : Stage) (number address : ℕ)
    → IsCollecting kept start after done stage → after number ≡ Some address
    → (ty : ℕ) × IsHeader (slice_index kept.words address) ty × (ty < length kept.types)
kept-known kept start after done stage number address collecting at =
    let was = collecting.under_way.keeps.only number (record { address = address; at = at }) in (
      (object_at start.world.graph number).ty,
      kept-header number address collecting at,
      (before-typed number was.address collecting was.at).known,
    )

-- the header of a kept object is one of the words
pub kept-starts : (kept : Kept) (start : Beginning) (after : Placement) (done : Done) (stage : Stage) (number address : ℕ)
    → IsCollecting kept start after done stage → after number ≡ Some address → address < length kept.words
kept-starts kept start after done stage number address collecting at = omega (arith, (kept-ends number address collecting at).1)

-- the word of a slot of a kept object is one of the words
pub slot-inside : (kept : Kept) (start : Beginning) (after : Placement) (done : Done) (stage : Stage) (number address place : ℕ)
    → IsCollecting kept start after done stage → after number ≡ Some address
    → place < length (object_at start.world.graph number).slots → slot_address address place < length kept.words
slot-inside kept start after done stage number address place collecting at within =
    (kept-inside number (slot_address address place) collecting
    (record { address = address; at = at; from = omega arith; to = omega (arith, within) })).1

-- what a slot of a traced object names is reached where it belongs
slot_name-reached : (kind : RunKind) (start : Beginning) (after : Placement) (number place named : ℕ)
    → number < length start.world.graph → IsPlaced after number
    → YoungAreReached (tracing_of kind start.memory start.placement start.world) start.memory.layout start.placement after
    → IsTracedObject kind start number → slot_at start.world number place ≡ Some named
    → (tracing_of kind start.memory start.placement start.world).belongs named ≡ true
    → is_reached (tracing_of kind start.memory start.placement start.world) named ≡ true
slot_name-reached RunKind.Minor start after number place named there kept young traced is belongs =
    let reached : (is_reached (minor_tracing start.memory start.placement start.world) number ≡ true)
    ⊎ (is_remembered start.memory.word start.placement number ≡ true) =
    elim traced [
      | inl in_half ↦ inl (young number in_half kept)
      | inr remembered ↦ inr remembered
    ] in
    slot-reached start.memory start.placement start.world number place named there reached is belongs
slot_name-reached RunKind.Full start after number place named there kept young traced is belongs =
    full-slot_reached start.world number place named there traced is

-- the word of the slot in hand holds what the slot names, as before
pub slot-holds : (kept : Kept) (start : Beginning) (after : Placement) (done : Done) (stage : Stage) (number address place : ℕ)
    → IsCollecting kept start after done (with_in_hand stage number place) → after number ≡ Some address
    → IsTracedObject start.kind start number → place < length (object_at start.world.graph number).slots
    → Holds start (slot_at start.world number place) (slice_index kept.words (slot_address address place))
slot-holds kept start after done stage number address place collecting at traced within =
    let way = collecting.under_way in
    let name = slot_at start.world number place in
    let waits : done.slots number place ≡ false =
    (way.grey_or_waiting number address place at within).1 (inr (inr (inl (refl, omega arith)))) in
    let kept_one : IsPlaced after number = record { address = address; at = at } in
    record {
      address_is = (way.standing.kept number address at).slots place within
          ∙ ap (λ (is : Bool). name_before_or_after start.placement after is name) waits;
      placed = collecting.rest.shown.covers.slots number place (way.keeps.only number kept_one);
      reached = if_some (IsReachedBy start) name (λ named is belongs.
          slot_name-reached start.kind start after number place named (way.lying.there number address at) kept_one way.reached traced is
          belongs);
    }

-- ---- a slot in hand is treated

-- the slot in hand holds the address after of what it names: the collection went on to the next slot
pub slot-treated : (kept : Kept) (start : Beginning) (after : Placement) (done : Done) (stage : Stage) (number address place value : ℕ)
    (words : List ℕ) → IsToTreat start after stage number address → place < length (object_at start.world.graph number).slots
    → IsForwarded kept start after done (with_in_hand stage number place) (slot_at start.world number place) value
    → Stores (λ a. slice_index kept.words a) (λ a. slice_index words a) (slot_address address place) value
    → length words ≡ length kept.words
    → HasGoneOn (record kept { words = words }) start after done (with_in_hand stage number (place + 1))
slot-treated kept start after done stage number address place value words treat within forwarded stores count =
    let memory = start.memory in
    let world = start.world in
    let collecting = forwarded.collecting in
    let way = collecting.under_way in
    let placement = forwarded.placement in
    let marks = collecting.marks in
    let word = (memory_of kept).word in
    let other : ℕ → ℕ = λ a. slice_index words a in
    let bay = bay_at kept.bays in
    let at = forwarded.more number address treat.at in
    let aside = collecting.in_hand.aside in
    let here : aside.address ≡ address = same_Some aside.address address (sym aside.at ∙ at) in
    let not_grey : ¬ IsGrey memory.layout.mutators bay address =
    subst (λ a. ¬ IsGrey memory.layout.mutators bay a) here aside.not_grey in
    let treats : TreatsSlot word other placement world number address place value =
    record { at = at; within = within; stores = stores; value_is = forwarded.address_is } in
    let now = slot-done memory start.placement world word other bay placement done (Waits start marks (with_in_hand stage number place))
    number address place value collecting.rest way at within stores forwarded.address_is forwarded.placed not_grey in
    record {
      placement = placement;
      now_done = with_slot_done done number place;
      collecting = collecting-with kept start placement placement done (with_slot_done done number place)
          (with_in_hand stage number place) (with_in_hand stage number (place + 1)) words kept.bays marks collecting count refl
          (waiting-same_within memory start.placement world other bay placement (with_slot_done done number place)
          (λ each each_at. Waits start marks (with_in_hand stage number place) each each_at × ¬ ((each ≡ number) × (each_at ≡ place)))
          (Waits start marks (with_in_hand stage number (place + 1))) now
          (λ each a each_at placed below waits. elim waits.0 [
            | inl listed ↦ inl listed
            | inr (inl hand) ↦ elim (cases_eq each_at place) [
              | inl same ↦ absurd (waits.1 (sym (same_Some number each hand.0), same))
              | inr differs ↦ inr (inl (hand.0, omega (arith, hand.1, differs)))
            ]
            | inr (inr unmarked) ↦ inr (inr unmarked)
          ])
          (λ each a each_at placed below waits. elim waits [
            | inl listed ↦ (inl listed, λ both. treat.scanned (subst (IsToScan start stage) both.0 listed))
            | inr (inl hand) ↦ (inr (inl (hand.0, omega (arith, hand.1))), λ both. omega (arith, hand.1, both.1))
            | inr (inr unmarked) ↦
                (inr (inr unmarked), λ both. collecting.in_hand.marked (subst (IsUnmarked start marks) both.0 unmarked))
          ]))
          (marks_in-slot start.kind memory.layout start.placement world word other bay placement done marks number place
          collecting.marked (treated-header treats way.apart) forwarded.found)
          (record { aside = aside; marked = collecting.in_hand.marked });
      more = forwarded.more;
      registers = λ t reg. refl;
      common = refl;
    }
