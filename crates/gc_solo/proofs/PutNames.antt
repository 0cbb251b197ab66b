-- A name goes into a slot: what is read on the way of the barrier, and what is shown then.
use Rattle.std.proofs.Common.{◌≡◌, ◌≢◌, ◌∙◌, ◌⊎◌, ℕ, ◌<◌, true, false, List, [], ◌∷◌, ◌++◌, length, Contains, Option, None, Some, Ok, Err, inl, inr, refl, ap, sym, subst, arith, slice_index, slice_index_or, slice_set}
use Rattle.std.proofs.lemmas.Bool.{cases_lt, false≢true, le-ltb, lt-ltb}
use Rattle.std.proofs.lemmas.List.{length-set}
use Rattle.gc_bay.specs.Bay.{Bay, IsBay}
use Rattle.gc_bay.specs.Room.{remembered_room}
use Rattle.gc_layout.specs.Places.{cell_address}
use Rattle.gc_model.specs.declared.reply.Reply.TheVariants.{Range}
use Rattle.gc_model.specs.Answer.{base_object}
use Rattle.gc_model.specs.Graph.{object_at}
use Rattle.gc_model.specs.World.{World, named_by, with_slot}
use Rattle.gc_placement.specs.Changes.{Stores}
use Rattle.gc_placement.specs.Extents.{IsInAPage}
use Rattle.gc_placement.specs.Headers.{IsHeader, head_of, with_remembered}
use Rattle.gc_placement.specs.Placement.{Placement, name_address, or_nothing}
use Rattle.gc_placement.specs.Remembered.{IsOnAList}
use Rattle.gc_placement.proofs.Extents.{word-within}
use Rattle.gc_placement.proofs.Names.{some-name}
use Rattle.gc_placement.proofs.RestSlot.{IsSlotPut, NeedsNoBarrier, put-headers, rest-barrier, rest-slot}
use Rattle.gc_placement.proofs.Rooms.{list-room}
use Rattle.gc_solo.specs.Fields.{IsPut, IsSlot, IsSlotOf}
use Rattle.gc_solo.specs.Kept.{Kept, ShowsBy, bay_at, memory_of}
use Rattle.gc_solo.specs.Stands.{IsReadyFor}
use Rattle.gc_solo.proofs.Placed.{header-inside, word-inside}
use Rattle.gc_solo.proofs.Registers.{bay-read, bay-written, ready-bay, ready-mutator}

-- the name is stored: all else is as before
pub record IsStored (old mid : Kept) (t object slot name : ℕ) : Type 0 where
  pub placement : Placement
  pub world : World
  pub number : ℕ
  pub place : ℕ
  pub named : Option ℕ
  pub ready : IsReadyFor old placement world t
  pub put : IsPut placement world object slot name number place named
  pub same : mid ≡ record old { words = mid.words }
  pub count : length mid.words ≡ length old.words
  pub stores : Stores (memory_of old).word (memory_of mid).word slot name

-- what it is for the memory
put-of : (placement : Placement) (world : World) (object slot name number place : ℕ) (named : Option ℕ)
    → IsPut placement world object slot name number place named → IsSlotPut placement world number place object slot name named
put-of placement world object slot name number place named put =
    record { placed = put.at; below = put.within; at_is = put.slot_is; v_is = put.name_is; named = put.placed }

-- the address of the slot is that of one of the words
pub put-inside : (kept : Kept) (placement : Placement) (world : World) (t object slot name number place : ℕ) (named : Option ℕ)
    → IsReadyFor kept placement world t → IsPut placement world object slot name number place named → slot < length kept.words
put-inside kept placement world t object slot name number place named ready put =
    word-inside kept placement world number slot ready.shows (record {
      address = object;
      at = put.at;
      from = omega (arith, put.slot_is);
      to = omega (arith, put.slot_is, put.within);
    })

-- the header of a placed object is as it was
stored-header : (old mid : Kept) (t object slot name : ℕ) → (stored : IsStored old mid t object slot name) → (each address : ℕ)
    → stored.placement each ≡ Some address → slice_index mid.words address ≡ slice_index old.words address
stored-header old mid t object slot name stored =
    put-headers (memory_of old) (memory_of mid).word stored.placement stored.world stored.number stored.place object slot name
    stored.named stored.ready.shows.rest
    (put-of stored.placement stored.world object slot name stored.number stored.place stored.named stored.put) stored.stores

-- so it stands among the words
header-stored : (old mid : Kept) (t object slot name : ℕ) → (stored : IsStored old mid t object slot name) → (each address : ℕ)
    → stored.placement each ≡ Some address
    → ((ty : ℕ) × IsHeader (slice_index mid.words address) ty) × (address < length mid.words)
header-stored old mid t object slot name stored each address at =
    let ty = (object_at stored.world.graph each).ty in
    let header : IsHeader (slice_index old.words address) ty =
    (stored.ready.shows.rest.shown.standing each address at).header in (
      (ty, subst (λ (w : ℕ). IsHeader w ty) (sym (stored-header old mid t object slot name stored each address at)) header),
      omega (arith, stored.count, header-inside old stored.placement stored.world each address stored.ready.shows at),
    )

-- the object's does
pub object-stored : (old mid : Kept) (t object slot name : ℕ) → IsStored old mid t object slot name
    → ((ty : ℕ) × IsHeader (slice_index mid.words object) ty) × (object < length mid.words)
object-stored old mid t object slot name stored =
    header-stored old mid t object slot name stored stored.number object stored.put.at

-- and the named object's, where there is one
pub named-stored : (old mid : Kept) (t object slot name : ℕ) → IsStored old mid t object slot name → name ≢ 0
    → ((ty : ℕ) × IsHeader (slice_index mid.words name) ty) × (name < length mid.words)
named-stored old mid t object slot name stored some =
    let named = some-name stored.placement stored.named name stored.put.placed stored.put.name_is some in
    header-stored old mid t object slot name stored named.0 name named.2

-- ---- no barrier is needed

-- why the barrier does nothing
abbrev pub IsSettled : Kept → ℕ → ℕ → Type 0
IsSettled mid object name =
    ((head_of (slice_index mid.words object)).old ≡ false) ⊎ (((head_of (slice_index mid.words object)).remembered ≡ true)
    ⊎ ((name ≡ 0) ⊎ ((head_of (slice_index mid.words name)).old ≡ true)))

-- then none is needed
settled-needs : (old mid : Kept) (t object slot name : ℕ) → (stored : IsStored old mid t object slot name) → IsSettled mid object name
    → NeedsNoBarrier (memory_of old) stored.placement object stored.named
settled-needs old mid t object slot name stored settled =
    let shown = stored.ready.shows.rest.shown in
    let put = stored.put in
    let header = stored-header old mid t object slot name stored in
    let own = header stored.number object put.at in
    let name_is : (each a : ℕ) → stored.named ≡ Some each → stored.placement each ≡ Some a → name ≡ a = λ each a is at.
    put.name_is ∙ ap (name_address stored.placement) is ∙ ap or_nothing at in
    elim settled [
      | inl young ↦ inl (λ page.
          false≢true (sym young ∙ ap (λ (w : ℕ). (head_of w).old) own ∙ (shown.old stored.number object put.at).1 page))
      | inr two ↦ elim two [
        | inl has ↦ inr (inl (ap (λ (w : ℕ). (head_of w).remembered) (sym own) ∙ has))
        | inr three ↦ elim three [
          | inl nothing ↦ inr (inr (λ each a is at.
              let within = word-within old.layout (λ u. bay_at old.bays u) stored.placement stored.world.graph each a shown.bays
              shown.lying (record { address = a; at = at; from = omega arith; to = omega arith }) in
              absurd (omega (arith, within.0, nothing, name_is each a is at))))
          | inr old_name ↦ inr (inr (λ each a is at.
              (shown.old each a at).0 (ap (λ (w : ℕ). (head_of w).old) (sym (header each a at))
              ∙ ap (λ b. (head_of (slice_index mid.words b)).old) (sym (name_is each a is at)) ∙ old_name)))
        ]
      ]
    ]

-- and the slot names what was put
pub shown-settled : (old mid : Kept) (t object slot name : ℕ) → (stored : IsStored old mid t object slot name)
    → IsSettled mid object name
    → ShowsBy mid stored.placement (with_slot stored.world stored.number stored.place stored.named)
shown-settled old mid t object slot name stored settled =
    let shows = stored.ready.shows in
    let world_after = with_slot stored.world stored.number stored.place stored.named in
    let after : Kept = record old { words = mid.words } in
    let shown : ShowsBy after stored.placement world_after = record {
      rest = rest-slot (memory_of old) (memory_of after) stored.placement stored.world stored.number stored.place object slot name
          stored.named shows.rest (record { types = refl; layout = refl; bays = λ u. refl }) stored.stores
          (put-of stored.placement stored.world object slot name stored.number stored.place stored.named stored.put)
          (settled-needs old mid t object slot name stored settled);
      words = stored.count ∙ shows.words;
      bays = shows.bays;
      eight = shows.eight;
      blocked = shows.blocked;
    } in
    subst (λ (each : Kept). ShowsBy each stored.placement world_after) (sym stored.same) shown

-- ---- the barrier

-- the object lies in a page, and isn't remembered
pub record IsToRemember (mid : Kept) (object : ℕ) : Type 0 where
  pub old : (head_of (slice_index mid.words object)).old ≡ true
  pub unset : (head_of (slice_index mid.words object)).remembered ≡ false

-- as its header says
to_remember-page : (old mid : Kept) (t object slot name : ℕ) → IsStored old mid t object slot name → IsToRemember mid object
    → IsInAPage old.layout object
to_remember-page old mid t object slot name stored is =
    let own = stored-header old mid t object slot name stored stored.number object stored.put.at in
    (stored.ready.shows.rest.shown.old stored.number object stored.put.at).0 (ap (λ (w : ℕ). (head_of w).old) (sym own) ∙ is.old)

-- the header is written with the bit: what is read at the mutator's place is its bay still
pub stored-bay : (old mid next : Kept) (t object slot name at : ℕ) (read : Bay) → IsStored old mid t object slot name
    → next ≡ record mid { words = next.words } → at ≡ t → read ≡ slice_index_or next.bays at read → read ≡ bay_at old.bays t
stored-bay old mid next t object slot name at read stored same place_is is =
    let bays : next.bays ≡ old.bays = ap (λ (each : Kept). each.bays) same ∙ ap (λ (each : Kept). each.bays) stored.same in
    bay-read old stored.placement stored.world t at read stored.ready place_is
    (is ∙ ap (λ (each : List Bay). slice_index_or each at read) bays)

-- the object's address isn't on its list, and that has room for it
pub remembered-fits : (old mid : Kept) (t object slot name : ℕ) (bay : Bay) → IsStored old mid t object slot name
    → IsToRemember mid object → bay ≡ bay_at old.bays t
    → (¬ Contains bay.remembered object) × (length bay.remembered < remembered_room bay.layout)
remembered-fits old mid t object slot name bay stored is bay_is =
    let rest = stored.ready.shows.rest in
    let shown = rest.shown in
    let there = ready-mutator old stored.placement stored.world t stored.ready in
    let own = stored-header old mid t object slot name stored stored.number object stored.put.at in
    let absent : ¬ IsOnAList old.layout.mutators (bay_at old.bays) object = λ on.
    false≢true (sym is.unset ∙ ap (λ (w : ℕ). (head_of w).remembered) own
    ∙ (rest.remembered.bits.remembered stored.number object stored.put.at).1 on) in
    let room =
    list-room old.layout (bay_at old.bays) stored.placement stored.world.graph stored.number object t rest.remembered.lists shown.bays
    shown.lying stored.put.at (to_remember-page old mid t object slot name stored is) absent there in
    let layout : (bay_at old.bays t).layout ≡ old.layout = shown.bays.layout_is t there in (
      subst (λ (each : Bay). ¬ Contains each.remembered object) (sym bay_is) room.1,
      omega (
        arith,
        room.0,
        ap remembered_room layout,
        ap (λ (each : Bay). length each.remembered) bay_is,
        ap (λ (each : Bay). remembered_room each.layout) bay_is,
      ),
    )

-- and once it is listed the slot names what was put
pub shown-barrier : (old mid next : Kept) (t object slot name header : ℕ) (bay : Bay)
    → (stored : IsStored old mid t object slot name) → IsToRemember mid object → next ≡ record mid { words = next.words }
    → length next.words ≡ length mid.words → Stores (memory_of mid).word (memory_of next).word object header
    → header ≡ with_remembered (slice_index mid.words object) true
    → bay ≡ record (bay_at old.bays t) { remembered = (bay_at old.bays t).remembered ++ object ∷ [] } → IsBay bay
    → ShowsBy (record next { bays = slice_set next.bays t bay }) stored.placement
    (with_slot stored.world stored.number stored.place stored.named)
shown-barrier old mid next t object slot name header bay stored is same count again header_is bay_is is_bay =
    let shows = stored.ready.shows in
    let world_after = with_slot stored.world stored.number stored.place stored.named in
    let after : Kept = record old { words = next.words; bays = slice_set old.bays t bay } in
    let whole : next ≡ record old { words = next.words } =
    same ∙ ap (λ (each : Kept). record each { words = next.words }) stored.same in
    let shown : ShowsBy after stored.placement world_after = record {
      rest = rest-barrier (memory_of old) (memory_of after) (memory_of mid).word stored.placement stored.world stored.number
          stored.place object slot name t stored.named bay shows.rest stored.stores
          (put-of stored.placement stored.world object slot name stored.number stored.place stored.named stored.put)
          (to_remember-page old mid t object slot name stored is) is.unset
          (ready-mutator old stored.placement stored.world t stored.ready) refl refl
          (subst (Stores (memory_of mid).word (memory_of next).word object) header_is again)
          (bay-written old.bays t bay (ready-bay old stored.placement stored.world t stored.ready)) bay_is is_bay;
      words = count ∙ stored.count ∙ shows.words;
      bays = length-set old.bays t bay ∙ shows.bays;
      eight = shows.eight;
      blocked = shows.blocked;
    } in
    subst (λ (each : Kept). ShowsBy (record each { bays = slice_set each.bays t bay }) stored.placement world_after) (sym whole) shown

-- ---- which name goes into which slot

-- a base on whose object a call works names it
base-named : (name : Option ℕ) (count : ℕ → ℕ) (place object : ℕ) → base_object name count place ≡ Ok object → name ≡ Some object
base-named None count place object goes = cc
base-named (Some number) count place object goes =
    elim (cases_lt place (count number)) [
      | inl below ↦
          let is : Ok number ≡ Ok object = rw (lt-ltb place (count number) below) at goes in cc
      | inr past ↦
          let is : Err Range ≡ Ok object = rw (le-ltb place (count number) past) at goes in cc
    ]

-- what a register names goes into the slot of the object that another one names
pub put-slot : (kept : Kept) (placement : Placement) (world : World) (t base place value object slot name : ℕ)
    → IsReadyFor kept placement world t → (found : IsSlot placement world t base place slot)
    → object ≡ slice_index (bay_at kept.bays t).registers base → name ≡ slice_index (bay_at kept.bays t).registers value
    → IsPut placement world object slot name found.object place (named_by world t value)
put-slot kept placement world t base place value object slot name ready found object_is name_is =
    let shown = ready.shows.rest.shown in
    let there = ready-mutator kept placement world t ready in
    let named : named_by world t base ≡ Some found.object =
    base-named (named_by world t base) (λ number. length (object_at world.graph number).slots) place found.object found.owner in
    let here : object ≡ found.slot.start =
    object_is ∙ shown.registers t base there ∙ ap (name_address placement) named ∙ ap or_nothing found.slot.at in
    record {
      at = found.slot.at ∙ ap Some (sym here);
      within = found.slot.within;
      slot_is = omega (arith, found.slot.address_is, here);
      name_is = name_is ∙ shown.registers t value there;
      placed = shown.covers.registers t value;
    }

-- or into a slot of the common object
pub put-common : (kept : Kept) (placement : Placement) (world : World) (t place value object slot name : ℕ)
    → IsReadyFor kept placement world t → IsSlotOf placement world 0 place slot → object ≡ cell_address kept.layout 0 0
    → name ≡ slice_index (bay_at kept.bays t).registers value
    → IsPut placement world object slot name 0 place (named_by world t value)
put-common kept placement world t place value object slot name ready found object_is name_is =
    let shown = ready.shows.rest.shown in
    let there = ready-mutator kept placement world t ready in
    let one : Some found.start ≡ Some object = sym found.at ∙ shown.common ∙ ap Some (sym object_is) in
    let here : found.start ≡ object = cc in
    record {
      at = found.at ∙ one;
      within = found.within;
      slot_is = omega (arith, found.address_is, here);
      name_is = name_is ∙ shown.registers t value there;
      placed = shown.covers.registers t value;
    }
