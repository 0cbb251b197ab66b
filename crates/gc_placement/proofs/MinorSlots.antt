-- A step of a minor collection: a slot of an object that is kept is treated, and holds the address after of what it names.
use Rattle.std.proofs.Common.{◌≡◌, ◌≢◌, ◌∙◌, ◌⊎◌, ◌↔◌, inl, inr, ℕ, ◌+◌, ◌<◌, Bool, true, false, length, Some, refl, sym, ap, subst, arith}
use Rattle.std.proofs.lemmas.Bool.{cases_Bool, cases_eq, eq-eqb, false≢true, ne_eqb}
use Rattle.std.proofs.lemmas.Option.{none-some, same_Some}
use Rattle.gc_bay.specs.Bay.{Bay}
use Rattle.gc_layout.specs.Places.{Layout}
use Rattle.gc_layout.specs.Shape.{forwarding_address, slot_address}
use Rattle.gc_model.specs.Graph.{Graph, object_at}
use Rattle.gc_model.specs.World.{World, slot_at}
use Rattle.gc_model.specs.declared.entry.RunKind.{RunKind}
use Rattle.gc_placement.specs.Changes.{Stores}
use Rattle.gc_placement.specs.Extents.{AreApart}
use Rattle.gc_placement.specs.Headers.{head_of}
use Rattle.gc_placement.specs.Holders.{CoversDone, Done, GreyOrWaiting, IsGrey, OnlyKeptAreDone, with_slot_done}
use Rattle.gc_placement.specs.Memory.{Memory}
use Rattle.gc_placement.specs.Rest.{IsAtRest}
use Rattle.gc_placement.specs.UnderWay.{IsCollectionUnderWay}
use Rattle.gc_placement.specs.Moves.{HeadersStay, KeepsPlaced, SaysTheSame, StandMoving, by_done, name_before_or_after, not_kept}
use Rattle.gc_placement.specs.Objects.{AllStand, by_place}
use Rattle.gc_placement.specs.Placement.{IsNamePlaced, IsWordOf, Placement, name_address}
use Rattle.gc_placement.specs.Promotion.{ArePromoted}
use Rattle.gc_placement.specs.Sums.{is_in_page, is_young}
use Rattle.gc_placement.proofs.MovePlaces.{moves-apart, not_kept-from, not_kept-young, outside-young}
use Rattle.gc_placement.proofs.Objects.{all_stand-outside, stands-frame, stands-renamed}
use Rattle.gc_placement.proofs.OldInPages.{old-frame}
use Rattle.gc_placement.proofs.ByKind.{bits_in-frame}
use Rattle.gc_placement.proofs.Sums.{is_in_page-from, is_in_page-true}

-- in the word of a slot of an object that is kept the address after of what the slot names is stored
pub record TreatsSlot (word other : ℕ → ℕ) (after : Placement) (world : World) (number address place value : ℕ) : Type 0 where
  pub at : after number ≡ Some address
  pub within : place < length (object_at world.graph number).slots
  pub stores : Stores word other (slot_address address place) value
  pub value_is : value ≡ name_address after (slot_at world number place)

-- no word is one of a young object at its place before and one of an object that is kept
abbrev pub AreLeftApart : Layout → Placement → Placement → Graph → Type 0
AreLeftApart layout before after graph =
    (i j a : ℕ) → is_young layout before i ≡ true → IsWordOf before graph i a → IsWordOf after graph j a → ⊥

-- ---- the words that stay

-- the word of the slot is one of the object
slot-word : {word other : ℕ → ℕ} {after : Placement} {world : World} {number address place value : ℕ}
    → TreatsSlot word other after world number address place value → IsWordOf after world.graph number (slot_address address place)
slot-word {address} treats =
    record { address = address; at = treats.at; from = omega arith; to = omega (arith, treats.within) }

-- a word of another object that is kept stays
treated-other : {word other : ℕ → ℕ} {after : Placement} {world : World} {number address place value : ℕ}
    → TreatsSlot word other after world number address place value → AreApart after world.graph → (each a : ℕ) → each ≢ number
    → IsWordOf after world.graph each a → other a ≡ word a
treated-other {after} {world} {number} treats apart each a differs is =
    treats.stores.elsewhere a (λ meet.
    differs (apart a each number is (subst (IsWordOf after world.graph number) (sym meet) (slot-word treats))))

-- so does the header of each
pub treated-header : {word other : ℕ → ℕ} {after : Placement} {world : World} {number address place value : ℕ}
    → TreatsSlot word other after world number address place value → AreApart after world.graph → (each a : ℕ) → after each ≡ Some a
    → other a ≡ word a
treated-header {after} {number} {address} treats apart each a at = elim (cases_eq each number) [
  | inl same ↦
      let here : a ≡ address = same_Some a address (sym at ∙ ap after same ∙ treats.at) in
      treats.stores.elsewhere a (λ meet. omega (arith, meet, here))
  | inr differs ↦
      treated-other treats apart each a differs (record { address = a; at = at; from = omega arith; to = omega arith })
]

-- so does a word of a young object at its place before
treated-left : {word other : ℕ → ℕ} {after : Placement} {world : World} {number address place value : ℕ} (layout : Layout)
    (before : Placement) → TreatsSlot word other after world number address place value
    → AreLeftApart layout before after world.graph → (each a : ℕ) → is_young layout before each ≡ true
    → IsWordOf before world.graph each a → other a ≡ word a
treated-left {after} {world} {number} layout before treats left each a young is =
    treats.stores.elsewhere a (λ meet.
    left each number a young is (subst (IsWordOf after world.graph number) (sym meet) (slot-word treats)))

-- ---- the objects

-- the slot that was treated is done
pub slot_done-here : (done : Done) (number place : ℕ) → (with_slot_done done number place).slots number place ≡ true
slot_done-here done number place = rw (eq-eqb number number refl, eq-eqb place place refl) refl

-- another one is done where it was
pub slot_done-other : (done : Done) (number place each at : ℕ) → ((each ≡ number) → at ≡ place → ⊥)
    → (with_slot_done done number place).slots each at ≡ done.slots each at
slot_done-other done number place each at differs = elim (cases_eq each number) [
  | inl same ↦ rw (eq-eqb each number same, ne_eqb at place (differs same)) refl
  | inr elsewhere ↦ rw (ne_eqb each number elsewhere) refl
]

-- the objects that are kept stand, one with one more slot that is done
pub all_stand-slot_done : (word other : ℕ → ℕ) (before after : Placement) (done : Done) (world : World)
    (number address place value : ℕ) → TreatsSlot word other after world number address place value → AreApart after world.graph
    → AllStand word after (by_done before after done.slots) world.graph
    → AllStand other after (by_done before after (with_slot_done done number place).slots) world.graph
all_stand-slot_done word other before after done world number address place value treats apart standing each each_address each_at =
    let object = object_at world.graph each in
    let stands = standing each each_address each_at in
    let later = (with_slot_done done number place).slots in
    let named : ℕ → Bool → ℕ = λ at is. name_before_or_after before after is (slot_at world each at) in
    elim (cases_eq each number) [
      | inl same ↦
          let here : each_address ≡ address = same_Some each_address address (sym each_at ∙ ap after same ∙ treats.at) in
          let below : place < length object.slots = subst (λ n. place < length (object_at world.graph n).slots) (sym same) treats.within in
          record {
            header = rw (treated-header treats apart each each_address each_at) stands.header;
            forwarding =
                treats.stores.elsewhere (forwarding_address each_address) (λ meet. omega (arith, meet, here)) ∙ stands.forwarding;
            slots = λ at within.
                elim (cases_eq at place)
                as (λ _. other (slot_address each_address at) ≡ named at (later each at)) [
                  | inl this ↦
                      let stored : other (slot_address each_address at) ≡ value =
                      ap other (omega (arith, here, this)) ∙ treats.stores.here in
                      let done_now : later each at ≡ true =
                      ap (λ n. later n at) same ∙ ap (later number) this ∙ slot_done-here done number place in
                      let name : slot_at world each at ≡ slot_at world number place =
                      ap (λ n. slot_at world n at) same ∙ ap (slot_at world number) this in
                      stored ∙ treats.value_is ∙ ap (name_address after) (sym name) ∙ ap (named at) (sym done_now)
                  | inr differs ↦
                      treats.stores.elsewhere (slot_address each_address at) (λ meet. differs (omega (arith, meet, here)))
                      ∙ stands.slots at within
                      ∙ ap (named at) (sym (slot_done-other done number place each at (λ whose this. differs this)))
                ];
            numbers = λ at within.
                treats.stores.elsewhere (each_address + 2 + length object.slots + at) (λ meet. omega (arith, meet, here, below))
                ∙ stands.numbers at within;
          }
      | inr differs ↦
          stands-renamed other each_address (by_done before after done.slots) (by_done before after later) each object
          (stands-frame word other each_address (by_done before after done.slots) each object stands
          (λ a from to. treated-other treats apart each a differs
          (record { address = each_address; at = each_at; from = from; to = to })))
          (λ at within. ap (named at) (slot_done-other done number place each at (λ whose. absurd (differs whose))))
    ]

-- an object that moved was young
pub moved-young : (layout : Layout) (before after : Placement) (number address copy : ℕ) → KeepsPlaced layout before after
    → before number ≡ Some address → after number ≡ Some copy → copy ≢ address → is_young layout before number ≡ true
moved-young layout before after number address copy keeps was at differs =
    outside-young layout before number address was (λ page.
    differs (same_Some copy address (sym at ∙ keeps.old number address was page)))

-- all stand, and are forwarded as they were
pub stand_moving-slot_done : (word other : ℕ → ℕ) (layout : Layout) (before after : Placement) (done : Done) (world : World)
    (number address place value : ℕ) → TreatsSlot word other after world number address place value → AreApart after world.graph
    → KeepsPlaced layout before after → AreLeftApart layout before after world.graph
    → StandMoving word before after done.slots world.graph
    → StandMoving other before after (with_slot_done done number place).slots world.graph
stand_moving-slot_done word other layout before after done world number address place value treats apart keeps left standing = record {
  kept = all_stand-slot_done word other before after done world number address place value treats apart standing.kept;
  others = all_stand-outside word other (not_kept before after) (by_place before) world.graph standing.others (λ each a is.
      treated-left layout before treats left each a (not_kept-young layout before after each is.address keeps is.at)
      (record { address = is.address; at = (not_kept-from before after each is.address is.at).1; from = is.from; to = is.to }));
  forwarded = λ each each_address copy was at differs.
      treated-left layout before treats left each (forwarding_address each_address)
      (moved-young layout before after each each_address copy keeps was at differs)
      (record { address = each_address; at = was; from = omega arith; to = omega arith })
      ∙ standing.forwarded each each_address copy was at differs;
}

-- ---- the headers

-- the header of each object that was placed before stays
treated-header_before : {word other : ℕ → ℕ} {after : Placement} {world : World} {number address place value : ℕ} (layout : Layout)
    (before : Placement) → TreatsSlot word other after world number address place value → AreApart after world.graph
    → KeepsPlaced layout before after → AreLeftApart layout before after world.graph → (each a : ℕ)
    → before each ≡ Some a → other a ≡ word a
treated-header_before layout before treats apart keeps left each a was = elim (cases_Bool (is_in_page layout a)) [
  | inl page ↦ treated-header treats apart each a (keeps.old each a was (is_in_page-from layout a page))
  | inr outside ↦
      let young = outside-young layout before each a was
      (λ page. false≢true (sym outside ∙ is_in_page-true layout a page)) in
      treated-left layout before treats left each a young
      (record { address = a; at = was; from = omega arith; to = omega arith })
]

-- so each says the same
pub headers_stay-frame : (old_word word other : ℕ → ℕ) (before : Placement) → HeadersStay old_word word before
    → ((number address : ℕ) → before number ≡ Some address → other address ≡ word address) → HeadersStay old_word other before
headers_stay-frame old_word word other before stay same number address was =
    subst (SaysTheSame (old_word address)) (sym (same number address was)) (stay number address was)

-- and those are promoted that were
pub promoted-frame : (layout : Layout) (old_word word other : ℕ → ℕ) (bay : ℕ → Bay) (before after : Placement) (graph : Graph)
    → ArePromoted layout old_word word bay before after graph
    → ((number address : ℕ) → after number ≡ Some address → other address ≡ word address)
    → ArePromoted layout old_word other bay before after graph
promoted-frame layout old_word word other bay before after graph are same = record {
  seen = are.seen;
  no_cell = are.no_cell;
  survived = λ number copy at young. ap (λ (each : ℕ). (head_of each).seen) (same number copy at) ∙ are.survived number copy at young;
}

-- ---- what is done

-- what is named where a slot is done is kept
pub covers_done-slot : (after : Placement) (done : Done) (world : World) (number place : ℕ) → CoversDone after done world
    → IsNamePlaced after (slot_at world number place) → CoversDone after (with_slot_done done number place) world
covers_done-slot after done world number place covers named = record {
  registers = covers.registers;
  slots = λ each at placed is. elim (cases_eq each number) [
    | inl same_object ↦ elim (cases_eq at place) [
      | inl same ↦ rw (same_object, same) named
      | inr differs ↦
          covers.slots each at placed (sym (slot_done-other done number place each at (λ whose. differs)) ∙ is)
    ]
    | inr elsewhere ↦
        covers.slots each at placed (sym (slot_done-other done number place each at (λ whose. absurd (elsewhere whose))) ∙ is)
  ];
}

-- no slot of an object that isn't kept is done
pub only_kept-slot : (after : Placement) (done : Done) (number address place : ℕ) → after number ≡ Some address
    → OnlyKeptAreDone after done.slots → OnlyKeptAreDone after (with_slot_done done number place).slots
only_kept-slot after done number address place placed only each at unkept =
    slot_done-other done number place each at
    (λ same this. none-some address (sym unkept ∙ ap after same ∙ placed))
    ∙ only each at unkept

-- the slot that was treated doesn't wait any more
pub grey_or_waiting-slot : (mutators : ℕ) (bay : ℕ → Bay) (after : Placement) (done : Done) (graph : Graph)
    (waiting : ℕ → ℕ → Type 0) (number address place : ℕ) → after number ≡ Some address → ¬ IsGrey mutators bay address
    → GreyOrWaiting mutators bay after done.slots graph waiting
    → GreyOrWaiting mutators bay after (with_slot_done done number place).slots graph
    (λ each at. waiting each at × ¬ ((each ≡ number) × (at ≡ place)))
grey_or_waiting-slot mutators bay after done graph waiting number address place placed not_grey either each each_address at each_at within =
    let later = (with_slot_done done number place).slots in
    let was = either each each_address at each_at within in
    let rest : ((each ≡ number) → at ≡ place → ⊥)
    → (later each at ≡ false) ↔ (IsGrey mutators bay each_address ⊎ (waiting each at × ¬ ((each ≡ number) × (at ≡ place)))) = λ differs.
    let same : later each at ≡ done.slots each at = slot_done-other done number place each at differs in (
      λ is. elim (was.0 (sym same ∙ is)) [
        | inl grey ↦ inl grey
        | inr waits ↦ inr (waits, λ both. differs both.0 both.1)
      ],
      λ is. same ∙ was.1 (elim is [ inl grey ↦ inl grey | inr waits ↦ inr waits.0 ]),
    ) in
    elim (cases_eq each number) [
      | inl same ↦ elim (cases_eq at place) [
        | inl this ↦
            let here : each_address ≡ address = same_Some each_address address (sym each_at ∙ ap after same ∙ placed) in
            let done_now : later each at ≡ true =
            ap (λ n. later n at) same ∙ ap (later number) this ∙ slot_done-here done number place in (
              λ is. absurd (false≢true (sym is ∙ done_now)),
              λ is. elim is [
                | inl grey ↦ absurd (not_grey (subst (IsGrey mutators bay) here grey))
                | inr waits ↦ absurd (waits.1 (same, this))
              ],
            )
        | inr differs ↦ rest (λ whose. differs)
      ]
      | inr elsewhere ↦ rest (λ whose. absurd (elsewhere whose))
    ]

-- ---- the step

-- a slot is treated
pub slot-done : {kind : RunKind} (old : Memory) (before : Placement) (world : World) (word other : ℕ → ℕ) (bay : ℕ → Bay)
    (after : Placement)
    (done : Done) (waiting : ℕ → ℕ → Type 0) (number address place value : ℕ) → IsAtRest old before world
    → IsCollectionUnderWay kind old before world word bay after done waiting → after number ≡ Some address
    → place < length (object_at world.graph number).slots → Stores word other (slot_address address place) value
    → value ≡ name_address after (slot_at world number place) → IsNamePlaced after (slot_at world number place)
    → ¬ IsGrey old.layout.mutators bay address
    → IsCollectionUnderWay kind old before world other bay after (with_slot_done done number place)
    (λ each at. waiting each at × ¬ ((each ≡ number) × (at ≡ place)))
slot-done {kind} old before world word other bay after done waiting number address place value rest way at within stores value_is named
    not_grey =
    let layout = old.layout in
    let treats : TreatsSlot word other after world number address place value =
    record { at = at; within = within; stores = stores; value_is = value_is } in
    let left : AreLeftApart layout before after world.graph =
    moves-apart old before world bay after rest way.bays way.flipped way.lying way.keeps in
    let same : (each a : ℕ) → after each ≡ Some a → other a ≡ word a = treated-header treats way.apart in
    record {
      bays = way.bays;
      standing = stand_moving-slot_done word other layout before after done world number address place value treats way.apart way.keeps
          left way.standing;
      headers = headers_stay-frame old.word word other before way.headers
          (treated-header_before layout before treats way.apart way.keeps left);
      old_in_pages = old-frame word other layout after way.old_in_pages same;
      keeps = way.keeps;
      reached = way.reached;
      flipped = way.flipped;
      cells_stay = way.cells_stay;
      lying = way.lying;
      apart = way.apart;
      cells = way.cells;
      copies = way.copies;
      registers = way.registers;
      covers = covers_done-slot after done world number place way.covers named;
      lists = way.lists;
      lists_grow = way.lists_grow;
      bits = bits_in-frame kind word other layout bay bay after way.bits same (λ t there. refl);
      grey = way.grey;
      grey_were_young = way.grey_were_young;
      grey_or_waiting = grey_or_waiting-slot layout.mutators bay after done world.graph waiting number address place at not_grey
          way.grey_or_waiting;
      only_kept = only_kept-slot after done number address place at way.only_kept;
      promoted = promoted-frame layout old.word word other bay before after world.graph way.promoted same;
      promoted_remembered = λ each a copy was outside at inside.
          ap (λ (w : ℕ). (head_of w).remembered) (same each copy at) ∙ way.promoted_remembered each a copy was outside at inside;
    }
