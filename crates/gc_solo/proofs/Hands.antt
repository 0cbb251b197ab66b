-- What a collection takes in hand: an object from a grey list, or one from a remembered list.
use Rattle.std.proofs.Common.{◌≡◌, ◌∙◌, ◌⊎◌, inl, inr, ℕ, ◌+◌, ◌<◌, ◌≤◌, Bool, true, false, Option, None, Some, IfSome, List, [], ◌∷◌, ◌++◌, length, refl, sym, ap, subst, arith, slice_index, slice_set}
use Rattle.std.proofs.lemmas.Bool.{cases_eq, false≢true}
use Rattle.std.proofs.lemmas.List.{length-set}
use Rattle.std.proofs.lemmas.Option.{none-some, same_Some}
use Rattle.gc_bay.specs.Bay.{Bay, IsBay}
use Rattle.gc_layout.specs.Places.{Layout}
use Rattle.gc_model.specs.Graph.{object_at}
use Rattle.gc_model.specs.declared.entry.RunKind.{RunKind}
use Rattle.gc_placement.specs.Extents.{IsInAPage}
use Rattle.gc_placement.specs.Flipped.{ListsGrow}
use Rattle.gc_placement.specs.Headers.{is_full}
use Rattle.gc_placement.specs.Holders.{Done, IsGrey, IsListedFrom}
use Rattle.gc_placement.specs.Marks.{AreMarkedIn, Marks, WaitsForMark}
use Rattle.gc_placement.specs.Placement.{Placement}
use Rattle.gc_placement.specs.Remembered.{IsListed, IsOnAList}
use Rattle.gc_placement.specs.Sums.{is_young}
use Rattle.gc_placement.specs.Tracings.{is_remembered}
use Rattle.gc_placement.specs.UnderWay.{GreyWereYoungIn, ListsGrowIn}
use Rattle.gc_placement.proofs.Bays.{each-changed}
use Rattle.gc_placement.proofs.MarksByKind.{found-waits_not, marks_in-grey_taken}
use Rattle.gc_placement.proofs.MinorBeginning.{remembered-test}
use Rattle.gc_placement.proofs.MinorSteps.{grey-number, grey-taken, is_grey-cut, one_number, taken-at, taken-cut, takes_grey-bay, waiting-same, waiting-same_within}
use Rattle.gc_placement.proofs.MovePlaces.{page-old}
use Rattle.gc_solo.specs.Collecting.{Beginning, IsCollecting, IsInHand, IsToScan, IsToTreat, IsTracedObject, IsUnmarked, Stage, Waits, at_list, with_in_hand}
use Rattle.gc_solo.specs.Kept.{Kept, bay_at, memory_of}
use Rattle.gc_solo.proofs.BayLists.{bay_at-changed}
use Rattle.gc_solo.proofs.Collecting.{collecting-with}

-- ---- where a collection stands

-- a slot of a kept object that waits at one stage waits at another
abbrev pub WaitsAlso : Beginning → Marks → Placement → Stage → Stage → Type 0
WaitsAlso start marks after stage other =
    (number address place : ℕ) → after number ≡ Some address → place < length (object_at start.world.graph number).slots
    → Waits start marks stage number place → Waits start marks other number place

-- where the same slots wait, a collection at one stage is at the other
pub restaged : (kept : Kept) (start : Beginning) (after : Placement) (done : Done) (stage other : Stage)
    → (collecting : IsCollecting kept start after done stage) → WaitsAlso start collecting.marks after stage other
    → WaitsAlso start collecting.marks after other stage → IfSome other.in_hand (IsInHand kept start after collecting.marks)
    → IsCollecting kept start after done other
restaged kept start after done stage other collecting to from hand = record {
  rest = collecting.rest;
  sound = collecting.sound;
  typed = collecting.typed;
  types = collecting.types;
  layout = collecting.layout;
  words = collecting.words;
  bays = collecting.bays;
  marks = collecting.marks;
  under_way = waiting-same_within start.memory start.placement start.world (memory_of kept).word (memory_of kept).bay after done
      (Waits start collecting.marks stage) (Waits start collecting.marks other) collecting.under_way to from;
  marked = collecting.marked;
  in_hand = hand;
}

-- nothing in hand is no object
not-in_hand : (stage : Stage) (number : ℕ) → stage.in_hand ≡ None → stage.in_hand ≡ Some number → ⊥
not-in_hand stage number idle is = none-some number (sym idle ∙ is)

-- where all slots of the object in hand are treated, nothing is in hand
pub hand-emptied : (kept : Kept) (start : Beginning) (after : Placement) (done : Done) (stage : Stage) (number place : ℕ)
    → stage.in_hand ≡ None → IsCollecting kept start after done (with_in_hand stage number place)
    → length (object_at start.world.graph number).slots ≤ place → IsCollecting kept start after done stage
hand-emptied kept start after done stage number place idle collecting all =
    restaged kept start after done (with_in_hand stage number place) stage collecting
    (λ each address at placed within waits. elim waits [
      | inl listed ↦ inl listed
      | inr (inl hand) ↦
          let same : number ≡ each = same_Some number each hand.0 in
          let fewer : length (object_at start.world.graph each).slots ≤ place =
          subst (λ n. length (object_at start.world.graph n).slots ≤ place) same all in
          absurd (omega (arith, fewer, hand.1, within))
      | inr (inr unmarked) ↦ inr (inr unmarked)
    ])
    (λ each address at placed within waits. elim waits [
      | inl listed ↦ inl listed
      | inr (inl hand) ↦ absurd (not-in_hand stage each idle hand.0)
      | inr (inr unmarked) ↦ inr (inr unmarked)
    ])
    (subst (λ hand. IfSome hand (IsInHand kept start after collecting.marks)) (sym idle) tt)

-- ---- from a grey list

-- in a minor collection what is grey lay in a half
grey-young : (kind : RunKind) (layout : Layout) (bay : ℕ → Bay) (before after : Placement) (number address : ℕ)
    → GreyWereYoungIn kind layout bay before after → kind ≡ RunKind.Minor → after number ≡ Some address
    → IsGrey layout.mutators bay address → is_young layout before number ≡ true
grey-young RunKind.Minor layout bay before after number address were minor at grey = were number address at grey
grey-young RunKind.Full layout bay before after number address were minor at grey =
    absurd (false≢true (sym (ap is_full minor)))

-- and an object on a remembered list lay in a page, so it isn't grey
scanned-not_grey : (kept : Kept) (start : Beginning) (after : Placement) (done : Done) (stage hand : Stage) (number address : ℕ)
    → IsCollecting kept start after done hand → after number ≡ Some address
    → IsGrey start.memory.layout.mutators (bay_at kept.bays) address → IsToScan start stage number → ⊥
scanned-not_grey kept start after done stage hand number address collecting at grey to_scan =
    let layout = start.memory.layout in
    let listed = to_scan.1 in
    let young : is_young layout start.placement number ≡ true =
    grey-young start.kind layout (bay_at kept.bays) start.placement after number address collecting.under_way.grey_were_young to_scan.0 at
    grey in
    let old : is_young layout start.placement number ≡ false =
    page-old layout start.placement number listed.address listed.at
    (collecting.rest.remembered.lists.old listed.address
    (record { mutator = listed.owner; index = listed.place; listed = listed.listed })) in
    false≢true (sym old ∙ young)

-- what is grey is traced, and waits for no mark
grey-traced : (kind : RunKind) (start : Beginning) (word : ℕ → ℕ) (bay : ℕ → Bay) (after : Placement) (done : Done) (marks : Marks)
    (number address : ℕ) → GreyWereYoungIn kind start.memory.layout bay start.placement after
    → AreMarkedIn kind start.memory.layout start.placement start.world word bay after done marks → after number ≡ Some address
    → IsGrey start.memory.layout.mutators bay address
    → IsTracedObject kind start number × (¬ WaitsForMark kind start.memory.layout start.placement marks number)
grey-traced RunKind.Minor start word bay after done marks number address were marked at grey =
    (inl (were number address at grey), λ waits. waits)
grey-traced RunKind.Full start word bay after done marks number address were marked at grey =
    let found = marked.grey number address at grey in
    (marked.reached number found, found-waits_not start.memory.layout start.placement after marks number found)

-- the last object of a grey list is taken in hand
pub hand-grey : (kept : Kept) (start : Beginning) (after : Placement) (done : Done) (stage : Stage) (t address : ℕ) (own : Bay)
    (rest : List ℕ) → stage.in_hand ≡ None → IsCollecting kept start after done stage → t < kept.layout.mutators
    → own ≡ record (bay_at kept.bays t) { grey = rest } → (bay_at kept.bays t).grey ≡ rest ++ address ∷ [] → IsBay own
    → (number : ℕ) × IsCollecting (record kept { bays = slice_set kept.bays t own }) start after done (with_in_hand stage number 0)
    × IsToTreat start after stage number address
hand-grey kept start after done stage t address own rest idle collecting below own_is was is =
    let memory = start.memory in
    let mutators = memory.layout.mutators in
    let way = collecting.under_way in
    let marks = collecting.marks in
    let there : t < mutators = omega (arith, below, ap (λ (layout : Layout). layout.mutators) collecting.layout) in
    let inside : t < length kept.bays = omega (arith, there, collecting.bays) in
    let bay = bay_at kept.bays in
    let new = bay_at (slice_set kept.bays t own) in
    let word = (memory_of kept).word in
    let changed = bay_at-changed kept.bays t own inside in
    let takes = takes_grey-bay mutators bay new t own rest address there changed own_is was in
    let held = grey-number memory start.placement start.world word bay after done (Waits start marks stage) t rest address way there was in
    let number = held.number in
    let grey : IsGrey mutators bay address =
    record { mutator = t; index = length rest; listed = taken-at mutators bay new t rest address takes } in
    let taken = grey-taken memory start.placement start.world word bay new after done (Waits start marks stage) t own rest address number
    way there changed own_is was is held.at in
    let traced = grey-traced start.kind start word bay after done marks number address way.grey_were_young collecting.marked held.at grey in
    let tallies : (u : ℕ) → u < mutators → (new u).tally ≡ (bay u).tally =
    each-changed (λ u each. u < mutators → each.tally ≡ (bay u).tally) bay new t own changed
    (λ below. ap (λ (each : Bay). each.tally) own_is) (λ u differs below. refl) in (
      number,
      collecting-with kept start after after done done stage (with_in_hand stage number 0) kept.words (slice_set kept.bays t own) marks
          collecting refl (length-set kept.bays t own)
          (waiting-same memory start.placement start.world word new after done
          (λ each place. Waits start marks stage each place ⊎ (each ≡ number)) (Waits start marks (with_in_hand stage number 0)) taken.0
          (λ each place waits. elim waits [
            | inl (inl listed) ↦ inl listed
            | inl (inr (inl hand)) ↦ absurd (not-in_hand stage each idle hand.0)
            | inl (inr (inr unmarked)) ↦ inr (inr unmarked)
            | inr same ↦ inr (inl (ap Some (sym same), omega arith))
          ])
          (λ each place waits. elim waits [
            | inl listed ↦ inl (inl listed)
            | inr (inl hand) ↦ inr (sym (same_Some number each hand.0))
            | inr (inr unmarked) ↦ inl (inr (inr unmarked))
          ]))
          (marks_in-grey_taken start.kind memory.layout start.placement start.world word bay new after done marks collecting.marked
          tallies (λ a. is_grey-cut mutators bay new a (taken-cut mutators bay new t rest address takes)))
          (record { aside = record { address = address; at = held.at; not_grey = taken.1 }; marked = traced.1 }),
      record {
        at = held.at;
        traced = traced.0;
        scanned = scanned-not_grey kept start after done stage stage number address collecting held.at grey;
      },
    )

-- ---- from a remembered list

-- an object on a remembered list that is still to be gone through from an index on stands at this index, or it is to be gone
-- through from the next one on
listed-next : (mutators : ℕ) (bay : ℕ → Bay) (placement : Placement) (t index each : ℕ)
    → IsListedFrom mutators bay placement t index each
    → IsListedFrom mutators bay placement t (index + 1) each
    ⊎ ((address : ℕ) × (placement each ≡ Some address) × (address ≡ slice_index (bay t).remembered index))
listed-next mutators bay placement t index each from =
    elim from.behind [
      | inl later ↦ inl (record {
        address = from.address;
        at = from.at;
        owner = from.owner;
        place = from.place;
        listed = from.listed;
        behind = inl later;
      })
      | inr here ↦ elim (cases_eq from.place index) [
        | inl same ↦
            inr (
              from.address,
              from.at,
              sym from.listed.at ∙ ap (λ u. slice_index (bay u).remembered from.place) (sym here.0)
                  ∙ ap (slice_index (bay t).remembered) same,
            )
        | inr differs ↦ inl (record {
          address = from.address;
          at = from.at;
          owner = from.owner;
          place = from.place;
          listed = from.listed;
          behind = inr (here.0, omega (arith, here.1, differs));
        })
      ]
    ]

-- what is to be gone through from a later place on is so from an earlier one on
listed-earlier : (mutators : ℕ) (bay : ℕ → Bay) (placement : Placement) (t index u later each : ℕ)
    → (t < u) ⊎ ((t ≡ u) × (index ≤ later)) → IsListedFrom mutators bay placement u later each
    → IsListedFrom mutators bay placement t index each
listed-earlier mutators bay placement t index u later each before from = record {
  address = from.address;
  at = from.at;
  owner = from.owner;
  place = from.place;
  listed = from.listed;
  behind = elim before [
    | inl less ↦ elim from.behind [
      | inl behind ↦ inl (omega (arith, less, behind))
      | inr here ↦ inl (omega (arith, less, here.0))
    ]
    | inr same ↦ elim from.behind [
      | inl behind ↦ inl (omega (arith, same.0, behind))
      | inr here ↦ inr (same.0 ∙ here.0, omega (arith, same.1, here.1))
    ]
  ];
}

-- in a minor collection the remembered lists have the entries of before in front
pub lists-grown : {kept : Kept} {start : Beginning} {after : Placement} {done : Done} {stage : Stage} → start.kind ≡ RunKind.Minor
    → IsCollecting kept start after done stage
    → ListsGrow start.memory.layout.mutators start.memory.bay (bay_at kept.bays)
lists-grown {kept} {start} minor collecting =
    subst (λ kind. ListsGrowIn kind start.memory.layout.mutators start.memory.bay (bay_at kept.bays)) minor
    collecting.under_way.lists_grow

-- an object that stands at an index of a remembered list of before is kept, it is remembered and lies in a page
record IsListedObject (kept : Kept) (start : Beginning) (after : Placement) (t index address : ℕ) : Type 0 where
  number : ℕ
  was : start.placement number ≡ Some address
  at : after number ≡ Some address
  listed : IsListed start.memory.layout.mutators start.memory.bay address t index
  remembered : is_remembered start.memory.word start.placement number ≡ true
  old : is_young start.memory.layout start.placement number ≡ false

-- there is one at each, in a minor collection
listed-object : (kept : Kept) (start : Beginning) (after : Placement) (done : Done) (stage : Stage) (t index address : ℕ)
    → start.kind ≡ RunKind.Minor → IsCollecting kept start after done stage → t < start.memory.layout.mutators
    → index < length (start.memory.bay t).remembered → address ≡ slice_index (bay_at kept.bays t).remembered index
    → IsListedObject kept start after t index address
listed-object kept start after done stage t index address minor collecting there within is =
    let memory = start.memory in
    let way = collecting.under_way in
    let remembered = collecting.rest.remembered in
    let grow = lists-grown minor collecting in
    let listed : IsListed memory.layout.mutators memory.bay address t index = record {
      mutator = there;
      within = within;
      at = sym ((grow t there).same index within) ∙ sym is;
    } in
    let on : IsOnAList memory.layout.mutators memory.bay address = record { mutator = t; index = index; listed = listed } in
    let held = remembered.lists.placed address on in
    let page : IsInAPage memory.layout address = remembered.lists.old address on in
    record {
      number = held.number;
      was = held.at;
      at = way.keeps.old held.number address held.at page;
      listed = listed;
      remembered = remembered-test memory.word start.placement held.number address held.at
          ∙ (remembered.bits.remembered held.number address held.at).1 on;
      old = page-old memory.layout start.placement held.number address held.at page;
    }

-- in a minor collection no object waits for a mark
minor-unmarked : (start : Beginning) (marks : Marks) (number : ℕ) → start.kind ≡ RunKind.Minor → ¬ IsUnmarked start marks number
minor-unmarked start marks number minor unmarked =
    subst (λ kind. WaitsForMark kind start.memory.layout start.placement marks number) minor unmarked

-- the object at an index of a remembered list is taken in hand
pub hand-listed : (kept : Kept) (start : Beginning) (after : Placement) (done : Done) (t index address : ℕ)
    → start.kind ≡ RunKind.Minor → IsCollecting kept start after done (at_list t index) → t < start.memory.layout.mutators
    → index < length (start.memory.bay t).remembered → address ≡ slice_index (bay_at kept.bays t).remembered index
    → (number : ℕ) × IsCollecting kept start after done (with_in_hand (at_list t (index + 1)) number 0)
    × IsToTreat start after (at_list t (index + 1)) number address
hand-listed kept start after done t index address minor collecting there within is =
    let memory = start.memory in
    let mutators = memory.layout.mutators in
    let way = collecting.under_way in
    let object = listed-object kept start after done (at_list t index) t index address minor collecting there within is in
    let number = object.number in
    let marked = minor-unmarked start collecting.marks number minor in (
      number,
      restaged kept start after done (at_list t index) (with_in_hand (at_list t (index + 1)) number 0) collecting
          (λ each a place placed below waits. elim waits [
            | inl from ↦ elim (listed-next mutators memory.bay start.placement t index each from.1) [
              | inl next ↦ inl (from.0, next)
              | inr here ↦
                  let same : number ≡ each =
                  one_number start.placement start.world.graph number each address collecting.rest.shown.apart object.was
                  (here.1 ∙ ap Some (here.2 ∙ object.listed.at)) in
                  inr (inl (ap Some same, omega arith))
            ]
            | inr (inl hand) ↦ absurd (none-some each hand.0)
            | inr (inr unmarked) ↦ inr (inr unmarked)
          ])
          (λ each a place placed below waits. elim waits [
            | inl from ↦ inl (
              from.0,
              listed-earlier mutators memory.bay start.placement t index t (index + 1) each (inr (refl, omega arith)) from.1,
            )
            | inr (inl hand) ↦ inl (
              minor,
              subst (IsListedFrom mutators memory.bay start.placement t index) (same_Some number each hand.0) (record {
                address = address;
                at = object.was;
                owner = t;
                place = index;
                listed = object.listed;
                behind = inr (refl, omega arith);
              }),
            )
            | inr (inr unmarked) ↦ inr (inr unmarked)
          ])
          (record {
            aside = record {
              address = address;
              at = object.at;
              not_grey = λ grey.
                  false≢true (sym object.old
                  ∙ grey-young start.kind memory.layout (bay_at kept.bays) start.placement after number address way.grey_were_young minor
                  object.at grey);
            };
            marked = marked;
          }),
      record {
        at = object.at;
        traced = subst (λ kind. IsTracedObject kind start number) (sym minor) (inr object.remembered);
        scanned = λ to_scan.
            let from = to_scan.1 in
            let same : from.address ≡ address = same_Some from.address address (sym from.at ∙ object.was) in
            let once = collecting.rest.remembered.lists.once address from.owner t from.place index
            (subst (λ a. IsListed mutators memory.bay a from.owner from.place) same from.listed) object.listed in
            elim from.behind [
              | inl later ↦ omega (arith, later, once.0)
              | inr here ↦ omega (arith, here.1, once.1)
            ];
      },
    )

-- where a list is gone through, the next one is to be
pub list-ended : (kept : Kept) (start : Beginning) (after : Placement) (done : Done) (t index : ℕ)
    → IsCollecting kept start after done (at_list t index) → length (start.memory.bay t).remembered ≤ index
    → IsCollecting kept start after done (at_list (t + 1) 0)
list-ended kept start after done t index collecting all =
    let memory = start.memory in
    restaged kept start after done (at_list t index) (at_list (t + 1) 0) collecting
    (λ each a place placed below waits. elim waits [
      | inl to_scan ↦
          let from = to_scan.1 in
          inl (
            to_scan.0,
            record {
              address = from.address;
              at = from.at;
              owner = from.owner;
              place = from.place;
              listed = from.listed;
              behind = elim from.behind [
                | inl later ↦ elim (cases_eq (t + 1) from.owner) [
                  | inl same ↦ inr (same, omega arith)
                  | inr differs ↦ inl (omega (arith, later, differs))
                ]
                | inr here ↦
                    let same : length (memory.bay t).remembered ≡ length (memory.bay from.owner).remembered =
                    ap (λ u. length (memory.bay u).remembered) here.0 in
                    absurd (omega (arith, same, from.listed.within, here.1, all))
              ];
            },
          )
      | inr (inl hand) ↦ absurd (none-some each hand.0)
      | inr (inr unmarked) ↦ inr (inr unmarked)
    ])
    (λ each a place placed below waits. elim waits [
      | inl from ↦ inl (
        from.0,
        listed-earlier memory.layout.mutators memory.bay start.placement t index (t + 1) 0 each (inl (omega arith)) from.1,
      )
      | inr (inl hand) ↦ absurd (none-some each hand.0)
      | inr (inr unmarked) ↦ inr (inr unmarked)
    ])
    tt
