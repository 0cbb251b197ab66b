-- How a collection begins: all bays are flipped, and the objects in pages are kept. In a minor one those on remembered lists wait.
use Rattle.std.proofs.Common.{◌≡◌, ◌∙◌, ⊎_elim, inl, inr, ℕ, ◌-◌, ◌/◌, ◌<◌, ◌&&◌, Bool, true, false, not, is_some, if◌then◌else◌, List, [], length, Option, Some, None, refl, sym, ap, subst, arith, slice_index}
use Rattle.std.proofs.lemmas.Bool.{and_from, and_left, and_parts, both_ways, cases_Bool, cases_eq, false≢true, not-true, not_from_false}
use Rattle.std.proofs.lemmas.Option.{none-some, same_Some}
use Rattle.std.specs.Option.{option_map_or}
use Rattle.gc_bay.specs.Bay.{Bay, IsBay}
use Rattle.gc_gen2.specs.Cells.{IsUsed}
use Rattle.gc_gen2.specs.Page.{Page}
use Rattle.gc_gen2.proofs.PagesLemmas.{page-within}
use Rattle.gc_layout.specs.Places.{Layout, cell_address}
use Rattle.gc_model.specs.Graph.{Graph, object_at, object_size}
use Rattle.gc_model.specs.Reach.{Tracing}
use Rattle.gc_model.specs.World.{World, slot_at}
use Rattle.gc_model.specs.declared.entry.RunKind.{RunKind}
use Rattle.gc_placement.specs.Bays.{AreBays}
use Rattle.gc_placement.specs.Extents.{AllLie, AreApart, EachCellHolds, IsInAPage, LiesInCell, LiesInHalf, home_of, is_home}
use Rattle.gc_placement.specs.Flipped.{CellsStay, HoldCopies}
use Rattle.gc_placement.specs.Headers.{head_of}
use Rattle.gc_placement.specs.Holders.{AreGrey, CoversDone, Done, GreyOrWaiting, IsGrey, IsListedFrom}
use Rattle.gc_placement.specs.Memory.{Memory}
use Rattle.gc_placement.specs.Rest.{IsAtRest}
use Rattle.gc_placement.specs.UnderWay.{IsCollectionUnderWay, all_begun}
use Rattle.gc_placement.specs.Moves.{HeadersStay, KeepsPlaced, StandMoving, YoungAreReached, by_done, name_before_or_after, old_part}
use Rattle.gc_placement.specs.Placement.{IsNamePlaced, IsPlaced, Placement, name_address, or_nothing}
use Rattle.gc_placement.specs.Promotion.{ArePromoted, PromotedAreRemembered}
use Rattle.gc_placement.specs.Remembered.{AreLists, HaveBits, IsOnAList}
use Rattle.gc_placement.specs.Shows.{nowhere}
use Rattle.gc_placement.specs.Sums.{is_in_page, is_young, young_words}
use Rattle.gc_placement.specs.Tracings.{is_remembered, tracing_of}
use Rattle.gc_placement.proofs.Extents.{IsTaken, half-not_in_page}
use Rattle.gc_placement.proofs.MinorSteps.{begins_with-same}
use Rattle.gc_placement.proofs.MovePlaces.{not_kept-from, page-old, young-test, young-unplaced}
use Rattle.gc_placement.proofs.Objects.{stands-renamed}
use Rattle.gc_placement.proofs.Remembered.{bits-frame, lists-frame}
use Rattle.gc_placement.proofs.Sums.{is_in_page-from, is_in_page-true, words-none}

-- ---- the objects in pages

-- what is there where a test of its own place fails is there, and the test failed
untested-from : (test : Bool) (place : Option ℕ) (address : ℕ) → (if test then None else place) ≡ Some address
    → (place ≡ Some address) × (test ≡ false)
untested-from true place address at = absurd (none-some address at)
untested-from false place address at = (at, refl)

-- an object among those in pages was placed there
pub old_part-from : (layout : Layout) (before : Placement) (number address : ℕ) → old_part layout before number ≡ Some address
    → before number ≡ Some address
old_part-from layout before number address at = (untested-from (is_young layout before number) (before number) address at).0

-- it lies in a page
pub old_part-page : (layout : Layout) (before : Placement) (number address : ℕ) → old_part layout before number ≡ Some address
    → IsInAPage layout address
old_part-page layout before number address at =
    let from = untested-from (is_young layout before number) (before number) address at in
    elim (cases_Bool (is_in_page layout address)) [
      | inl is ↦ is_in_page-from layout address is
      | inr outside ↦
          absurd (both_ways (is_young layout before number) from.1
          (young-test layout before number address from.0 ∙ not_from_false (is_in_page layout address) outside))
    ]

-- each object in a page is among them
pub old_part-at : (layout : Layout) (before : Placement) (number address : ℕ) → before number ≡ Some address
    → IsInAPage layout address → old_part layout before number ≡ Some address
old_part-at layout before number address at page = rw (page-old layout before number address at page) at

-- and none in a half
pub old_part-young : (layout : Layout) (before : Placement) (number : ℕ) → is_young layout before number ≡ true
    → old_part layout before number ≡ None
old_part-young layout before number young = rw young refl

-- so none of them is young
pub old_part-not_young : (layout : Layout) (before : Placement) (number : ℕ)
    → is_young layout (old_part layout before) number ≡ false
old_part-not_young layout before number = elim (cases_Bool (is_young layout before number)) [
  | inl young ↦ young-unplaced layout (old_part layout before) number (old_part-young layout before number young)
  | inr old ↦
      let same : old_part layout before number ≡ before number = rw old refl in
      ap (λ (place : Option ℕ). option_map_or (λ address. not (is_in_page layout address)) place false) same ∙ old
]

-- what names one of them has the address that it had
pub name_address-old_part : (layout : Layout) (before : Placement) (name : Option ℕ) → IsNamePlaced (old_part layout before) name
    → name_address (old_part layout before) name ≡ name_address before name
name_address-old_part layout before None placed = refl
name_address-old_part layout before (Some number) placed =
    ap or_nothing (placed.at ∙ sym (old_part-from layout before number placed.address placed.at))

-- ---- what is done

-- no register is done, and of the slots those of the objects in pages that aren't remembered
abbrev pub done_first : (ℕ → ℕ) → Layout → Placement → Done
done_first word layout before =
    record {
      registers = λ t reg. false;
      slots = λ number place. is_some (old_part layout before number) && not (is_remembered word before number);
      common = true;
    }

-- whether a placed object is remembered is whether its header has the bit
pub remembered-test : (word : ℕ → ℕ) (before : Placement) (number address : ℕ) → before number ≡ Some address
    → is_remembered word before number ≡ (head_of (word address)).remembered
remembered-test word before number address at =
    ap (λ (place : Option ℕ). option_map_or (λ each. (head_of (word each)).remembered) place false) at

-- an object in a page that isn't remembered names objects in pages alone
pub unremembered-old : (old : Memory) (before : Placement) (world : World) (number place : ℕ) → IsAtRest old before world
    → IsPlaced (old_part old.layout before) number → is_remembered old.word before number ≡ false
    → IsNamePlaced (old_part old.layout before) (slot_at world number place)
unremembered-old old before world number place rest placed unremembered =
    let address = placed.address in
    let at : before number ≡ Some address = old_part-from old.layout before number address placed.at in
    let page : IsInAPage old.layout address = old_part-page old.layout before number address placed.at in
    let each : (name : Option ℕ) → slot_at world number place ≡ name → IsNamePlaced before name
    → IsNamePlaced (old_part old.layout before) name =
    λ name. elim name as (λ name. slot_at world number place ≡ name → IsNamePlaced before name
    → IsNamePlaced (old_part old.layout before) name) [
      | None ↦ λ is held. held
      | Some named ↦ λ is held. elim (cases_Bool (is_in_page old.layout held.address)) [
        | inl old_one ↦ record {
          address = held.address;
          at = old_part-at old.layout before named held.address held.at (is_in_page-from old.layout held.address old_one);
        }
        | inr young_one ↦
            let bit : (head_of (old.word address)).remembered ≡ true = rest.remembered.young number place (record {
              address = address;
              at = at;
              old = page;
              named = named;
              named_is = is;
              named_address = held.address;
              named_at = held.at;
              young = λ inside. both_ways (is_in_page old.layout held.address) young_one
                  (is_in_page-true old.layout held.address inside);
            }) refl in
            absurd (false≢true (sym unremembered ∙ remembered-test old.word before number address at ∙ bit))
      ]
    ] in
    each (slot_at world number place) refl (rest.shown.covers.slots number place (record { address = address; at = at }))

-- what is named where a slot is done lies in a page
pub covers_done-first : (old : Memory) (before : Placement) (world : World) → IsAtRest old before world
    → CoversDone (old_part old.layout before) (done_first old.word old.layout before) world
covers_done-first old before world rest = record {
  registers = λ t reg is. absurd (false≢true is);
  slots = λ number place placed is.
      unremembered-old old before world number place rest placed
      (not-true (is_remembered old.word before number)
      (and_parts (is_some (old_part old.layout before number)) (not (is_remembered old.word before number)) is).1);
}

-- ---- how the objects stand

-- those in pages stand where they stood, whichever of their slots are done that name objects in pages, and so do the others
pub stand_moving-begun : (old : Memory) (before : Placement) (world : World) (done : ℕ → ℕ → Bool) → IsAtRest old before world
    → ((number place : ℕ) → IsPlaced (old_part old.layout before) number → done number place ≡ true
    → IsNamePlaced (old_part old.layout before) (slot_at world number place))
    → StandMoving old.word before (old_part old.layout before) done world.graph
stand_moving-begun old before world done rest covered =
    let after = old_part old.layout before in
    record {
      kept = λ number address at.
          stands-renamed old.word address _ (by_done before after done) number (object_at world.graph number)
          (rest.shown.standing number address (old_part-from old.layout before number address at))
          (λ place below.
          let name = slot_at world number place in
          elim (cases_Bool (done number place))
          as (λ _. name_before_or_after before after (done number place) name ≡ name_address before name) [
            | inl is ↦
                ap (λ (each : Bool). name_before_or_after before after each name) is
                ∙ name_address-old_part old.layout before name
                (covered number place (record { address = address; at = at }) is)
            | inr isnt ↦ ap (λ (each : Bool). name_before_or_after before after each name) isnt
          ]);
      others = λ number address at. rest.shown.standing number address (not_kept-from before after number address at).1;
      forwarded = λ number address copy at moved differs.
          absurd (differs (same_Some copy address (sym (old_part-from old.layout before number copy moved) ∙ at)));
    }

-- so they do as a minor collection begins
pub stand_moving-first : (old : Memory) (before : Placement) (world : World) → IsAtRest old before world
    → StandMoving old.word before (old_part old.layout before) (done_first old.word old.layout before).slots world.graph
stand_moving-first old before world rest =
    stand_moving-begun old before world (done_first old.word old.layout before).slots rest (covers_done-first old before world rest).slots

-- each header says what it said
pub headers-begun : (word : ℕ → ℕ) (before : Placement) → HeadersStay word word before
headers-begun word before number address at = record { header = λ is. is; type_is = refl; old_is = refl; seen_is = refl }

-- ---- where they lie

-- each bay is flipped: the other half is the current one, none of it is used, and the pages are as they were
pub record AreFlippedFirst (mutators : ℕ) (old new : ℕ → Bay) : Type 0 where
  pub half : (t : ℕ) → t < mutators → (new t).half ≡ 1 - (old t).half
  pub used : (t : ℕ) → t < mutators → (new t).used ≡ 0
  pub pages : (t : ℕ) → t < mutators → (new t).pages ≡ (old t).pages
  pub layout : (t : ℕ) → t < mutators → (new t).layout ≡ (old t).layout
  pub mutator : (t : ℕ) → t < mutators → (new t).mutator ≡ (old t).mutator
  pub are : (t : ℕ) → t < mutators → IsBay (new t)

-- they are bays
pub are_bays-flipped : (layout : Layout) (old new : ℕ → Bay) → AreFlippedFirst layout.mutators old new → AreBays layout old
    → AreBays layout new
are_bays-flipped layout old new flipped are = record {
  limits = are.limits;
  each = flipped.are;
  layout_is = λ t there. flipped.layout t there ∙ are.layout_is t there;
  mutator_is = λ t there. flipped.mutator t there ∙ are.mutator_is t there;
}

-- the objects in pages are placed where they were, and none else
pub keeps-old_part : (layout : Layout) (before : Placement) → KeepsPlaced layout before (old_part layout before)
keeps-old_part layout before = record {
  only = λ number placed. record { address = placed.address; at = old_part-from layout before number placed.address placed.at };
  old = λ number address at page. old_part-at layout before number address at page;
}

-- so nothing that lay in a half is kept
pub reached-old_part : (tracing : Tracing) (layout : Layout) (before : Placement)
    → YoungAreReached tracing layout before (old_part layout before)
reached-old_part tracing layout before number young placed =
    absurd (none-some placed.address (sym (old_part-young layout before number young) ∙ placed.at))

-- the objects in pages lie there
pub all_lie-flipped : (layout : Layout) (old new : ℕ → Bay) (before : Placement) (graph : Graph)
    → AreFlippedFirst layout.mutators old new → AreBays layout old → AllLie layout.mutators old before graph
    → AllLie layout.mutators new (old_part layout before) graph
all_lie-flipped layout old new before graph flipped are lie = record {
  there = λ number address at. lie.there number address (old_part-from layout before number address at);
  home = λ number address at. lie.home number address (old_part-from layout before number address at);
  lying = λ number address at.
      let was = old_part-from layout before number address at in
      let size = object_size (object_at graph number) in
      let t = home_of (object_at graph number).maker in
      let there : t < layout.mutators = lie.home number address was in
      let own = old t in
      let is : IsBay own = are.each t there in
      let page : IsInAPage own.layout address =
      subst (λ each. IsInAPage each address) (sym (are.layout_is t there)) (old_part-page layout before number address at) in
      let cell : LiesInCell own.layout own.mutator own.pages address size = ⊎_elim
      (λ (half : LiesInHalf own.layout own.mutator own.half own.used address size).
      absurd (half-not_in_page own.layout own.mutator own.half own.used address size is.half is.used (omega arith) half page))
      (λ (cell : LiesInCell own.layout own.mutator own.pages address size). cell)
      (lie.lying number address was) in
      inr (rw (flipped.layout t there, flipped.mutator t there, flipped.pages t there) cell);
}

-- no two of them have a word in common
pub apart-old_part : (layout : Layout) (before : Placement) (graph : Graph) → AreApart before graph
    → AreApart (old_part layout before) graph
apart-old_part layout before graph apart a i j one other =
    apart a i j
    (record {
      address = one.address;
      at = old_part-from layout before i one.address one.at;
      from = one.from;
      to = one.to;
    })
    (record {
      address = other.address;
      at = old_part-from layout before j other.address other.at;
      from = other.from;
      to = other.to;
    })

-- used cells are used
pub cells_stay-flipped : (mutators : ℕ) (old new : ℕ → Bay) → AreFlippedFirst mutators old new → CellsStay mutators old new
cells_stay-flipped mutators old new flipped t class offset there used = rw (flipped.pages t there) used

-- a used cell lies in a page
pub used-in_page : (layout : Layout) (m : ℕ) (pages : List Page) (offset : ℕ) → length pages ≡ layout.pages → IsUsed pages offset
    → IsInAPage layout (cell_address layout m offset)
used-in_page layout m pages offset count used = record {
  mutator = m;
  inside = record {
    from = omega arith;
    to = omega (arith, count, page-within pages (offset / 1024) used.0 used.1.cell.page);
  };
}

-- the used cells hold what they held
pub cells-flipped : (layout : Layout) (old new : ℕ → Bay) (before : Placement) → AreFlippedFirst layout.mutators old new
    → AreBays layout old → EachCellHolds layout.mutators old before nowhere
    → EachCellHolds layout.mutators new (old_part layout before) nowhere
cells-flipped layout old new before flipped are hold t offset there =
    let own = old t in
    let a = cell_address own.layout own.mutator offset in
    let held : IsUsed own.pages offset → IsTaken (old_part layout before) nowhere a = λ used. elim (hold t offset there used) [
      | inl holds ↦
          let page : IsInAPage layout a =
          subst (λ each. IsInAPage each a) (are.layout_is t there)
          (used-in_page own.layout own.mutator own.pages offset (are.each t there).page_count used) in
          inl (record { number = holds.number; at = old_part-at layout before holds.number a holds.at page })
      | inr fills ↦ absurd (false≢true fills)
    ] in
    rw (flipped.layout t there, flipped.mutator t there, flipped.pages t there) held

-- there are no copies
pub copies-first : (layout : Layout) (old new : ℕ → Bay) (before : Placement) (graph : Graph)
    → AreFlippedFirst layout.mutators old new
    → HoldCopies layout layout.mutators all_begun new (old_part layout before) graph
copies-first layout old new before graph flipped t there begun =
    let young = is_young layout (old_part layout before) in
    let nothing : young_words layout (old_part layout before) graph t ≡ 0 =
    words-none (λ number. young number && is_home t (object_at graph number)) graph
    (λ number. and_left (young number) (is_home t (object_at graph number)) (old_part-not_young layout before number)) in
    flipped.used t there ∙ sym nothing

-- ---- the remembered lists, and the bits

-- the lists have the objects in pages that they had
pub lists-old_part : (layout : Layout) (mutators : ℕ) (bay : ℕ → Bay) (before : Placement) → AreLists layout mutators bay before
    → AreLists layout mutators bay (old_part layout before)
lists-old_part layout mutators bay before are = record {
  placed = λ address on.
      let held = are.placed address on in
      record { number = held.number; at = old_part-at layout before held.number address held.at (are.old address on) };
  old = are.old;
  once = are.once;
}

-- and the objects in pages the bits
pub bits-old_part : (word : ℕ → ℕ) (layout : Layout) (mutators : ℕ) (bay : ℕ → Bay) (before : Placement)
    → HaveBits word mutators bay before → HaveBits word mutators bay (old_part layout before)
bits-old_part word layout mutators bay before have = record {
  remembered = λ number address at. have.remembered number address (old_part-from layout before number address at);
  marked = λ number address at. have.marked number address (old_part-from layout before number address at);
}

-- ---- what is grey or waits

-- nothing is grey
pub none-grey : (mutators : ℕ) (bay : ℕ → Bay) (address : ℕ) → ((t : ℕ) → t < mutators → (bay t).grey ≡ [])
    → ¬ IsGrey mutators bay address
none-grey mutators bay address empty grey = omega (arith, grey.listed.within, ap length (empty grey.mutator grey.listed.mutator))

-- so the grey lists are as they are to be
pub grey-none : (mutators : ℕ) (bay : ℕ → Bay) (after : Placement) (graph : Graph) → ((t : ℕ) → t < mutators → (bay t).grey ≡ [])
    → AreGrey mutators bay after graph
grey-none mutators bay after graph empty = record {
  kept = λ address t index listed.
      absurd (none-grey mutators bay address empty (record { mutator = t; index = index; listed = listed }));
  once = λ address t u i j one other.
      absurd (none-grey mutators bay address empty (record { mutator = t; index = i; listed = one }));
}

-- an object on a remembered list stands there at the first place or behind it
listed-first : (mutators : ℕ) (bay : ℕ → Bay) (before : Placement) (number address : ℕ) → before number ≡ Some address
    → IsOnAList mutators bay address → IsListedFrom mutators bay before 0 0 number
listed-first mutators bay before number address at on = record {
  address = address;
  at = at;
  owner = on.mutator;
  place = on.index;
  listed = on.listed;
  behind = elim (cases_eq 0 on.mutator) [
    | inl same ↦ inr (same, omega arith)
    | inr differs ↦ inl (omega (arith, differs))
  ];
}

-- the slots of the objects in pages wait where the objects stand on remembered lists
pub grey_or_waiting-first : (old : Memory) (before : Placement) (world : World) (bay : ℕ → Bay) → IsAtRest old before world
    → ((t : ℕ) → t < old.layout.mutators → (bay t).grey ≡ [])
    → GreyOrWaiting old.layout.mutators bay (old_part old.layout before) (done_first old.word old.layout before).slots world.graph
    (λ number place. IsListedFrom old.layout.mutators old.bay before 0 0 number)
grey_or_waiting-first old before world bay rest empty number address place at within =
    let was = old_part-from old.layout before number address at in
    let here : is_some (old_part old.layout before number) ≡ true = ap is_some at in
    let bit = rest.remembered.bits.remembered number address was in
    let test = remembered-test old.word before number address was in (
      λ isnt. elim (cases_Bool (is_remembered old.word before number)) [
        | inl is ↦ inr (listed-first old.layout.mutators old.bay before number address was (bit.0 (sym test ∙ is)))
        | inr unremembered ↦
            absurd (false≢true (sym isnt ∙ and_from (is_some (old_part old.layout before number))
            (not (is_remembered old.word before number)) here
            (not_from_false (is_remembered old.word before number) unremembered)))
      ],
      λ either. elim either [
        | inl grey ↦ absurd (none-grey old.layout.mutators bay address empty grey)
        | inr waits ↦
            let one : waits.address ≡ address = same_Some waits.address address (sym waits.at ∙ was) in
            let on : IsOnAList old.layout.mutators old.bay address =
            subst (IsOnAList old.layout.mutators old.bay) one
            (record { mutator = waits.owner; index = waits.place; listed = waits.listed }) in
            let remembered : is_remembered old.word before number ≡ true = test ∙ bit.1 on in
            rw (remembered, here) refl
      ],
    )

-- ---- who is promoted

-- nobody is promoted yet
pub promoted-begun : (layout : Layout) (old_word word : ℕ → ℕ) (bay : ℕ → Bay) (before : Placement) (graph : Graph)
    → ArePromoted layout old_word word bay before (old_part layout before) graph
promoted-begun layout old_word word bay before graph = record {
  seen = λ number address copy was outside at inside.
      absurd (outside (subst (IsInAPage layout)
      (same_Some copy address (sym (old_part-from layout before number copy at) ∙ was)) inside));
  no_cell = λ number address copy was outside at young seen. absurd (young (old_part-page layout before number copy at));
  survived = λ number copy at young. absurd (young (old_part-page layout before number copy at));
}

-- so nobody has to be remembered for it
pub promoted_remembered-begun : (layout : Layout) (word : ℕ → ℕ) (before : Placement)
    → PromotedAreRemembered layout word before (old_part layout before)
promoted_remembered-begun layout word before number address copy was outside at inside =
    absurd (outside (subst (IsInAPage layout)
    (same_Some copy address (sym (old_part-from layout before number copy at) ∙ was)) inside))

-- ---- the collection begins

-- a minor collection is under way once all bays are flipped
pub begin : (old : Memory) (before : Placement) (world : World) (bay : ℕ → Bay) → IsAtRest old before world
    → ((t : ℕ) → t < old.layout.mutators → bay t ≡ record (old.bay t) { half = 1 - (old.bay t).half; used = 0 })
    → ((t : ℕ) → t < old.layout.mutators → IsBay (bay t))
    → IsCollectionUnderWay RunKind.Minor old before world old.word bay (old_part old.layout before) (done_first old.word old.layout before)
    (λ number place. IsListedFrom old.layout.mutators old.bay before 0 0 number)
begin old before world bay rest flips are =
    let layout = old.layout in
    let mutators = old.layout.mutators in
    let after = old_part layout before in
    let flipped : AreFlippedFirst mutators old.bay bay = record {
      half = λ t there. ap (λ (each : Bay). each.half) (flips t there);
      used = λ t there. ap (λ (each : Bay). each.used) (flips t there);
      pages = λ t there. ap (λ (each : Bay). each.pages) (flips t there);
      layout = λ t there. ap (λ (each : Bay). each.layout) (flips t there);
      mutator = λ t there. ap (λ (each : Bay). each.mutator) (flips t there);
      are = are;
    } in
    let same_lists : (t : ℕ) → t < mutators → (bay t).remembered ≡ (old.bay t).remembered =
    λ t there. ap (λ (each : Bay). each.remembered) (flips t there) in
    let empty : (t : ℕ) → t < mutators → (bay t).grey ≡ [] =
    λ t there. ap (λ (each : Bay). each.grey) (flips t there) ∙ rest.no_grey t there in
    record {
      bays = are_bays-flipped layout old.bay bay flipped rest.shown.bays;
      standing = stand_moving-first old before world rest;
      headers = headers-begun old.word before;
      old_in_pages = λ number address at. rest.shown.old number address (old_part-from layout before number address at);
      keeps = keeps-old_part layout before;
      reached = reached-old_part (tracing_of RunKind.Minor old before world) layout before;
      flipped = flipped.half;
      cells_stay = cells_stay-flipped mutators old.bay bay flipped;
      lying = all_lie-flipped layout old.bay bay before world.graph flipped rest.shown.bays rest.shown.lying;
      apart = apart-old_part layout before world.graph rest.shown.apart;
      cells = cells-flipped layout old.bay bay before flipped rest.shown.bays rest.shown.cells;
      copies = copies-first layout old.bay bay before world.graph flipped;
      registers = λ t reg there.
          ap (λ (each : Bay). slice_index each.registers reg) (flips t there) ∙ rest.shown.registers t reg there;
      covers = covers_done-first old before world rest;
      lists = lists-old_part layout mutators bay before (lists-frame layout mutators old.bay bay before rest.remembered.lists same_lists);
      lists_grow = λ t there. rw (same_lists t there) (begins_with-same (old.bay t).remembered);
      bits = bits-old_part old.word layout mutators bay before
          (bits-frame old.word old.word mutators old.bay bay before rest.remembered.bits (λ number address at. refl) same_lists);
      grey = grey-none mutators bay after world.graph empty;
      grey_were_young = λ number address at grey. absurd (none-grey mutators bay address empty grey);
      grey_or_waiting = grey_or_waiting-first old before world bay rest empty;
      only_kept = λ number place unkept.
          and_left (is_some (after number)) (not (is_remembered old.word before number)) (ap is_some unkept);
      promoted = promoted-begun layout old.word old.word bay before world.graph;
      promoted_remembered = promoted_remembered-begun layout old.word before;
    }
