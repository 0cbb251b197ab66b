-- The end of a minor collection: where nothing is grey and nothing waits, the memory is at rest again, and the objects that
-- are kept of those that lay in halves are those that the collection reaches.
use Rattle.std.proofs.Common.{◌≡◌, ◌≢◌, ◌∙◌, ◌⊎◌, ⊎_elim, ℕ, ◌<◌, ◌≤◌, Bool, true, false, List, [], All, length, Option, None, Some, inl, inr, refl, ap, sym, subst, arith, slice_index, slice_index_or, if◌then◌else◌}
use Rattle.std.proofs.lemmas.Bool.{cases_Bool, cases_lt, both_ways, false≢true, true_from_ne_false}
use Rattle.std.proofs.lemmas.List.{get_or_past}
use Rattle.std.proofs.lemmas.List.Elements.{All-append, All-from_get_or, All-nil}
use Rattle.std.proofs.lemmas.List.FromFn.{get_or-enumerate_from, length-enumerate_from}
use Rattle.std.proofs.lemmas.Option.{same_Some}
use Rattle.std.specs.List.{enumerate_from}
use Rattle.std.specs.Option.{option_map_or}
use Rattle.gc_bay.specs.Bay.{Bay}
use Rattle.gc_layout.specs.Places.{Layout, cell_address}
use Rattle.gc_layout.specs.Sizes.{register_count}
use Rattle.gc_model.proofs.Reached.{reached-least}
use Rattle.gc_model.specs.declared.entry.RunKind.{RunKind}
use Rattle.gc_model.specs.Graph.{Graph, Object, common_object, object_at}
use Rattle.gc_model.specs.Reach.{is_reached, registers_of}
use Rattle.gc_model.specs.World.{Mutator, World, fresh_mutator, named_by, slot_at}
use Rattle.gc_placement.specs.Bays.{AreBays}
use Rattle.gc_placement.specs.Extents.{CommonLies, IsInAPage}
use Rattle.gc_placement.specs.Flipped.{ListsGrow}
use Rattle.gc_placement.specs.Headers.{head_of}
use Rattle.gc_placement.specs.Holders.{CoversDone, Done, GreyOrWaiting, HaveMovingRegisters, IsGrey}
use Rattle.gc_placement.specs.Memory.{Memory}
use Rattle.gc_placement.specs.Minor.{IsMinorCollection}
use Rattle.gc_placement.specs.Rest.{IsAtRest}
use Rattle.gc_placement.specs.UnderWay.{IsCollectionUnderWay}
use Rattle.gc_placement.specs.Moves.{KeepsPlaced, by_done, name_before_or_after}
use Rattle.gc_placement.specs.Names.{Covers}
use Rattle.gc_placement.specs.Objects.{AllStand, by_place}
use Rattle.gc_placement.specs.Placement.{IsNamePlaced, IsPlaced, Placement, name_address}
use Rattle.gc_placement.specs.Promotion.{PromotedAreRemembered}
use Rattle.gc_placement.specs.Registers.{HaveRegisters}
use Rattle.gc_placement.specs.Remembered.{HaveBits, IsOnAList, IsRemembered, NamesYoung, YoungAreRemembered}
use Rattle.gc_placement.specs.Shows.{Shows, nowhere}
use Rattle.gc_placement.specs.Sums.{is_in_page}
use Rattle.gc_placement.specs.Tracings.{is_remembered, minor_tracing, remembered_slots}
use Rattle.gc_placement.proofs.Extents.{word-within}
use Rattle.gc_placement.proofs.Lists.{All-flat_map, replicate-at}
use Rattle.gc_placement.proofs.MinorSums.{minor-sums}
use Rattle.gc_placement.proofs.Names.{is_placed, nothing-name, placed-among, placed-from_test, registers-placed, slots-placed}
use Rattle.gc_placement.proofs.Objects.{stands-renamed}
use Rattle.gc_placement.proofs.Shows.{in_place}
use Rattle.gc_placement.proofs.Sums.{is_in_page-from, is_in_page-true}

-- ---- where objects lie

-- an address lies in a page, or it doesn't
pub page-or_not : (layout : Layout) (a : ℕ) → IsInAPage layout a ⊎ (¬ IsInAPage layout a)
page-or_not layout a =
    elim (cases_Bool (is_in_page layout a)) as (λ _. IsInAPage layout a ⊎ (¬ IsInAPage layout a)) [
      | inl page ↦ inl (is_in_page-from layout a page)
      | inr half ↦ inr (λ page. both_ways (is_in_page layout a) half (is_in_page-true layout a page))
    ]

-- the common object lies in a page
pub common-in_page : (layout : Layout) (bay : ℕ → Bay) → AreBays layout bay → IsInAPage layout (cell_address layout 0 0)
common-in_page layout bay are = record {
  mutator = 0;
  inside = record { from = omega arith; to = omega (arith, are.limits.some_page) };
}

-- no object is placed at address 0
placed-some : (memory : Memory) (placement : Placement) (world : World) → Shows memory placement world
    → (number : ℕ) → placement number ≢ Some 0
placed-some memory placement world shown number at =
    let within =
    word-within memory.layout memory.bay placement world.graph number 0 shown.bays shown.lying
    (record { address = 0; at = at; from = omega arith; to = omega arith }) in
    omega (arith, within.0)

-- ---- all is done

-- no slot of an object that is kept is left to do
pub slots-done : (mutators : ℕ) (bay : ℕ → Bay) (after : Placement) (done : ℕ → ℕ → Bool) (graph : Graph) (waiting : ℕ → ℕ → Type 0)
    → GreyOrWaiting mutators bay after done graph waiting → ((number place : ℕ) → waiting number place → ⊥)
    → ((t : ℕ) → t < mutators → (bay t).grey ≡ []) → (number address place : ℕ) → after number ≡ Some address
    → place < length (object_at graph number).slots → done number place ≡ true
slots-done mutators bay after done graph waiting either none empty number address place at below =
    true_from_ne_false (done number place) (λ isnt.
    ⊎_elim
    (λ (grey : IsGrey mutators bay address). omega (arith, grey.listed.within, ap length (empty grey.mutator grey.listed.mutator)))
    (λ (waits : waiting number place). none number place waits)
    ((either number address place at below).0 isnt))

-- so each slot holds the address after
pub standing-after : (word : ℕ → ℕ) (before after : Placement) (done : ℕ → ℕ → Bool) (graph : Graph)
    → AllStand word after (by_done before after done) graph
    → ((number address place : ℕ) → after number ≡ Some address → place < length (object_at graph number).slots
    → done number place ≡ true)
    → AllStand word after (by_place after) graph
standing-after word before after done graph standing all number address at =
    let object = object_at graph number in
    stands-renamed word address (by_done before after done) (by_place after) number object (standing number address at)
    (λ place below.
    ap (λ (is : Bool). name_before_or_after before after is (slice_index_or object.slots place None))
    (sym (all number address place at below)))

-- a register past the last one names nothing
register-past : (memory : Memory) (placement : Placement) (world : World) → Shows memory placement world → (t reg : ℕ)
    → t < memory.layout.mutators → register_count ≤ reg → named_by world t reg ≡ None
register-past memory placement world shown t reg there past =
    let is = shown.bays.each t there in
    nothing-name placement (named_by world t reg) (placed-some memory placement world shown) (shown.covers.registers t reg)
    (sym (shown.registers t reg there) ∙ get_or_past (memory.bay t).registers reg 0 (omega (arith, is.registers, past)))

-- each register holds the address after
pub registers-after : (memory : Memory) (before after : Placement) (world : World) (bay : ℕ → Bay) (done : ℕ → ℕ → Bool)
    → Shows memory before world → AreBays memory.layout bay
    → HaveMovingRegisters memory.layout.mutators bay before after done world
    → ((t reg : ℕ) → t < memory.layout.mutators → reg < register_count → done t reg ≡ true)
    → HaveRegisters memory.layout.mutators bay after world
registers-after memory before after world bay done shown are have all t reg there =
    elim (cases_lt reg register_count) as (λ _. slice_index (bay t).registers reg ≡ name_address after (named_by world t reg)) [
      | inl within ↦
          have t reg there
          ∙ ap (λ (is : Bool). name_before_or_after before after is (named_by world t reg)) (all t reg there within)
      | inr past ↦
          get_or_past (bay t).registers reg 0 (omega (arith, (are.each t there).registers, past))
          ∙ sym (ap (name_address after) (register-past memory before world shown t reg there past))
    ]

-- what a register of nobody's names
register-nobody : (world : World) (t reg : ℕ) → length world.mutators ≤ t → named_by world t reg ≡ None
register-nobody world t reg past =
    ap (λ (mutator : Mutator). slice_index_or mutator.registers reg None) (get_or_past world.mutators t fresh_mutator past)
    ∙ replicate-at 16 reg None

-- what is named is kept
pub covers-after : (memory : Memory) (before after : Placement) (world : World) (done : Done) → Shows memory before world
    → CoversDone after done world → CommonLies memory.layout after
    → ((t reg : ℕ) → t < memory.layout.mutators → reg < register_count → done.registers t reg ≡ true)
    → ((number address place : ℕ) → after number ≡ Some address → place < length (object_at world.graph number).slots
    → done.slots number place ≡ true)
    → Covers after world
covers-after memory before after world done shown covers common registers slots =
    let nothing : (name : Option ℕ) → name ≡ None → IsNamePlaced after name = λ name is. rw is tt in
    record {
      common = record { address = cell_address memory.layout 0 0; at = common };
      registers = λ t reg.
          elim (cases_lt t memory.layout.mutators) as (λ _. IsNamePlaced after (named_by world t reg)) [
            | inl there ↦
                elim (cases_lt reg register_count) as (λ _. IsNamePlaced after (named_by world t reg)) [
                  | inl within ↦ covers.registers t reg (registers t reg there within)
                  | inr past ↦ nothing (named_by world t reg) (register-past memory before world shown t reg there past)
                ]
            | inr nobody ↦
                nothing (named_by world t reg) (register-nobody world t reg (omega (arith, nobody, shown.mutators)))
          ];
      slots = λ number place placed.
          let all = (object_at world.graph number).slots in
          elim (cases_lt place (length all)) as (λ _. IsNamePlaced after (slot_at world number place)) [
            | inl below ↦ covers.slots number place placed (slots number placed.address place placed.at below)
            | inr past ↦ nothing (slot_at world number place) (get_or_past all place None past)
          ];
    }

-- ---- the remembered set

-- what was on a list is on one
on_a_list-grows : (mutators : ℕ) (old new : ℕ → Bay) (address : ℕ) → ListsGrow mutators old new → IsOnAList mutators old address
    → IsOnAList mutators new address
on_a_list-grows mutators old new address grow on =
    let listed = on.listed in
    let begins = grow on.mutator listed.mutator in
    record {
      mutator = on.mutator;
      index = on.index;
      listed = record {
        mutator = listed.mutator;
        within = omega (arith, listed.within, begins.longer);
        at = begins.same on.index listed.within ∙ listed.at;
      };
    }

-- an object that lay in a page, and names one in a half after, named one in a half before
abbrev names_young-before : (layout : Layout) (before after : Placement) (world : World) (number place was : ℕ)
    → KeepsPlaced layout before after → NamesYoung layout after world number place → before number ≡ Some was
    → IsInAPage layout was → NamesYoung layout before world number place
names_young-before layout before after world number place was keeps names at page =
    let named = keeps.only names.named (record { address = names.named_address; at = names.named_at }) in
    record {
      address = was;
      at = at;
      old = page;
      named = names.named;
      named_is = names.named_is;
      named_address = named.address;
      named_at = named.at;
      young = λ inside.
          let stays : after names.named ≡ Some named.address = keeps.old names.named named.address named.at inside in
          let same : named.address ≡ names.named_address =
          same_Some named.address names.named_address (sym stays ∙ names.named_at) in
          names.young (subst (IsInAPage layout) same inside);
    }

-- each object in a page that names one in a half has the bit
young-after : (memory : Memory) (before after : Placement) (world : World) (word : ℕ → ℕ) (bay : ℕ → Bay)
    → IsRemembered memory.word memory.layout memory.bay before world nowhere → KeepsPlaced memory.layout before after
    → ListsGrow memory.layout.mutators memory.bay bay → HaveBits word memory.layout.mutators bay after
    → PromotedAreRemembered memory.layout word before after → YoungAreRemembered word memory.layout after world nowhere
young-after memory before after world word bay is keeps grow bits promoted number place names settled =
    let layout = memory.layout in
    let was = keeps.only number (record { address = names.address; at = names.at }) in
    elim (page-or_not layout was.address) as (λ _. (head_of (word names.address)).remembered ≡ true) [
      | inl page ↦
          let stays : after number ≡ Some was.address = keeps.old number was.address was.at page in
          let same : was.address ≡ names.address = same_Some was.address names.address (sym stays ∙ names.at) in
          let named = names_young-before layout before after world number place was.address keeps names was.at page in
          let had : (head_of (memory.word was.address)).remembered ≡ true = is.young number place named refl in
          let listed = (is.bits.remembered number was.address was.at).0 had in
          (bits.remembered number names.address names.at).1
          (subst (IsOnAList layout.mutators bay) same (on_a_list-grows layout.mutators memory.bay bay was.address grow listed))
      | inr half ↦ promoted number was.address names.address was.at half names.at names.old
    ]

-- ---- what is reached is kept

-- a place that passes the test has an address, and the header there has the bit
record HasBitAt (word : ℕ → ℕ) (place : Option ℕ) : Type 0 where
  address : ℕ
  at : place ≡ Some address
  bit : (head_of (word address)).remembered ≡ true

-- so the test says
bit-at : (word : ℕ → ℕ) (place : Option ℕ) → option_map_or (λ address. (head_of (word address)).remembered) place false ≡ true
    → HasBitAt word place
bit-at word None is = absurd (false≢true is)
bit-at word (Some address) is = record { address = address; at = refl; bit = is }

-- a remembered object is kept
remembered-kept : (memory : Memory) (before after : Placement) (world : World)
    → IsRemembered memory.word memory.layout memory.bay before world nowhere → KeepsPlaced memory.layout before after
    → (number : ℕ) → is_remembered memory.word before number ≡ true → IsPlaced after number
remembered-kept memory before after world is keeps number has =
    let found = bit-at memory.word (before number) has in
    let listed = (is.bits.remembered number found.address found.at).0 found.bit in
    record {
      address = found.address;
      at = keeps.old number found.address found.at (is.lists.old found.address listed);
    }

-- what holds of each of these names where there are any holds of them
each-if : (P : Option ℕ → Type 0) (there : Bool) (names : List (Option ℕ)) → (there ≡ true → All P names)
    → All P (if there then names else [])
each-if P true names each = each refl
each-if P false names each = All-nil P

-- what the slots of the remembered objects name is kept
remembered_slots-kept : (word : ℕ → ℕ) (before after : Placement) (world : World) → Covers after world
    → ((number : ℕ) → is_remembered word before number ≡ true → IsPlaced after number)
    → All (IsNamePlaced after) (remembered_slots word before world.graph)
remembered_slots-kept word before after world covers kept =
    let graph = world.graph in
    let Member = ℕ × Object in
    let names : Member → List (Option ℕ) = λ member. if is_remembered word before member.0 then member.1.slots else [] in
    let first : Member = (0, common_object) in
    All-flat_map (IsNamePlaced after) names (enumerate_from 0 graph)
    (All-from_get_or (λ (member : Member). All (IsNamePlaced after) (names member)) (enumerate_from 0 graph) first (λ number within.
    let there : number < length graph = omega (arith, within, length-enumerate_from 0 graph) in
    let member : slice_index_or (enumerate_from 0 graph) number first ≡ (number, object_at graph number) =
    get_or-enumerate_from 0 graph number first there
    ∙ ap (λ (n : ℕ). (n, object_at graph number)) (omega arith) in
    subst (λ (each : Member). All (IsNamePlaced after) (names each)) (sym member)
    (each-if (IsNamePlaced after) (is_remembered word before number) (object_at graph number).slots
    (λ is. slots-placed after world covers number (kept number is)))))

-- all that a minor collection reaches is kept
reached-kept : (memory : Memory) (before after : Placement) (world : World)
    → IsRemembered memory.word memory.layout memory.bay before world nowhere → KeepsPlaced memory.layout before after
    → Covers after world → (number : ℕ) → is_reached (minor_tracing memory before world) number ≡ true → IsPlaced after number
reached-kept memory before after world is keeps covers number reached =
    let slots = remembered_slots memory.word before world.graph in
    let roots = All-append (IsNamePlaced after) (registers_of world.mutators) slots (registers-placed after world covers)
    (remembered_slots-kept memory.word before after world covers (remembered-kept memory before after world is keeps)) in
    placed-from_test after number (reached-least (minor_tracing memory before world) (is_placed after) (record {
      roots = λ root own named. placed-among after root (minor_tracing memory before world).roots roots named;
      slots = λ member other there has own named.
          placed-among after other (object_at world.graph member).slots
          (slots-placed after world covers member (placed-from_test after member has)) named;
    }) number reached)

-- ---- the end

-- the memory shows the world by the placement after
shows-after : (old new : Memory) (before after : Placement) (world : World) (done : Done) (waiting : ℕ → ℕ → Type 0)
    → IsAtRest old before world → IsCollectionUnderWay RunKind.Minor old before world new.word new.bay after done waiting
    → new.types ≡ old.types → new.layout ≡ old.layout → ((number place : ℕ) → waiting number place → ⊥)
    → ((t : ℕ) → t < old.layout.mutators → (new.bay t).grey ≡ [])
    → ((t reg : ℕ) → t < old.layout.mutators → reg < register_count → done.registers t reg ≡ true)
    → Shows new after world
shows-after old new before after world done waiting rest under types layout none empty registers =
    let shown = rest.shown in
    let all = slots-done old.layout.mutators new.bay after done.slots world.graph waiting under.grey_or_waiting none empty in
    let common : CommonLies old.layout after =
    under.keeps.old 0 (cell_address old.layout 0 0) shown.common (common-in_page old.layout old.bay shown.bays) in
    in_place new old.types old.layout after world types layout (record {
      are_types = shown.are_types;
      bays = under.bays;
      mutators = shown.mutators;
      standing = standing-after new.word before after done.slots world.graph under.standing.kept all;
      old = under.old_in_pages;
      lying = under.lying;
      common = common;
      apart = under.apart;
      cells = under.cells;
      registers = registers-after old before after world new.bay done.registers shown under.bays under.registers registers;
      covers = covers-after old before after world done shown under.covers common registers all;
    })

-- a minor collection ends where nothing is grey or waits and all registers are done: this is what it did
pub minor-ends : (old new : Memory) (before after : Placement) (world : World) (done : Done) (waiting : ℕ → ℕ → Type 0)
    → IsAtRest old before world → IsCollectionUnderWay RunKind.Minor old before world new.word new.bay after done waiting
    → new.types ≡ old.types → new.layout ≡ old.layout → ((number place : ℕ) → waiting number place → ⊥)
    → ((t : ℕ) → t < old.layout.mutators → (new.bay t).grey ≡ [])
    → ((t reg : ℕ) → t < old.layout.mutators → reg < register_count → done.registers t reg ≡ true)
    → IsMinorCollection old new before after world
minor-ends old new before after world done waiting rest under types layout none empty registers =
    let is = rest.remembered in
    let shown : Shows new after world =
    shows-after old new before after world done waiting rest under types layout none empty registers in
    let remembered : IsRemembered new.word old.layout new.bay after world nowhere =
    record {
      lists = under.lists;
      bits = under.bits;
      young = young-after old before after world new.word new.bay is under.keeps under.lists_grow under.bits
          under.promoted_remembered;
    } in
    record {
      rest = record {
        shown = shown;
        remembered = subst (λ (each : Layout). IsRemembered new.word each new.bay after world nowhere) (sym layout) remembered;
        no_grey = λ t there. empty t (subst (λ (each : Layout). t < each.mutators) layout there);
      };
      flipped = under.flipped;
      keeps = under.keeps;
      cells_stay = under.cells_stay;
      reached = λ number young.
          (under.reached number young, reached-kept old before after world is under.keeps shown.covers number);
      sums = λ t there. minor-sums old new.bay before after world.graph t under.keeps under.copies there;
      promoted = under.promoted;
    }
