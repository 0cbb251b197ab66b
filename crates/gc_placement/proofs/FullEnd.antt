-- The end of tracing in a full collection: where nothing waits but for a mark, and nothing is grey, exactly the reachable
-- objects are found, and the memory shows the world by where they are, but for the cells that are to be swept.
use Rattle.std.proofs.Common.{◌≡◌, ◌∙◌, ⊎_elim, ◌↔◌, ◌&&◌, ◌||◌, ℕ, ◌+◌, ◌*◌, ◌/◌, ◌<◌, Bool, true, false, [], length, Option, None, Some, is_some, inl, refl, ap, sym, slice_index_or, sum_by, if◌then◌else◌, List, arith, inr, not, subst}
use Rattle.std.proofs.lemmas.Bool.{and_from, and_parts, both_ways, cases_Bool, cases_lt, cond-false, cond-true, false_from_ne_true, false≢true, or_cases, or_right}
use Rattle.std.proofs.lemmas.List.Elements.{filter_agree}
use Rattle.std.proofs.lemmas.Option.{none-some, same_Some}
use Rattle.std.specs.List.{enumerate_from}
use Rattle.std.specs.Option.{option_map_or}
use Rattle.std.specs.Prelude.{IfSome}
use Rattle.gc_bay.specs.Bay.{Bay}
use Rattle.gc_gen2.proofs.PagesLemmas.{page-within, same_class}
use Rattle.gc_gen2.specs.Cells.{IsUsed, IsUsedCell, class_at}
use Rattle.gc_gen2.specs.Class.{class_of}
use Rattle.gc_gen2.specs.Page.{Page}
use Rattle.gc_layout.specs.Places.{IsInPages, Layout, cell_address, region_words}
use Rattle.gc_layout.specs.Sizes.{register_count}
use Rattle.gc_layout.specs.declared.shape.Shape.{Shape}
use Rattle.gc_model.specs.Graph.{Graph, Object, object_at, object_size}
use Rattle.gc_model.specs.Reach.{is_reachable, live}
use Rattle.gc_model.specs.World.{World, named_by, slot_at}
use Rattle.gc_model.specs.declared.entry.RunKind.{RunKind}
use Rattle.gc_placement.specs.Bays.{AreBays}
use Rattle.gc_placement.specs.Extents.{AllLie, CommonLies, HoldsPlaced, IsInAPage, LiesInCell, LiesInHalf, home_of, is_home}
use Rattle.gc_placement.specs.Full.{StaysOrGoes}
use Rattle.gc_placement.specs.Headers.{head_of}
use Rattle.gc_placement.specs.Holders.{CoversDone, Done}
use Rattle.gc_placement.specs.Marks.{AreMarked, IsNameFound, Marks, WaitsForMark, found_part, is_found}
use Rattle.gc_placement.specs.Memory.{Memory}
use Rattle.gc_placement.specs.Minor.{was_promoted, was_young_and_kept}
use Rattle.gc_placement.specs.Moves.{KeepsPlaced, by_done, name_before_or_after}
use Rattle.gc_placement.specs.Names.{Covers}
use Rattle.gc_placement.specs.Objects.{AllStand, by_place}
use Rattle.gc_placement.specs.Placement.{IsNamePlaced, IsPlaced, IsWordOf, Placement, name_address, or_nothing}
use Rattle.gc_placement.specs.Registers.{HaveRegisters}
use Rattle.gc_placement.specs.Remembered.{AreLists, IsOnAList}
use Rattle.gc_placement.specs.Rest.{IsAtRest}
use Rattle.gc_placement.specs.Shows.{nowhere}
use Rattle.gc_placement.specs.Sums.{is_in_page, is_young, objects_where, own_words_where, words_where}
use Rattle.gc_placement.specs.Sweeping.{IsLeft, IsLeftCell, IsSweeping}
use Rattle.gc_placement.specs.UnderWay.{IsCollectionUnderWay}
use Rattle.gc_placement.proofs.Extents.{cell-in_region, half-not_in_page, lies-at_home}
use Rattle.gc_placement.proofs.MinorEnd.{common-in_page, covers-after, page-or_not, registers-after, slots-done, standing-after}
use Rattle.gc_placement.proofs.MinorSteps.{one_number}
use Rattle.gc_placement.proofs.MinorSums.{minor-sums}
use Rattle.gc_placement.proofs.MovePlaces.{old-page}
use Rattle.gc_placement.proofs.Names.{placed-from_test, reachable-placed}
use Rattle.gc_placement.proofs.Objects.{stands-renamed}
use Rattle.gc_placement.proofs.Regions.{regions_apart}
use Rattle.gc_placement.proofs.Sums.{words-same}

-- ---- what is found

-- an object is found where it is kept, and lay in a half or is marked
found-where : (layout : Layout) (before after : Placement) (marks : Marks) (number address : ℕ) → after number ≡ Some address
    → is_young layout before number || marks number ≡ true → is_found layout before after marks number ≡ true
found-where layout before after marks number address at is =
    and_from (is_some (after number)) (is_young layout before number || marks number) (ap is_some at) is

-- it is placed where it is kept
found-at : (layout : Layout) (before after : Placement) (marks : Marks) (number : ℕ) → is_found layout before after marks number ≡ true
    → found_part layout before after marks number ≡ after number
found-at layout before after marks number is = cond-true (is_found layout before after marks number) (after number) None is

-- what a test leaves passes it
left-from : (test : Bool) (place : Option ℕ) (address : ℕ) → (if test then place else None) ≡ Some address
    → (test ≡ true) × (place ≡ Some address)
left-from true place address at = (refl, at)
left-from false place address at = absurd (none-some address at)

-- so what is placed is found, and kept there
found-from : (layout : Layout) (before after : Placement) (marks : Marks) (number address : ℕ)
    → found_part layout before after marks number ≡ Some address
    → (is_found layout before after marks number ≡ true) × (after number ≡ Some address)
found-from layout before after marks number address at =
    left-from (is_found layout before after marks number) (after number) address at

-- what is found is placed
found-placed : (layout : Layout) (before after : Placement) (marks : Marks) (number : ℕ)
    → is_found layout before after marks number ≡ true → IsPlaced (found_part layout before after marks) number
found-placed layout before after marks number is =
    let kept = and_parts (is_some (after number)) (is_young layout before number || marks number) is in
    let place = placed-from_test after number kept.0 in
    record { address = place.address; at = found-at layout before after marks number is ∙ place.at }

-- so is what a found name names
name-placed : (layout : Layout) (before after : Placement) (marks : Marks) (name : Option ℕ)
    → IsNameFound layout before after marks name → IsNamePlaced (found_part layout before after marks) name
name-placed layout before after marks None found = tt
name-placed layout before after marks (Some number) found = found-placed layout before after marks number found

-- and its address is the one after
name-same : (layout : Layout) (before after : Placement) (marks : Marks) (name : Option ℕ)
    → IsNameFound layout before after marks name
    → name_address (found_part layout before after marks) name ≡ name_address after name
name-same layout before after marks None found = refl
name-same layout before after marks (Some number) found = ap or_nothing (found-at layout before after marks number found)

-- a word that holds the address before or after of what is named holds that of the found, where what is done is found
name-moving : (layout : Layout) (before after : Placement) (marks : Marks) (is : Bool) (name : Option ℕ)
    → (is ≡ true → IsNameFound layout before after marks name)
    → name_before_or_after before (found_part layout before after marks) is name ≡ name_before_or_after before after is name
name-moving layout before after marks true name found = name-same layout before after marks name (found refl)
name-moving layout before after marks false name found = refl

-- ---- a full collection that is traced to its end

-- where a full collection is traced to its end: nothing waits but for a mark, nothing is grey, all registers are done, the
-- common object is marked
pub record IsTracedFull (old new : Memory) (before after : Placement) (world : World) (done : Done) (marks : Marks)
    (waiting : ℕ → ℕ → Type 0) : Type 0 where
  pub rest : IsAtRest old before world
  pub under_way : IsCollectionUnderWay RunKind.Full old before world new.word new.bay after done waiting
  pub marked : AreMarked old.layout before world new.word new.bay after done marks
  pub types : new.types ≡ old.types
  pub layout : new.layout ≡ old.layout
  pub waits : (number place : ℕ) → waiting number place → WaitsForMark RunKind.Full old.layout before marks number
  pub no_grey : (t : ℕ) → t < old.layout.mutators → (new.bay t).grey ≡ []
  pub registers : (t reg : ℕ) → t < old.layout.mutators → reg < register_count → done.registers t reg ≡ true
  pub common : done.common ≡ true

-- no found object waits for its mark
found-waits : (layout : Layout) (before after : Placement) (marks : Marks) (number : ℕ)
    → is_found layout before after marks number ≡ true → WaitsForMark RunKind.Full layout before marks number → ⊥
found-waits layout before after marks number is waits =
    let young = is_young layout before number in
    ⊎_elim
    (λ (lay : young ≡ true). both_ways young waits.0 lay)
    (λ (marked : marks number ≡ true). both_ways (marks number) waits.1 marked)
    (or_cases young (marks number) (and_parts (is_some (after number)) (young || marks number) is).1)

-- no slot of a found object is left to do
found-done : {old new : Memory} {before after : Placement} {world : World} {done : Done} {marks : Marks} {waiting : ℕ → ℕ → Type 0}
    → IsTracedFull old new before after world done marks waiting → (number address place : ℕ)
    → found_part old.layout before after marks number ≡ Some address → place < length (object_at world.graph number).slots
    → done.slots number place ≡ true
found-done {old} {new} {before} {after} {world} {done} {marks} {waiting} traced =
    let found = found_part old.layout before after marks in
    slots-done old.layout.mutators new.bay found done.slots world.graph (λ number place. ⊥)
    (λ number address place at below.
    let from = found-from old.layout before after marks number address at in
    let either = traced.under_way.grey_or_waiting number address place from.1 below in (
      λ isnt. ⊎_elim inl
          (λ (waits : waiting number place).
          absurd (found-waits old.layout before after marks number from.0 (traced.waits number place waits)))
          (either.0 isnt),
      λ grey. either.1 (⊎_elim inl (λ (none : ⊥). absurd none) grey),
    ))
    (λ number place none. none)
    traced.no_grey

-- so the found objects stand with the addresses of what their slots name
found-standing : {old new : Memory} {before after : Placement} {world : World} {done : Done} {marks : Marks} {waiting : ℕ → ℕ → Type 0}
    → IsTracedFull old new before after world done marks waiting
    → AllStand new.word (found_part old.layout before after marks) (by_place (found_part old.layout before after marks)) world.graph
found-standing {old} {new} {before} {after} {world} {done} {marks} {waiting} traced =
    let found = found_part old.layout before after marks in
    standing-after new.word before found done.slots world.graph
    (λ number address at.
    let from = found-from old.layout before after marks number address at in
    let object = object_at world.graph number in
    stands-renamed new.word address (by_done before after done.slots) (by_done before found done.slots) number object
    (traced.under_way.standing.kept number address from.1)
    (λ place below.
    name-moving old.layout before after marks (done.slots number place) (slice_index_or object.slots place None)
    (traced.marked.slots number place from.0)))
    (found-done traced)

-- and the registers hold the addresses of what they name
found-registers : {old new : Memory} {before after : Placement} {world : World} {done : Done} {marks : Marks} {waiting : ℕ → ℕ → Type 0}
    → IsTracedFull old new before after world done marks waiting
    → HaveRegisters old.layout.mutators new.bay (found_part old.layout before after marks) world
found-registers {old} {new} {before} {after} {world} {done} {marks} {waiting} traced =
    registers-after old before (found_part old.layout before after marks) world new.bay done.registers traced.rest.shown
    traced.under_way.bays
    (λ t reg there.
    traced.under_way.registers t reg there
    ∙ sym (name-moving old.layout before after marks (done.registers t reg) (named_by world t reg) (traced.marked.registers t reg)))
    traced.registers

-- the common object is found
found-common : {old new : Memory} {before after : Placement} {world : World} {done : Done} {marks : Marks} {waiting : ℕ → ℕ → Type 0}
    → IsTracedFull old new before after world done marks waiting → CommonLies old.layout (found_part old.layout before after marks)
found-common {old} {new} {before} {after} {world} {done} {marks} {waiting} traced =
    let first = cell_address old.layout 0 0 in
    let shown = traced.rest.shown in
    let at : after 0 ≡ Some first =
    traced.under_way.keeps.old 0 first shown.common (common-in_page old.layout old.bay shown.bays) in
    found-at old.layout before after marks 0
    (found-where old.layout before after marks 0 first at
    (or_right (is_young old.layout before 0) (marks 0) (traced.marked.common traced.common)))
    ∙ at

-- so the found objects cover the world
found-covers : {old new : Memory} {before after : Placement} {world : World} {done : Done} {marks : Marks} {waiting : ℕ → ℕ → Type 0}
    → IsTracedFull old new before after world done marks waiting → Covers (found_part old.layout before after marks) world
found-covers {old} {new} {before} {after} {world} {done} {marks} {waiting} traced =
    let layout = old.layout in
    let found = found_part layout before after marks in
    let covers : CoversDone found done world =
    record {
      registers = λ t reg is. name-placed layout before after marks (named_by world t reg) (traced.marked.registers t reg is);
      slots = λ number place placed is.
          name-placed layout before after marks (slot_at world number place)
          (traced.marked.slots number place (found-from layout before after marks number placed.address placed.at).0 is);
    } in
    covers-after old before found world done traced.rest.shown covers (found-common traced) traced.registers (found-done traced)

-- ---- what is found is what is reachable

-- two tests that each pass where the other does are one
one-test : (one other : Bool) → (one ≡ true → other ≡ true) → (other ≡ true → one ≡ true) → one ≡ other
one-test true other there back = sym (there refl)
one-test false true there back = absurd (false≢true (back refl))
one-test false false there back = refl

-- exactly the reachable objects are found
pub found-reachable : {old new : Memory} {before after : Placement} {world : World} {done : Done} {marks : Marks}
    {waiting : ℕ → ℕ → Type 0} → IsTracedFull old new before after world done marks waiting → (number : ℕ)
    → is_found old.layout before after marks number ≡ is_reachable world number
found-reachable {old} {new} {before} {after} {world} {done} {marks} {waiting} traced number =
    one-test (is_found old.layout before after marks number) (is_reachable world number) (traced.marked.reached number)
    (λ reachable.
    let placed = reachable-placed (found_part old.layout before after marks) world (found-covers traced) number reachable in
    (found-from old.layout before after marks number placed.address placed.at).0)

-- so their tallies are those of what is live
pub found-live : {old new : Memory} {before after : Placement} {world : World} {done : Done} {marks : Marks} {waiting : ℕ → ℕ → Type 0}
    → IsTracedFull old new before after world done marks waiting
    → (objects_where (is_found old.layout before after marks) world.graph ≡ (live world).objects)
    × (words_where (is_found old.layout before after marks) world.graph ≡ (live world).words)
found-live {old} {new} {before} {after} {world} {done} {marks} {waiting} traced =
    let Member = ℕ × Object in
    let same =
    filter_agree (λ (member : Member). is_found old.layout before after marks member.0)
    (λ (member : Member). is_reachable world member.0) (λ member. found-reachable traced member.0) (enumerate_from 0 world.graph) in
    (ap length same, ap (sum_by (λ (member : Member). object_size member.1)) same)

-- ---- the cells

-- the address of a used cell is one in the pages
used-in_pages : (layout : Layout) (m : ℕ) (pages : List Page) (class offset : ℕ) → length pages ≡ layout.pages
    → IsUsedCell pages class offset → IsInPages layout m (cell_address layout m offset)
used-in_pages layout m pages class offset count used = record {
  from = omega arith;
  to = omega (arith, count, page-within pages (offset / 1024) class used.cell.page);
}

-- an object at an address lies in a used cell of its maker's pages
record LiesInOwnCell (layout : Layout) (bay : ℕ → Bay) (object : Object) (address : ℕ) : Type 0 where
  there : home_of object.maker < layout.mutators
  cell : LiesInCell layout (home_of object.maker) (bay (home_of object.maker)).pages address (object_size object)

-- as each placed object in a page does
page-lies : (layout : Layout) (bay : ℕ → Bay) (placement : Placement) (graph : Graph) (number address : ℕ) → AreBays layout bay
    → AllLie layout.mutators bay placement graph → placement number ≡ Some address → IsInAPage layout address
    → LiesInOwnCell layout bay (object_at graph number) address
page-lies layout bay placement graph number address are lie at page =
    let object = object_at graph number in
    let size = object_size object in
    let home = lies-at_home layout.mutators bay placement graph number address lie at in
    let own = bay (home_of object.maker) in
    let is = are.each (home_of object.maker) home.there in
    let own_layout : own.layout ≡ layout = are.layout_is (home_of object.maker) home.there in
    let own_mutator : own.mutator ≡ home_of object.maker = are.mutator_is (home_of object.maker) home.there in
    record {
      there = home.there;
      cell = ⊎_elim
          (λ (half : LiesInHalf own.layout own.mutator own.half own.used address size).
          absurd (half-not_in_page own.layout own.mutator own.half own.used address size is.half is.used (omega arith) half
          (subst (λ each. IsInAPage each address) (sym own_layout) page)))
          (λ (cell : LiesInCell own.layout own.mutator own.pages address size). rw (own_layout, own_mutator) at cell)
          home.lies;
    }

-- the cell at whose address an object lies is its own
cell-own : (layout : Layout) (bay : ℕ → Bay) (object : Object) (u other : ℕ) → AreBays layout bay
    → (lies : LiesInOwnCell layout bay object (cell_address layout u other)) → IsInPages layout u (cell_address layout u other)
    → (home_of object.maker ≡ u) × (lies.cell.offset ≡ other)
cell-own layout bay object u other are lies inside =
    let t = home_of object.maker in
    let own = bay t in
    let address = cell_address layout u other in
    let count : length own.pages ≡ layout.pages =
    (are.each t lies.there).page_count ∙ ap (λ (each : Layout). each.pages) (are.layout_is t lies.there) in
    let region = cell-in_region layout t own.pages address (object_size object) count lies.cell in
    let same : t ≡ u =
    regions_apart layout t u address (omega (arith, region.0)) (omega (arith, region.1)) (omega (arith, inside.from))
    (omega (arith, inside.to)) in
    (same, omega (arith, lies.cell.at, ap (λ m. m * region_words layout) same))

-- each used cell holds an object that is kept
cell-holds : {old new : Memory} {before after : Placement} {world : World} {done : Done} {marks : Marks} {waiting : ℕ → ℕ → Type 0}
    → IsTracedFull old new before after world done marks waiting → (u other : ℕ) → u < old.layout.mutators
    → IsUsed (new.bay u).pages other → HoldsPlaced after (cell_address old.layout u other)
cell-holds {old} {new} {before} {after} {world} {done} {marks} {waiting} traced u other there used =
    let bays = traced.under_way.bays in
    let own_layout : (new.bay u).layout ≡ old.layout = bays.layout_is u there in
    let own_mutator : (new.bay u).mutator ≡ u = bays.mutator_is u there in
    let address = cell_address (new.bay u).layout (new.bay u).mutator other in
    ⊎_elim
    (λ (holds : HoldsPlaced after address). rw (own_layout, own_mutator) at holds)
    (λ (filling : nowhere address ≡ true). absurd (false≢true filling))
    (traced.under_way.cells u other there used)

-- it lies in the pages
cell-pages : {old new : Memory} {before after : Placement} {world : World} {done : Done} {marks : Marks} {waiting : ℕ → ℕ → Type 0}
    → IsTracedFull old new before after world done marks waiting → (u other : ℕ) → u < old.layout.mutators
    → IsUsed (new.bay u).pages other → IsInPages old.layout u (cell_address old.layout u other)
cell-pages {old} {new} {before} {after} {world} {done} {marks} {waiting} traced u other there used =
    let bays = traced.under_way.bays in
    used-in_pages old.layout u (new.bay u).pages used.0 other
    ((bays.each u there).page_count ∙ ap (λ (each : Layout). each.pages) (bays.layout_is u there))
    used.1

-- a found object in a page is marked
page-marked : {old new : Memory} {before after : Placement} {world : World} {done : Done} {marks : Marks} {waiting : ℕ → ℕ → Type 0}
    → IsTracedFull old new before after world done marks waiting → (number address : ℕ)
    → found_part old.layout before after marks number ≡ Some address → IsInAPage old.layout address → marks number ≡ true
page-marked {old} {new} {before} {after} {world} {done} {marks} {waiting} traced number address at page =
    let young = is_young old.layout before number in
    let from = found-from old.layout before after marks number address at in
    ⊎_elim
    (λ (lay : young ≡ true). traced.marked.promoted number address from.1 lay page)
    (λ (is : marks number ≡ true). is)
    (or_cases young (marks number) (and_parts (is_some (after number)) (young || marks number) from.0).1)

-- what is marked is found, and placed where it is kept
marked-found : (layout : Layout) (before after : Placement) (marks : Marks) (number address : ℕ) → after number ≡ Some address
    → marks number ≡ true → found_part layout before after marks number ≡ Some address
marked-found layout before after marks number address at is =
    found-at layout before after marks number
    (found-where layout before after marks number address at (or_right (is_young layout before number) (marks number) is))
    ∙ at

-- a used cell whose object isn't marked was used before
cell-was : {old new : Memory} {before after : Placement} {world : World} {done : Done} {marks : Marks} {waiting : ℕ → ℕ → Type 0}
    → IsTracedFull old new before after world done marks waiting → (number u class other : ℕ) → u < old.layout.mutators
    → after number ≡ Some (cell_address old.layout u other) → marks number ≡ false → IsUsedCell (new.bay u).pages class other
    → IsUsedCell (old.bay u).pages class other
cell-was {old} {new} {before} {after} {world} {done} {marks} {waiting} traced number u class other there at unmarked used =
    let layout = old.layout in
    let address = cell_address layout u other in
    let shown = traced.rest.shown in
    let keeps = traced.under_way.keeps in
    let object = object_at world.graph number in
    let own_class = class_of (object_size object) in
    let inside = cell-pages traced u other there (class, used) in
    let page : IsInAPage layout address = record { mutator = u; inside = inside } in
    let aged : is_young layout before number ≡ false =
    false_from_ne_true (is_young layout before number) (λ young.
    both_ways (marks number) unmarked (traced.marked.promoted number address at young page)) in
    let was = keeps.only number (record { address = address; at = at }) in
    let stays : after number ≡ Some was.address =
    keeps.old number was.address was.at (old-page layout before number was.address was.at aged) in
    let same : was.address ≡ address = same_Some was.address address (sym stays ∙ at) in
    let at_before : before number ≡ Some address = was.at ∙ ap Some same in
    let lies = page-lies layout old.bay before world.graph number address shown.bays shown.lying at_before page in
    let own = cell-own layout old.bay object u other shown.bays lies inside in
    let used_before : IsUsedCell (old.bay u).pages own_class other =
    subst (λ t. IsUsedCell (old.bay t).pages own_class other) own.0
    (subst (IsUsedCell (old.bay (home_of object.maker)).pages own_class) own.1 lies.cell.used) in
    let still = traced.under_way.cells_stay u own_class other there used_before in
    let one : own_class ≡ class =
    same_class (class_at (new.bay u).pages (other / 1024)) own_class class still.cell.page used.cell.page in
    subst (λ each. IsUsedCell (old.bay u).pages each other) one used_before

-- the words and bays of a memory, in the types and the layout of the one before
abbrev as_before : Memory → Memory → Memory
as_before old new = record { types = old.types; layout = old.layout; word = new.word; bay = new.bay }

-- so each used cell is left to be looked at
cell-left : {old new : Memory} {before after : Placement} {world : World} {done : Done} {marks : Marks} {waiting : ℕ → ℕ → Type 0}
    → IsTracedFull old new before after world done marks waiting → (u other : ℕ) → u < old.layout.mutators
    → IsUsed (new.bay u).pages other
    → IsLeftCell old (as_before old new) (found_part old.layout before after marks) u other
cell-left {old} {new} {before} {after} {world} {done} {marks} {waiting} traced u other there used =
    let address = cell_address old.layout u other in
    let found = found_part old.layout before after marks in
    let held = cell-holds traced u other there used in
    let number = held.number in
    let page : IsInAPage old.layout address = record { mutator = u; inside = cell-pages traced u other there used } in
    let bit : (head_of (new.word address)).marked ≡ marks number = traced.marked.bits number address held.at in
    record {
      ty = (object_at world.graph number).ty;
      header = (traced.under_way.standing.kept number address held.at).header;
      kept = (
        λ is. record {
          number = number;
          at = marked-found old.layout before after marks number address held.at (sym bit ∙ is);
        },
        λ (holds : HoldsPlaced found address).
            let from = found-from old.layout before after marks holds.number address holds.at in
            let one : holds.number ≡ number =
            one_number after world.graph holds.number number address traced.under_way.apart from.1 held.at in
            bit ∙ ap marks (sym one) ∙ page-marked traced holds.number address holds.at page,
      );
      was = λ class isnt cell. cell-was traced number u class other there held.at (sym bit ∙ isnt) cell;
    }

-- ---- the lists and the bits

-- what is on a list is marked
listed-marked : {old new : Memory} {before after : Placement} {world : World} {done : Done} {marks : Marks} {waiting : ℕ → ℕ → Type 0}
    → IsTracedFull old new before after world done marks waiting → (number address : ℕ) → after number ≡ Some address
    → IsOnAList old.layout.mutators new.bay address → marks number ≡ true
listed-marked traced number address at on =
    sym (traced.marked.bits number address at) ∙ (traced.under_way.bits.marked number address at).1 on

-- what is found in a page is on a list
found-listed : {old new : Memory} {before after : Placement} {world : World} {done : Done} {marks : Marks} {waiting : ℕ → ℕ → Type 0}
    → IsTracedFull old new before after world done marks waiting → (number address : ℕ)
    → found_part old.layout before after marks number ≡ Some address → IsInAPage old.layout address
    → IsOnAList old.layout.mutators new.bay address
found-listed {old} {new} {before} {after} {world} {done} {marks} {waiting} traced number address at page =
    let from = found-from old.layout before after marks number address at in
    (traced.under_way.bits.marked number address from.1).0
    (traced.marked.bits number address from.1 ∙ page-marked traced number address at page)

-- the lists have found objects
found-lists : {old new : Memory} {before after : Placement} {world : World} {done : Done} {marks : Marks} {waiting : ℕ → ℕ → Type 0}
    → IsTracedFull old new before after world done marks waiting
    → AreLists old.layout old.layout.mutators new.bay (found_part old.layout before after marks)
found-lists {old} {new} {before} {after} {world} {done} {marks} {waiting} traced =
    let lists = traced.under_way.lists in
    record {
      placed = λ address on.
          let held = lists.placed address on in
          record {
            number = held.number;
            at = marked-found old.layout before after marks held.number address held.at
                (listed-marked traced held.number address held.at on);
          };
      old = lists.old;
      once = lists.once;
    }

-- a found object has the bit remembered exactly where it is on a list
found-remembered : {old new : Memory} {before after : Placement} {world : World} {done : Done} {marks : Marks}
    {waiting : ℕ → ℕ → Type 0} → IsTracedFull old new before after world done marks waiting → (number address : ℕ)
    → found_part old.layout before after marks number ≡ Some address
    → ((head_of (new.word address)).remembered ≡ true) ↔ IsOnAList old.layout.mutators new.bay address
found-remembered {old} {new} {before} {after} {world} {done} {marks} {waiting} traced number address at =
    let from = found-from old.layout before after marks number address at in
    let bits = traced.under_way.bits in (
      λ is. elim (page-or_not old.layout address) as (λ _. IsOnAList old.layout.mutators new.bay address) [
        | inl page ↦ found-listed traced number address at page
        | inr half ↦
            absurd (both_ways (head_of (new.word address)).remembered (bits.young number address from.1 half) is)
      ],
      λ on. bits.remembered number address from.1 ((bits.marked number address from.1).1 on),
    )

-- none in a half is marked
half-unmarked : {old new : Memory} {before after : Placement} {world : World} {done : Done} {marks : Marks} {waiting : ℕ → ℕ → Type 0}
    → IsTracedFull old new before after world done marks waiting → (number address : ℕ) → after number ≡ Some address
    → ¬ IsInAPage old.layout address → (head_of (new.word address)).marked ≡ false
half-unmarked {old} {new} {before} {after} {world} {done} {marks} {waiting} traced number address at half =
    traced.marked.bits number address at
    ∙ false_from_ne_true (marks number) (λ is. half (traced.marked.in_page number address at is))

-- ---- the sums

-- an object that lay in a half is placed where it is kept
young-place : (young marked : Bool) (place : Option ℕ) → young ≡ true
    → (if is_some place && (young || marked) then place else None) ≡ place
young-place true marked None is = refl
young-place true marked (Some address) is = refl
young-place false marked place is = absurd (false≢true is)

-- what is told of the places of such objects alone is the same of the same places
kept-same : (P : Option ℕ → Bool) (young : Bool) (one other : Option ℕ) → (young ≡ true → one ≡ other)
    → young && P one ≡ young && P other
kept-same P true one other same = ap P (same refl)
kept-same P false one other same = refl

-- so it is with two tests
promoted-same : (P Q : Option ℕ → Bool) (young : Bool) (one other : Option ℕ) → (young ≡ true → one ≡ other)
    → (young && P one) && Q one ≡ (young && P other) && Q other
promoted-same P Q true one other same = ap (λ place. P place && Q place) (same refl)
promoted-same P Q false one other same = refl

-- the words that are used of a half, and those of the found that were promoted, are together those of the found that lay in
-- halves
found-sums : {old new : Memory} {before after : Placement} {world : World} {done : Done} {marks : Marks} {waiting : ℕ → ℕ → Type 0}
    → IsTracedFull old new before after world done marks waiting → (t : ℕ) → t < old.layout.mutators
    → (new.bay t).used + own_words_where (was_promoted old before (found_part old.layout before after marks)) world.graph t
    ≡ own_words_where (was_young_and_kept old before (found_part old.layout before after marks)) world.graph t
found-sums {old} {new} {before} {after} {world} {done} {marks} {waiting} traced t there =
    let layout = old.layout in
    let found = found_part layout before after marks in
    let graph = world.graph in
    let in_half : Option ℕ → Bool = λ place. option_map_or (λ address. not (is_in_page layout address)) place false in
    let same : (number : ℕ) → is_young layout before number ≡ true → found number ≡ after number =
    λ number. young-place (is_young layout before number) (marks number) (after number) in
    let kept = words-same (λ number. was_young_and_kept old before after number && is_home t (object_at graph number))
    (λ number. was_young_and_kept old before found number && is_home t (object_at graph number)) graph
    (λ number below. ap (λ (passes : Bool). passes && is_home t (object_at graph number))
    (kept-same is_some (is_young layout before number) (found number) (after number) (same number))) in
    let promoted = words-same (λ number. was_promoted old before after number && is_home t (object_at graph number))
    (λ number. was_promoted old before found number && is_home t (object_at graph number)) graph
    (λ number below. ap (λ (passes : Bool). passes && is_home t (object_at graph number))
    (promoted-same is_some (λ place. not (in_half place)) (is_young layout before number) (found number) (after number)
    (same number))) in
    omega (
      arith,
      minor-sums old new.bay before after graph t traced.under_way.keeps traced.under_way.copies there,
      kept,
      promoted,
    )

-- ---- the end

-- a memory of the same types and the same layout is swept as these words and bays in them
swept-in_place : (old new : Memory) (before after : Placement) (world : World) (t offset : ℕ) → new.types ≡ old.types
    → new.layout ≡ old.layout → IsSweeping old new.bay before after world (as_before old new) t offset
    → IsSweeping old new.bay before after world new t offset
swept-in_place old new before after world t offset types layout sweeping =
    subst (λ (each : List Shape).
    IsSweeping old new.bay before after world (record { types = each; layout = new.layout; word = new.word; bay = new.bay }) t offset)
    (sym types)
    (subst (λ (each : Layout).
    IsSweeping old new.bay before after world (record { types = old.types; layout = each; word = new.word; bay = new.bay }) t offset)
    (sym layout) sweeping)

-- each cell is left at first
all-left : (u other : ℕ) → IsLeft 0 0 u other
all-left u other = elim (cases_lt 0 u) as (λ _. IsLeft 0 0 u other) [
  | inl behind ↦ inl behind
  | inr first ↦ inr (omega (arith, first), omega arith)
]

-- what lay in a page is found where it was, or not at all
stays-or_goes : (layout : Layout) (before after : Placement) (marks : Marks) → KeepsPlaced layout before after
    → StaysOrGoes layout before (found_part layout before after marks)
stays-or_goes layout before after marks keeps number address at page =
    let Stays : Option ℕ → Type 0 = λ there. IfSome there (λ place. place ≡ address) in
    elim (cases_Bool (is_found layout before after marks number)) as (λ _. Stays (found_part layout before after marks number)) [
      | inl is ↦
          subst Stays (sym (found-at layout before after marks number is ∙ keeps.old number address at page)) refl
      | inr isnt ↦
          subst Stays (sym (cond-false (is_found layout before after marks number) (after number) None isnt)) tt
    ]

-- the memory shows the world by where the found objects are, but for the cells that are to be swept
pub full-traced : {old new : Memory} {before after : Placement} {world : World} {done : Done} {marks : Marks} {waiting : ℕ → ℕ → Type 0}
    → IsTracedFull old new before after world done marks waiting
    → IsSweeping old new.bay before (found_part old.layout before after marks) world new 0 0
full-traced {old} {new} {before} {after} {world} {done} {marks} {waiting} traced =
    let layout = old.layout in
    let found = found_part layout before after marks in
    let shown = traced.rest.shown in
    let under = traced.under_way in
    let kept : (number address : ℕ) → found number ≡ Some address → after number ≡ Some address =
    λ number address at. (found-from layout before after marks number address at).1 in
    let word_of : (number a : ℕ) → IsWordOf found world.graph number a → IsWordOf after world.graph number a =
    λ number a word. record { address = word.address; at = kept number word.address word.at; from = word.from; to = word.to } in
    swept-in_place old new before found world 0 0 traced.types traced.layout (record {
      are_types = shown.are_types;
      layout = refl;
      bays = under.bays;
      mutators = shown.mutators;
      standing = found-standing traced;
      old_in_pages = λ number address at. under.old_in_pages number address (kept number address at);
      lying = record {
        there = λ number address at. under.lying.there number address (kept number address at);
        home = λ number address at. under.lying.home number address (kept number address at);
        lying = λ number address at. under.lying.lying number address (kept number address at);
      };
      common = found-common traced;
      apart = λ a i j one other. under.apart a i j (word_of i a one) (word_of j a other);
      registers = found-registers traced;
      covers = found-covers traced;
      left = λ u other there used left. cell-left traced u other there used;
      swept = λ u other there used passed. absurd (passed (all-left u other));
      young = λ number address at half. half-unmarked traced number address (kept number address at) half;
      lists = found-lists traced;
      remembered = found-remembered traced;
      listed = found-listed traced;
      no_grey = traced.no_grey;
      freed = λ u class other there free. inl free;
      pages = λ u there. refl;
      traced_pages = λ u there. (under.bays.each u there).pages;
      flipped = under.flipped;
      only = λ number placed. under.keeps.only number (record { address = placed.address; at = kept number placed.address placed.at });
      stays = stays-or_goes layout before after marks under.keeps;
      reached = λ number. (
        λ placed. sym (found-reachable traced number)
            ∙ (found-from layout before after marks number placed.address placed.at).0,
        λ reachable. found-placed layout before after marks number (found-reachable traced number ∙ reachable),
      );
      sums = found-sums traced;
      promoted = record {
        seen = λ number address copy at half moved page. under.promoted.seen number address copy at half (kept number copy moved) page;
        no_cell = λ number address copy at half moved stays seen.
            under.promoted.no_cell number address copy at half (kept number copy moved) stays seen;
        survived = λ number copy moved half. under.promoted.survived number copy (kept number copy moved) half;
      };
    })
