-- What the steps of a full collection under way leave of its marks, and of what waits for one.
use Rattle.std.proofs.Common.{◌≡◌, ◌≢◌, ◌∙◌, ◌↔◌, inl, inr, ℕ, ◌+◌, ◌<◌, ◌&&◌, ◌||◌, ◌==◌, Bool, true, false, length, Option, None, Some, refl, ap, sym, subst, arith, is_some, nat_lt, if◌then◌else◌}
use Rattle.std.proofs.lemmas.Bool.{and_from, and_left, cases_eq, cases_lt, eq-eqb, false≢true, ne_eqb, or_from, or_left, or_parts, or_right}
use Rattle.std.proofs.lemmas.List.{get_or_past}
use Rattle.std.proofs.lemmas.Option.{none-some, same_Some}
use Rattle.gc_bay.specs.Bay.{Bay, Tally}
use Rattle.gc_layout.specs.declared.head.Head.{Head}
use Rattle.gc_layout.specs.Head.{head_word}
use Rattle.gc_layout.specs.Places.{Layout, cell_address}
use Rattle.gc_model.specs.Graph.{Graph, object_at, object_size}
use Rattle.gc_model.specs.Reach.{is_reachable}
use Rattle.gc_model.specs.World.{World, named_by, slot_at}
use Rattle.gc_model.specs.declared.entry.RunKind.{RunKind}
use Rattle.gc_placement.specs.Changes.{ChangesBay}
use Rattle.gc_placement.specs.Extents.{IsInAPage, home_of}
use Rattle.gc_placement.specs.Headers.{head_of}
use Rattle.gc_placement.specs.Holders.{Done, IsGrey, with_register_done, with_slot_done}
use Rattle.gc_placement.specs.Marks.{AreMarked, CountsFound, IsNameFound, Marks, WaitsForMark, is_found, with_mark}
use Rattle.gc_placement.specs.Memory.{Memory}
use Rattle.gc_placement.specs.Placement.{Placement, with_place}
use Rattle.gc_placement.specs.Rest.{IsAtRest}
use Rattle.gc_placement.specs.Sums.{is_young}
use Rattle.gc_placement.specs.UnderWay.{IsCollectionUnderWay}
use Rattle.gc_placement.proofs.Bays.{each-changed}
use Rattle.gc_placement.proofs.ByKind.{marked-by_kind}
use Rattle.gc_placement.proofs.Copied.{IsCopied}
use Rattle.gc_placement.proofs.Copy.{IsWritten, copies-apart, head_of-written}
use Rattle.gc_placement.proofs.CopyLists.{is_grey-from, may_grow-grey}
use Rattle.gc_placement.proofs.CopyWords.{copy-unplaced, kept-headers}
use Rattle.gc_placement.proofs.FullSums.{counts-one_more, counts-same}
use Rattle.gc_placement.proofs.Marking.{MarksObject, stored-marked, unmarked-old, unmarked-unfound}
use Rattle.gc_placement.proofs.MinorEnd.{common-in_page}
use Rattle.gc_placement.proofs.MinorSlots.{slot_done-other}
use Rattle.gc_placement.proofs.MinorSteps.{one_number, register_done-other}
use Rattle.gc_placement.proofs.Placement.{with_place-from, with_place-other, with_place-same}

-- the marks where an object is copied: it has one where it is promoted
abbrev pub marks_with : Marks → Bool → ℕ → Marks
marks_with marks promoted number = λ each. if each == number then promoted else marks each

-- ---- registers and grey lists of bays change

-- a tally that is as before counts what it counted
counts-kept : (was own : Bay) (has : ℕ → Bool) (graph : Graph) (t : ℕ) → own.tally ≡ was.tally → CountsFound was has graph t
    → CountsFound own has graph t
counts-kept was own has graph t same counts = record {
  objects = ap (λ (tally : Tally). tally.objects) same ∙ counts.objects;
  words = ap (λ (tally : Tally). tally.words) same ∙ counts.words;
}

-- the tallies are as before, and what is grey was grey
pub marks-grey_taken : (layout : Layout) (before : Placement) (world : World) (word : ℕ → ℕ) (bay new : ℕ → Bay) (after : Placement)
    (done : Done) (marks : Marks) → AreMarked layout before world word bay after done marks
    → ((u : ℕ) → u < layout.mutators → (new u).tally ≡ (bay u).tally)
    → ((a : ℕ) → IsGrey layout.mutators new a → IsGrey layout.mutators bay a)
    → AreMarked layout before world word new after done marks
marks-grey_taken layout before world word bay new after done marks are same was = record {
  bits = are.bits;
  in_page = are.in_page;
  promoted = are.promoted;
  reached = are.reached;
  common = are.common;
  registers = are.registers;
  slots = are.slots;
  grey = λ number address at grey. are.grey number address at (was address grey);
  tallies = λ t there.
      counts-kept (bay t) (new t) (is_found layout before after marks) world.graph t (same t there) (are.tallies t there);
}

-- and one more register is done, whose name is kept
pub marks-register : (layout : Layout) (before : Placement) (world : World) (word : ℕ → ℕ) (bay new : ℕ → Bay) (after : Placement)
    (done : Done) (marks : Marks) (t reg : ℕ) → AreMarked layout before world word bay after done marks
    → ((u : ℕ) → u < layout.mutators → (new u).tally ≡ (bay u).tally)
    → ((a : ℕ) → IsGrey layout.mutators new a → IsGrey layout.mutators bay a)
    → IsNameFound layout before after marks (named_by world t reg)
    → AreMarked layout before world word new after (with_register_done done t reg) marks
marks-register layout before world word bay new after done marks t reg are same was named =
    let kept = marks-grey_taken layout before world word bay new after done marks are same was in
    record {
      bits = kept.bits;
      in_page = kept.in_page;
      promoted = kept.promoted;
      reached = kept.reached;
      common = kept.common;
      registers = λ u other is. elim (cases_eq u t) [
        | inl same_mutator ↦ elim (cases_eq other reg) [
          | inl same_register ↦ rw (same_mutator, same_register) named
          | inr differs ↦
              kept.registers u other (sym (register_done-other done t reg u other (λ whose. differs)) ∙ is)
        ]
        | inr elsewhere ↦
            kept.registers u other (sym (register_done-other done t reg u other (λ whose. absurd (elsewhere whose))) ∙ is)
      ];
      slots = kept.slots;
      grey = kept.grey;
      tallies = kept.tallies;
    }

-- ---- a slot changes

-- no header of a placed object changes, and one more slot is done, whose name is kept
pub marks-slot : (layout : Layout) (before : Placement) (world : World) (word other : ℕ → ℕ) (bay : ℕ → Bay) (after : Placement)
    (done : Done) (marks : Marks) (number place : ℕ) → AreMarked layout before world word bay after done marks
    → ((each a : ℕ) → after each ≡ Some a → other a ≡ word a) → IsNameFound layout before after marks (slot_at world number place)
    → AreMarked layout before world other bay after (with_slot_done done number place) marks
marks-slot layout before world word other bay after done marks number place are headers named = record {
  bits = λ each a at. ap (λ (w : ℕ). (head_of w).marked) (headers each a at) ∙ are.bits each a at;
  in_page = are.in_page;
  promoted = are.promoted;
  reached = are.reached;
  common = are.common;
  registers = are.registers;
  slots = λ each at found is. elim (cases_eq each number) [
    | inl same_object ↦ elim (cases_eq at place) [
      | inl same ↦ rw (same_object, same) named
      | inr differs ↦
          are.slots each at found (sym (slot_done-other done number place each at (λ whose. differs)) ∙ is)
    ]
    | inr elsewhere ↦
        are.slots each at found (sym (slot_done-other done number place each at (λ whose. absurd (elsewhere whose))) ∙ is)
  ];
  grey = are.grey;
  tallies = are.tallies;
}

-- ---- the common object

-- it is marked, and that is done
pub marks-common : (layout : Layout) (before : Placement) (world : World) (word : ℕ → ℕ) (bay : ℕ → Bay) (after : Placement)
    (done : Done) (marks : Marks) → AreMarked layout before world word bay after done marks → marks 0 ≡ true
    → AreMarked layout before world word bay after (record done { common = true }) marks
marks-common layout before world word bay after done marks are marked = record {
  bits = are.bits;
  in_page = are.in_page;
  promoted = are.promoted;
  reached = are.reached;
  common = λ is. marked;
  registers = are.registers;
  slots = are.slots;
  grey = are.grey;
  tallies = are.tallies;
}

-- ---- what is kept, with one more object

-- what is named is kept where more is
name_found-more : (layout : Layout) (before after later : Placement) (marks more : Marks) (name : Option ℕ)
    → ((each : ℕ) → is_found layout before after marks each ≡ true → is_found layout before later more each ≡ true)
    → IsNameFound layout before after marks name → IsNameFound layout before later more name
name_found-more layout before after later marks more None keeps is = tt
name_found-more layout before after later marks more (Some each) keeps is = keeps each is

-- the tallies count one more object where its home's does
counts-added : (mutators : ℕ) (bay new : ℕ → Bay) (has now : ℕ → Bool) (graph : Graph) (number : ℕ) (own : Bay)
    → ((t : ℕ) → t < mutators → CountsFound (bay t) has graph t) → ChangesBay bay new (home_of (object_at graph number).maker) own
    → number < length graph → has number ≡ false → now number ≡ true → ((each : ℕ) → each ≢ number → now each ≡ has each)
    → own.tally.objects ≡ (bay (home_of (object_at graph number).maker)).tally.objects + 1
    → own.tally.words ≡ (bay (home_of (object_at graph number).maker)).tally.words + object_size (object_at graph number) → (t : ℕ)
    → t < mutators → CountsFound (new t) now graph t
counts-added mutators bay new has now graph number own counts changes there before after elsewhere objects words =
    let home : ℕ → ℕ = λ each. home_of (object_at graph each).maker in
    let t = home number in
    each-changed (λ u each. u < mutators → CountsFound each now graph u) bay new t own changes
    (λ below.
    counts-one_more (bay t) own has now graph t number (counts t below) there refl before after elsewhere objects words)
    (λ u differs below.
    counts-same (bay u) (bay u) has now graph u (counts u below)
    (λ each inside lies. elsewhere each (λ same. differs (sym lies ∙ ap home same))) refl)

-- ---- an object is marked

-- it is kept
found-here : (layout : Layout) (before after : Placement) (marks : Marks) (number address : ℕ) → after number ≡ Some address
    → is_found layout before after (with_mark marks number) number ≡ true
found-here layout before after marks number address at =
    and_from (is_some (after number)) (is_young layout before number || with_mark marks number number) (ap is_some at)
    (or_right (is_young layout before number) (with_mark marks number number)
    (or_left (number == number) (marks number) (eq-eqb number number refl)))

-- another is kept as it was
found-other : (layout : Layout) (before after : Placement) (marks : Marks) (number each : ℕ) → each ≢ number
    → is_found layout before after (with_mark marks number) each ≡ is_found layout before after marks each
found-other layout before after marks number each differs =
    ap (λ (same : Bool). is_some (after each) && (is_young layout before each || (same || marks each))) (ne_eqb each number differs)

-- so all that is kept stays so
found-marked : (layout : Layout) (before after : Placement) (marks : Marks) (number address : ℕ) → after number ≡ Some address
    → (each : ℕ) → is_found layout before after marks each ≡ true → is_found layout before after (with_mark marks number) each ≡ true
found-marked layout before after marks number address at each is = elim (cases_eq each number) [
  | inl same ↦
      ap (is_found layout before after (with_mark marks number)) same ∙ found-here layout before after marks number address at
  | inr differs ↦ found-other layout before after marks number each differs ∙ is
]

-- the marks are those with the object's, which is reachable, and whose slots waited
pub marks-marked : {old : Memory} {before : Placement} {world : World} {word other : ℕ → ℕ} {bay new : ℕ → Bay} {after : Placement}
    {done : Done} {waiting : ℕ → ℕ → Type 0} {marks : Marks} {number address : ℕ} {own : Bay} → IsAtRest old before world
    → IsCollectionUnderWay RunKind.Full old before world word bay after done waiting
    → AreMarked old.layout before world word bay after done marks
    → MarksObject old world word other bay new after number address own → ((place : ℕ) → waiting number place)
    → is_reachable world number ≡ true → AreMarked old.layout before world other new after done (with_mark marks number)
marks-marked {old} {before} {world} {word} {other} {bay} {new} {after} {done} {waiting} {marks} {number} {address} {own} rest under are
    marked waits reachable =
    let graph = world.graph in
    let layout = old.layout in
    let mutators = layout.mutators in
    let t = home_of (object_at graph number).maker in
    let slots = (object_at graph number).slots in
    let more = with_mark marks number in
    let there : t < mutators = under.lying.home number address marked.at in
    let has : more number ≡ true = or_left (number == number) (marks number) (eq-eqb number number refl) in
    let keeps = found-marked layout before after marks number address marked.at in
    let grey = may_grow-grey mutators bay new t own (nat_lt 0 (length slots)) address there marked.changed
    (ap (λ (each : Bay). each.grey) marked.own_is) in
    record {
      bits = λ each a at. elim (cases_eq each number) as (λ _. (head_of (other a)).marked ≡ more each) [
        | inl same ↦
            let here : a ≡ address = same_Some a address (sym at ∙ ap after same ∙ marked.at) in
            ap (λ b. (head_of (other b)).marked) here
            ∙ ap (λ (head : Head). head.marked) (stored-marked word other address marked.stores)
            ∙ sym (ap more same ∙ has)
        | inr differs ↦
            ap (λ (w : ℕ). (head_of w).marked)
            (marked.stores.elsewhere a
            (λ meet. differs (one_number after graph each number address under.apart (at ∙ ap Some meet) marked.at)))
            ∙ are.bits each a at
            ∙ sym (ap (λ (same : Bool). same || marks each) (ne_eqb each number differs))
      ];
      in_page = λ each a at is. elim (cases_eq each number) as (λ _. IsInAPage layout a) [
        | inl same ↦
            subst (IsInAPage layout) (same_Some address a (sym marked.at ∙ ap after (sym same) ∙ at)) marked.page
        | inr differs ↦
            are.in_page each a at (sym (ap (λ (same : Bool). same || marks each) (ne_eqb each number differs)) ∙ is)
      ];
      promoted = λ each a at young page. or_right (each == number) (marks each) (are.promoted each a at young page);
      reached = λ each is. elim (cases_eq each number) as (λ _. is_reachable world each ≡ true) [
        | inl same ↦ ap (is_reachable world) same ∙ reachable
        | inr differs ↦ are.reached each (sym (found-other layout before after marks number each differs) ∙ is)
      ];
      common = λ is. or_right (0 == number) (marks 0) (are.common is);
      registers = λ u reg is.
          name_found-more layout before after after marks more (named_by world u reg) keeps (are.registers u reg is);
      slots = λ each place is is_done.
          elim (cases_eq each number) as (λ _. IsNameFound layout before after more (slot_at world each place)) [
            | inl same ↦ elim (cases_lt place (length slots)) [
              | inl below ↦
                  absurd (false≢true (sym ((under.grey_or_waiting number address place marked.at below).1 (inr (waits place)))
                  ∙ ap (λ n. done.slots n place) (sym same)
                  ∙ is_done))
              | inr past ↦
                  subst (IsNameFound layout before after more)
                  (sym (ap (λ n. slot_at world n place) same ∙ get_or_past slots place None past)) tt
            ]
            | inr differs ↦
                name_found-more layout before after after marks more (slot_at world each place) keeps
                (are.slots each place (sym (found-other layout before after marks number each differs) ∙ is) is_done)
          ];
      grey = λ each a at is. elim (is_grey-from mutators bay new t (nat_lt 0 (length slots)) address a grey is) [
        | inl was ↦ keeps each (are.grey each a at was)
        | inr added ↦
            let same : each ≡ number =
            one_number after graph each number address under.apart (at ∙ ap Some added) marked.at in
            ap (is_found layout before after more) same ∙ found-here layout before after marks number address marked.at
      ];
      tallies = counts-added mutators bay new (is_found layout before after marks) (is_found layout before after more) graph number own
          are.tallies marked.changed (under.lying.there number address marked.at)
          (unmarked-unfound layout before world word bay after done marks number address are marked.at marked.page marked.unmarked)
          (found-here layout before after marks number address marked.at)
          (λ each differs. found-other layout before after marks number each differs)
          (ap (λ (each : Bay). each.tally.objects) marked.own_is) (ap (λ (each : Bay). each.tally.words) marked.own_is);
    }

-- ---- an object is copied

-- it has its mark where it is promoted
marks_with-here : (marks : Marks) (promoted : Bool) (number : ℕ) → marks_with marks promoted number number ≡ promoted
marks_with-here marks promoted number =
    ap (λ (same : Bool). if same then promoted else marks number) (eq-eqb number number refl)

-- another has the mark that it had
marks_with-other : (marks : Marks) (promoted : Bool) (number each : ℕ) → each ≢ number
    → marks_with marks promoted number each ≡ marks each
marks_with-other marks promoted number each differs =
    ap (λ (same : Bool). if same then promoted else marks each) (ne_eqb each number differs)

-- the object wasn't kept
copy-unfound : (layout : Layout) (before after : Placement) (marks : Marks) (number : ℕ) → after number ≡ None
    → is_found layout before after marks number ≡ false
copy-unfound layout before after marks number unkept =
    and_left (is_some (after number)) (is_young layout before number || marks number) (ap is_some unkept)

-- it is kept now, as it lay in a half
copy-found : (layout : Layout) (before after : Placement) (more : Marks) (number copy : ℕ) → is_young layout before number ≡ true
    → is_found layout before (with_place after number copy) more number ≡ true
copy-found layout before after more number copy young =
    and_from (is_some (with_place after number copy number)) (is_young layout before number || more number)
    (ap is_some (with_place-same after number copy)) (or_left (is_young layout before number) (more number) young)

-- another is kept as it was
found-uncopied : (layout : Layout) (before after : Placement) (marks : Marks) (promoted : Bool) (number copy each : ℕ)
    → each ≢ number
    → is_found layout before (with_place after number copy) (marks_with marks promoted number) each
    ≡ is_found layout before after marks each
found-uncopied layout before after marks promoted number copy each differs =
    ap (λ (place : Option ℕ). is_some place && (is_young layout before each || marks_with marks promoted number each))
    (with_place-other after number copy each differs)
    ∙ ap (λ (marked : Bool). is_some (after each) && (is_young layout before each || marked))
    (marks_with-other marks promoted number each differs)

-- so all that is kept stays so
found-copied : (layout : Layout) (before after : Placement) (marks : Marks) (promoted : Bool) (number copy : ℕ)
    → is_young layout before number ≡ true → (each : ℕ) → is_found layout before after marks each ≡ true
    → is_found layout before (with_place after number copy) (marks_with marks promoted number) each ≡ true
found-copied layout before after marks promoted number copy young each is = elim (cases_eq each number) [
  | inl same ↦
      ap (is_found layout before (with_place after number copy) (marks_with marks promoted number)) same
      ∙ copy-found layout before after (marks_with marks promoted number) number copy young
  | inr differs ↦ found-uncopied layout before after marks promoted number copy each differs ∙ is
]

-- the marks are those with the object's where it is promoted, which is reachable
pub marks-copied : {old : Memory} {before : Placement} {world : World} {word other : ℕ → ℕ} {bay new : ℕ → Bay} {after : Placement}
    {done : Done} {waiting : ℕ → ℕ → Type 0} {marks : Marks} {number address copy size : ℕ} {own : Bay} {head : Head}
    {promoted : Bool} → IsAtRest old before world
    → IsCollectionUnderWay RunKind.Full old before world word bay after done waiting
    → AreMarked old.layout before world word bay after done marks
    → IsCopied old before world bay new after number address copy size own
    → IsWritten RunKind.Full old world word other bay number address copy size own head promoted
    → own.tally.objects ≡ (bay (home_of (object_at world.graph number).maker)).tally.objects + 1
    → own.tally.words ≡ (bay (home_of (object_at world.graph number).maker)).tally.words + size
    → is_reachable world number ≡ true
    → AreMarked old.layout before world other new (with_place after number copy) done (marks_with marks promoted number)
marks-copied {old} {before} {world} {word} {other} {bay} {new} {after} {done} {waiting} {marks} {number} {address} {copy} {size} {own}
    {head} {promoted} rest under are copied written objects words reachable =
    let graph = world.graph in
    let layout = old.layout in
    let mutators = layout.mutators in
    let t = home_of (object_at graph number).maker in
    let slots = length (object_at graph number).slots in
    let later = with_place after number copy in
    let more = marks_with marks promoted number in
    let header = head_word head in
    let there : t < mutators = rest.shown.lying.home number address copied.at in
    let apart = copies-apart rest copied under.bays under.flipped under.lying under.keeps in
    let unplaced = copy-unplaced before after graph address copy size apart (omega (arith, copied.size_is)) in
    let headers = kept-headers word other before after graph address copy size header written.copies apart in
    let read : head_of (other copy) ≡ head = ap head_of written.copies.header_is ∙ head_of-written written in
    let marked : (head_of (other copy)).marked ≡ promoted =
    ap (λ (each : Head). each.marked) read ∙ written.marked_is ∙ marked-by_kind promoted in
    let here : more number ≡ promoted = marks_with-here marks promoted number in
    let elsewhere : (each : ℕ) → each ≢ number → more each ≡ marks each = λ each. marks_with-other marks promoted number each in
    let found : is_found layout before later more number ≡ true =
    copy-found layout before after more number copy copied.young in
    let keeps = found-copied layout before after marks promoted number copy copied.young in
    let grey = may_grow-grey mutators bay new t own (nat_lt 0 slots) copy there copied.changed written.grey in
    record {
      bits = λ each a at.
          elim (with_place-from after number copy each a at) as (λ _. (head_of (other a)).marked ≡ more each) [
            | inl is ↦ ap (λ b. (head_of (other b)).marked) is.1 ∙ marked ∙ sym (ap more is.0 ∙ here)
            | inr is ↦
                ap (λ (w : ℕ). (head_of w).marked) (headers each a is.1) ∙ are.bits each a is.1 ∙ sym (elsewhere each is.0)
          ];
      in_page = λ each a at has. elim (with_place-from after number copy each a at) as (λ _. IsInAPage layout a) [
        | inl is ↦
            subst (IsInAPage layout) (sym is.1) (written.page.0 (sym here ∙ ap more (sym is.0) ∙ has))
        | inr is ↦ are.in_page each a is.1 (sym (elsewhere each is.0) ∙ has)
      ];
      promoted = λ each a at young page. elim (with_place-from after number copy each a at) as (λ _. more each ≡ true) [
        | inl is ↦ ap more is.0 ∙ here ∙ written.page.1 (subst (IsInAPage layout) is.1 page)
        | inr is ↦ elsewhere each is.0 ∙ are.promoted each a is.1 young page
      ];
      reached = λ each is. elim (cases_eq each number) as (λ _. is_reachable world each ≡ true) [
        | inl same ↦ ap (is_reachable world) same ∙ reachable
        | inr differs ↦
            are.reached each (sym (found-uncopied layout before after marks promoted number copy each differs) ∙ is)
      ];
      common = λ is.
          let first = cell_address layout 0 0 in
          let placed : after 0 ≡ Some first =
          under.keeps.old 0 first rest.shown.common (common-in_page layout old.bay rest.shown.bays) in
          elsewhere 0 (λ same. none-some first (sym copied.unkept ∙ ap after (sym same) ∙ placed)) ∙ are.common is;
      registers = λ u reg is.
          name_found-more layout before after later marks more (named_by world u reg) keeps (are.registers u reg is);
      slots = λ each place is is_done.
          elim (cases_eq each number) as (λ _. IsNameFound layout before later more (slot_at world each place)) [
            | inl same ↦
                absurd (false≢true (sym (under.only_kept number place copied.unkept)
                ∙ ap (λ n. done.slots n place) (sym same)
                ∙ is_done))
            | inr differs ↦
                name_found-more layout before after later marks more (slot_at world each place) keeps
                (are.slots each place (sym (found-uncopied layout before after marks promoted number copy each differs) ∙ is) is_done)
          ];
      grey = λ each a at is.
          elim (with_place-from after number copy each a at) as (λ _. is_found layout before later more each ≡ true) [
            | inl now ↦ ap (is_found layout before later more) now.0 ∙ found
            | inr was ↦ elim (is_grey-from mutators bay new t (nat_lt 0 slots) copy a grey is) [
              | inl before_it ↦ keeps each (are.grey each a was.1 before_it)
              | inr added ↦ absurd (unplaced each (was.1 ∙ ap Some added))
            ]
          ];
      tallies = counts-added mutators bay new (is_found layout before after marks) (is_found layout before later more) graph number own
          are.tallies copied.changed (rest.shown.lying.there number address copied.at)
          (copy-unfound layout before after marks number copied.unkept) found
          (λ each differs. found-uncopied layout before after marks promoted number copy each differs) objects
          (words ∙ ap (λ (n : ℕ). (bay t).tally.words + n) copied.size_is);
    }

-- ---- what waits for its mark

-- another object has the mark as it had it
with_mark-other : (marks : Marks) (number each : ℕ) → each ≢ number → (marks each ≡ false) ↔ (with_mark marks number each ≡ false)
with_mark-other marks number each differs = (
  λ is. or_from (each == number) (marks each) (ne_eqb each number differs) is,
  λ is. (or_parts (each == number) (marks each) is).1,
)

-- so where an object is marked, each other one waits as it did
pub waits-marked : (layout : Layout) (before : Placement) (marks : Marks) (number each : ℕ) → each ≢ number
    → WaitsForMark RunKind.Full layout before marks each ↔ WaitsForMark RunKind.Full layout before (with_mark marks number) each
waits-marked layout before marks number each differs =
    let same = with_mark-other marks number each differs in
    (λ waits. (waits.0, same.0 waits.1), λ waits. (waits.0, same.1 waits.1))

-- and where one that lay in a half is copied, all wait that did
pub waits-copied : (kind : RunKind) (layout : Layout) (before : Placement) (marks : Marks) (promoted : Bool) (number each : ℕ)
    → is_young layout before number ≡ true
    → WaitsForMark kind layout before marks each ↔ WaitsForMark kind layout before (marks_with marks promoted number) each
waits-copied RunKind.Minor layout before marks promoted number each young = (λ waits. waits, λ waits. waits)
waits-copied RunKind.Full layout before marks promoted number each young =
    let same : is_young layout before each ≡ false → marks_with marks promoted number each ≡ marks each =
    λ aged. marks_with-other marks promoted number each
    (λ is. false≢true (sym aged ∙ ap (is_young layout before) is ∙ young)) in
    (λ waits. (waits.0, same waits.0 ∙ waits.1), λ waits. (waits.0, sym (same waits.0) ∙ waits.1))

-- an object in a page that isn't marked has no mark and lay in no half: it waits
pub unmarked-waits : {old : Memory} {before : Placement} {world : World} {word : ℕ → ℕ} {bay : ℕ → Bay} {after : Placement} {done : Done}
    {waiting : ℕ → ℕ → Type 0} {marks : Marks} {number address : ℕ}
    → IsCollectionUnderWay RunKind.Full old before world word bay after done waiting
    → AreMarked old.layout before world word bay after done marks → after number ≡ Some address → IsInAPage old.layout address
    → (head_of (word address)).marked ≡ false → (marks number ≡ false) × (is_young old.layout before number ≡ false)
unmarked-waits {old} {before} {world} {word} {bay} {after} {done} {waiting} {marks} {number} {address} under are placed page unmarked =
    unmarked-old old.layout before world word bay after done marks number address are placed page unmarked
