-- An object in a page is marked while a full collection is under way: its header, the lists that it is put on, and what is kept.
use Rattle.std.proofs.Common.{◌≡◌, ◌≢◌, ◌∙◌, ◌↔◌, inl, inr, ℕ, ◌+◌, ◌-◌, ◌<◌, ◌||◌, Bool, true, false, List, [], ◌∷◌, ◌++◌, length, Contains, Some, refl, ap, sym, subst, arith, slice_index, is_some, nat_lt, lt-ltb}
use Rattle.std.proofs.lemmas.Bool.{and_right, cases_eq, false_from_ne_true, false≢true, or_from}
use Rattle.std.proofs.lemmas.Option.{same_Some}
use Rattle.gc_bay.specs.Bay.{Bay, IsBay}
use Rattle.gc_bay.specs.Room.{grey_room, remembered_room}
use Rattle.gc_gen2.specs.Cells.{IsUsedCell}
use Rattle.gc_layout.specs.declared.head.Head.{Head}
use Rattle.gc_layout.specs.Head.{head_word}
use Rattle.gc_layout.specs.Places.{Layout}
use Rattle.gc_layout.specs.Shape.{forwarding_address, slot_address}
use Rattle.gc_model.specs.Graph.{Graph, Object, object_at, object_size}
use Rattle.gc_model.specs.World.{World, named_by}
use Rattle.gc_model.specs.declared.entry.RunKind.{RunKind}
use Rattle.gc_placement.specs.Changes.{ChangesBay, HasSameExtents, Stores}
use Rattle.gc_placement.specs.Extents.{AreApart, AreOldInPages, IsInAPage, home_of}
use Rattle.gc_placement.specs.Headers.{IsHeader, head_of, marked_head}
use Rattle.gc_placement.specs.Holders.{AreGrey, Done, GreyOrWaiting, IsGrey, IsGreyAt}
use Rattle.gc_placement.specs.Marks.{AreMarked, Marks, is_found}
use Rattle.gc_placement.specs.Memory.{Memory}
use Rattle.gc_placement.specs.Moves.{HeadersStay, KeepsPlaced, SaysTheSame, StandMoving, by_done, name_before_or_after, not_kept}
use Rattle.gc_placement.specs.Objects.{AllStand, Naming, StandsAt, by_place}
use Rattle.gc_placement.specs.Placement.{IsWordOf, Placement}
use Rattle.gc_placement.specs.Promotion.{ArePromoted, PromotedAreRemembered}
use Rattle.gc_placement.specs.Remembered.{AreLists, IsOnAList}
use Rattle.gc_placement.specs.Rest.{IsAtRest}
use Rattle.gc_placement.specs.Shows.{nowhere}
use Rattle.gc_placement.specs.Sums.{is_young, young_words}
use Rattle.gc_placement.specs.UnderWay.{HaveMarkBits, IsCollectionUnderWay}
use Rattle.gc_placement.proofs.Barrier.{lists-added}
use Rattle.gc_placement.proofs.Bays.{are_bays-changed, each-changed}
use Rattle.gc_placement.proofs.CopyLists.{MayGrow, grey_of, grey_with, grey-stands, is_grey-from, is_grey-kept, may_grow-grey, may_grow-remembered, on_a_list-from, on_a_list-kept, once-grown, remembered_of, stands-added, stands-from, stands-grey, stands-listed}
use Rattle.gc_placement.proofs.CopyPromotion.{no_cell-changed, no_cell-same}
use Rattle.gc_placement.proofs.CopyWords.{IsHeader-copied}
use Rattle.gc_placement.proofs.Extents.{all_lie-bay, cells-bay}
use Rattle.gc_placement.proofs.Headers.{head_of-head_word}
use Rattle.gc_placement.proofs.MinorSlots.{AreLeftApart, moved-young}
use Rattle.gc_placement.proofs.MinorSteps.{one_number}
use Rattle.gc_placement.proofs.MovePlaces.{moves-apart, not_kept-from, not_kept-young}
use Rattle.gc_placement.proofs.Objects.{all_stand-outside, stands-frame}
use Rattle.gc_placement.proofs.Rooms.{absent-by_place, grey-room, list-room}

-- an object in a page that isn't marked gets its mark: its header has it and the bit remembered, its address is put on its home's
-- remembered list, and on its grey list where it has slots, and its home's tally counts it
pub record MarksObject (old : Memory) (world : World) (word other : ℕ → ℕ) (bay new : ℕ → Bay) (after : Placement) (number address : ℕ)
    (own : Bay) : Type 0 where
  pub at : after number ≡ Some address
  pub page : IsInAPage old.layout address
  pub unmarked : (head_of (word address)).marked ≡ false
  pub stores : Stores word other address (head_word (marked_head (word address)))
  pub changed : ChangesBay bay new (home_of (object_at world.graph number).maker) own
  pub is : IsBay own
  pub own_is : own ≡ record (bay (home_of (object_at world.graph number).maker)) {
    remembered = (bay (home_of (object_at world.graph number).maker)).remembered ++ address ∷ [];
    grey = grey_with (bay (home_of (object_at world.graph number).maker)).grey address (length (object_at world.graph number).slots);
    tally = record {
      objects = (bay (home_of (object_at world.graph number).maker)).tally.objects + 1;
      words = (bay (home_of (object_at world.graph number).maker)).tally.words + object_size (object_at world.graph number);
    };
  }

-- ---- its header

-- it is read back
pub head_of-marked : (word : ℕ) → head_of (head_word (marked_head word)) ≡ marked_head word
head_of-marked word = head_of-head_word (marked_head word) (omega arith)

-- it is one of the type that it was
pub IsHeader-marked : (word ty : ℕ) → IsHeader word ty → IsHeader (head_word (marked_head word)) ty
IsHeader-marked word ty is = IsHeader-copied word ty (marked_head word) is refl

-- and it says what it said
says-marked : (old word : ℕ) → SaysTheSame old word → SaysTheSame old (head_word (marked_head word))
says-marked old word says =
    let read = head_of-marked word in
    record {
      header = λ was. ap head_word read;
      type_is = ap (λ (head : Head). head.ty) read ∙ says.type_is;
      old_is = ap (λ (head : Head). head.old) read ∙ says.old_is;
      seen_is = ap (λ (head : Head). head.seen) read ∙ says.seen_is;
    }

-- where it is stored it is marked and remembered, and as old and as seen as it was
pub stored-marked : (word other : ℕ → ℕ) (address : ℕ) → Stores word other address (head_word (marked_head (word address)))
    → head_of (other address) ≡ marked_head (word address)
stored-marked word other address stores = ap head_of stores.here ∙ head_of-marked (word address)

-- each header of before says what it said
headers-marked : (old word other : ℕ → ℕ) (before : Placement) (address : ℕ) → HeadersStay old word before
    → Stores word other address (head_word (marked_head (word address))) → HeadersStay old other before
headers-marked old word other before address stay stores each a was =
    elim (cases_eq a address) as (λ _. SaysTheSame (old a) (other a)) [
      | inl same ↦
          let at : before each ≡ Some address = was ∙ ap Some same in
          subst (λ b. SaysTheSame (old b) (other b)) (sym same)
          (subst (SaysTheSame (old address)) (sym stores.here) (says-marked (old address) (word address) (stay each address at)))
      | inr differs ↦ subst (SaysTheSame (old a)) (sym (stores.elsewhere a differs)) (stay each a was)
    ]

-- each object is as old as it was
old_in_pages-marked : (word other : ℕ → ℕ) (layout : Layout) (after : Placement) (address : ℕ) → AreOldInPages word layout after
    → Stores word other address (head_word (marked_head (word address))) → AreOldInPages other layout after
old_in_pages-marked word other layout after address are stores each a at =
    let Right : ℕ → Bool → Type 0 = λ b is. (is ≡ true) ↔ IsInAPage layout b in
    elim (cases_eq a address) as (λ _. Right a (head_of (other a)).old) [
      | inl same ↦
          let read : (head_of (other address)).old ≡ (head_of (word address)).old =
          ap (λ (head : Head). head.old) (stored-marked word other address stores) in
          subst (λ b. Right b (head_of (other b)).old) (sym same)
          (subst (Right address) (sym read) (are each address (at ∙ ap Some same)))
      | inr differs ↦ subst (λ w. Right a (head_of w).old) (sym (stores.elsewhere a differs)) (are each a at)
    ]

-- ---- the objects

-- an object stands where another header of its type is stored
stands-header : (word other : ℕ → ℕ) (address value : ℕ) (naming : Naming) (number : ℕ) (object : Object)
    → StandsAt word address naming number object → Stores word other address value → IsHeader value object.ty
    → StandsAt other address naming number object
stands-header word other address value naming number object stands stores is = record {
  header = subst (λ (w : ℕ). IsHeader w object.ty) (sym stores.here) is;
  forwarding = stores.elsewhere (address + 1) (λ meet. omega (arith, meet)) ∙ stands.forwarding;
  slots = λ place below.
      stores.elsewhere (slot_address address place) (λ meet. omega (arith, meet)) ∙ stands.slots place below;
  numbers = λ place below.
      stores.elsewhere (address + 2 + length object.slots + place) (λ meet. omega (arith, meet)) ∙ stands.numbers place below;
}

-- so do all, where they are apart
pub all_stand-header : (word other : ℕ → ℕ) (placement : Placement) (naming : Naming) (graph : Graph) (number address value : ℕ)
    → AllStand word placement naming graph → AreApart placement graph → placement number ≡ Some address
    → Stores word other address value → IsHeader value (object_at graph number).ty → AllStand other placement naming graph
all_stand-header word other placement naming graph number address value standing apart placed stores is each a at =
    elim (cases_eq each number) as (λ _. StandsAt other a naming each (object_at graph each)) [
      | inl same ↦
          let here : a ≡ address = same_Some a address (sym at ∙ ap placement same ∙ placed) in
          rw (same, here)
          (stands-header word other address value naming number (object_at graph number) (standing number address placed) stores is)
      | inr differs ↦
          stands-frame word other a naming each (object_at graph each) (standing each a at)
          (λ w from to. stores.elsewhere w (λ meet. differs (apart w each number
          (record { address = a; at = at; from = from; to = to })
          (record { address = address; at = placed; from = omega (arith, meet); to = omega (arith, meet) }))))
    ]

-- a word of a young object at its place before stays where a header of an object that is kept is stored
left-header : (word other : ℕ → ℕ) (layout : Layout) (before after : Placement) (graph : Graph) (number address value : ℕ)
    → AreLeftApart layout before after graph → after number ≡ Some address → Stores word other address value → (each a : ℕ)
    → is_young layout before each ≡ true → IsWordOf before graph each a → other a ≡ word a
left-header word other layout before after graph number address value left placed stores each a young is =
    stores.elsewhere a (λ meet. left each number a young is
    (record { address = address; at = placed; from = omega (arith, meet); to = omega (arith, meet) }))

-- so objects stand while they move
standing-header : (word other : ℕ → ℕ) (layout : Layout) (before after : Placement) (done : ℕ → ℕ → Bool) (graph : Graph)
    (number address value : ℕ) → StandMoving word before after done graph → AreApart after graph → KeepsPlaced layout before after
    → AreLeftApart layout before after graph → after number ≡ Some address → Stores word other address value
    → IsHeader value (object_at graph number).ty → StandMoving other before after done graph
standing-header word other layout before after done graph number address value standing apart keeps left placed stores is =
    let stays : (each a : ℕ) → is_young layout before each ≡ true → IsWordOf before graph each a → other a ≡ word a =
    left-header word other layout before after graph number address value left placed stores in
    record {
      kept = all_stand-header word other after (by_done before after done) graph number address value standing.kept apart placed stores
          is;
      others = all_stand-outside word other (not_kept before after) (by_place before) graph standing.others (λ each a outside.
          stays each a (not_kept-young layout before after each outside.address keeps outside.at)
          (record {
            address = outside.address;
            at = (not_kept-from before after each outside.address outside.at).1;
            from = outside.from;
            to = outside.to;
          }));
      forwarded = λ each a copy was at differs.
          stays each (forwarding_address a) (moved-young layout before after each a copy keeps was at differs)
          (record { address = a; at = was; from = omega arith; to = omega arith })
          ∙ standing.forwarded each a copy was at differs;
    }

-- ---- the remembered lists

-- the lists are lists with the address of an object in a page that was on none
lists-marked : (layout : Layout) (bay new : ℕ → Bay) (after : Placement) (number address t : ℕ)
    → AreLists layout layout.mutators bay after → MayGrow layout.mutators (remembered_of bay) (remembered_of new) t true address
    → after number ≡ Some address → IsInAPage layout address → ¬ IsOnAList layout.mutators bay address
    → AreLists layout layout.mutators new after
lists-marked layout bay new after number address t are grows placed page absent =
    lists-added layout layout.mutators bay new after t number address are
    (record { mutator = grows.mutator; here = grows.here; elsewhere = λ u there differs. grows.elsewhere u differs }) placed page absent

-- the object is marked and on a list, and the others are as they were
bits-marked : (word other : ℕ → ℕ) (layout : Layout) (bay new : ℕ → Bay) (after : Placement) (address t : ℕ)
    → HaveMarkBits word layout bay after → MayGrow layout.mutators (remembered_of bay) (remembered_of new) t true address
    → Stores word other address (head_word (marked_head (word address))) → IsInAPage layout address
    → HaveMarkBits other layout new after
bits-marked word other layout bay new after address t have grows stores page =
    let mutators = layout.mutators in
    let now : head_of (other address) ≡ marked_head (word address) = stored-marked word other address stores in
    let listed : IsOnAList mutators new address = record {
      mutator = t;
      index = length (bay t).remembered;
      listed = stands-listed mutators new address t (length (bay t).remembered)
          (stands-added mutators (remembered_of bay) (remembered_of new) t true address grows refl);
    } in
    let marked : (head_of (other address)).marked ≡ true = ap (λ (head : Head). head.marked) now in
    let remembered : (head_of (other address)).remembered ≡ true = ap (λ (head : Head). head.remembered) now in
    record {
      marked = λ each a at.
          elim (cases_eq a address) as (λ _. ((head_of (other a)).marked ≡ true) ↔ IsOnAList mutators new a) [
            | inl same ↦
                subst (λ b. ((head_of (other b)).marked ≡ true) ↔ IsOnAList mutators new b) (sym same) (λ is. listed, λ on. marked)
            | inr differs ↦
                let header = ap (λ (w : ℕ). (head_of w).marked) (stores.elsewhere a differs) in
                let bit = have.marked each a at in (
                  λ is. on_a_list-kept mutators bay new t true address a grows (bit.0 (sym header ∙ is)),
                  λ on. elim (on_a_list-from mutators bay new t true address a grows on) [
                    | inl before ↦ header ∙ bit.1 before
                    | inr added ↦ absurd (differs added.1)
                  ],
                )
          ];
      remembered = λ each a at is. elim (cases_eq a address) as (λ _. (head_of (other a)).remembered ≡ true) [
        | inl same ↦ subst (λ b. (head_of (other b)).remembered ≡ true) (sym same) remembered
        | inr differs ↦
            ap (λ (w : ℕ). (head_of w).remembered) (stores.elsewhere a differs)
            ∙ have.remembered each a at (sym (ap (λ (w : ℕ). (head_of w).marked) (stores.elsewhere a differs)) ∙ is)
      ];
      young = λ each a at outside. elim (cases_eq a address) as (λ _. (head_of (other a)).remembered ≡ false) [
        | inl same ↦ absurd (outside (subst (IsInAPage layout) (sym same) page))
        | inr differs ↦ ap (λ (w : ℕ). (head_of w).remembered) (stores.elsewhere a differs) ∙ have.young each a at outside
      ];
    }

-- an object that isn't marked is on no list
unmarked-on_no_list : (word : ℕ → ℕ) (layout : Layout) (bay : ℕ → Bay) (after : Placement) (number address : ℕ)
    → HaveMarkBits word layout bay after → after number ≡ Some address → (head_of (word address)).marked ≡ false
    → ¬ IsOnAList layout.mutators bay address
unmarked-on_no_list word layout bay after number address have placed unmarked on =
    false≢true (sym unmarked ∙ (have.marked number address placed).1 on)

-- ---- the grey lists

-- an object in a page that isn't marked has no mark, and lay in no half
pub unmarked-old : (layout : Layout) (before : Placement) (world : World) (word : ℕ → ℕ) (bay : ℕ → Bay) (after : Placement)
    (done : Done) (marks : Marks) (number address : ℕ) → AreMarked layout before world word bay after done marks
    → after number ≡ Some address → IsInAPage layout address → (head_of (word address)).marked ≡ false
    → (marks number ≡ false) × (is_young layout before number ≡ false)
unmarked-old layout before world word bay after done marks number address are placed page unmarked =
    let none : marks number ≡ false = sym (are.bits number address placed) ∙ unmarked in (
      none,
      false_from_ne_true (is_young layout before number)
          (λ young. false≢true (sym none ∙ are.promoted number address placed young page)),
    )

-- so it isn't kept so far
pub unmarked-unfound : (layout : Layout) (before : Placement) (world : World) (word : ℕ → ℕ) (bay : ℕ → Bay) (after : Placement)
    (done : Done) (marks : Marks) (number address : ℕ) → AreMarked layout before world word bay after done marks
    → after number ≡ Some address → IsInAPage layout address → (head_of (word address)).marked ≡ false
    → is_found layout before after marks number ≡ false
unmarked-unfound layout before world word bay after done marks number address are placed page unmarked =
    let old = unmarked-old layout before world word bay after done marks number address are placed page unmarked in
    and_right (is_some (after number)) (is_young layout before number || marks number)
    (or_from (is_young layout before number) (marks number) old.1 old.0)

-- and not grey
pub unmarked-not_grey : (layout : Layout) (before : Placement) (world : World) (word : ℕ → ℕ) (bay : ℕ → Bay) (after : Placement)
    (done : Done) (marks : Marks) (number address : ℕ) → AreMarked layout before world word bay after done marks
    → after number ≡ Some address → IsInAPage layout address → (head_of (word address)).marked ≡ false
    → ¬ IsGrey layout.mutators bay address
unmarked-not_grey layout before world word bay after done marks number address are placed page unmarked grey =
    false≢true (sym (unmarked-unfound layout before world word bay after done marks number address are placed page unmarked)
    ∙ are.grey number address placed grey)

-- the grey lists have objects that are kept, each once and on its owner's list, where an object of theirs is put on one
grey-marked : (mutators : ℕ) (bay new : ℕ → Bay) (after : Placement) (graph : Graph) (number address : ℕ) (grows : Bool)
    → AreGrey mutators bay after graph
    → MayGrow mutators (grey_of bay) (grey_of new) (home_of (object_at graph number).maker) grows address
    → after number ≡ Some address → ¬ IsGrey mutators bay address → AreGrey mutators new after graph
grey-marked mutators bay new after graph number address grows are may placed absent =
    let t = home_of (object_at graph number).maker in
    record {
      kept = λ a u i listed.
          elim (stands-from mutators (grey_of bay) (grey_of new) t grows address a u i may (grey-stands mutators new a u i listed)) [
            | inl before ↦ are.kept a u i (stands-grey mutators bay a u i before)
            | inr now ↦
                record { number = number; at = placed ∙ ap Some (sym now.address_is); own = sym now.mutator_is }
          ];
      once = λ a u v i j one other.
          once-grown mutators (grey_of bay) (grey_of new) t grows address may
          (λ b w x k l first second.
          are.once b w x k l (stands-grey mutators bay b w k first) (stands-grey mutators bay b x l second))
          (λ w k stands. absent (record { mutator = w; index = k; listed = stands-grey mutators bay address w k stands }))
          a u v i j (grey-stands mutators new a u i one) (grey-stands mutators new a v j other);
    }

-- the slots of the object waited, and it is grey now where it has any; those of all others are grey or wait as they did
grey_or_waiting-marked : (mutators : ℕ) (bay new : ℕ → Bay) (after : Placement) (done : ℕ → ℕ → Bool) (graph : Graph)
    (waiting later : ℕ → ℕ → Type 0) (number address : ℕ) → GreyOrWaiting mutators bay after done graph waiting
    → MayGrow mutators (grey_of bay) (grey_of new) (home_of (object_at graph number).maker)
    (nat_lt 0 (length (object_at graph number).slots)) address
    → AreApart after graph → after number ≡ Some address → ((place : ℕ) → waiting number place)
    → ((each place : ℕ) → each ≢ number → waiting each place → later each place)
    → ((each place : ℕ) → each ≢ number → later each place → waiting each place)
    → GreyOrWaiting mutators new after done graph later
grey_or_waiting-marked mutators bay new after done graph waiting later number address are may apart placed waits to from each a place at
    below =
    let t = home_of (object_at graph number).maker in
    let grows = nat_lt 0 (length (object_at graph number).slots) in
    let was = are each a place at below in
    elim (cases_eq each number) [
      | inl same ↦
          let here : a ≡ address = same_Some a address (sym at ∙ ap after same ∙ placed) in
          let some : grows ≡ true =
          lt-ltb 0 (length (object_at graph number).slots) (omega (arith, below, ap (λ k. length (object_at graph k).slots) same)) in (
            λ undone. inl (subst (IsGrey mutators new) (sym here) (record {
              mutator = t;
              index = length (bay t).grey;
              listed = stands-grey mutators new address t (length (bay t).grey)
                  (stands-added mutators (grey_of bay) (grey_of new) t grows address may some);
            })),
            λ either. was.1 (inr (subst (λ k. waiting k place) (sym same) (waits place))),
          )
      | inr differs ↦ (
        λ undone. elim (was.0 undone) [
          | inl grey ↦ inl (is_grey-kept mutators bay new t grows address a may grey)
          | inr waited ↦ inr (to each place differs waited)
        ],
        λ either. elim either [
          | inl grey ↦ elim (is_grey-from mutators bay new t grows address a may grey) [
            | inl before ↦ was.1 (inl before)
            | inr now ↦ absurd (differs (one_number after graph each number address apart (at ∙ ap Some now) placed))
          ]
          | inr still ↦ was.1 (inr (from each place differs still))
        ],
      )
    ]

-- ---- the bay of its home

-- its registers, its half and its cells are as they were, and its remembered list has the address, and its grey list where the
-- object has slots
record IsMarkedBay (was own : Bay) (address slots : ℕ) : Type 0 where
  extents : HasSameExtents was own
  registers : own.registers ≡ was.registers
  remembered : own.remembered ≡ was.remembered ++ address ∷ []
  grey : own.grey ≡ grey_with was.grey address slots

-- so is the bay of an object that is marked
marked-bay : {old : Memory} {world : World} {word other : ℕ → ℕ} {bay new : ℕ → Bay} {after : Placement} {number address : ℕ} {own : Bay}
    → MarksObject old world word other bay new after number address own
    → IsMarkedBay (bay (home_of (object_at world.graph number).maker)) own address (length (object_at world.graph number).slots)
marked-bay {old} {world} {word} {other} {bay} {new} {after} {number} {address} {own} marked = record {
  extents = record {
    owner = record {
      bay = marked.is;
      layout = ap (λ (each : Bay). each.layout) marked.own_is;
      mutator = ap (λ (each : Bay). each.mutator) marked.own_is;
    };
    half = ap (λ (each : Bay). each.half) marked.own_is;
    used = ap (λ (each : Bay). each.used) marked.own_is;
    pages = ap (λ (each : Bay). each.pages) marked.own_is;
  };
  registers = ap (λ (each : Bay). each.registers) marked.own_is;
  remembered = ap (λ (each : Bay). each.remembered) marked.own_is;
  grey = ap (λ (each : Bay). each.grey) marked.own_is;
}

-- who is promoted is as it was
promoted-marked : (layout : Layout) (old word other : ℕ → ℕ) (bay new : ℕ → Bay) (before after : Placement) (graph : Graph)
    (t address : ℕ) (own : Bay) → ArePromoted layout old word bay before after graph → ChangesBay bay new t own
    → HasSameExtents (bay t) own → Stores word other address (head_word (marked_head (word address)))
    → ArePromoted layout old other new before after graph
promoted-marked layout old word other bay new before after graph t address own are changes same stores = record {
  seen = are.seen;
  no_cell = λ each a copy was outside at elsewhere seen.
      no_cell-changed bay new t own changes (no_cell-same (bay t) own same.pages) (home_of (object_at graph each).maker)
      (object_size (object_at graph each)) (are.no_cell each a copy was outside at elsewhere seen);
  survived = λ each copy at outside. elim (cases_eq copy address) as (λ _. (head_of (other copy)).seen ≡ true) [
    | inl here ↦
        ap (λ b. (head_of (other b)).seen) here
        ∙ ap (λ (head : Head). head.seen) (stored-marked word other address stores)
        ∙ ap (λ b. (head_of (word b)).seen) (sym here)
        ∙ are.survived each copy at outside
    | inr differs ↦ ap (λ (w : ℕ). (head_of w).seen) (stores.elsewhere copy differs) ∙ are.survived each copy at outside
  ];
}

-- and what was promoted is remembered
promoted_remembered-marked : (layout : Layout) (word other : ℕ → ℕ) (before after : Placement) (address : ℕ)
    → PromotedAreRemembered layout word before after → Stores word other address (head_word (marked_head (word address)))
    → PromotedAreRemembered layout other before after
promoted_remembered-marked layout word other before after address are stores each a copy was outside at inside =
    elim (cases_eq copy address) as (λ _. (head_of (other copy)).remembered ≡ true) [
      | inl here ↦
          ap (λ b. (head_of (other b)).remembered) here
          ∙ ap (λ (head : Head). head.remembered) (stored-marked word other address stores)
      | inr differs ↦
          ap (λ (w : ℕ). (head_of w).remembered) (stores.elsewhere copy differs) ∙ are each a copy was outside at inside
    ]

-- ---- the step

-- an object in a page that waits for its mark is marked: the collection is under way, with its slots grey
pub object-marked : {old : Memory} {before : Placement} {world : World} {word other : ℕ → ℕ} {bay new : ℕ → Bay} {after : Placement}
    {done : Done} {waiting later : ℕ → ℕ → Type 0} {marks : Marks} {number address : ℕ} {own : Bay} → IsAtRest old before world
    → IsCollectionUnderWay RunKind.Full old before world word bay after done waiting
    → AreMarked old.layout before world word bay after done marks
    → MarksObject old world word other bay new after number address own → ((place : ℕ) → waiting number place)
    → ((each place : ℕ) → each ≢ number → waiting each place → later each place)
    → ((each place : ℕ) → each ≢ number → later each place → waiting each place)
    → IsCollectionUnderWay RunKind.Full old before world other new after done later
object-marked {old} {before} {world} {word} {other} {bay} {new} {after} {done} {waiting} {later} {marks} {number} {address} {own} rest
    under are marked waits to from =
    let graph = world.graph in
    let layout = old.layout in
    let mutators = layout.mutators in
    let t = home_of (object_at graph number).maker in
    let slots = length (object_at graph number).slots in
    let there : t < mutators = under.lying.home number address marked.at in
    let one = marked-bay marked in
    let left : AreLeftApart layout before after graph =
    moves-apart old before world bay after rest under.bays under.flipped under.lying under.keeps in
    let listed = may_grow-remembered mutators bay new t own true address there marked.changed one.remembered in
    let grey = may_grow-grey mutators bay new t own (nat_lt 0 slots) address there marked.changed one.grey in
    let absent = unmarked-on_no_list word layout bay after number address under.bits marked.at marked.unmarked in
    record {
      bays = are_bays-changed layout bay new t own under.bays marked.changed (λ below. one.extents.owner);
      standing = standing-header word other layout before after done.slots graph number address
          (head_word (marked_head (word address))) under.standing under.apart under.keeps left marked.at marked.stores
          (IsHeader-marked (word address) (object_at graph number).ty (under.standing.kept number address marked.at).header);
      headers = headers-marked old.word word other before address under.headers marked.stores;
      old_in_pages = old_in_pages-marked word other layout after address under.old_in_pages marked.stores;
      keeps = under.keeps;
      reached = under.reached;
      flipped = each-changed (λ u each. u < mutators → each.half ≡ 1 - (old.bay u).half) bay new t own marked.changed
          (λ below. one.extents.half ∙ under.flipped t below) (λ u differs below. under.flipped u below);
      cells_stay = λ u class offset.
          each-changed (λ m each. m < mutators → IsUsedCell (old.bay m).pages class offset → IsUsedCell each.pages class offset) bay
          new t own marked.changed (λ below used. rw one.extents.pages (under.cells_stay t class offset below used))
          (λ m differs. under.cells_stay m class offset) u;
      lying = all_lie-bay mutators bay new t own after graph marked.changed (λ below. one.extents) under.lying;
      apart = under.apart;
      cells = cells-bay mutators bay new t own after nowhere marked.changed (λ below. one.extents) under.cells;
      copies = λ u below begun.
          each-changed (λ m each. m < mutators → each.used ≡ young_words layout after graph m) bay new t own marked.changed
          (λ inside. one.extents.used ∙ under.copies t inside refl) (λ m differs inside. under.copies m inside refl) u below;
      registers = λ u reg.
          each-changed
          (λ m each. m < mutators
          → slice_index each.registers reg ≡ name_before_or_after before after (done.registers m reg) (named_by world m reg)) bay new t
          own marked.changed
          (λ below. ap (λ (registers : List ℕ). slice_index registers reg) one.registers ∙ under.registers t reg below)
          (λ m differs. under.registers m reg) u;
      covers = under.covers;
      lists = lists-marked layout bay new after number address t under.lists listed marked.at marked.page absent;
      lists_grow = tt;
      bits = bits-marked word other layout bay new after address t under.bits listed marked.stores marked.page;
      grey = grey-marked mutators bay new after graph number address (nat_lt 0 slots) under.grey grey marked.at
          (unmarked-not_grey layout before world word bay after done marks number address are marked.at marked.page marked.unmarked);
      grey_were_young = tt;
      grey_or_waiting = grey_or_waiting-marked mutators bay new after done.slots graph waiting later number address
          under.grey_or_waiting grey under.apart marked.at waits to from;
      only_kept = under.only_kept;
      promoted = promoted-marked layout old.word word other bay new before after graph t address own under.promoted marked.changed
          one.extents marked.stores;
      promoted_remembered = promoted_remembered-marked layout word other before after address under.promoted_remembered marked.stores;
    }

-- its home's lists have room for it, and don't have it
pub mark-rooms : {old : Memory} {before : Placement} {world : World} {word : ℕ → ℕ} {bay : ℕ → Bay} {after : Placement} {done : Done}
    {waiting : ℕ → ℕ → Type 0} {marks : Marks} {number address : ℕ} → IsAtRest old before world
    → IsCollectionUnderWay RunKind.Full old before world word bay after done waiting
    → AreMarked old.layout before world word bay after done marks → after number ≡ Some address → IsInAPage old.layout address
    → (head_of (word address)).marked ≡ false
    → ((length (bay (home_of (object_at world.graph number).maker)).remembered < remembered_room old.layout)
    × (¬ Contains (bay (home_of (object_at world.graph number).maker)).remembered address))
    × ((length (bay (home_of (object_at world.graph number).maker)).grey < grey_room old.layout)
    × (¬ Contains (bay (home_of (object_at world.graph number).maker)).grey address))
mark-rooms {old} {before} {world} {word} {bay} {after} {done} {waiting} {marks} {number} {address} rest under are placed page unmarked =
    let graph = world.graph in
    let layout = old.layout in
    let mutators = layout.mutators in
    let t = home_of (object_at graph number).maker in
    let there : t < mutators = under.lying.home number address placed in
    let not_grey = unmarked-not_grey layout before world word bay after done marks number address are placed page unmarked in
    let listed : (i : ℕ) → i < length (bay t).grey → IsGreyAt mutators bay (slice_index (bay t).grey i) t i =
    λ i within. record { mutator = there; within = within; at = refl } in
    let absent : ¬ Contains (bay t).grey address = absent-by_place (bay t).grey address (λ i within is.
    not_grey (record { mutator = t; index = i; listed = record { mutator = there; within = within; at = is } })) in (
      list-room layout bay after graph number address t under.lists under.bays under.lying placed page
          (unmarked-on_no_list word layout bay after number address under.bits placed unmarked) there,
      (
        grey-room layout bay after graph t address (bay t).grey under.bays under.lying under.apart there
            (λ i within.
            let held = under.grey.kept (slice_index (bay t).grey i) t i (listed i within) in
            record { number = held.number; at = held.at; home = held.own })
            (λ i j i_within j_within same.
            (under.grey.once (slice_index (bay t).grey i) t t i j (listed i i_within)
            (record { mutator = there; within = j_within; at = sym same })).1)
            (record { number = number; at = placed; home = refl }) absent,
        absent,
      ),
    )
