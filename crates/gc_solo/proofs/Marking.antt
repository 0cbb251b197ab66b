-- What holds where a full collection marks an object in a page.
use Rattle.std.proofs.Common.{◌≡◌, ◌≢◌, ◌∙◌, ◌↔◌, inl, inr, ℕ, ◌+◌, ◌-◌, ◌/◌, ◌%◌, ◌<◌, ◌≤◌, ◌==◌, Bool, true, false, List, [], ◌∷◌, ◌++◌, length, Option, None, Some, IfSome, refl, sym, ap, subst, arith, eq-eqb, lt-ltb, le-ltb, nat_lt, slice_get, slice_index, slice_index_or, slice_set}
use Rattle.std.proofs.lemmas.Bool.{or_left}
use Rattle.std.proofs.lemmas.List.{length-set}
use Rattle.std.proofs.lemmas.Option.{same_Some}
use Rattle.gc_bay.specs.Bay.{Bay, IsBay}
use Rattle.gc_bay.specs.Room.{grey_room, remembered_room}
use Rattle.gc_layout.specs.declared.head.Head.{Head}
use Rattle.gc_layout.specs.declared.places.Part.{Part}
use Rattle.gc_layout.specs.declared.places.Part.TheVariants.{Page}
use Rattle.gc_layout.specs.declared.shape.Shape.{Shape}
use Rattle.gc_layout.specs.Head.{head_word}
use Rattle.gc_layout.specs.Places.{IsInPages, IsInside, Layout, address_of}
use Rattle.gc_layout.specs.Shape.{size_of}
use Rattle.gc_model.specs.Graph.{object_at}
use Rattle.gc_model.specs.declared.entry.RunKind.{RunKind}
use Rattle.gc_placement.specs.Changes.{Stores}
use Rattle.gc_placement.specs.Extents.{AreApart}
use Rattle.gc_placement.specs.Headers.{head_of, marked_head}
use Rattle.gc_placement.specs.Holders.{Done}
use Rattle.gc_placement.specs.Marks.{AreMarked, AreMarkedIn, Marks, WaitsForMark, with_mark}
use Rattle.gc_placement.specs.Placement.{Placement}
use Rattle.gc_placement.specs.UnderWay.{IsCollectionUnderWay}
use Rattle.gc_placement.proofs.CopyLists.{MayGrow, grey_of, is_grey-from, may_grow-grey}
use Rattle.gc_placement.proofs.Extents.{home-in_region, lies-at_home}
use Rattle.gc_placement.proofs.Marking.{MarksObject, mark-rooms, object-marked, unmarked-unfound}
use Rattle.gc_placement.proofs.MarksKept.{marks-marked, unmarked-waits, waits-marked}
use Rattle.gc_placement.proofs.MinorSteps.{one_number}
use Rattle.gc_placement.proofs.MovePlaces.{old-page}
use Rattle.gc_placement.proofs.Regions.{regions_apart}
use Rattle.gc_solo.specs.Collecting.{Beginning, HasMarked, IsCollecting, IsInHand, IsToMark, IsUnmarked, Stage, Waits, work_left}
use Rattle.gc_solo.specs.Copying.{CanCount, CanTake, grey_after}
use Rattle.gc_solo.specs.Kept.{Kept, bay_at}
use Rattle.gc_solo.proofs.Collecting.{bay-there, kept-placed, marked-with}
use Rattle.gc_solo.proofs.Copying.{IsRead, can_count-more, can_take-from, listed_work-falls, object-read, owner_in, owner-there, size_in, waits-marks, work-falls}
use Rattle.gc_solo.proofs.Registers.{bay-written}

-- ---- what a full collection is

-- it is under way as one
pub full-under_way : {kept : Kept} {start : Beginning} {after : Placement} {done : Done} {stage : Stage}
    → (collecting : IsCollecting kept start after done stage) → start.kind ≡ RunKind.Full
    → IsCollectionUnderWay RunKind.Full start.memory start.placement start.world (λ a. slice_index kept.words a) (bay_at kept.bays) after
    done (Waits start collecting.marks stage)
full-under_way {kept} {start} {after} {done} {stage} collecting full =
    subst
    (λ (kind : RunKind). IsCollectionUnderWay kind start.memory start.placement start.world (λ a. slice_index kept.words a)
    (bay_at kept.bays) after done (Waits start collecting.marks stage))
    full collecting.under_way

-- and it has marks
pub full-marked : {kept : Kept} {start : Beginning} {after : Placement} {done : Done} {stage : Stage}
    → (collecting : IsCollecting kept start after done stage) → start.kind ≡ RunKind.Full
    → AreMarked start.memory.layout start.placement start.world (λ a. slice_index kept.words a) (bay_at kept.bays) after done
    collecting.marks
full-marked {kept} {start} {after} {done} collecting full =
    subst
    (λ (kind : RunKind). AreMarkedIn kind start.memory.layout start.placement start.world (λ a. slice_index kept.words a)
    (bay_at kept.bays) after done collecting.marks)
    full collecting.marked

-- ---- what is known of an object that is to be marked

-- it waits for its mark
to_mark-waits : {kept : Kept} {start : Beginning} {after : Placement} {done : Done} {stage : Stage} (number address : ℕ)
    → (collecting : IsCollecting kept start after done stage) → IsToMark kept start after number address
    → WaitsForMark RunKind.Full start.memory.layout start.placement collecting.marks number
to_mark-waits number address collecting is =
    let waits = unmarked-waits (full-under_way collecting is.full) (full-marked collecting is.full) is.at is.page is.unmarked in
    (waits.1, waits.0)

-- it lay in its place before the collection
pub to_mark-before : {kept : Kept} {start : Beginning} {after : Placement} {done : Done} {stage : Stage} (number address : ℕ)
    → IsCollecting kept start after done stage → IsToMark kept start after number address → start.placement number ≡ Some address
to_mark-before {kept} {start} {after} number address collecting is =
    let was = kept-placed number address collecting is.at in
    let aged = (to_mark-waits number address collecting is).0 in
    let page = old-page start.memory.layout start.placement number was.address was.at aged in
    let stays = collecting.under_way.keeps.old number was.address was.at page in
    was.at ∙ ap Some (same_Some was.address address (sym stays ∙ is.at))

-- who is found as its owner
pub owner_found-to_mark : {kept : Kept} {start : Beginning} {after : Placement} {done : Done} {stage : Stage} (number address : ℕ)
    (found : Option ℕ) → IsCollecting kept start after done stage → IsToMark kept start after number address
    → ((m : ℕ) (part : Part) → m < kept.layout.mutators → IsInside kept.layout part → address_of kept.layout m part ≡ address
    → found ≡ Some m)
    → found ≡ Some (owner_in start number)
owner_found-to_mark {kept} {start} number address found collecting is exact =
    let layout = start.memory.layout in
    let t = owner_in start number in
    let shown = collecting.rest.shown in
    let home = lies-at_home layout.mutators start.memory.bay start.placement start.world.graph number address shown.lying
    (to_mark-before number address collecting is) in
    let region = home-in_region layout start.memory.bay (object_at start.world.graph number) address shown.bays home in
    let whose : is.page.mutator ≡ t =
    regions_apart layout is.page.mutator t address (omega (arith, is.page.inside.from)) (omega (arith, is.page.inside.to)) region.0
    (omega (arith, region.1)) in
    let inside : IsInPages layout t address = subst (λ m. IsInPages layout m address) whose is.page.inside in
    let offset : ℕ = address - address_of layout t (Page 0 0) in
    let page : offset / 1024 < layout.pages = omega (arith, inside.from, inside.to) in
    let at : address_of layout t (Page (offset / 1024) (offset % 1024)) ≡ address = omega (arith, inside.from) in
    let told = rw collecting.layout at exact in
    told t (Page (offset / 1024) (offset % 1024)) home.there (page, omega arith) at

-- what is read of it
pub to_mark-read : {kept : Kept} {start : Beginning} {after : Placement} {done : Done} {stage : Stage} (number address : ℕ)
    (head : Head) (found_shape : Option Shape) (shape : Shape) (size : ℕ) (found : Option ℕ) (owner at : ℕ) (bay : Bay)
    → IsCollecting kept start after done stage → IsToMark kept start after number address
    → head ≡ head_of (slice_index kept.words address) → found_shape ≡ slice_get kept.types head.ty.0 → found_shape ≡ Some shape
    → size ≡ size_of shape
    → ((m : ℕ) (part : Part) → m < kept.layout.mutators → IsInside kept.layout part → address_of kept.layout m part ≡ address
    → found ≡ Some m)
    → found ≡ Some owner → at ≡ owner → bay ≡ slice_index_or kept.bays at bay
    → IsRead kept start number address head shape size at bay
to_mark-read number address head found_shape shape size found owner at bay collecting is head_is shape_read some size_read exact
    owner_read at_read bay_read =
    object-read number address head found_shape shape size found owner at bay collecting (to_mark-before number address collecting is)
    head_is shape_read some size_read (owner_found-to_mark number address found collecting is exact) owner_read at_read bay_read

-- a bay's lists and its tally can take an object of so many words that is marked
pub record CanTakeMarked (bay : Bay) (address size : ℕ) : Type 0 where
  pub listed : CanTake bay.remembered (remembered_room bay.layout) address
  pub grey : CanTake bay.grey (grey_room bay.layout) address
  pub counted : CanCount bay size

-- so can those of its owner's
pub can_take-marked : {kept : Kept} {start : Beginning} {after : Placement} {done : Done} {stage : Stage} {number address : ℕ}
    {head : Head} {shape : Shape} {size at : ℕ} {bay : Bay} → IsCollecting kept start after done stage
    → IsToMark kept start after number address → IsRead kept start number address head shape size at bay
    → CanTakeMarked bay address size
can_take-marked {kept} {start} {after} {done} {stage} {number} {address} collecting is read =
    let t = owner_in start number in
    let own = bay_at kept.bays t in
    let layout = start.memory.layout in
    let before = to_mark-before number address collecting is in
    let there = owner-there number address collecting before in
    let under = full-under_way collecting is.full in
    let are = full-marked collecting is.full in
    let own_layout : own.layout ≡ layout = under.bays.layout_is t there in
    let rooms = mark-rooms collecting.rest under are is.at is.page is.unmarked in
    let unfound = unmarked-unfound layout start.placement start.world (λ a. slice_index kept.words a) (bay_at kept.bays) after done
    collecting.marks number address are is.at is.page is.unmarked in
    let can : CanTakeMarked own address (size_in start number) = record {
      listed = can_take-from own layout own.remembered remembered_room address own_layout rooms.0;
      grey = can_take-from own layout own.grey grey_room address own_layout rooms.1;
      counted = can_count-more number address t collecting.rest under.keeps are before unfound there;
    } in
    rw (read.bay_is, read.size_is) can

-- ---- its bay

-- a bay that has the address of an object of so many words at the end of its remembered list, and of its grey one where the object
-- has slots, and has counted it
abbrev pub marked_bay : Bay → ℕ → ℕ → Bool → Bay
marked_bay bay address size has_slots =
    record bay {
      remembered = bay.remembered ++ address ∷ [];
      grey = grey_after bay.grey has_slots address;
      tally = record { objects = bay.tally.objects + 1; words = bay.tally.words + size };
    }

-- the grey list of an object that has slots
pub greyed-with : (mid grown : Bay) (address slots : ℕ) → 0 < slots → grown ≡ record mid { grey = mid.grey ++ address ∷ [] }
    → grown ≡ record mid { grey = grey_after mid.grey (nat_lt 0 slots) address }
greyed-with mid grown address slots some grown_is =
    let has : nat_lt 0 slots ≡ true = lt-ltb 0 slots some in
    grown_is ∙ ap (λ (has_slots : Bool). record mid { grey = grey_after mid.grey has_slots address }) (sym has)

-- and of one that has none
pub greyed-without : (mid grown : Bay) (address slots : ℕ) → slots ≤ 0 → grown ≡ mid
    → grown ≡ record mid { grey = grey_after mid.grey (nat_lt 0 slots) address }
greyed-without mid grown address slots none grown_is =
    let hasnt : nat_lt 0 slots ≡ false = le-ltb 0 slots none in
    grown_is ∙ ap (λ (has_slots : Bool). record mid { grey = grey_after mid.grey has_slots address }) (sym hasnt)

-- the address was put on both lists, and the object counted
pub marked_bay-is : (bay mid grown new : Bay) (address size : ℕ) (has_slots : Bool)
    → mid ≡ record bay { remembered = bay.remembered ++ address ∷ [] }
    → grown ≡ record mid { grey = grey_after mid.grey has_slots address }
    → new ≡ record grown { tally = record { objects = grown.tally.objects + 1; words = grown.tally.words + size } }
    → new ≡ marked_bay bay address size has_slots
marked_bay-is bay mid grown new address size has_slots mid_is grown_is new_is =
    let counted : Bay → Bay = λ each.
    record each { tally = record { objects = each.tally.objects + 1; words = each.tally.words + size } } in
    let greyed : Bay → Bay = λ each. record each { grey = grey_after each.grey has_slots address } in
    new_is ∙ ap counted (grown_is ∙ ap greyed mid_is)

-- ---- the collection goes on

-- what is in hand waits for no mark and isn't grey, where another object is marked that waited
hand-marked : (kept : Kept) (start : Beginning) (after : Placement) (marks : Marks) (words : List ℕ) (bays : List Bay)
    (number address t : ℕ) (grows : Bool) (hand : Option ℕ) → AreApart after start.world.graph → after number ≡ Some address
    → IsUnmarked start marks number
    → ((each : ℕ) → each ≢ number → IsUnmarked start (with_mark marks number) each → IsUnmarked start marks each)
    → MayGrow start.memory.layout.mutators (grey_of (bay_at kept.bays)) (grey_of (bay_at bays)) t grows address
    → IfSome hand (IsInHand kept start after marks)
    → IfSome hand (IsInHand (record kept { words = words; bays = bays }) start after (with_mark marks number))
hand-marked kept start after marks words bays number address t grows None apart at waits from may held = tt
hand-marked kept start after marks words bays number address t grows (Some each) apart at waits from may held =
    let aside = held.aside in
    let differs : each ≢ number = λ same. held.marked (subst (IsUnmarked start marks) (sym same) waits) in
    record {
      aside = record {
        address = aside.address;
        at = aside.at;
        not_grey = λ grey.
            elim (is_grey-from start.memory.layout.mutators (bay_at kept.bays) (bay_at bays) t grows address aside.address may grey) [
              | inl was ↦ aside.not_grey was
              | inr now ↦
                  differs (one_number after start.world.graph each number address apart (aside.at ∙ ap Some now) at)
            ];
      };
      marked = λ (unmarked : IsUnmarked start (with_mark marks number) each). held.marked (from each differs unmarked);
    }

-- another object waits for its mark as it did
waits_in-marked : (kind : RunKind) (layout : Layout) (before : Placement) (marks : Marks) (number each : ℕ) → each ≢ number
    → WaitsForMark kind layout before marks each ↔ WaitsForMark kind layout before (with_mark marks number) each
waits_in-marked RunKind.Minor layout before marks number each differs = (λ waits. waits, λ waits. waits)
waits_in-marked RunKind.Full layout before marks number each differs = waits-marked layout before marks number each differs

-- an object gets its mark: the collection goes on with it
pub mark-goes_on : {kept : Kept} {start : Beginning} {after : Placement} {done : Done} {stage : Stage} {number address : ℕ}
    {head : Head} {shape : Shape} {size at : ℕ} {bay : Bay} (new : Bay) (words : List ℕ) → IsCollecting kept start after done stage
    → IsToMark kept start after number address → IsRead kept start number address head shape size at bay
    → new ≡ marked_bay bay address size (nat_lt 0 shape.slots) → IsBay new
    → Stores (λ a. slice_index kept.words a) (λ a. slice_index words a) address
    (head_word (marked_head (slice_index kept.words address)))
    → length words ≡ length kept.words
    → HasMarked (record kept { words = words; bays = slice_set kept.bays at new }) start after done stage number
mark-goes_on {kept} {start} {after} {done} {stage} {number} {address} {head} {shape} {size} {at} {bay} new words collecting is read new_is
    new_bay stores count =
    let old = start.memory in
    let graph = start.world.graph in
    let t = owner_in start number in
    let own = bay_at kept.bays t in
    let slots = length (object_at graph number).slots in
    let bays = slice_set kept.bays t new in
    let marks = collecting.marks in
    let more = with_mark marks number in
    let rest = collecting.rest in
    let there = owner-there number address collecting (to_mark-before number address collecting is) in
    let under = full-under_way collecting is.full in
    let are = full-marked collecting is.full in
    let changed = bay-written kept.bays t new (bay-there t collecting there) in
    let own_is : new ≡ marked_bay own address (size_in start number) (nat_lt 0 slots) =
    rw (read.bay_is, read.size_is, sym read.slots) at new_is in
    let marked : MarksObject old start.world (λ a. slice_index kept.words a) (λ a. slice_index words a) (bay_at kept.bays) (bay_at bays)
    after number address new = record {
      at = is.at;
      page = is.page;
      unmarked = is.unmarked;
      stores = stores;
      changed = changed;
      is = new_bay;
      own_is = own_is;
    } in
    let waits : IsUnmarked start marks number =
    subst (λ (kind : RunKind). WaitsForMark kind old.layout start.placement marks number) (sym is.full)
    (to_mark-waits number address collecting is) in
    let same = λ (each : ℕ) (differs : each ≢ number).
    waits_in-marked start.kind old.layout start.placement marks number each differs in
    let way = object-marked {later = Waits start more stage} rest under are marked (λ place. inr (inr waits))
    (λ each place differs. waits-marks start marks more stage each place (same each differs).0)
    (λ each place differs. waits-marks start more marks stage each place (same each differs).1) in
    let now = marks-marked rest under are marked (λ place. inr (inr waits)) is.reached in
    let grows = may_grow-grey old.layout.mutators (bay_at kept.bays) (bay_at bays) t new (nat_lt 0 slots) address there changed
    (ap (λ (each : Bay). each.grey) own_is) in
    let hand = hand-marked kept start after marks words bays number address t (nat_lt 0 slots) stage.in_hand under.apart is.at waits
    (λ each differs. (same each differs).1) grows collecting.in_hand in
    rw read.at_is
    (marked-with kept start after after done done stage stage words bays more number collecting count
    (length-set kept.bays t new)
    (subst
    (λ (kind : RunKind). IsCollectionUnderWay kind old start.placement start.world (λ a. slice_index words a) (bay_at bays) after done
    (Waits start more stage))
    (sym is.full) way)
    (subst
    (λ (kind : RunKind). AreMarkedIn kind old.layout start.placement start.world (λ a. slice_index words a) (bay_at bays) after done
    more)
    (sym is.full) now)
    hand (or_left (number == number) (marks number) (eq-eqb number number refl)))

-- and there is less work left
pub mark-work_falls : {kept : Kept} {start : Beginning} {after : Placement} {done : Done} {stage : Stage} {number address : ℕ}
    {head : Head} {shape : Shape} {size at : ℕ} {bay : Bay} (new : Bay) → IsCollecting kept start after done stage
    → IsToMark kept start after number address → IsRead kept start number address head shape size at bay
    → new ≡ marked_bay bay address size (nat_lt 0 shape.slots) → IsBay new
    → work_left (slice_set kept.bays at new) < work_left kept.bays
mark-work_falls {kept} {start} {after} {done} {stage} {number} {address} {head} {shape} {size} {at} {bay} new collecting is read new_is
    new_bay =
    let t = owner_in start number in
    let own = bay_at kept.bays t in
    let own_is : new ≡ marked_bay own address size (nat_lt 0 shape.slots) = rw read.bay_is at new_is in
    let there = bay-there t collecting (owner-there number address collecting (to_mark-before number address collecting is)) in
    rw read.at_is
    (work-falls kept.bays t new there
    (listed_work-falls own new address (nat_lt 0 shape.slots) new_bay (ap (λ (each : Bay). each.layout) own_is)
    (ap (λ (each : Bay). each.used) own_is) (ap (λ (each : Bay). each.remembered) own_is) (ap (λ (each : Bay). each.grey) own_is)))
