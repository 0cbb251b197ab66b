-- What holds where an object is copied.
use Rattle.std.proofs.Common.{◌≡◌, ◌∙◌, ℕ, ◌+◌, ◌-◌, ◌*◌, ◌<◌, ◌≤◌, ◌&&◌, ◌||◌, List, [], ◌∷◌, ◌++◌, length, Contains, ◌⊎◌, inl, Bool, true, false, Option, None, Some, inr, is_some, refl, sym, ap, subst, arith, eq-eqb, nat_le, nat_lt, slice_get, slice_index, slice_index_or, slice_set, ⊎_elim}
use Rattle.std.proofs.lemmas.Bool.{and_parts, cases_lt}
use Rattle.std.proofs.lemmas.List.{length-set, length_push}
use Rattle.std.proofs.lemmas.List.Sums.{sum_by-set}
use Rattle.std.proofs.lemmas.Option.{cond_some, get_or_from_slice_get, none-some, same_Some}
use Rattle.std.specs.Prelude.{IfSome, option_map}
use Rattle.gc_bay.specs.Bay.{Bay, IsBay, Tally}
use Rattle.gc_bay.specs.Extent.{IsFreshExtent, next_in_cells, next_in_half}
use Rattle.gc_bay.specs.Room.{grey_room, remembered_room}
use Rattle.gc_bay.proofs.ExtentLemmas.{bay-with_cell, fresh-in_cells, fresh-next, next-inside}
use Rattle.gc_gen2.specs.Cells.{TakesCell, free_pages, next_cell, with_cell}
use Rattle.gc_gen2.specs.Class.{IsClass, class_of}
use Rattle.gc_gen2.specs.Page.{Page}
use Rattle.gc_gen2.proofs.NextCellLaws.{TakesCell-next}
use Rattle.gc_layout.specs.declared.head.Head.{Head}
use Rattle.gc_layout.specs.declared.places.Part.{Part}
use Rattle.gc_layout.specs.declared.places.Part.TheVariants.{Half}
use Rattle.gc_layout.specs.declared.shape.Shape.{Shape}
use Rattle.gc_layout.specs.Head.{fresh_head, head_word}
use Rattle.gc_layout.specs.Places.{IsInside, Layout, address_of, cell_address, region_start}
use Rattle.gc_layout.specs.Shape.{common_shape, size_of}
use Rattle.gc_model.specs.Answer.{shape_at}
use Rattle.gc_model.specs.Graph.{object_at, object_size}
use Rattle.gc_model.specs.Reach.{is_reached}
use Rattle.gc_model.specs.World.{World}
use Rattle.gc_model.specs.declared.entry.RunKind.{RunKind}
use Rattle.gc_placement.specs.Changes.{CopiesObject, HasOneMoreExtent, HasSameExtents}
use Rattle.gc_placement.specs.Extents.{IsInAPage, home_of}
use Rattle.gc_placement.specs.Headers.{head_of, is_full}
use Rattle.gc_placement.specs.Holders.{Done}
use Rattle.gc_placement.specs.Marks.{AreMarked, AreMarkedIn, Marks, is_found}
use Rattle.gc_placement.specs.Memory.{Memory}
use Rattle.gc_placement.specs.Moves.{KeepsPlaced}
use Rattle.gc_placement.specs.Placement.{Placement, with_place}
use Rattle.gc_placement.specs.Promotion.{HasNoCell}
use Rattle.gc_placement.specs.Rest.{IsAtRest}
use Rattle.gc_placement.specs.Sums.{is_young}
use Rattle.gc_placement.specs.Tracings.{tracing_of}
use Rattle.gc_placement.specs.UnderWay.{IsCollectionUnderWay}
use Rattle.gc_placement.proofs.Copied.{IsCopied}
use Rattle.gc_placement.proofs.Copy.{IsCopiedIntoHalf, IsCopiedIntoPage, IsWritten, copied-in_half, copied-in_page, copies-apart, written-in_half, written-in_page}
use Rattle.gc_placement.proofs.CopyLists.{may_grow-grey}
use Rattle.gc_placement.proofs.CopyRooms.{grey_room-copied, list_room-copied}
use Rattle.gc_placement.proofs.CopySums.{copy-fits}
use Rattle.gc_placement.proofs.Extents.{cell-in_page, half-not_in_page, more-bump, more-cell, more-then_same}
use Rattle.gc_placement.proofs.FullSums.{tally-room}
use Rattle.gc_placement.proofs.MarksKept.{marks-copied, marks_with, waits-copied}
use Rattle.gc_placement.proofs.MinorSteps.{waiting-same}
use Rattle.gc_placement.proofs.MovePlaces.{young-left}
use Rattle.gc_placement.proofs.Regions.{region-within}
use Rattle.gc_placement.proofs.Sums.{placed-at}
use Rattle.gc_solo.specs.Collecting.{Beginning, IsCollecting, IsToCopy, IsUnmarked, Stage, Waits, bay_work_left, work_left}
use Rattle.gc_solo.specs.Copying.{CanCount, CanCountIn, CanTake, CanTakeCopy, IsPut, IsTaken, TakesNextCell, TakesNextWords, grey_after, tally_after}
use Rattle.gc_solo.specs.Kept.{Kept, bay_at, no_bay}
use Rattle.gc_solo.proofs.Aside.{hand-copied}
use Rattle.gc_solo.proofs.Collecting.{bay-at, bay-there, before-ends, before-header, before-shaped, before-typed, collecting-with}
use Rattle.gc_solo.proofs.Registers.{bay-written}

-- ---- the place of a copy

-- a cell is taken, and the copy is put on the remembered list
pub taken-cell : (kind : RunKind) (old mid new : Bay) (head kept : Head) (size copy : ℕ) (found : Option ℕ) → found ≡ Some copy
    → found ≡ next_in_cells old size → mid ≡ record old { pages = mid.pages; given = mid.given } → IsBay mid
    → ((offset : ℕ) → next_cell old.pages (class_of size) ≡ Some offset → mid.pages ≡ with_cell old.pages (class_of size) offset)
    → ((offset : ℕ) → next_cell old.pages (class_of size) ≡ Some offset → TakesCell old.pages mid.pages (class_of size) offset)
    → IfSome found (λ a. IsFreshExtent old a size) → head.seen ≡ true
    → new ≡ record mid { remembered = mid.remembered ++ copy ∷ [] } → IsBay new
    → kept ≡ record (fresh_head head.ty true) { remembered = true; marked = is_full kind } → IsTaken kind old new head kept size copy
taken-cell kind old mid new head kept size copy found some next rest mid_is pages takes fresh seen new_is bay head_is =
    let same_pages : new.pages ≡ mid.pages = ap (λ (each : Bay). each.pages) new_is in
    let same_given : new.given ≡ mid.given = ap (λ (each : Bay). each.given) new_is in
    record {
      place = inr (record {
        next = sym next ∙ some;
        taken = rw (same_pages, same_given) (subst IsBay rest mid_is);
        new_is = grind (arith, new_is, rest);
        pages = λ offset cell. same_pages ∙ pages offset cell;
        takes = λ offset cell. rw same_pages (takes offset cell);
        seen = seen;
        head_is = head_is;
      });
      fresh = subst (λ (each : Option ℕ). IfSome each (λ a. IsFreshExtent old a size)) some fresh;
      bay = bay;
    }

-- what a map over an option gives comes from what is there
map-from : (f : ℕ → ℕ) (there : Option ℕ) (a : ℕ) → option_map f there ≡ Some a → (x : ℕ) × (there ≡ Some x) × (f x ≡ a)
map-from f None a given = absurd (none-some a given)
map-from f (Some x) a given = (x, refl, same_Some (f x) a given)

-- the next cell has an offset
next-offset : (bay : Bay) (size copy : ℕ) → next_in_cells bay size ≡ Some copy
    → (offset : ℕ) × (next_cell bay.pages (class_of size) ≡ Some offset) × (cell_address bay.layout bay.mutator offset ≡ copy)
next-offset bay size copy next = map-from (cell_address bay.layout bay.mutator) (next_cell bay.pages (class_of size)) copy next

-- the class of a size is one
class_of-is : (size : ℕ) → 2 ≤ size → size ≤ 64 → IsClass (class_of size)
class_of-is size least most = record { multiple = omega arith; some = omega arith; few = omega arith }

-- the bay after the next words of its half are taken
abbrev with_words : Bay → ℕ → Bay
with_words bay size = record bay { used = bay.used + size }

-- it is one
is_bay-words : (bay : Bay) (size : ℕ) → IsBay bay → bay.used + size ≤ bay.layout.nursery → IsBay (with_words bay size)
is_bay-words bay size is fits = record {
  limits = is.limits;
  mutator = is.mutator;
  registers = is.registers;
  half = is.half;
  used = fits;
  remembered = is.remembered;
  grey = is.grey;
  pages = is.pages;
  page_count = is.page_count;
  given = is.given;
  batches = is.batches;
  objects = is.objects;
  words = is.words;
}

-- the bay after a cell is taken
abbrev with_next_cell : Bay → ℕ → ℕ → Bay
with_next_cell bay class offset =
    record bay {
      pages = with_cell bay.pages class offset;
      given = bay.given + (free_pages bay.pages - free_pages (with_cell bay.pages class offset));
    }

-- the next words of a half lie in it, and in no page
words-outside : (bay : Bay) (size copy : ℕ) → IsBay (with_words bay size) → 1 ≤ size → next_in_half bay size ≡ Some copy
    → ¬ IsInAPage bay.layout copy
words-outside bay size copy is some next =
    let start : address_of bay.layout bay.mutator (Half bay.half bay.used) ≡ copy =
    (cond_some (nat_le (bay.used + size) bay.layout.nursery) (address_of bay.layout bay.mutator (Half bay.half bay.used)) copy next).1 in
    half-not_in_page bay.layout bay.mutator bay.half (bay.used + size) copy size is.half is.used some
    (record { from = omega (arith, start); to = omega (arith, start) })

-- the next cell lies in a page
cell-inside : (bay : Bay) (pages : List Page) (size copy : ℕ) → length pages ≡ bay.layout.pages → next_in_cells bay size ≡ Some copy
    → ((offset : ℕ) → next_cell bay.pages (class_of size) ≡ Some offset → TakesCell bay.pages pages (class_of size) offset)
    → IsInAPage bay.layout copy
cell-inside bay pages size copy count next takes =
    let offset = next-offset bay size copy next in
    cell-in_page bay.layout bay.mutator pages copy size count
    (record { offset = offset.0; at = offset.2; used = (takes offset.0 offset.1).used })

-- ---- what is known of an object that is to be copied

-- whose an object is
abbrev pub owner_in : Beginning → ℕ → ℕ
owner_in start number = home_of (object_at start.world.graph number).maker

-- how many words it has
abbrev pub size_in : Beginning → ℕ → ℕ
size_in start number = object_size (object_at start.world.graph number)

-- its owner is a mutator
pub owner-there : {kept : Kept} {start : Beginning} {after : Placement} {done : Done} {stage : Stage} (number address : ℕ)
    → IsCollecting kept start after done stage → start.placement number ≡ Some address
    → owner_in start number < start.memory.layout.mutators
owner-there number address collecting at = collecting.rest.shown.lying.home number address at

-- who is found as the owner of the address of an object in a half
pub owner-found : {kept : Kept} {start : Beginning} {after : Placement} {done : Done} {stage : Stage} (number address : ℕ)
    (found : Option ℕ) → IsCollecting kept start after done stage → IsToCopy start after number address
    → ((m : ℕ) (part : Part) → m < kept.layout.mutators → IsInside kept.layout part → address_of kept.layout m part ≡ address
    → found ≡ Some m)
    → found ≡ Some (owner_in start number)
owner-found {kept} {start} number address found collecting is exact =
    let layout = start.memory.layout in
    let t = owner_in start number in
    let left = young-left start.memory start.placement start.world number address collecting.rest is.at is.young in
    let was = start.memory.bay t in
    let was_is = collecting.rest.shown.bays.each t left.0 in
    let used : was.used ≤ layout.nursery =
    subst (λ (each : Layout). was.used ≤ each.nursery) (collecting.rest.shown.bays.layout_is t left.0) was_is.used in
    let offset : ℕ = address - address_of layout t (Half was.half 0) in
    let there : offset < layout.nursery = omega (arith, left.1.from, left.1.to, used) in
    let at : address_of layout t (Half was.half offset) ≡ address = omega (arith, left.1.from) in
    let told = rw collecting.layout at exact in
    told t (Half was.half offset) left.0 (was_is.half, there) at

-- an object that is copied, where its owner's bay has one more extent
pub copied-at : {kept : Kept} {start : Beginning} {after : Placement} {done : Done} {stage : Stage} (number address copy : ℕ)
    (own : Bay) → IsCollecting kept start after done stage → IsToCopy start after number address
    → HasOneMoreExtent (bay_at kept.bays (owner_in start number)) own copy (size_in start number)
    → IsFreshExtent (bay_at kept.bays (owner_in start number)) copy (size_in start number)
    → own.registers ≡ (bay_at kept.bays (owner_in start number)).registers
    → IsCopied start.memory start.placement start.world (bay_at kept.bays)
    (bay_at (slice_set kept.bays (owner_in start number) own)) after number address copy (size_in start number) own
copied-at {kept} {start} number address copy own collecting is more fresh registers = record {
  at = is.at;
  young = is.young;
  unkept = is.unkept;
  size_is = refl;
  changed = bay-written kept.bays (owner_in start number) own
      (bay-there (owner_in start number) collecting (owner-there number address collecting is.at));
  more = more;
  fresh = fresh;
  registers = registers;
}

-- an object is copied into a cell, where a bay like its owner's has taken it and has the same remembered list
record IsInNextCell (kept : Kept) (start : Beginning) (after : Placement) (number address copy : ℕ) : Type 0 where
  own : Bay
  copied : IsCopied start.memory start.placement start.world (bay_at kept.bays)
      (bay_at (slice_set kept.bays (owner_in start number) own)) after number address copy (size_in start number) own
  listed : own.remembered ≡ (bay_at kept.bays (owner_in start number)).remembered
  page : IsInAPage start.memory.layout copy

-- so it is into the next cell
in-next_cell : {kept : Kept} {start : Beginning} {after : Placement} {done : Done} {stage : Stage} (number address copy : ℕ)
    → IsCollecting kept start after done stage → IsToCopy start after number address
    → next_in_cells (bay_at kept.bays (owner_in start number)) (size_in start number) ≡ Some copy
    → IsInNextCell kept start after number address copy
in-next_cell {kept} {start} number address copy collecting is next =
    let t = owner_in start number in
    let size = size_in start number in
    let class = class_of size in
    let bay = bay_at kept.bays t in
    let there = owner-there number address collecting is.at in
    let is_bay : IsBay bay = collecting.under_way.bays.each t there in
    let shaped = before-shaped number address (shape_at kept.types (object_at start.world.graph number).ty) collecting is.at refl in
    let class_is = class_of-is size shaped.least shaped.most in
    let found = next-offset bay size copy next in
    let own = with_next_cell bay class found.0 in
    let own_is : IsBay own = bay-with_cell bay own.pages class found.0 own.given is_bay class_is found.1 refl refl in
    let took : TakesCell bay.pages own.pages class found.0 = TakesCell-next bay.pages class found.0 is_bay.pages class_is found.1 in
    let takes : (offset : ℕ) → next_cell bay.pages class ≡ Some offset → TakesCell bay.pages own.pages class offset = λ offset at.
    subst (TakesCell bay.pages own.pages class) (same_Some found.0 offset (sym found.1 ∙ at)) took in
    let ends : found.0 + class ≤ 1024 * bay.layout.pages =
    omega (arith, next-inside bay.pages class found.0 is_bay.pages class_is found.1, is_bay.page_count) in
    let fresh = subst (λ a. IsFreshExtent bay a size) found.2
    (fresh-in_cells bay own.pages class found.0 size is_bay (omega arith) ends took) in
    record {
      own = own;
      copied = copied-at number address copy own collecting is (more-cell bay own size copy (sym next) takes refl own_is) fresh refl;
      listed = refl;
      page = subst (λ each. IsInAPage each copy) (collecting.under_way.bays.layout_is t there)
          (cell-inside bay own.pages size copy own_is.page_count next takes);
    }

-- what the list of a bay can take, by the layout that it has
pub can_take-from : (bay : Bay) (layout : Layout) (list : List ℕ) (room : Layout → ℕ) (copy : ℕ) → bay.layout ≡ layout
    → (length list < room layout) × ¬ Contains list copy → CanTake list (room bay.layout) copy
can_take-from bay layout list room copy same can =
    record { absent = can.1; fewer = subst (λ (each : Layout). length list < room each) (sym same) can.0 }

-- a tally has room for an object that isn't kept yet
pub can_count-more : {old : Memory} {before : Placement} {world : World} {word : ℕ → ℕ} {bay : ℕ → Bay} {after : Placement} {done : Done}
    {marks : Marks} (number address t : ℕ) → IsAtRest old before world → KeepsPlaced old.layout before after
    → AreMarked old.layout before world word bay after done marks → before number ≡ Some address
    → is_found old.layout before after marks number ≡ false → t < old.layout.mutators
    → CanCount (bay t) (object_size (object_at world.graph number))
can_count-more {old} {before} {world} {word} {bay} {after} {done} {marks} number address t rest keeps are at unfound there =
    let has = is_found old.layout before after marks in
    let counts = are.tallies t there in
    let room = tally-room old before world has number t rest.shown
    (λ each found. keeps.only each (placed-at after each
    (and_parts (is_some (after each)) (is_young old.layout before each || marks each) found).0))
    (record { address = address; at = at }) unfound in
    record { objects = omega (arith, counts.objects, room.0); words = omega (arith, counts.words, room.1) }

-- so it has for one that is copied, where it counts
can_count-copy : (kind : RunKind) {old : Memory} {before after : Placement} {world : World} (word : ℕ → ℕ) (bay : ℕ → Bay)
    (done : Done) (marks : Marks) (number address t : ℕ) → IsAtRest old before world → KeepsPlaced old.layout before after
    → AreMarkedIn kind old.layout before world word bay after done marks → before number ≡ Some address → after number ≡ None
    → t < old.layout.mutators → CanCountIn kind (bay t) (object_size (object_at world.graph number))
can_count-copy RunKind.Minor word bay done marks number address t rest keeps are at unkept there = tt
can_count-copy RunKind.Full {old} {before} {after} word bay done marks number address t rest keeps are at unkept there =
    can_count-more number address t rest keeps are at
    (ap (λ (place : Option ℕ). is_some place && (is_young old.layout before number || marks number)) unkept) there

-- its owner's bay can take the copy
pub can_take-copy : {kept : Kept} {start : Beginning} {after : Placement} {done : Done} {stage : Stage} (number address : ℕ)
    → IsCollecting kept start after done stage → IsToCopy start after number address
    → CanTakeCopy start.kind (bay_at kept.bays (owner_in start number)) (size_in start number)
can_take-copy {kept} {start} {after} {done} number address collecting is =
    let t = owner_in start number in
    let size = size_in start number in
    let bay = bay_at kept.bays t in
    let rest = collecting.rest in
    let under = collecting.under_way in
    let there = owner-there number address collecting is.at in
    let is_bay : IsBay bay = under.bays.each t there in
    let layout : bay.layout ≡ start.memory.layout = under.bays.layout_is t there in
    let shaped = before-shaped number address (shape_at kept.types (object_at start.world.graph number).ty) collecting is.at refl in
    let fits = copy-fits start.memory start.placement start.world (bay_at kept.bays) after number address t rest under.keeps under.copies
    is.at is.young is.unkept there (eq-eqb t t refl) in
    let half : bay.used + size ≤ bay.layout.nursery =
    subst (λ (each : Layout). bay.used + size ≤ each.nursery) (sym layout) fits.1 in
    record {
      least = shaped.least;
      most = shaped.most;
      half = half;
      grey_half = λ copy next.
          let own = with_words bay size in
          let own_is = is_bay-words bay size is_bay half in
          can_take-from bay start.memory.layout bay.grey grey_room copy layout
          (grey_room-copied rest under (copied-at number address copy own collecting is (more-bump bay size copy own_is (sym next))
          (fresh-next bay size copy is_bay (sym next)) refl));
      grey_cell = λ copy next.
          let cell = in-next_cell number address copy collecting is next in
          can_take-from bay start.memory.layout bay.grey grey_room copy layout (grey_room-copied rest under cell.copied);
      listed = λ copy next.
          let cell = in-next_cell number address copy collecting is next in
          can_take-from bay start.memory.layout bay.remembered remembered_room copy layout
          (list_room-copied rest under cell.copied cell.listed cell.page);
      counted = can_count-copy start.kind (λ a. slice_index kept.words a) (bay_at kept.bays) done collecting.marks number address t rest
          under.keeps collecting.marked is.at is.unkept there;
    }

-- ---- the copy in its place

-- other remembered and grey lists and another tally leave a bay's extents as they are
lists-extents : (mid new : Bay) (remembered grey : List ℕ) (tally : Tally) → IsBay new
    → new ≡ record mid { remembered = remembered; grey = grey; tally = tally } → HasSameExtents mid new
lists-extents mid new remembered grey tally is new_is = record {
  owner = record {
    bay = is;
    layout = ap (λ (each : Bay). each.layout) new_is;
    mutator = ap (λ (each : Bay). each.mutator) new_is;
  };
  half = ap (λ (each : Bay). each.half) new_is;
  used = ap (λ (each : Bay). each.used) new_is;
  pages = ap (λ (each : Bay). each.pages) new_is;
}

-- a copy is put in the next words of its owner's half
record IsInHalf (kind : RunKind) (old new : Bay) (head kept : Head) (size copy : ℕ) (has_slots : Bool) : Type 0 where
  words : TakesNextWords old (with_words old size) head kept size copy
  taken : IsBay (with_words old size)
  new_is : new ≡ record (with_words old size) {
    grey = grey_after old.grey has_slots copy;
    tally = tally_after kind old.tally size;
  }

-- or in its next cell
record IsInCell (kind : RunKind) (old new : Bay) (head kept : Head) (size copy : ℕ) (has_slots : Bool) : Type 0 where
  mid : Bay
  cell : TakesNextCell kind old mid head kept size copy
  new_is : new ≡ record old {
    pages = mid.pages;
    given = mid.given;
    remembered = old.remembered ++ copy ∷ [];
    grey = grey_after old.grey has_slots copy;
    tally = tally_after kind old.tally size;
  }

-- as a copy is that is put in its place
put-in : (kind : RunKind) (old new : Bay) (head kept : Head) (size copy : ℕ) (has_slots : Bool)
    → IsPut kind old new head kept size copy has_slots
    → IsInHalf kind old new head kept size copy has_slots ⊎ IsInCell kind old new head kept size copy has_slots
put-in kind old new head kept size copy has_slots put =
    let grown : Bay → Bay = λ each.
    record each { grey = grey_after each.grey has_slots copy; tally = tally_after kind each.tally size } in
    elim put.taken.place [
      | inl words ↦ inl (record {
        words = record { next = words.next; new_is = refl; stays = words.stays; head_is = words.head_is };
        taken = subst IsBay words.new_is put.taken.bay;
        new_is = put.new_is ∙ ap grown words.new_is;
      })
      | inr cell ↦ inr (record {
        mid = put.mid;
        cell = cell;
        new_is = put.new_is ∙ ap grown cell.new_is;
      })
    ]

-- ---- the work that is left

-- a grey list gets one entry at most
grey-grows : (list : List ℕ) (has_slots : Bool) (copy : ℕ) → length (grey_after list has_slots copy) ≤ length list + 1
grey-grows list true copy = omega (arith, length_push list copy)
grey-grows list false copy = omega arith

-- a bay that has one more remembered address, and one more grey one at most, has less work left
pub listed_work-falls : (old new : Bay) (address : ℕ) (has_slots : Bool) → IsBay new → new.layout ≡ old.layout → new.used ≡ old.used
    → new.remembered ≡ old.remembered ++ address ∷ [] → new.grey ≡ grey_after old.grey has_slots address
    → bay_work_left new < bay_work_left old
listed_work-falls old new address has_slots is layout used listed grey =
    let rooms : remembered_room new.layout ≡ remembered_room old.layout = ap remembered_room layout in
    let halves : new.layout.nursery ≡ old.layout.nursery = ap (λ (each : Layout). each.nursery) layout in
    let more : length new.remembered ≡ length old.remembered + 1 =
    ap length listed ∙ length_push old.remembered address in
    let most : length new.grey ≤ length old.grey + 1 =
    subst (λ (list : List ℕ). length list ≤ length old.grey + 1) (sym grey) (grey-grows old.grey has_slots address) in
    omega (arith, rooms, halves, used, more, most, is.remembered)

-- a copy leaves less work on its owner's bay
bay_work-falls : (kind : RunKind) (old new : Bay) (head kept : Head) (size copy : ℕ) (has_slots : Bool) → 2 ≤ size
    → IsPut kind old new head kept size copy has_slots → bay_work_left new < bay_work_left old
bay_work-falls kind old new head kept size copy has_slots least put =
    let grey = grey-grows old.grey has_slots copy in
    elim (put-in kind old new head kept size copy has_slots put) [
      | inl half ↦
          let fits : old.used + size ≤ old.layout.nursery = half.taken.used in
          subst (λ each. bay_work_left each < bay_work_left old) (sym half.new_is) (omega (arith, fits, least, grey))
      | inr cell ↦
          listed_work-falls old new copy has_slots put.bay (ap (λ (each : Bay). each.layout) cell.new_is)
          (ap (λ (each : Bay). each.used) cell.new_is) (ap (λ (each : Bay). each.remembered) cell.new_is)
          (ap (λ (each : Bay). each.grey) cell.new_is)
    ]

-- so on all bays
pub work-falls : (bays : List Bay) (t : ℕ) (new : Bay) → t < length bays → bay_work_left new < bay_work_left (bay_at bays t)
    → work_left (slice_set bays t new) < work_left bays
work-falls bays t new there falls = omega (arith, sum_by-set bay_work_left bays t new no_bay there, falls)

-- ---- the collection goes on

-- what the header of an object says now of the bit seen it said before
seen-before : {kept : Kept} {start : Beginning} {after : Placement} {done : Done} {stage : Stage} (number address : ℕ) (seen : Bool)
    → IsCollecting kept start after done stage → start.placement number ≡ Some address
    → (head_of (slice_index kept.words address)).seen ≡ seen → (head_of (start.memory.word address)).seen ≡ seen
seen-before number address seen collecting at is = sym (collecting.under_way.headers number address at).seen_is ∙ is

-- a copy that is put in its place is one
pub put-copied : {kept : Kept} {start : Beginning} {after : Placement} {done : Done} {stage : Stage} (number address copy : ℕ)
    (new : Bay) (was head : Head) (has_slots : Bool) → IsCollecting kept start after done stage → IsToCopy start after number address
    → IsPut start.kind (bay_at kept.bays (owner_in start number)) new was head (size_in start number) copy has_slots
    → IsCopied start.memory start.placement start.world (bay_at kept.bays)
    (bay_at (slice_set kept.bays (owner_in start number) new)) after number address copy (size_in start number) new
put-copied {kept} {start} number address copy new was head has_slots collecting is put =
    let size = size_in start number in
    let bay = bay_at kept.bays (owner_in start number) in
    elim (put-in start.kind bay new was head size copy has_slots put) [
      | inl half ↦
          copied-at number address copy new collecting is
          (more-then_same bay (with_words bay size) new copy size (more-bump bay size copy half.taken (sym half.words.next))
          (lists-extents (with_words bay size) new bay.remembered (grey_after bay.grey has_slots copy)
          (tally_after start.kind bay.tally size) put.bay half.new_is))
          put.taken.fresh (ap (λ (each : Bay). each.registers) half.new_is)
      | inr cell ↦
          let mid : Bay = record bay { pages = cell.mid.pages; given = cell.mid.given } in
          copied-at number address copy new collecting is
          (more-then_same bay mid new copy size
          (more-cell bay mid size copy (sym cell.cell.next) cell.cell.takes refl cell.cell.taken)
          (lists-extents mid new (bay.remembered ++ copy ∷ []) (grey_after bay.grey has_slots copy)
          (tally_after start.kind bay.tally size) put.bay cell.new_is))
          put.taken.fresh (ap (λ (each : Bay). each.registers) cell.new_is)
    ]

-- what a full collection has marked, where an object is copied: a copy that is promoted is marked
marks_in-copied : (kind : RunKind) {old : Memory} {before : Placement} {world : World} {word other : ℕ → ℕ} {bay new : ℕ → Bay}
    {after : Placement} {done : Done} {waiting : ℕ → ℕ → Type 0} (marks : Marks) {number address copy size : ℕ} {own : Bay} {head : Head}
    {promoted : Bool} → IsAtRest old before world → IsCollectionUnderWay kind old before world word bay after done waiting
    → AreMarkedIn kind old.layout before world word bay after done marks
    → IsCopied old before world bay new after number address copy size own
    → IsWritten kind old world word other bay number address copy size own head promoted
    → own.tally ≡ tally_after kind (bay (home_of (object_at world.graph number).maker)).tally size
    → is_reached (tracing_of kind old before world) number ≡ true
    → AreMarkedIn kind old.layout before world other new (with_place after number copy) done (marks_with marks promoted number)
marks_in-copied RunKind.Minor marks rest under are copied written counted reached = tt
marks_in-copied RunKind.Full marks rest under are copied written counted reached =
    marks-copied rest under are copied written (ap (λ (tally : Tally). tally.objects) counted)
    (ap (λ (tally : Tally). tally.words) counted) reached

-- an object is copied while a collection is under way, and promoted or not
record HasCopied (start : Beginning) (word : ℕ → ℕ) (bay : ℕ → Bay) (after : Placement) (done : Done) (waiting : ℕ → ℕ → Type 0)
    (marks : Marks) (number : ℕ) : Type 0 where
  promoted : Bool
  under_way : IsCollectionUnderWay start.kind start.memory start.placement start.world word bay after done waiting
  marked : AreMarkedIn start.kind start.memory.layout start.placement start.world word bay after done
      (marks_with marks promoted number)

-- what waits waits where the same objects wait for their marks
pub waits-marks : (start : Beginning) (marks now : Marks) (stage : Stage) (each place : ℕ)
    → (IsUnmarked start marks each → IsUnmarked start now each) → Waits start marks stage each place
    → Waits start now stage each place
waits-marks start marks now stage each place to waits = elim waits [
  | inl scan ↦ inl scan
  | inr other ↦ elim other [ inl hand ↦ inr (inl hand) | inr unmarked ↦ inr (inr (to unmarked)) ]
]

-- and the collection is under way with one more object that is kept
pub collecting-put : {kept : Kept} {start : Beginning} {after : Placement} {done : Done} {stage : Stage} (number address copy : ℕ)
    (new : Bay) (head : Head) (words : List ℕ) → IsCollecting kept start after done stage → IsToCopy start after number address
    → IsPut start.kind (bay_at kept.bays (owner_in start number)) new (head_of (slice_index kept.words address)) head
    (size_in start number) copy (nat_lt 0 (length (object_at start.world.graph number).slots))
    → CopiesObject (λ a. slice_index kept.words a) (λ a. slice_index words a) address copy (size_in start number) (head_word head)
    → length words ≡ length kept.words
    → IsCollecting (record kept { words = words; bays = slice_set kept.bays (owner_in start number) new }) start
    (with_place after number copy) done stage
collecting-put {kept} {start} {after} {done} {stage} number address copy new head words collecting is put copies count =
    let t = owner_in start number in
    let size = size_in start number in
    let bay = bay_at kept.bays t in
    let has_slots = nat_lt 0 (length (object_at start.world.graph number).slots) in
    let was = head_of (slice_index kept.words address) in
    let bays = slice_set kept.bays t new in
    let old = start.memory in
    let marks = collecting.marks in
    let rest = collecting.rest in
    let under = collecting.under_way in
    let grown = with_place after number copy in
    let layout : bay.layout ≡ old.layout =
    under.bays.layout_is t (owner-there number address collecting is.at) in
    let copied = put-copied number address copy new was head has_slots collecting is put in
    let word : ℕ → ℕ = λ a. slice_index kept.words a in
    let other : ℕ → ℕ = λ a. slice_index words a in
    let Copies : Head → Type 0 = λ each. CopiesObject word other address copy size (head_word each) in
    let now : HasCopied start other (bay_at bays) grown done (Waits start marks stage) marks number =
    elim (put-in start.kind bay new was head size copy has_slots put) [
      | inl half ↦
          let into : IsCopiedIntoHalf old start.world word other (bay_at kept.bays) number address copy size new = record {
            copies = subst Copies half.words.head_is copies;
            outside = subst (λ each. ¬ IsInAPage each copy) layout
                (words-outside bay size copy half.taken (omega arith) half.words.next);
            used = ap (λ (each : Bay). each.used) half.new_is;
            pages = ap (λ (each : Bay). each.pages) half.new_is;
            listed = ap (λ (each : Bay). each.remembered) half.new_is;
            grey = ap (λ (each : Bay). each.grey) half.new_is;
            stays = elim half.words.stays [
              | inl unseen ↦ inl (seen-before number address false collecting is.at unseen)
              | inr none ↦
                  inr (subst (λ each. HasNoCell each size) (sym half.new_is) (record { cells = none.cells; pages = none.pages }))
            ];
          } in
          record {
            promoted = false;
            under_way = copied-in_half rest under copied is.reached into;
            marked = marks_in-copied start.kind marks rest under collecting.marked copied (written-in_half start.kind into)
                (ap (λ (each : Bay). each.tally) half.new_is) is.reached;
          }
      | inr cell ↦
          let offset = next-offset bay size copy cell.cell.next in
          let into : IsCopiedIntoPage start.kind old start.world word other (bay_at kept.bays) number address copy size new = record {
            copies = subst Copies cell.cell.head_is copies;
            inside = subst (λ each. IsInAPage each copy) layout
                (cell-inside bay cell.mid.pages size copy cell.cell.taken.page_count cell.cell.next cell.cell.takes);
            seen = seen-before number address true collecting is.at cell.cell.seen;
            used = ap (λ (each : Bay). each.used) cell.new_is;
            offset = offset.0;
            pages = ap (λ (each : Bay). each.pages) cell.new_is ∙ cell.cell.pages offset.0 offset.1;
            listed = ap (λ (each : Bay). each.remembered) cell.new_is;
            grey = ap (λ (each : Bay). each.grey) cell.new_is;
          } in
          record {
            promoted = true;
            under_way = copied-in_page rest under copied is.reached into;
            marked = marks_in-copied start.kind marks rest under collecting.marked copied (written-in_page start.kind into)
                (ap (λ (each : Bay). each.tally) cell.new_is) is.reached;
          }
    ] in
    let grey : new.grey ≡ grey_after bay.grey has_slots copy = elim (put-in start.kind bay new was head size copy has_slots put) [
      | inl half ↦ ap (λ (each : Bay). each.grey) half.new_is
      | inr cell ↦ ap (λ (each : Bay). each.grey) cell.new_is
    ] in
    let marks_now = marks_with marks now.promoted number in
    let waits = λ (each : ℕ). waits-copied start.kind old.layout start.placement marks now.promoted number each is.young in
    let way = waiting-same old start.placement start.world other (bay_at bays) grown done (Waits start marks stage)
    (Waits start marks_now stage) now.under_way
    (λ each place. waits-marks start marks marks_now stage each place (waits each).0)
    (λ each place. waits-marks start marks_now marks stage each place (waits each).1) in
    let hand = hand-copied kept start after marks words bays number copy t now.promoted has_slots stage.in_hand is.young is.unkept
    way.apart
    (may_grow-grey old.layout.mutators (bay_at kept.bays) (bay_at bays) t new has_slots copy
    (owner-there number address collecting is.at) copied.changed grey)
    collecting.in_hand in
    collecting-with kept start after grown done done stage stage words bays marks_now collecting count (length-set kept.bays t new) way
    now.marked hand

-- ---- what is read of an object

-- its type is known
pub type-known : {kept : Kept} {start : Beginning} {after : Placement} {done : Done} {stage : Stage} (number address : ℕ) (head : Head)
    → IsCollecting kept start after done stage → start.placement number ≡ Some address
    → head ≡ head_of (slice_index kept.words address) → head.ty.0 < length kept.types
type-known number address head collecting before read =
    let typed = before-typed number address collecting before in
    omega (
      arith,
      ap (λ (each : Head). each.ty.0) read,
      (before-header number address collecting before).type_is,
      typed.known,
    )

-- the object's header, its shape, its size, where its owner's bay is, and this bay were read
pub record IsRead (kept : Kept) (start : Beginning) (number address : ℕ) (head : Head) (shape : Shape) (size at : ℕ) (bay : Bay)
    : Type 0 where
  pub head_is : head ≡ head_of (slice_index kept.words address)
  pub slots : length (object_at start.world.graph number).slots ≡ shape.slots
  pub size_is : size ≡ size_in start number
  pub at_is : at ≡ owner_in start number
  pub bay_is : bay ≡ bay_at kept.bays (owner_in start number)

-- as they are
pub object-read : {kept : Kept} {start : Beginning} {after : Placement} {done : Done} {stage : Stage} (number address : ℕ)
    (head : Head) (found_shape : Option Shape) (shape : Shape) (size : ℕ) (found : Option ℕ) (owner at : ℕ) (bay : Bay)
    → IsCollecting kept start after done stage → start.placement number ≡ Some address
    → head ≡ head_of (slice_index kept.words address) → found_shape ≡ slice_get kept.types head.ty.0 → found_shape ≡ Some shape
    → size ≡ size_of shape → found ≡ Some (owner_in start number) → found ≡ Some owner → at ≡ owner
    → bay ≡ slice_index_or kept.bays at bay → IsRead kept start number address head shape size at bay
object-read {kept} {start} number address head found_shape shape size found owner at bay collecting before head_is shape_read some
    size_read found_is owner_read at_read bay_read =
    let object = object_at start.world.graph number in
    let t = owner_in start number in
    let ty : head.ty.0 ≡ object.ty =
    ap (λ (each : Head). each.ty.0) head_is ∙ (before-header number address collecting before).type_is in
    let shape_is : shape ≡ shape_at kept.types object.ty =
    sym (get_or_from_slice_get kept.types head.ty.0 shape common_shape (sym shape_read ∙ some)) ∙ ap (shape_at kept.types) ty in
    let shaped = before-shaped number address shape collecting before shape_is in
    let at_is : at ≡ t = at_read ∙ same_Some owner t (sym owner_read ∙ found_is) in
    record {
      head_is = head_is;
      slots = shaped.slots;
      size_is = omega (arith, size_read, shaped.slots, shaped.numbers);
      at_is = at_is;
      bay_is = bay-at t at bay collecting (owner-there number address collecting before) at_is bay_read;
    }

-- so they are of an object that is to be copied
pub to_copy-read : {kept : Kept} {start : Beginning} {after : Placement} {done : Done} {stage : Stage} (number address : ℕ)
    (head : Head) (found_shape : Option Shape) (shape : Shape) (size : ℕ) (found : Option ℕ) (owner at : ℕ) (bay : Bay)
    → IsCollecting kept start after done stage → IsToCopy start after number address → head ≡ head_of (slice_index kept.words address)
    → found_shape ≡ slice_get kept.types head.ty.0 → found_shape ≡ Some shape → size ≡ size_of shape
    → ((m : ℕ) (part : Part) → m < kept.layout.mutators → IsInside kept.layout part → address_of kept.layout m part ≡ address
    → found ≡ Some m)
    → found ≡ Some owner → at ≡ owner → bay ≡ slice_index_or kept.bays at bay
    → IsRead kept start number address head shape size at bay
to_copy-read number address head found_shape shape size found owner at bay collecting is head_is shape_read some size_read exact
    owner_read at_read bay_read =
    object-read number address head found_shape shape size found owner at bay collecting is.at head_is shape_read some size_read
    (owner-found number address found collecting is exact) owner_read at_read bay_read

-- the bay that was read can take the copy
pub can_take-read : {kept : Kept} {start : Beginning} {after : Placement} {done : Done} {stage : Stage} (number address : ℕ)
    (head : Head) (shape : Shape) (size at : ℕ) (bay : Bay) → IsCollecting kept start after done stage
    → IsToCopy start after number address → IsRead kept start number address head shape size at bay → CanTakeCopy start.kind bay size
can_take-read number address head shape size at bay collecting is read =
    rw (read.bay_is, read.size_is) (can_take-copy number address collecting is)

-- a copy that is put there is put in its owner's bay
pub put-read : {kept : Kept} {start : Beginning} {number address : ℕ} {head : Head} {shape : Shape} {size at : ℕ} {bay : Bay}
    (copy : ℕ) (new : Bay) (now : Head) → IsRead kept start number address head shape size at bay
    → IsPut start.kind bay new head now size copy (nat_lt 0 shape.slots)
    → IsPut start.kind (bay_at kept.bays (owner_in start number)) new (head_of (slice_index kept.words address)) now
    (size_in start number) copy (nat_lt 0 (length (object_at start.world.graph number).slots))
put-read {kept} {start} {number} {address} {head} {shape} {size} {at} {bay} copy new now read put =
    rw (sym read.bay_is, sym read.head_is, sym read.size_is, read.slots) put

-- so many words of an object and of its copy are there, and they are apart
pub record AreApartAndInside (kept : Kept) (address copy size : ℕ) : Type 0 where
  pub least : 2 ≤ size
  pub within : address + size ≤ length kept.words
  pub room : copy + size ≤ length kept.words
  pub apart : (address + size ≤ copy) ⊎ (copy + size ≤ address)

-- so are those of a copy that is put in its place
pub put-apart : {kept : Kept} {start : Beginning} {after : Placement} {done : Done} {stage : Stage} {number address : ℕ} {head : Head}
    {shape : Shape} {size at : ℕ} {bay : Bay} (copy : ℕ) (new : Bay) (now : Head) → IsCollecting kept start after done stage
    → IsToCopy start after number address → IsRead kept start number address head shape size at bay
    → IsPut start.kind bay new head now size copy (nat_lt 0 shape.slots) → AreApartAndInside kept address copy size
put-apart {kept} {start} {after} {done} {stage} {number} {address} {head} {shape} {size} {at} {bay} copy new now collecting is read put =
    let t = owner_in start number in
    let words = size_in start number in
    let layout = start.memory.layout in
    let own = bay_at kept.bays t in
    let under = collecting.under_way in
    let there = owner-there number address collecting is.at in
    let own_put = put-read copy new now read put in
    let fresh = own_put.taken.fresh in
    let own_layout : own.layout ≡ layout = under.bays.layout_is t there in
    let own_mutator : own.mutator ≡ t = under.bays.mutator_is t there in
    let from : region_start layout t ≤ copy = rw (own_layout, own_mutator) at fresh.from in
    let to : copy + words ≤ region_start layout (t + 1) = rw (own_layout, own_mutator) at fresh.to in
    let last : ℕ = copy + words - 1 in
    let end = region-within layout t last there (omega (arith, from)) (omega (arith, to)) in
    let copied = put-copied number address copy new (head_of (slice_index kept.words address)) now
    (nat_lt 0 (length (object_at start.world.graph number).slots)) collecting is own_put in
    let clear = (copies-apart collecting.rest copied under.bays under.flipped under.lying under.keeps).placed in
    let size_is = read.size_is in
    let word : (a : ℕ) → address ≤ a → a < address + words → (a < copy) ⊎ (copy + words ≤ a) =
    λ a begins ends. clear number a (record { address = address; at = is.at; from = begins; to = ends }) in
    record {
      least = omega (arith, size_is);
      within = omega (arith, (before-ends number address collecting is.at).1, size_is);
      room = omega (arith, end.1, collecting.words, size_is);
      apart = elim (word address (omega arith) (omega arith)) [
        | inl before ↦ elim (cases_lt copy (address + words)) [
          | inl inside ↦
              absurd (⊎_elim (λ less. omega (arith, less)) (λ past. omega (arith, past))
              (word copy (omega (arith, before)) inside))
          | inr past ↦ inl (omega (arith, past, size_is))
        ]
        | inr behind ↦ inr (omega (arith, behind, size_is))
      ];
    }

-- an object is copied: the collection is under way with one more object that is kept
pub object-copied : {kept : Kept} {start : Beginning} {after : Placement} {done : Done} {stage : Stage} {number address : ℕ}
    {head : Head} {shape : Shape} {size at : ℕ} {bay : Bay} (copy : ℕ) (new : Bay) (now : Head) (header : ℕ) (words : List ℕ)
    → IsCollecting kept start after done stage → IsToCopy start after number address
    → IsRead kept start number address head shape size at bay → IsPut start.kind bay new head now size copy (nat_lt 0 shape.slots)
    → CopiesObject (λ a. slice_index kept.words a) (λ a. slice_index words a) address copy size header → header ≡ head_word now
    → length words ≡ length kept.words
    → IsCollecting (record kept { words = words; bays = slice_set kept.bays at new }) start (with_place after number copy) done stage
object-copied {kept} {start} {after} {done} {stage} {number} {address} copy new now header words collecting is read put copies header_is
    count =
    rw read.at_is
    (collecting-put number address copy new now words collecting is (put-read copy new now read put)
    (rw (read.size_is, header_is) at copies) count)

-- and there is less work left
pub work-read : {kept : Kept} {start : Beginning} {after : Placement} {done : Done} {stage : Stage} {number address : ℕ} {head : Head}
    {shape : Shape} {size at : ℕ} {bay : Bay} (copy : ℕ) (new : Bay) (now : Head) → IsCollecting kept start after done stage
    → IsToCopy start after number address → IsRead kept start number address head shape size at bay
    → IsPut start.kind bay new head now size copy (nat_lt 0 shape.slots) → work_left (slice_set kept.bays at new) < work_left kept.bays
work-read {kept} {start} {after} {done} {stage} {number} {address} {head} {shape} {size} {at} copy new now collecting is read put =
    let t = owner_in start number in
    rw read.at_is
    (work-falls kept.bays t new (bay-there t collecting (owner-there number address collecting is.at))
    (bay_work-falls start.kind (bay_at kept.bays t) new (head_of (slice_index kept.words address)) now (size_in start number) copy
    (nat_lt 0 (length (object_at start.world.graph number).slots)) (omega arith) (put-read copy new now read put)))
