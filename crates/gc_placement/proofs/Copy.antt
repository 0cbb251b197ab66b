-- An object is copied while a minor collection is under way: all its parts hold with the copy, in a half or in a page.
use Rattle.std.proofs.Common.{◌≡◌, ◌⊎◌, ◌∙◌, ◌↔◌, ℕ, ◌+◌, ◌<◌, ◌&&◌, Bool, true, false, [], nat_lt, ◌∷◌, ◌++◌, length, inl, inr, refl, ap, sym, subst, arith}
use Rattle.std.proofs.lemmas.Bool.{false≢true}
use Rattle.gc_bay.specs.Bay.{Bay}
use Rattle.gc_gen2.specs.Cells.{with_cell}
use Rattle.gc_gen2.specs.Class.{class_of}
use Rattle.gc_layout.specs.declared.head.Head.{Head}
use Rattle.gc_layout.specs.declared.shape.TypeNo.{TypeNo}
use Rattle.gc_layout.specs.Head.{head_word}
use Rattle.gc_model.specs.Graph.{object_at}
use Rattle.gc_model.specs.Reach.{is_reached}
use Rattle.gc_model.specs.World.{World}
use Rattle.gc_model.specs.declared.entry.RunKind.{RunKind}
use Rattle.gc_placement.specs.Bays.{AreBays}
use Rattle.gc_placement.specs.Changes.{CopiesObject}
use Rattle.gc_placement.specs.Extents.{AllLie, IsInAPage, home_of}
use Rattle.gc_placement.specs.Flipped.{AreFlipped, HoldCopies}
use Rattle.gc_placement.specs.Headers.{head_of, is_full, promoted_head, survivor_head}
use Rattle.gc_placement.specs.Holders.{Done}
use Rattle.gc_placement.specs.Memory.{Memory}
use Rattle.gc_placement.specs.Rest.{IsAtRest}
use Rattle.gc_placement.specs.UnderWay.{IsCollectionUnderWay, all_begun}
use Rattle.gc_placement.specs.Moves.{KeepsPlaced}
use Rattle.gc_placement.specs.Placement.{Placement, with_place}
use Rattle.gc_placement.specs.Promotion.{ArePromoted, HasNoCell}
use Rattle.gc_placement.specs.Shows.{nowhere}
use Rattle.gc_placement.specs.Tracings.{tracing_of}
use Rattle.gc_placement.proofs.Copied.{IsCopied}
use Rattle.gc_placement.proofs.CopyLists.{grey-copied, grey_or_waiting-copied, grey_with, lists-copied, may_grow-grey, may_grow-remembered, with_one_more}
use Rattle.gc_placement.proofs.CopyPlaces.{all_lie-copied, apart-copied, are_bays-copied, cells-copied, cells_stay-copied, covers_done-copied, flipped-copied, keeps-copied, moving_registers-copied, only_kept-copied, reached-copied}
use Rattle.gc_placement.proofs.CopyPromotion.{no_cell-same, no_cell-taken, promoted-copied, promoted_remembered-copied}
use Rattle.gc_placement.proofs.CopySums.{copies-in_half, copies-in_page}
use Rattle.gc_placement.proofs.CopyWords.{CopiesApart, IsHeader-copied, copy-unplaced, headers-copied, kept-headers, not_kept-at, old_in_pages-copied, standing-copied}
use Rattle.gc_placement.proofs.ByKind.{bits_in-copied, grey_were_young_in-copied, lists_grow_in-copied}
use Rattle.gc_placement.proofs.Headers.{head_of-head_word}
use Rattle.gc_placement.proofs.MovePlaces.{copy-clear_before, copy-clear_kept, forwarding-apart}

-- ---- which words a copy changes

-- the words of the copy are words of no object, neither where it was before nor where it is kept
pub copies-apart : {old : Memory} {before : Placement} {world : World} {bay new : ℕ → Bay} {after : Placement}
    {number address copy size : ℕ} {own : Bay} → IsAtRest old before world
    → IsCopied old before world bay new after number address copy size own → AreBays old.layout bay
    → AreFlipped old.layout.mutators all_begun old.bay bay → AllLie old.layout.mutators bay after world.graph
    → KeepsPlaced old.layout before after → CopiesApart before after world.graph address copy size
copies-apart rest copied are flipped lie keeps = record {
  placed = copy-clear_before rest copied are flipped lie keeps;
  kept = copy-clear_kept rest copied are lie;
  forwarding = forwarding-apart rest copied are flipped lie keeps;
}

-- ---- the copy with its header, on its lists

-- how a copy is written and listed: its header has the object's type; it is old in a page, and remembered and put on its
-- maker's list where it is promoted, as it is exactly in a page; and it is put on its maker's grey list where it has slots
pub record IsWritten (kind : RunKind) (old : Memory) (world : World) (word other : ℕ → ℕ) (bay : ℕ → Bay)
    (number address copy size : ℕ) (own : Bay)
    (head : Head) (promoted : Bool) : Type 0 where
  pub copies : CopiesObject word other address copy size (head_word head)
  pub type_is : head.ty ≡ (head_of (word address)).ty
  pub old_is : (head.old ≡ true) ↔ IsInAPage old.layout copy
  pub remembered_is : head.remembered ≡ promoted
  pub marked_is : head.marked ≡ (promoted && is_full kind)
  pub page : (promoted ≡ true) ↔ IsInAPage old.layout copy
  pub listed : own.remembered ≡ with_one_more (bay (home_of (object_at world.graph number).maker)).remembered promoted copy
  pub grey : own.grey
      ≡ grey_with (bay (home_of (object_at world.graph number).maker)).grey copy (length (object_at world.graph number).slots)

-- the header of the copy is read back
pub head_of-written : {kind : RunKind} {old : Memory} {world : World} {word other : ℕ → ℕ} {bay : ℕ → Bay} {number address copy size : ℕ}
    {own : Bay} {head : Head} {promoted : Bool} → IsWritten kind old world word other bay number address copy size own head promoted
    → head_of (head_word head) ≡ head
head_of-written {kind} {old} {world} {word} {other} {bay} {number} {address} {copy} {size} {own} {head} written =
    head_of-head_word head (omega (arith, ap (λ (kind : TypeNo). kind.0) written.type_is))

-- so all parts hold with a copy that is written and listed, where so many words of halves are used and who is promoted is
-- promoted
copied-written : {kind : RunKind} {old : Memory} {before : Placement} {world : World} {word other : ℕ → ℕ} {bay new : ℕ → Bay}
    {after : Placement}
    {done : Done} {waiting : ℕ → ℕ → Type 0} {number address copy size : ℕ} {own : Bay} {head : Head} {promoted : Bool}
    → IsAtRest old before world → IsCollectionUnderWay kind old before world word bay after done waiting
    → IsCopied old before world bay new after number address copy size own
    → is_reached (tracing_of kind old before world) number ≡ true
    → IsWritten kind old world word other bay number address copy size own head promoted
    → CopiesApart before after world.graph address copy size
    → HoldCopies old.layout old.layout.mutators all_begun new (with_place after number copy) world.graph
    → ArePromoted old.layout old.word other new before (with_place after number copy) world.graph
    → IsCollectionUnderWay kind old before world other new (with_place after number copy) done waiting
copied-written {kind} {old} {before} {world} {word} {other} {bay} {new} {after} {done} {waiting} {number} {address} {copy} {size} {own}
    {head} {promoted} rest under copied reached written apart hold are_promoted =
    let graph = world.graph in
    let object = object_at graph number in
    let t = home_of object.maker in
    let mutators = old.layout.mutators in
    let there : t < mutators = rest.shown.lying.home number address copied.at in
    let header = head_word head in
    let read : head_of header ≡ head = head_of-written written in
    let now : head_of (other copy) ≡ head = ap head_of written.copies.header_is ∙ read in
    let unplaced = copy-unplaced before after graph address copy size apart (omega (arith, copied.size_is)) in
    let headers = kept-headers word other before after graph address copy size header written.copies apart in
    let stands = under.standing.others number address (not_kept-at before after number address copied.unkept copied.at) in
    let listed = may_grow-remembered mutators bay new t own promoted copy there copied.changed written.listed in
    let grey = may_grow-grey mutators bay new t own (nat_lt 0 (length object.slots)) copy there copied.changed written.grey in
    record {
      bays = are_bays-copied copied under.bays;
      standing = standing-copied word other before after done world number address copy size header under.standing written.copies apart
          rest.shown.apart under.covers under.only_kept copied.at copied.unkept copied.size_is
          (IsHeader-copied (word address) object.ty head stands.header written.type_is);
      headers = headers-copied old.word word other before after graph number address copy size header under.headers written.copies
          apart rest.shown.apart copied.at;
      old_in_pages = old_in_pages-copied word other old.layout before after graph number address copy size header under.old_in_pages
          written.copies apart
          (subst (λ (each : Head). (each.old ≡ true) ↔ IsInAPage old.layout copy) (sym read) written.old_is);
      keeps = keeps-copied copied under.keeps;
      reached = reached-copied (tracing_of kind old before world) copied reached under.reached;
      flipped = flipped-copied copied under.flipped;
      cells_stay = cells_stay-copied copied under.cells_stay;
      lying = all_lie-copied rest copied under.lying;
      apart = apart-copied rest copied under.bays under.lying under.apart;
      cells = cells-copied copied nowhere under.cells;
      copies = hold;
      registers = moving_registers-copied copied done under.covers under.registers;
      covers = covers_done-copied copied done under.only_kept under.covers;
      lists = lists-copied old.layout mutators bay new after number copy t promoted under.lists listed written.page.0 unplaced
          copied.unkept;
      lists_grow = lists_grow_in-copied kind mutators old.bay bay new t promoted copy under.lists_grow listed;
      bits = bits_in-copied kind word other old.layout bay new after number copy t promoted under.bits under.lists listed headers
          unplaced (ap (λ (each : Head). each.remembered) now ∙ written.remembered_is)
          (ap (λ (each : Head). each.marked) now ∙ written.marked_is) written.page.0;
      grey = grey-copied mutators bay new after graph number copy (nat_lt 0 (length object.slots)) under.grey grey unplaced
          copied.unkept;
      grey_or_waiting = grey_or_waiting-copied mutators bay new after done.slots graph waiting number copy under.grey_or_waiting
          under.only_kept grey unplaced copied.unkept;
      grey_were_young = grey_were_young_in-copied kind old.layout bay new before after graph number copy
          (nat_lt 0 (length object.slots)) under.grey_were_young grey unplaced copied.young;
      only_kept = only_kept-copied copied done.slots under.only_kept;
      promoted = are_promoted;
      promoted_remembered = promoted_remembered-copied old.layout word other before after number copy under.promoted_remembered headers
          (λ inside. ap (λ (each : Head). each.remembered) now ∙ written.remembered_is ∙ written.page.1 inside);
    }

-- ---- in a half

-- an object is copied to the next words of its maker's current half, and its maker's lists are as before but for the grey one:
-- it didn't have the bit seen, or its maker has no cell for it
pub record IsCopiedIntoHalf (old : Memory) (world : World) (word other : ℕ → ℕ) (bay : ℕ → Bay) (number address copy size : ℕ)
    (own : Bay) : Type 0 where
  pub copies : CopiesObject word other address copy size (head_word (survivor_head (word address)))
  pub outside : ¬ IsInAPage old.layout copy
  pub used : own.used ≡ (bay (home_of (object_at world.graph number).maker)).used + size
  pub pages : own.pages ≡ (bay (home_of (object_at world.graph number).maker)).pages
  pub listed : own.remembered ≡ (bay (home_of (object_at world.graph number).maker)).remembered
  pub grey : own.grey
      ≡ grey_with (bay (home_of (object_at world.graph number).maker)).grey copy (length (object_at world.graph number).slots)
  pub stays : ((head_of (old.word address)).seen ≡ false) ⊎ HasNoCell own size

-- so it is written and listed
pub written-in_half : (kind : RunKind) {old : Memory} {world : World} {word other : ℕ → ℕ} {bay : ℕ → Bay}
    {number address copy size : ℕ} {own : Bay} → IsCopiedIntoHalf old world word other bay number address copy size own
    → IsWritten kind old world word other bay number address copy size own (survivor_head (word address)) false
written-in_half kind half = record {
  copies = half.copies;
  type_is = refl;
  old_is = (λ is. absurd (false≢true is), λ inside. absurd (half.outside inside));
  remembered_is = refl;
  marked_is = refl;
  page = (λ is. absurd (false≢true is), λ inside. absurd (half.outside inside));
  listed = half.listed;
  grey = half.grey;
}

-- then the collection is under way with one more object that is kept
pub copied-in_half : {kind : RunKind} {old : Memory} {before : Placement} {world : World} {word other : ℕ → ℕ} {bay new : ℕ → Bay}
    {after : Placement}
    {done : Done} {waiting : ℕ → ℕ → Type 0} {number address copy size : ℕ} {own : Bay} → IsAtRest old before world
    → IsCollectionUnderWay kind old before world word bay after done waiting
    → IsCopied old before world bay new after number address copy size own
    → is_reached (tracing_of kind old before world) number ≡ true
    → IsCopiedIntoHalf old world word other bay number address copy size own
    → IsCollectionUnderWay kind old before world other new (with_place after number copy) done waiting
copied-in_half {kind} {old} {before} {world} {word} {other} {bay} {new} {after} {done} {waiting} {number} {address} {copy} {size} {own} rest
    under copied reached half =
    let graph = world.graph in
    let t = home_of (object_at graph number).maker in
    let head = survivor_head (word address) in
    let apart = copies-apart rest copied under.bays under.flipped under.lying under.keeps in
    let written = written-in_half kind half in
    let now : head_of (other copy) ≡ head = ap head_of half.copies.header_is ∙ head_of-written written in
    copied-written rest under copied reached written apart
    (copies-in_half rest copied half.used half.outside under.copies)
    (promoted-copied old.layout old.word word other bay new before after graph number address copy own under.promoted copied.changed
    (no_cell-same (bay t) own half.pages)
    (kept-headers word other before after graph address copy size (head_word head) half.copies apart) copied.at
    (λ inside. absurd (half.outside inside))
    (λ outside seen. elim half.stays [
      | inl unseen ↦ absurd (false≢true (sym unseen ∙ seen))
      | inr none ↦ subst (HasNoCell own) copied.size_is none
    ])
    (λ outside. ap (λ (each : Head). each.seen) now))

-- ---- in a page

-- an object that had the bit seen is copied into a cell that its maker takes, and it is put on its maker's remembered list, and
-- on the grey one
pub record IsCopiedIntoPage (kind : RunKind) (old : Memory) (world : World) (word other : ℕ → ℕ) (bay : ℕ → Bay)
    (number address copy size : ℕ)
    (own : Bay) : Type 0 where
  pub copies : CopiesObject word other address copy size (head_word (promoted_head kind (word address)))
  pub inside : IsInAPage old.layout copy
  pub seen : (head_of (old.word address)).seen ≡ true
  pub used : own.used ≡ (bay (home_of (object_at world.graph number).maker)).used
  pub offset : ℕ
  pub pages : own.pages ≡ with_cell (bay (home_of (object_at world.graph number).maker)).pages (class_of size) offset
  pub listed : own.remembered ≡ (bay (home_of (object_at world.graph number).maker)).remembered ++ copy ∷ []
  pub grey : own.grey
      ≡ grey_with (bay (home_of (object_at world.graph number).maker)).grey copy (length (object_at world.graph number).slots)

-- so it is written and listed
pub written-in_page : (kind : RunKind) {old : Memory} {world : World} {word other : ℕ → ℕ} {bay : ℕ → Bay}
    {number address copy size : ℕ} {own : Bay} → IsCopiedIntoPage kind old world word other bay number address copy size own
    → IsWritten kind old world word other bay number address copy size own (promoted_head kind (word address)) true
written-in_page kind page = record {
  copies = page.copies;
  type_is = refl;
  old_is = (λ is. page.inside, λ inside. refl);
  remembered_is = refl;
  marked_is = refl;
  page = (λ is. page.inside, λ inside. refl);
  listed = page.listed;
  grey = page.grey;
}

-- then the collection is under way with one more object that is kept
pub copied-in_page : {kind : RunKind} {old : Memory} {before : Placement} {world : World} {word other : ℕ → ℕ} {bay new : ℕ → Bay}
    {after : Placement}
    {done : Done} {waiting : ℕ → ℕ → Type 0} {number address copy size : ℕ} {own : Bay} → IsAtRest old before world
    → IsCollectionUnderWay kind old before world word bay after done waiting
    → IsCopied old before world bay new after number address copy size own
    → is_reached (tracing_of kind old before world) number ≡ true
    → IsCopiedIntoPage kind old world word other bay number address copy size own
    → IsCollectionUnderWay kind old before world other new (with_place after number copy) done waiting
copied-in_page {kind} {old} {before} {world} {word} {other} {bay} {new} {after} {done} {waiting} {number} {address} {copy} {size} {own} rest
    under copied reached page =
    let graph = world.graph in
    let t = home_of (object_at graph number).maker in
    let head = promoted_head kind (word address) in
    let apart = copies-apart rest copied under.bays under.flipped under.lying under.keeps in
    copied-written rest under copied reached (written-in_page kind page) apart (copies-in_page copied page.used page.inside under.copies)
    (promoted-copied old.layout old.word word other bay new before after graph number address copy own under.promoted copied.changed
    (no_cell-taken (bay t) own (class_of size) page.offset page.pages)
    (kept-headers word other before after graph address copy size (head_word head) page.copies apart) copied.at
    (λ inside. page.seen) (λ outside seen. absurd (outside page.inside)) (λ outside. absurd (outside page.inside)))
