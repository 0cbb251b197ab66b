-- How a full collection begins: all bays are flipped, with empty lists and tallies, nothing is marked, and the objects in pages
-- wait for their marks.
use Rattle.std.proofs.Common.{◌≡◌, ◌∙◌, ℕ, ◌-◌, ◌<◌, ◌&&◌, ◌||◌, Bool, true, false, is_some, [], length, Some, inl, inr, refl, sym, ap, arith, slice_index}
use Rattle.std.proofs.lemmas.Bool.{and_left, and_right, both_ways, cases_Bool, false≢true}
use Rattle.gc_bay.specs.Bay.{Bay, IsBay, no_tally}
use Rattle.gc_layout.specs.Places.{Layout, cell_address}
use Rattle.gc_model.specs.Graph.{object_at}
use Rattle.gc_model.specs.Reach.{is_reachable, whole}
use Rattle.gc_model.specs.World.{World}
use Rattle.gc_model.specs.declared.entry.RunKind.{RunKind}
use Rattle.gc_model.proofs.Reached.{reached-later}
use Rattle.gc_placement.specs.Extents.{IsInAPage, is_home}
use Rattle.gc_placement.specs.Headers.{head_of}
use Rattle.gc_placement.specs.Holders.{Done}
use Rattle.gc_placement.specs.Marks.{AreMarked, Marks, WaitsForMark, is_found}
use Rattle.gc_placement.specs.Memory.{Memory}
use Rattle.gc_placement.specs.Moves.{old_part}
use Rattle.gc_placement.specs.Placement.{Placement}
use Rattle.gc_placement.specs.Remembered.{AreLists, IsOnAList}
use Rattle.gc_placement.specs.Rest.{IsAtRest}
use Rattle.gc_placement.specs.Sums.{is_young}
use Rattle.gc_placement.specs.Tracings.{tracing_of}
use Rattle.gc_placement.specs.UnderWay.{HaveMarkBits, IsCollectionUnderWay}
use Rattle.gc_placement.proofs.FullSums.{objects-none}
use Rattle.gc_placement.proofs.MinorBeginning.{AreFlippedFirst, all_lie-flipped, apart-old_part, are_bays-flipped, cells-flipped, cells_stay-flipped, copies-first, grey-none, headers-begun, keeps-old_part, none-grey, old_part-at, old_part-from, old_part-page, old_part-young, promoted-begun, promoted_remembered-begun, reached-old_part, stand_moving-begun}
use Rattle.gc_placement.proofs.MovePlaces.{page-old}
use Rattle.gc_placement.proofs.Sums.{words-none}

-- nothing is marked
abbrev pub no_marks : Marks
no_marks number = false

-- nothing is done
abbrev pub nothing_done : Done
nothing_done = record { registers = λ t reg. false; slots = λ number place. false; common = false }

-- the halves are flipped, and lists and tallies are emptied
pub record AreFlippedFull (old : Memory) (bay : ℕ → Bay) : Type 0 where
  pub flips : (t : ℕ) → t < old.layout.mutators
      → bay t ≡ record (old.bay t) { half = 1 - (old.bay t).half; used = 0; remembered = []; tally = no_tally }
  pub are : (t : ℕ) → t < old.layout.mutators → IsBay (bay t)

-- ---- what is there

-- of the bays as much is flipped as by a minor collection
flipped-first : (old : Memory) (bay : ℕ → Bay) → AreFlippedFull old bay → AreFlippedFirst old.layout.mutators old.bay bay
flipped-first old bay flipped = record {
  half = λ t there. ap (λ (each : Bay). each.half) (flipped.flips t there);
  used = λ t there. ap (λ (each : Bay). each.used) (flipped.flips t there);
  pages = λ t there. ap (λ (each : Bay). each.pages) (flipped.flips t there);
  layout = λ t there. ap (λ (each : Bay). each.layout) (flipped.flips t there);
  mutator = λ t there. ap (λ (each : Bay). each.mutator) (flipped.flips t there);
  are = flipped.are;
}

-- nothing is grey
grey-emptied : (old : Memory) (before : Placement) (world : World) (bay : ℕ → Bay) → IsAtRest old before world → AreFlippedFull old bay
    → (t : ℕ) → t < old.layout.mutators → (bay t).grey ≡ []
grey-emptied old before world bay rest flipped t there =
    ap (λ (each : Bay). each.grey) (flipped.flips t there) ∙ rest.no_grey t there

-- and no object is on a list
none-listed : (mutators : ℕ) (bay : ℕ → Bay) (address : ℕ) → ((t : ℕ) → t < mutators → (bay t).remembered ≡ [])
    → ¬ IsOnAList mutators bay address
none-listed mutators bay address empty on =
    omega (arith, on.listed.within, ap length (empty on.mutator on.listed.mutator))

-- so the lists are as they are to be
lists-none : (layout : Layout) (mutators : ℕ) (bay : ℕ → Bay) (after : Placement)
    → ((t : ℕ) → t < mutators → (bay t).remembered ≡ []) → AreLists layout mutators bay after
lists-none layout mutators bay after empty = record {
  placed = λ address on. absurd (none-listed mutators bay address empty on);
  old = λ address on. absurd (none-listed mutators bay address empty on);
  once = λ address t u i j one other.
      absurd (none-listed mutators bay address empty (record { mutator = t; index = i; listed = one }));
}

-- and so are the bits: no object is marked
mark_bits-none : (word : ℕ → ℕ) (layout : Layout) (bay : ℕ → Bay) (before : Placement)
    → ((number address : ℕ) → before number ≡ Some address → (head_of (word address)).marked ≡ false)
    → ((t : ℕ) → t < layout.mutators → (bay t).remembered ≡ [])
    → HaveMarkBits word layout bay (old_part layout before)
mark_bits-none word layout bay before unmarked empty = record {
  marked = λ number address at. (
    λ is. absurd (both_ways (head_of (word address)).marked (unmarked number address (old_part-from layout before number address at)) is),
    λ on. absurd (none-listed layout.mutators bay address empty on),
  );
  remembered = λ number address at is.
      absurd (both_ways (head_of (word address)).marked (unmarked number address (old_part-from layout before number address at)) is);
  young = λ number address at outside. absurd (outside (old_part-page layout before number address at));
}

-- ---- the collection begins

-- a full collection is under way once all bays are flipped and emptied: all slots of the objects in pages wait for marks
pub full-begins : (old : Memory) (before : Placement) (world : World) (bay : ℕ → Bay) → IsAtRest old before world → AreFlippedFull old bay
    → IsCollectionUnderWay RunKind.Full old before world old.word bay (old_part old.layout before) nothing_done
    (λ number place. WaitsForMark RunKind.Full old.layout before no_marks number)
full-begins old before world bay rest full =
    let layout = old.layout in
    let mutators = old.layout.mutators in
    let after = old_part layout before in
    let flipped = flipped-first old bay full in
    let empty : (t : ℕ) → t < mutators → (bay t).remembered ≡ [] =
    λ t there. ap (λ (each : Bay). each.remembered) (full.flips t there) in
    let no_grey = grey-emptied old before world bay rest full in
    record {
      bays = are_bays-flipped layout old.bay bay flipped rest.shown.bays;
      standing = stand_moving-begun old before world nothing_done.slots rest (λ number place placed is. absurd (false≢true is));
      headers = headers-begun old.word before;
      old_in_pages = λ number address at. rest.shown.old number address (old_part-from layout before number address at);
      keeps = keeps-old_part layout before;
      reached = reached-old_part (tracing_of RunKind.Full old before world) layout before;
      flipped = flipped.half;
      cells_stay = cells_stay-flipped mutators old.bay bay flipped;
      lying = all_lie-flipped layout old.bay bay before world.graph flipped rest.shown.bays rest.shown.lying;
      apart = apart-old_part layout before world.graph rest.shown.apart;
      cells = cells-flipped layout old.bay bay before flipped rest.shown.bays rest.shown.cells;
      copies = copies-first layout old.bay bay before world.graph flipped;
      registers = λ t reg there.
          ap (λ (each : Bay). slice_index each.registers reg) (full.flips t there) ∙ rest.shown.registers t reg there;
      covers = record {
        registers = λ t reg is. absurd (false≢true is);
        slots = λ number place placed is. absurd (false≢true is);
      };
      lists = lists-none layout mutators bay after empty;
      lists_grow = tt;
      bits = mark_bits-none old.word layout bay before rest.remembered.bits.marked empty;
      grey = grey-none mutators bay after world.graph no_grey;
      grey_were_young = tt;
      grey_or_waiting = λ number address place at within. (
        λ isnt. inr (
          page-old layout before number address (old_part-from layout before number address at)
              (old_part-page layout before number address at),
          refl,
        ),
        λ either. refl,
      );
      only_kept = λ number place unkept. refl;
      promoted = promoted-begun layout old.word old.word bay before world.graph;
      promoted_remembered = promoted_remembered-begun layout old.word before;
    }

-- ---- the marks

-- no object is found
none-found : (layout : Layout) (before : Placement) (number : ℕ) → is_found layout before (old_part layout before) no_marks number ≡ false
none-found layout before number = elim (cases_Bool (is_young layout before number)) [
  | inl young ↦
      and_left (is_some (old_part layout before number)) (is_young layout before number || no_marks number)
      (ap is_some (old_part-young layout before number young))
  | inr old ↦
      and_right (is_some (old_part layout before number)) (is_young layout before number || no_marks number)
      (ap (λ (test : Bool). test || false) old)
]

-- the marks of a full collection as it begins: there are none, and the tallies count nothing
pub marks-begin : (old : Memory) (before : Placement) (world : World) (bay : ℕ → Bay) → IsAtRest old before world → AreFlippedFull old bay
    → AreMarked old.layout before world old.word bay (old_part old.layout before) nothing_done no_marks
marks-begin old before world bay rest full =
    let layout = old.layout in
    let after = old_part layout before in
    let found = is_found layout before after no_marks in
    record {
      bits = λ number address at. rest.remembered.bits.marked number address (old_part-from layout before number address at);
      in_page = λ number address at is. absurd (false≢true is);
      promoted = λ number address at young page.
          absurd (both_ways (is_young layout before number)
          (page-old layout before number address (old_part-from layout before number address at) page) young);
      reached = λ number is. absurd (both_ways (found number) (none-found layout before number) is);
      common = λ is. absurd (false≢true is);
      registers = λ t reg is. absurd (false≢true is);
      slots = λ number place is done. absurd (false≢true done);
      grey = λ number address at grey.
          absurd (none-grey layout.mutators bay address (grey-emptied old before world bay rest full) grey);
      tallies = λ t there.
          let own : ℕ → Bool = λ number. found number && is_home t (object_at world.graph number) in
          let none : (number : ℕ) → own number ≡ false =
          λ number. and_left (found number) (is_home t (object_at world.graph number)) (none-found layout before number) in
          record {
            objects = ap (λ (each : Bay). each.tally.objects) (full.flips t there) ∙ sym (objects-none own world.graph none);
            words = ap (λ (each : Bay). each.tally.words) (full.flips t there) ∙ sym (words-none own world.graph none);
          };
    }

-- ---- the common object

-- the common object is reachable
common-reachable : (world : World) → is_reachable world 0 ≡ true
common-reachable world =
    reached-later (whole world) 0 0 (length world.graph) (omega arith) refl

-- the common object lies in the first cell of page 0 of mutator 0, isn't marked, and is reachable
pub common-first : (old : Memory) (before : Placement) (world : World) → IsAtRest old before world
    → (old_part old.layout before 0 ≡ Some (cell_address old.layout 0 0)) × (IsInAPage old.layout (cell_address old.layout 0 0)
    × (((head_of (old.word (cell_address old.layout 0 0))).marked ≡ false) × (is_reachable world 0 ≡ true)))
common-first old before world rest =
    let a = cell_address old.layout 0 0 in
    let page : IsInAPage old.layout a = record {
      mutator = 0;
      inside = record { from = omega arith; to = omega (arith, rest.shown.bays.limits.some_page) };
    } in (
      old_part-at old.layout before 0 a rest.shown.common page,
      (page, (rest.remembered.bits.marked 0 a rest.shown.common, common-reachable world)),
    )
