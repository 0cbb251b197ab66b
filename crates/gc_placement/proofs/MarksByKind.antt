-- The marks of a collection under way, by its kind: what its steps leave of them. A minor one has none.
use Rattle.std.proofs.Common.{◌≡◌, ◌∙◌, ℕ, ◌<◌, ◌||◌, Bool, true, false, None, Some, is_some, refl, sym}
use Rattle.std.proofs.lemmas.Bool.{and_parts, false≢true}
use Rattle.gc_bay.specs.Bay.{Bay}
use Rattle.gc_layout.specs.Places.{Layout}
use Rattle.gc_model.specs.World.{World, named_by, slot_at}
use Rattle.gc_model.specs.declared.entry.RunKind.{RunKind}
use Rattle.gc_placement.specs.Holders.{Done, IsGrey, with_register_done, with_slot_done}
use Rattle.gc_placement.specs.Marks.{AreMarkedIn, IsNameFoundIn, Marks, WaitsForMark, is_found}
use Rattle.gc_placement.specs.Placement.{Placement}
use Rattle.gc_placement.specs.Sums.{is_young}
use Rattle.gc_placement.proofs.MarksKept.{marks-grey_taken, marks-register, marks-slot}

-- what is kept waits for no mark
pub found-waits_not : (layout : Layout) (before after : Placement) (marks : Marks) (number : ℕ)
    → is_found layout before after marks number ≡ true → ¬ WaitsForMark RunKind.Full layout before marks number
found-waits_not layout before after marks number found waits =
    let neither : (is_young layout before number || marks number) ≡ false = rw (waits.0, waits.1) refl in
    false≢true (sym neither ∙ (and_parts (is_some (after number)) (is_young layout before number || marks number) found).1)

-- nothing is named, so nothing has to be kept
pub nothing-found_in : (kind : RunKind) (layout : Layout) (before after : Placement) (marks : Marks)
    → IsNameFoundIn kind layout before after marks None
nothing-found_in RunKind.Minor layout before after marks = tt
nothing-found_in RunKind.Full layout before after marks = tt

-- ---- the steps

-- bays change in registers and grey lists alone, and what is grey was grey
pub marks_in-grey_taken : (kind : RunKind) (layout : Layout) (before : Placement) (world : World) (word : ℕ → ℕ) (bay new : ℕ → Bay)
    (after : Placement) (done : Done) (marks : Marks) → AreMarkedIn kind layout before world word bay after done marks
    → ((u : ℕ) → u < layout.mutators → (new u).tally ≡ (bay u).tally)
    → ((a : ℕ) → IsGrey layout.mutators new a → IsGrey layout.mutators bay a)
    → AreMarkedIn kind layout before world word new after done marks
marks_in-grey_taken RunKind.Minor layout before world word bay new after done marks are tallies was = tt
marks_in-grey_taken RunKind.Full layout before world word bay new after done marks are tallies was =
    marks-grey_taken layout before world word bay new after done marks are tallies was

-- and one more register is done
pub marks_in-register : (kind : RunKind) (layout : Layout) (before : Placement) (world : World) (word : ℕ → ℕ) (bay new : ℕ → Bay)
    (after : Placement) (done : Done) (marks : Marks) (t reg : ℕ) → AreMarkedIn kind layout before world word bay after done marks
    → ((u : ℕ) → u < layout.mutators → (new u).tally ≡ (bay u).tally)
    → ((a : ℕ) → IsGrey layout.mutators new a → IsGrey layout.mutators bay a)
    → IsNameFoundIn kind layout before after marks (named_by world t reg)
    → AreMarkedIn kind layout before world word new after (with_register_done done t reg) marks
marks_in-register RunKind.Minor layout before world word bay new after done marks t reg are tallies was found = tt
marks_in-register RunKind.Full layout before world word bay new after done marks t reg are tallies was found =
    marks-register layout before world word bay new after done marks t reg are tallies was found

-- a word of a slot changes, and the slot is done
pub marks_in-slot : (kind : RunKind) (layout : Layout) (before : Placement) (world : World) (word other : ℕ → ℕ) (bay : ℕ → Bay)
    (after : Placement) (done : Done) (marks : Marks) (number place : ℕ)
    → AreMarkedIn kind layout before world word bay after done marks
    → ((each a : ℕ) → after each ≡ Some a → other a ≡ word a)
    → IsNameFoundIn kind layout before after marks (slot_at world number place)
    → AreMarkedIn kind layout before world other bay after (with_slot_done done number place) marks
marks_in-slot RunKind.Minor layout before world word other bay after done marks number place are same found = tt
marks_in-slot RunKind.Full layout before world word other bay after done marks number place are same found =
    marks-slot layout before world word other bay after done marks number place are same found

-- ---- which registers are done

-- what a register names that is done is kept
pub marks_in-named : (kind : RunKind) (layout : Layout) (before : Placement) (world : World) (word : ℕ → ℕ) (bay : ℕ → Bay)
    (after : Placement) (done : Done) (marks : Marks) (t reg : ℕ) → AreMarkedIn kind layout before world word bay after done marks
    → done.registers t reg ≡ true → IsNameFoundIn kind layout before after marks (named_by world t reg)
marks_in-named RunKind.Minor layout before world word bay after done marks t reg are is = tt
marks_in-named RunKind.Full layout before world word bay after done marks t reg are is = are.registers t reg is

-- and so other registers can be done, of which the same holds
pub marks_in-registers : (kind : RunKind) (layout : Layout) (before : Placement) (world : World) (word : ℕ → ℕ) (bay : ℕ → Bay)
    (after : Placement) (done : Done) (marks : Marks) (registers : ℕ → ℕ → Bool)
    → AreMarkedIn kind layout before world word bay after done marks
    → ((t reg : ℕ) → registers t reg ≡ true → IsNameFoundIn kind layout before after marks (named_by world t reg))
    → AreMarkedIn kind layout before world word bay after (record done { registers = registers }) marks
marks_in-registers RunKind.Minor layout before world word bay after done marks registers are named = tt
marks_in-registers RunKind.Full layout before world word bay after done marks registers are named = record {
  bits = are.bits;
  in_page = are.in_page;
  promoted = are.promoted;
  reached = are.reached;
  common = are.common;
  registers = named;
  slots = are.slots;
  grey = are.grey;
  tallies = are.tallies;
}
