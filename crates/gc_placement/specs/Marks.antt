-- The marks of a full collection: an object in a page is kept where it is marked, and one that lay in a half where it was copied.
use Rattle.std.specs.Prelude.{◌≡◌, ℕ, ◌<◌, ◌&&◌, ◌||◌, ◌==◌, Bool, true, false, Option, Some, None, IfSome, is_some, if◌then◌else◌}
use Rattle.gc_bay.specs.Bay.{Bay}
use Rattle.gc_layout.specs.Places.{Layout}
use Rattle.gc_model.specs.Graph.{Graph}
use Rattle.gc_model.specs.Reach.{is_reachable}
use Rattle.gc_model.specs.World.{World, named_by, slot_at}
use Rattle.gc_model.specs.declared.entry.RunKind.{RunKind}
use Rattle.gc_placement.specs.Extents.{IsInAPage}
use Rattle.gc_placement.specs.Headers.{head_of}
use Rattle.gc_placement.specs.Holders.{Done, IsGrey}
use Rattle.gc_placement.specs.Placement.{Placement}
use Rattle.gc_placement.specs.Sums.{is_young, own_objects_where, own_words_where}

-- a set of objects, by their numbers
abbrev pub Marks : Type 0
Marks = ℕ → Bool

-- one more object is marked
abbrev pub with_mark : Marks → ℕ → Marks
with_mark marks number = λ other. (other == number) || marks other

-- whether an object is kept by a full collection, as far as it has come: it lay in a half and was copied, or it is marked
abbrev pub is_found : Layout → Placement → Placement → Marks → ℕ → Bool
is_found layout before after marks number = is_some (after number) && (is_young layout before number || marks number)

-- where those objects are that it keeps
abbrev pub found_part : Layout → Placement → Placement → Marks → Placement
found_part layout before after marks number = if is_found layout before after marks number then after number else None

-- what is named is kept, or nothing is named
abbrev pub IsNameFound : Layout → Placement → Placement → Marks → Option ℕ → Type 0
IsNameFound layout before after marks name = IfSome name (λ number. is_found layout before after marks number ≡ true)

-- so it is in a full collection
abbrev pub IsNameFoundIn : RunKind → Layout → Placement → Placement → Marks → Option ℕ → Type 0
IsNameFoundIn RunKind.Minor layout before after marks name = Unit {0}
IsNameFoundIn RunKind.Full layout before after marks name = IsNameFound layout before after marks name

-- an object in a page waits for its mark: what its slots hold is as it was
abbrev pub WaitsForMark : RunKind → Layout → Placement → Marks → ℕ → Type 0
WaitsForMark RunKind.Minor layout before marks number = ⊥
WaitsForMark RunKind.Full layout before marks number = (is_young layout before number ≡ false) × (marks number ≡ false)

-- a mutator's tally counts the objects of its region that are kept, and their words
pub record CountsFound (bay : Bay) (has : ℕ → Bool) (graph : Graph) (t : ℕ) : Type 0 where
  pub objects : bay.tally.objects ≡ own_objects_where has graph t
  pub words : bay.tally.words ≡ own_words_where has graph t

-- the marks of a full collection under way: a header says marked where its object has the mark, and that is in a page; what is
-- marked is reachable; what registers and slots name where they are done is kept; what is grey is kept; and the tallies
-- count what is kept
pub record AreMarked (layout : Layout) (before : Placement) (world : World) (word : ℕ → ℕ) (bay : ℕ → Bay) (after : Placement)
    (done : Done) (marks : Marks) : Type 0 where
  pub bits : (number address : ℕ) → after number ≡ Some address → (head_of (word address)).marked ≡ marks number
  pub in_page : (number address : ℕ) → after number ≡ Some address → marks number ≡ true → IsInAPage layout address
  pub promoted : (number address : ℕ) → after number ≡ Some address → is_young layout before number ≡ true → IsInAPage layout address
      → marks number ≡ true
  pub reached : (number : ℕ) → is_found layout before after marks number ≡ true → is_reachable world number ≡ true
  pub common : done.common ≡ true → marks 0 ≡ true
  pub registers : (t reg : ℕ) → done.registers t reg ≡ true → IsNameFound layout before after marks (named_by world t reg)
  pub slots : (number place : ℕ) → is_found layout before after marks number ≡ true → done.slots number place ≡ true
      → IsNameFound layout before after marks (slot_at world number place)
  pub grey : (number address : ℕ) → after number ≡ Some address → IsGrey layout.mutators bay address
      → is_found layout before after marks number ≡ true
  pub tallies : (t : ℕ) → t < layout.mutators → CountsFound (bay t) (is_found layout before after marks) world.graph t

-- a minor collection marks nothing
abbrev pub AreMarkedIn : RunKind → Layout → Placement → World → (ℕ → ℕ) → (ℕ → Bay) → Placement → Done → Marks → Type 0
AreMarkedIn RunKind.Minor layout before world word bay after done marks = Unit {0}
AreMarkedIn RunKind.Full layout before world word bay after done marks = AreMarked layout before world word bay after done marks
