-- The object in hand stays kept, isn't grey and waits for no mark, where another object is copied or marked.
use Rattle.std.proofs.Common.{◌≡◌, ◌≢◌, ◌∙◌, ℕ, Bool, true, Option, None, Some, IfSome, List, sym, ap}
use Rattle.std.proofs.lemmas.Option.{none-some}
use Rattle.gc_bay.specs.Bay.{Bay}
use Rattle.gc_model.specs.Graph.{Graph}
use Rattle.gc_placement.specs.Extents.{AreApart}
use Rattle.gc_placement.specs.Marks.{Marks}
use Rattle.gc_placement.specs.Placement.{Placement, with_place}
use Rattle.gc_placement.specs.Sums.{is_young}
use Rattle.gc_placement.proofs.CopyLists.{MayGrow, grey_of, not_grey-copied}
use Rattle.gc_placement.proofs.MarksKept.{marks_with, waits-copied}
use Rattle.gc_placement.proofs.MinorSteps.{one_number}
use Rattle.gc_placement.proofs.Placement.{with_place-other, with_place-same}
use Rattle.gc_solo.specs.Collecting.{Beginning, IsAside, IsInHand, IsUnmarked}
use Rattle.gc_solo.specs.Kept.{Kept, bay_at}

-- no object was placed at the address of the copy
copy-unplaced : (after : Placement) (graph : Graph) (number copy each : ℕ) → after number ≡ None
    → AreApart (with_place after number copy) graph → after each ≢ Some copy
copy-unplaced after graph number copy each unkept apart at =
    let differs : each ≢ number = λ same. none-some copy (sym unkept ∙ ap after (sym same) ∙ at) in
    differs
    (one_number (with_place after number copy) graph each number copy apart (with_place-other after number copy each differs ∙ at)
    (with_place-same after number copy))

-- what is kept and isn't grey is so where an object is copied that wasn't kept, and the copy alone is put on a grey list
aside-copied : (mutators : ℕ) (bay new : ℕ → Bay) (after : Placement) (graph : Graph) (number copy t : ℕ) (grows : Bool) (each : ℕ)
    → after number ≡ None → AreApart (with_place after number copy) graph
    → MayGrow mutators (grey_of bay) (grey_of new) t grows copy → IsAside mutators bay after each
    → IsAside mutators new (with_place after number copy) each
aside-copied mutators bay new after graph number copy t grows each unkept apart may aside =
    let differs : each ≢ number = λ same. none-some aside.address (sym unkept ∙ ap after (sym same) ∙ aside.at) in
    record {
      address = aside.address;
      at = with_place-other after number copy each differs ∙ aside.at;
      not_grey = not_grey-copied mutators bay new after t copy each aside.address grows may
          (λ other. copy-unplaced after graph number copy other unkept apart) aside.at aside.not_grey;
    }

-- what is in hand is so where an object is copied that wasn't kept
pub hand-copied : (kept : Kept) (start : Beginning) (after : Placement) (marks : Marks) (words : List ℕ) (bays : List Bay)
    (number copy t : ℕ) (promoted grows : Bool) (hand : Option ℕ) → is_young start.memory.layout start.placement number ≡ true
    → after number ≡ None → AreApart (with_place after number copy) start.world.graph
    → MayGrow start.memory.layout.mutators (grey_of (bay_at kept.bays)) (grey_of (bay_at bays)) t grows copy
    → IfSome hand (IsInHand kept start after marks)
    → IfSome hand (IsInHand (record kept { words = words; bays = bays }) start (with_place after number copy)
    (marks_with marks promoted number))
hand-copied kept start after marks words bays number copy t promoted grows None young unkept apart may held = tt
hand-copied kept start after marks words bays number copy t promoted grows (Some each) young unkept apart may held = record {
  aside = aside-copied start.memory.layout.mutators (bay_at kept.bays) (bay_at bays) after start.world.graph number copy t grows each
      unkept apart may held.aside;
  marked = λ (waits : IsUnmarked start (marks_with marks promoted number) each).
      held.marked ((waits-copied start.kind start.memory.layout start.placement marks promoted number each young).1 waits);
}
