use Rattle.std.proofs.Common.{◌≡◌, ℕ, Some}
use Rattle.gc_placement.specs.Placement.{Placement}
use Rattle.gc_solo.specs.Collecting.{Beginning, HasTraced}
use Rattle.gc_solo.specs.Kept.{kept_of}
use Rattle.gc_solo.proofs.Tidying.{NamesNoneBefore}
use Rattle.gc_solo.proofs.heap.Heap.names_young.Given as goal

abbrev pub invariant-loop-place : goal.invariant-loop-place
invariant-loop-place l =
    (start : Beginning) (after : Placement) (number : ℕ) → HasTraced (kept_of l.self) start after → after number ≡ Some l.address
    → NamesNoneBefore (kept_of l.self) start after number l.place
