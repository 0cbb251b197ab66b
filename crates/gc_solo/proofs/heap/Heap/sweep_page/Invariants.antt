use Rattle.std.proofs.Common.{◌≡◌, ◌*◌, ◌+◌, ℕ, Some}
use Rattle.gc_gen2.specs.Cells.{class_at}
use Rattle.gc_placement.specs.Placement.{Placement}
use Rattle.gc_solo.specs.Collecting.{Beginning, IsSwept}
use Rattle.gc_solo.specs.Kept.{bay_at, kept_of}
use Rattle.gc_solo.proofs.heap.Heap.sweep_page.Given as goal

abbrev pub invariant-loop-number : goal.invariant-loop-number
invariant-loop-number l = record {
  swept : (start : Beginning) (after : Placement) → IsSwept (kept_of l.initial.self) start after l.t (l.page * 1024)
      → IsSwept (kept_of l.self) start after l.t (l.page * 1024 + l.number * l.class);
  class_is : class_at (bay_at l.self.bays.items l.t).pages l.page ≡ Some l.class;
  given : (u : ℕ) → (bay_at l.self.bays.items u).given ≡ (bay_at l.initial.self.bays.items u).given;
  rest : l.self ≡ record l.initial.self { words = l.self.words; bays = l.self.bays };
}
