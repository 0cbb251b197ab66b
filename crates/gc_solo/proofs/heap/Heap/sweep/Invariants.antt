use Rattle.std.proofs.Common.{◌≡◌, ◌*◌, ◌<◌, ℕ}
use Rattle.gc_placement.specs.Placement.{Placement}
use Rattle.gc_solo.specs.Collecting.{Beginning, IsSwept}
use Rattle.gc_solo.specs.Kept.{bay_at, kept_of}
use Rattle.gc_solo.proofs.heap.Heap.sweep.Given as goal

abbrev pub invariant-loop-t : goal.invariant-loop-t
invariant-loop-t l = record {
  swept : (start : Beginning) (after : Placement) → IsSwept (kept_of l.fn.self) start after 0 0
      → IsSwept (kept_of l.self) start after l.t 0;
  given : (u : ℕ) → u < l.t → (bay_at l.self.bays.items u).given ≡ 0;
  rest : l.self ≡ record l.fn.self { words = l.self.words; bays = l.self.bays };
}

abbrev pub invariant-loop-page : goal.invariant-loop-page
invariant-loop-page l = record {
  swept : (start : Beginning) (after : Placement) → IsSwept (kept_of l.fn.self) start after 0 0
      → IsSwept (kept_of l.self) start after l.t (l.page * 1024);
  given : (u : ℕ) → u < l.t → (bay_at l.self.bays.items u).given ≡ 0;
  rest : l.self ≡ record l.fn.self { words = l.self.words; bays = l.self.bays };
}
