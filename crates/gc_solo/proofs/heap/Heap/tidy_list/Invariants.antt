use Rattle.std.proofs.Common.{◌≡◌, ℕ, ◌-◌, length}
use Rattle.gc_placement.specs.Placement.{Placement}
use Rattle.gc_solo.specs.Collecting.{Beginning, HasTraced, IsTidyTo}
use Rattle.gc_solo.specs.Kept.{bay_at, kept_of}
use Rattle.gc_solo.proofs.heap.Heap.tidy_list.Given as goal

abbrev pub invariant-loop-address : goal.invariant-loop-address
invariant-loop-address l = record {
  traced : (start : Beginning) (after : Placement) → HasTraced (kept_of l.initial.self) start after
      → HasTraced (kept_of l.self) start after;
  tidied : (start : Beginning) (after : Placement) → HasTraced (kept_of l.initial.self) start after
      → IsTidyTo (kept_of l.initial.self) start after l.t 0 → IsTidyTo (kept_of l.self) start after l.t l.index;
  given : (u : ℕ) → (bay_at l.self.bays.items u).given ≡ (bay_at l.initial.self.bays.items u).given;
  rest : l.self ≡ record l.initial.self { words = l.self.words; bays = l.self.bays };
}

abbrev pub decreases-loop-address : goal.decreases-loop-address
decreases-loop-address l = length (bay_at l.self.bays.items l.t).remembered - l.index
