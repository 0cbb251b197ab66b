use Rattle.std.proofs.Common.{◌≡◌, ◌<◌, ℕ, Some, length, map, slice_get}
use Rattle.gc_locked.specs.Setup.{places_of}
use Rattle.gc_locked.proofs.plan.plans.Given as goal

-- the plans of the mutators so far
abbrev pub invariant-loop-t : goal.invariant-loop-t
invariant-loop-t l = record {
  count : length l.plans.items ≡ l.t;
  plans : (u : ℕ) → u < l.t → slice_get (map (λ plan. plan.items) l.plans.items) u ≡ Some (places_of l.lines u);
}
