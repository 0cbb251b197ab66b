-- So many bays as mutators so far, and each is its mutator's fresh one.
use Rattle.std.proofs.Common.{◌≡◌, ℕ, ◌<◌, ◌≤◌, length, vec_capacity}
use Rattle.gc_bay.specs.Bay.{fresh_bay}
use Rattle.gc_solo.specs.Kept.{bay_at}
use Rattle.gc_solo.proofs.heap.setup.fresh_bays.Given as goal

abbrev pub invariant-loop-mutator : goal.invariant-loop-mutator
invariant-loop-mutator l = record {
  room : l.places.mutators ≤ vec_capacity l.bays;
  bays : length l.bays.items ≡ l.mutator;
  fresh : (t : ℕ) → t < l.mutator → bay_at l.bays.items t ≡ fresh_bay l.places t;
}
