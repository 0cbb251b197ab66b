use Rattle.std.proofs.Common.{◌≡◌, length}
use Rattle.gc_model.proofs.tests.live_of_each.Given as goal

abbrev pub invariant-loop-t : goal.invariant-loop-t
invariant-loop-t l = record {
  types : length l.world.types ≡ 2;
  mutators : length l.world.world.mutators ≡ l.mutators;
}
