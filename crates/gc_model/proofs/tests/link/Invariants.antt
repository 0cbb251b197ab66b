use Rattle.std.proofs.Common.{◌≡◌, length}
use Rattle.gc_model.proofs.tests.link.Given as goal

abbrev pub invariant-loop : goal.invariant-loop
invariant-loop l = record {
  types : length l.world.types ≡ 2;
  mutators : length l.world.world.mutators ≡ 8;
}
