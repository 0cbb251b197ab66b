use Rattle.std.proofs.Common.{◌≡◌, replicate}
use Rattle.gc_model.specs.World.{fresh_mutator}
use Rattle.gc_model.proofs.world.fresh_mutators.Given as goal

abbrev pub invariant-loop : goal.invariant-loop
invariant-loop l = l.mutators.items ≡ replicate l.counter fresh_mutator
