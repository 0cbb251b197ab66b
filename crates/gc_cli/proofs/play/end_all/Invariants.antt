use Rattle.gc_model.specs.History.{History, ends_of}
use Rattle.gc_solo.specs.Kept.{IsSameHeap}
use Rattle.gc_solo.specs.Stands.{StandsFor}
use Rattle.gc_cli.specs.Played.{HasMade}
use Rattle.gc_cli.proofs.play.end_all.Given as goal

-- behind each history the heap stands for the Ends so far
abbrev pub invariant-loop-mutator : goal.invariant-loop-mutator
invariant-loop-mutator l = record {
  ended : (history : History) → StandsFor l.fn.solo history → (more : History) × HasMade l.solo history more (ends_of l.mutator);
  same : IsSameHeap l.fn.solo l.solo;
}
