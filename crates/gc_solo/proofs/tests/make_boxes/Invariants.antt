use Rattle.gc_solo.specs.Kept.{IsSameHeap}
use Rattle.gc_solo.proofs.tests.make_boxes.Given as goal

-- types and layout stay
abbrev pub invariant-loop-into : goal.invariant-loop-into
invariant-loop-into t l = record { same : IsSameHeap l.fn.solo l.solo }
