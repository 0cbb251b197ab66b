use Rattle.std.proofs.Common.{◌≡◌}
use Rattle.gc_model.specs.declared.entry.RunKind.{RunKind}
use Rattle.gc_solo.proofs.Beginnings.{AreFlippedTo}
use Rattle.gc_solo.proofs.heap.Heap.flip_full.Given as goal

abbrev pub invariant-loop-t : goal.invariant-loop-t
invariant-loop-t l = record {
  rest : l.self ≡ record l.fn.self { bays = l.self.bays };
  flipped : AreFlippedTo RunKind.Full l.fn.self.bays.items l.self.bays.items l.t;
}
