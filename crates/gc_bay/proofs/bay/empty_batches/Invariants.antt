use Rattle.std.proofs.Common.{◌≡◌, ◌≤◌, [], replicate, vec_capacity}
use Rattle.gc_bay.proofs.bay.empty_batches.Given as goal

abbrev pub invariant-loop : goal.invariant-loop
invariant-loop l =
    record { batches : l.batches.items ≡ replicate l.counter []; room : l.owners ≤ vec_capacity l.batches }
