-- How a batch is lent.
use Rattle.std.specs.Prelude.{ℕ, List, slice_set}
use Rattle.std.specs.Borrow.{Lends, MutBor, Fml}
use Rattle.gc_bay.specs.Bay.{Bay}
use Rattle.gc_bay.specs.contracts.bay.Bay.{the_row}
use Rattle.gc_bay.specs.contracts.batch.Batch as lent

-- the bay ends with the owner's batch set to the last value behind the result
abbrev pub LendsBatch : MutBor Bay → ℕ → MutBor (List ℕ) → Fml
LendsBatch bay owner batch =
    Lends the_row lent.the_row bay batch (λ last. record bay.now { batches = slice_set bay.now.batches owner last })
