-- The regions of mutators: no two have a word in common, and each word of one is a word of the heap.
use Rattle.std.proofs.Common.{◌≡◌, ℕ, ◌+◌, ◌<◌, ◌≤◌, ⊎_elim, arith}
use Rattle.std.proofs.lemmas.Bool.{cases_order}
use Rattle.std.proofs.lemmas.Nat.{mul-le}
use Rattle.gc_layout.specs.Places.{Layout, region_start, region_words, word_count}

-- of two regions the one of the lesser mutator ends before the other begins
pub region-ends : (layout : Layout) (m u : ℕ) → m < u → region_start layout (m + 1) ≤ region_start layout u
region-ends layout m u below =
    omega (arith, mul-le (m + 1) (region_words layout) u (region_words layout) (omega arith) (omega arith))

-- an address lies in the region of one mutator
pub regions_apart : (layout : Layout) (m u a : ℕ) → region_start layout m ≤ a → a < region_start layout (m + 1)
    → region_start layout u ≤ a → a < region_start layout (u + 1) → m ≡ u
regions_apart layout m u a from to begins ends =
    ⊎_elim
    (λ same. same)
    (λ order.
    ⊎_elim
    (λ less. absurd (omega (arith, region-ends layout m u less)))
    (λ more. absurd (omega (arith, region-ends layout u m more)))
    order)
    (cases_order m u)

-- an address in the region of a mutator is a word of the heap
pub region-within : (layout : Layout) (m a : ℕ) → m < layout.mutators → region_start layout m ≤ a
    → a < region_start layout (m + 1) → (1 ≤ a) × (a < 1 + word_count layout)
region-within layout m a there from to =
    (omega (arith, from), omega (arith, to, region-ends layout m layout.mutators there))
