-- Counts of faults, and the calls that are chosen to fail.
use Rattle.std.specs.Prelude.{◌≡◌, ℕ, ◌+◌, ◌<◌, ◌⊎◌, ◌==◌, min, List, Bool}
use Rattle.std.specs.List.{list_any}

-- a count rose: it is greater than it was, or it stands at its greatest value
abbrev pub HasRisen : ℕ → ℕ → Type 0
HasRisen old new = (old < new) ⊎ (new ≡ 18446744073709551615)

-- the count after one more: it stands still at its greatest value
abbrev pub one_more : ℕ → ℕ
one_more count = min (count + 1) 18446744073709551615

-- whether some member of the list is this number
abbrev pub is_listed : ℕ → List ℕ → Bool
is_listed number numbers = list_any (λ listed. listed == number) numbers
