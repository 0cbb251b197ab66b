-- What a reader or writer of std is with a count of faults beside it.
use Rattle.std.specs.Prelude.{ℕ, ◌≤◌, List, length, take, Option}
use Rattle.std.specs.Io.KnownBytes.{Appends}

-- the reader or writer itself, and how many faults it had
pub record Counted (Inner : Type 0) : Type 0 where
  pub inner : Inner
  pub faults : ℕ

-- the first bytes of the piece are behind what the writer had, maybe none of them
abbrev pub AppendsFirst : Option (List ℕ) → Option (List ℕ) → List ℕ → Type 0
AppendsFirst old new piece = (count : ℕ) × (count ≤ length piece) × Appends old new (take count piece)
