-- What a source has left and what a sink has got, where it tells.
use Rattle.std.specs.Prelude.{◌≡◌, ℕ, ◌≤◌, List, ◌++◌, length, take, Option, option_map}

-- the bytes that were taken, and then what is left, are what was left before
abbrev pub GivesUp : Option (List ℕ) → Option (List ℕ) → List ℕ → Type 0
GivesUp old new taken = old ≡ option_map (λ rest. taken ++ rest) new

-- the sink has got the piece behind all that it had
abbrev pub Appends : Option (List ℕ) → Option (List ℕ) → List ℕ → Type 0
Appends old new piece = new ≡ option_map (λ written. written ++ piece) old

-- the sink has got the first bytes of the piece, maybe none, behind all that it had
abbrev pub AppendsPrefix : Option (List ℕ) → Option (List ℕ) → List ℕ → Type 0
AppendsPrefix old new piece = (count : ℕ) × (count ≤ length piece) × Appends old new (take count piece)
