-- A count of bytes.
use Rattle.std.specs.Prelude.{ℕ, ◌+◌, min}

-- the count after so many more: it stands still at its greatest value
abbrev pub count_after : ℕ → ℕ → ℕ
count_after count more = min (count + more) 18446744073709551615
