-- A source in memory.
use Rattle.std.specs.Prelude.{ℕ, List, length, if◌then◌else◌, ◌==◌, min, drop}
use Rattle.gc_io.specs.declared.source.Taken.{Taken}
use Rattle.gc_io.specs.declared.source.Taken.TheVariants.{Bytes, End, Failed}
use Rattle.gc_io.specs.Faults.{one_more, is_listed}

-- what is left, the most bytes that a call gives, the calls that fail by their numbers from 1, and how many
-- calls and faults there were
pub record Supply : Type 0 where
  pub rest : List ℕ
  pub step : ℕ
  pub failing : List ℕ
  pub calls : ℕ
  pub faults : ℕ

-- what a call answers that doesn't fail and may give so many bytes, where these are left
abbrev pub steady_answer : List ℕ → ℕ → Taken
steady_answer rest most = if length rest == 0 then End else Bytes (min most (length rest))

-- what the next call answers, into a room of so many bytes
abbrev pub next_answer : Supply → ℕ → Taken
next_answer supply room =
    if is_listed (one_more supply.calls) supply.failing then Failed else steady_answer supply.rest (min supply.step room)

-- the bytes that are left after a call with this answer
abbrev pub rest_after : List ℕ → Taken → List ℕ
rest_after rest (Bytes count) = drop count rest
rest_after rest End = rest
rest_after rest Failed = rest

-- the count of faults after a call with this answer
abbrev pub faults_after : ℕ → Taken → ℕ
faults_after faults (Bytes count) = faults
faults_after faults End = faults
faults_after faults Failed = one_more faults

-- the supply after a call with this answer
abbrev pub supply_after : Supply → Taken → Supply
supply_after supply answer =
    record supply {
      rest = rest_after supply.rest answer;
      calls = one_more supply.calls;
      faults = faults_after supply.faults answer;
    }
