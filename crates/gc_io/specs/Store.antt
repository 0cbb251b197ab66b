-- A sink in memory.
use Rattle.std.specs.Prelude.{ℕ, ◌+◌, List, length, ◌++◌, Bool, ◌||◌, ◌&&◌, not, if◌then◌else◌, ◌==◌, nat_lt}
use Rattle.gc_io.specs.declared.sink.Put.{Put}
use Rattle.gc_io.specs.declared.sink.Put.TheVariants.{All, Failed}
use Rattle.gc_io.specs.Faults.{one_more, is_listed}

-- what it has got, the most bytes that it takes in all, the calls that fail by their numbers from 1, and how
-- many calls and faults there were
pub record Store : Type 0 where
  pub written : List ℕ
  pub room : ℕ
  pub failing : List ℕ
  pub calls : ℕ
  pub faults : ℕ

-- whether the next call fails: its piece isn't empty, and the call is listed or the piece doesn't fit
abbrev pub is_refused : Store → List ℕ → Bool
is_refused store piece =
    not (length piece == 0) && (is_listed (one_more store.calls) store.failing || nat_lt store.room (length store.written + length piece))

-- what the next call answers
abbrev pub next_answer : Store → List ℕ → Put
next_answer store piece = if is_refused store piece then Failed else All

-- what is written after a call with this piece and this answer
abbrev pub written_after : List ℕ → List ℕ → Put → List ℕ
written_after written piece All = written ++ piece
written_after written piece Failed = written

-- the count of faults after a call with this answer
abbrev pub faults_after : ℕ → Put → ℕ
faults_after faults All = faults
faults_after faults Failed = one_more faults

-- the store after a call with this piece and this answer
abbrev pub store_after : Store → List ℕ → Put → Store
store_after store piece answer =
    record store {
      written = written_after store.written piece answer;
      calls = one_more store.calls;
      faults = faults_after store.faults answer;
    }
