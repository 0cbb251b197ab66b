-- Tests, one after another, that passed.
use Rattle.std.proofs.Common.{◌≡◌, ℕ, List, Bool, true, false, cond, Result, Ok, Err, refl, if◌then◌else◌}
use Rattle.std.proofs.lemmas.Slice.Eq.{bytes_eq-Decides}
use Rattle.std.specs.Str.{bytes_eq}
use Rattle.gc_script.specs.declared.fault.Cause.{Cause}
use Rattle.gc_script.specs.Fault.{◌>>=◌, at_line}

-- a test that passed, and what it guarded
pub record Passes {A E : Type 0} (test : Bool) (guarded : Result A E) (result : A) : Type 0 where
  pub passed : test ≡ true
  pub gives : guarded ≡ Ok result

-- where a guarded value is read, its test passed
pub if-passes : {A E : Type 0} (test : Bool) (guarded : Result A E) (error : E) (result : A)
    → (if test then guarded else Err error) ≡ Ok result → Passes test guarded result
if-passes true guarded error result h = record { passed = refl; gives = h }
if-passes false guarded error result h = absurd cc

-- two tests, one after another, that passed
pub record BothPass {A B E : Type 0} (first : Result A E) (next : A → Result B E) (result : B) : Type 0 where
  pub value : A
  pub first_gives : first ≡ Ok value
  pub next_gives : next value ≡ Ok result

-- where the second of two tests passed, the first did
pub both-pass : {A B E : Type 0} (first : Result A E) (next : A → Result B E) (result : B)
    → (first >>= next) ≡ Ok result → BothPass first next result
both-pass (Ok x) next result h = record { value = x; first_gives = refl; next_gives = h }
both-pass (Err error) next result h = absurd cc

-- what was read at a line was read
pub at_line-ok : {A : Type 0} (line : ℕ) (read : Result A Cause) (x : A) → at_line line read ≡ Ok x → read ≡ Ok x
at_line-ok line (Ok x) y h = cc
at_line-ok line (Err e) y h = absurd cc

-- what was read behind a test that refuses was read
pub not_refused-ok : {A E : Type 0} (refuses : Bool) (e : E) (read : Result A E) (x : A)
    → cond refuses (Err e) read ≡ Ok x → read ≡ Ok x
not_refused-ok true e read x h = absurd cc
not_refused-ok false e read x h = h

-- words that are tested for equality are equal
pub bytes_eq-true : (word other : List ℕ) → bytes_eq word other ≡ true → word ≡ other
bytes_eq-true word other h = let decides = bytes_eq-Decides word other in decides.0 h
