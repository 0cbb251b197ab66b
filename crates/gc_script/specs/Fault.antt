-- Faults of a script: the line, and the cause.
use Rattle.std.specs.Prelude.{◌≡◌, ℕ, Result, Ok, Err}
use Rattle.gc_script.specs.declared.fault.Cause.{Cause}
use Rattle.gc_script.specs.declared.fault.Cause.TheVariants.{Version, Word, Number, Register, «Type» as TypeCause, Mutator, Duplicate}
use Rattle.gc_script.specs.declared.fault.Fault.{Fault}
use Rattle.gc_script.specs.declared.fault.ReadError.{ReadError}
use Rattle.gc_script.specs.declared.fault.ReadError.TheVariants as errors

-- the number of a cause
abbrev pub cause_number : Cause → ℕ
cause_number Version = 1
cause_number Word = 2
cause_number Number = 3
cause_number Register = 4
cause_number TypeCause = 5
cause_number Mutator = 6
cause_number Duplicate = 7

-- one test after another: the first that fails decides
infixl 10 ◌>>=◌
abbrev pub ◌>>=◌ : {A B E : Type 0} → Result A E → (A → Result B E) → Result B E
(Ok x) >>= f = f x
(Err e) >>= f = Err e

-- what a line is read as, where a test that fails is a fault of that line
abbrev pub at_line : {A : Type 0} → ℕ → Result A Cause → Result A Fault
at_line line (Ok x) = Ok x
at_line line (Err cause) = Err (record { line = line; cause = cause })

-- the error is the fault that reading gives, or want of memory
abbrev pub Fails : {Y E : Type 0} → ReadError E → Result Y E → Type 0
Fails errors.Memory read = Unit {0}
Fails (errors.Refused fault) read = read ≡ Err fault

-- what a function returned, seen by view, is what reading gives, unless memory ran out
abbrev pub Reads : {X Y E : Type 0} → (X → Y) → Result X (ReadError E) → Result Y E → Type 0
Reads view (Ok x) read = read ≡ Ok (view x)
Reads view (Err error) read = Fails error read

-- a failed test, at its line
abbrev pub located : ℕ → ReadError Cause → ReadError Fault
located line errors.Memory = errors.Memory
located line (errors.Refused cause) = errors.Refused (record { line = line; cause = cause })
