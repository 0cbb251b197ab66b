-- The kinds of words, and the number that each word gives.
use Rattle.std.specs.Prelude.{ℕ, ◌+◌, ◌^◌, List, [], ◌∷◌, length, Option, Some, None, Result, Ok, Err, Bool, false, not, ◌&&◌, ◌==◌, nat_lt, nat_le, if◌then◌else◌}
use Rattle.std.specs.Char.{is_ascii_digit}
use Rattle.std.specs.Int.{is_in_range}
use Rattle.std.specs.Str.{all_ascii_digits, bytes_eq}
use Rattle.std.specs.List.{list_all}
use Rattle.std.specs.Str.Parse.{digits_value}
use Rattle.gc_layout.specs.Sizes.{common_slots, register_count}
use Rattle.gc_script.specs.declared.calls.Kind.{Kind}
use Rattle.gc_script.specs.declared.calls.Kind.TheVariants as kinds
use Rattle.gc_script.specs.declared.fault.Cause.{Cause}
use Rattle.gc_script.specs.declared.fault.Cause.TheVariants.{Word, Number, Register, «Type» as TypeCause}
use Rattle.gc_script.specs.Fault.{◌>>=◌}

-- `0`, or a digit 1 to 9 and then digits
abbrev pub is_numeral : List ℕ → Bool
is_numeral [] = false
is_numeral (first ∷ []) = is_ascii_digit first
is_numeral (first ∷ second ∷ rest) = not (first == 48) && all_ascii_digits (first ∷ second ∷ rest)

-- the number that a numeral writes, where it is below 2 ^ 64
unfoldable pub numeral : List ℕ → Option ℕ
numeral word = if is_numeral word && nat_lt (digits_value 10 word) (2 ^ 64) then Some (digits_value 10 word) else None

-- a value that is there, and is below a limit
abbrev pub below : ℕ → Cause → Option ℕ → Result ℕ Cause
below limit cause None = Err cause
below limit cause (Some value) = if nat_lt value limit then Ok value else Err cause

-- a number below a limit
unfoldable pub number_below : ℕ → Cause → List ℕ → Result ℕ Cause
number_below limit cause word = below limit cause (numeral word)

-- a number, at most 18446744073709551615
abbrev pub number : List ℕ → Result ℕ Cause
number word = number_below (2 ^ 64) Number word

-- a number at most 255
abbrev pub small : List ℕ → Result ℕ Cause
small word = number_below 256 Number word

-- a number at most 15, a place of the common object
abbrev pub common_place : List ℕ → Result ℕ Cause
common_place word = number_below common_slots Number word

-- `r` and a number at most 15
unfoldable pub register : List ℕ → Result ℕ Cause
register [] = Err Register
register (letter ∷ digits) = if letter == 114 then number_below register_count Register digits else Err Register

-- `a` to `z`
abbrev pub is_letter : ℕ → Bool
is_letter byte = is_in_range 97 122 byte

-- 1 to 16 bytes `a` to `z`
abbrev pub is_type_name : List ℕ → Bool
is_type_name word = nat_lt 0 (length word) && (nat_le (length word) 16 && list_all is_letter word)

-- the number of a name's type, where the names are those of the types from this number on
unfoldable pub type_from : ℕ → List (List ℕ) → List ℕ → Result ℕ Cause
type_from ty [] word = Err TypeCause
type_from ty (name ∷ names) word = if bytes_eq name word then Ok ty else type_from (ty + 1) names word

-- the number of the type of a name that is declared in the script; the types are numbered from 1 in order of their lines
abbrev pub type_named : List (List ℕ) → List ℕ → Result ℕ Cause
type_named names word = type_from 1 names word

-- the number that a word of a kind gives, where these are the names of the types
abbrev pub number_of : List (List ℕ) → Kind → List ℕ → Result ℕ Cause
number_of names kinds.Register word = register word
number_of names kinds.Small word = small word
number_of names kinds.CommonPlace word = common_place word
number_of names kinds.Number word = number word
number_of names kinds.TypeName word = type_named names word

-- the numbers that words of these kinds give, from left to right
unfoldable pub numbers_of : List (List ℕ) → List Kind → List (List ℕ) → Result (List ℕ) Cause
numbers_of names [] [] = Ok []
numbers_of names [] (word ∷ words) = Err Word
numbers_of names (kind ∷ kinds) [] = Err Word
numbers_of names (kind ∷ kinds) (word ∷ words) = do
  number ← number_of names kind word
  numbers ← numbers_of names kinds words
  Ok (number ∷ numbers)
