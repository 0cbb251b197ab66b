-- What digits write.
use Rattle.std.proofs.Common.{◌≡◌, ℕ, suc, ◌+◌, ◌*◌, ◌^◌, ◌<◌, ◌≤◌, List, [], ◌∷◌, length, drop, get_or, ◌&&◌, nat_lt, Some, None, arith, if◌then◌else◌}
use Rattle.std.proofs.Math.Seq.{drop-cons}
use Rattle.std.proofs.lemmas.Bool.Decides.{nat_tests}
use Rattle.std.specs.Char.{digit_value}
use Rattle.std.specs.Str.{all_ascii_digits}
use Rattle.std.specs.Str.Parse.{digits_value, digits_value_after}

-- more digits write no smaller number
pub digits_value_after-ge : (n : ℕ) (digits : List ℕ) → n ≤ digits_value_after 10 n digits
digits_value_after-ge n [] = omega arith
digits_value_after-ge n (digit ∷ digits) = omega (arith, digits_value_after-ge (n * 10 + digit_value digit) digits)

-- the next digit counts
pub digits_value_after-next : (n : ℕ) (digits : List ℕ) (i : ℕ) → i < length digits
    → n * 10 + digit_value (get_or digits i 0) ≤ digits_value_after 10 n (drop i digits)
digits_value_after-next n digits i h =
    rw (drop-cons digits i 0) (digits_value_after-ge (n * 10 + digit_value (get_or digits i 0)) (drop (suc i) digits))

-- a number that is too large is none
pub none-too_large : (digits : List ℕ) → 2 ^ 64 ≤ digits_value 10 digits
    → (if all_ascii_digits digits && nat_lt (digits_value 10 digits) (2 ^ 64) then Some (digits_value 10 digits) else None) ≡ None
none-too_large digits h = grind (arith, nat_tests)
