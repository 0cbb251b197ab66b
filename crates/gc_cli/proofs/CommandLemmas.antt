-- The numbers of the command line, within their limits.
use Rattle.std.proofs.Common.{◌≡◌, ◌≢◌, ◌⊎◌, inl, inr, ℕ, ◌<◌, ◌≤◌, ◌^◌, List, [], ◌∷◌, length, map, take, drop, ◌-◌, slice_get, get_or, Bool, true, false, Some, None, Result, Ok, Err, if◌then◌else◌, nat_le, nat_lt, ◌&&◌, refl, sym, ◌∙◌, ap, arith}
use Rattle.std.specs.Bool.{then_some}
use Rattle.std.specs.Result.{OkIff, result_ok}
use Rattle.std.specs.Str.{all_ascii_digits}
use Rattle.std.specs.Str.Parse.{ParsesUnsigned, digits_value}
use Rattle.std.proofs.lemmas.Bool.Decides.{nat_tests}
use Rattle.std.proofs.lemmas.List.{take_all}
use Rattle.std.proofs.lemmas.Str.Parse.{numerals_by_value, tells_all_ascii_digits, parse_plain, IsNumeralModel}
use Rattle.gc_script.specs.Words.{numeral, is_numeral}
use Rattle.gc_cli.specs.Command.{number_within, request_of, within}

-- a number above the limits isn't within them
within-above : (least most number : ℕ) → most < number → within least most (Some number) ≡ None
within-above least most number above = grind (arith, nat_tests)

-- 0 lies below the limits
within-zero : (least most : ℕ) → 0 < least → within least most (Some 0) ≡ None
within-zero least most some = grind (arith, nat_tests)

-- a number that is tested against the upper limit, where it isn't below the lower one
pub then_some-from : (b : Bool) (least most number : ℕ) → least ≤ number → b ≡ nat_le number most
    → then_some b number ≡ within least most (Some number)
then_some-from b least most number enough is = grind (arith, nat_tests)

-- a number below the lower limit
pub then_some-below : (b : Bool) (least most number : ℕ) → number < least → b ≡ nat_le least number
    → then_some b number ≡ within least most (Some number)
then_some-below b least most number below is = grind (arith, nat_tests)

-- the value of decimal digits
digits : IsNumeralModel (λ ds. all_ascii_digits ds ≡ true) (digits_value 10)
digits = numerals_by_value _ tells_all_ascii_digits

-- a word that begins with no 0 is a numeral where it has digits alone
is_numeral-digits : (first : ℕ) (rest : List ℕ) → first ≢ 48 → is_numeral (first ∷ rest) ≡ all_ascii_digits (first ∷ rest)
is_numeral-digits first [] differs = grind (arith, nat_tests)
is_numeral-digits first (second ∷ rest) differs = grind (arith, nat_tests)

-- the number of a numeral
numeral-some : (word : List ℕ) → is_numeral word ≡ true → digits_value 10 word < 2 ^ 64 → numeral word ≡ Some (digits_value 10 word)
unfolding numeral
numeral-some word is small = grind (arith, nat_tests)

-- any other word has none
number_within-not : (least most : ℕ) (word : List ℕ) → is_numeral word ≡ false → number_within least most word ≡ None
unfolding number_within numeral
number_within-not least most word is = rw is refl

-- a numeral above the limits has none in them
number_within-above : (least most : ℕ) (word : List ℕ) → most < digits_value 10 word → number_within least most word ≡ None
unfolding number_within numeral
number_within-above least most word above =
    elim (is_numeral word && nat_lt (digits_value 10 word) (2 ^ 64))
    as (λ b. within least most (if b then Some (digits_value 10 word) else None) ≡ None)
    [ true ↦ within-above least most (digits_value 10 word) above | false ↦ refl ]

-- a word that is no numeral, or one above the limits, has none in them
number_within-unparsed : (least most : ℕ) (word : List ℕ) (b : Bool) → is_numeral word ≡ b
    → (b ≡ true → most < digits_value 10 word) → number_within least most word ≡ None
number_within-unparsed least most word true is above = number_within-above least most word (above refl)
number_within-unparsed least most word false is above = number_within-not least most word is

-- a sign is no part of a number
number_within-plus : (least most : ℕ) (rest : List ℕ) → number_within least most (43 ∷ rest) ≡ None
unfolding number_within numeral
number_within-plus least most [] = refl
number_within-plus least most (second ∷ rest) = refl

-- a word that begins with a 0 writes no number above 0
number_within-zero : (least most : ℕ) (rest : List ℕ) → 0 < least → number_within least most (48 ∷ rest) ≡ None
unfolding number_within numeral
number_within-zero least most [] some = within-zero least most some
number_within-zero least most (second ∷ rest) some = refl

-- an empty word writes no number
pub number_within-empty : (least most : ℕ) (word : List ℕ) → slice_get word 0 ≡ None → number_within least most word ≡ None
unfolding number_within numeral
number_within-empty least most [] is = refl
number_within-empty least most (first ∷ rest) is = absurd (let e : ⊥ = cc in e)

-- a word that begins with a sign or a 0 writes no number above 0
pub number_within-none : (least most : ℕ) (word : List ℕ) (first : ℕ) → 0 < least → slice_get word 0 ≡ Some first
    → (first ≡ 43) ⊎ (first ≡ 48) → number_within least most word ≡ None
number_within-none least most [] first some is begins = absurd (let e : ⊥ = cc in e)
number_within-none least most (head ∷ rest) first some is begins = elim begins [
  | inl plus ↦ let e : head ≡ 43 = cc in rw e (number_within-plus least most rest)
  | inr zero ↦ let e : head ≡ 48 = cc in rw e (number_within-zero least most rest some)
]

-- the number of a word of digits, or of one that has others or is too large
number_within-ok : {E : Type 0} (least most : ℕ) (word : List ℕ) (r : Result ℕ E) → most < 2 ^ 32
    → is_numeral word ≡ all_ascii_digits word → 0 < length word
    → OkIff r ((all_ascii_digits word ≡ true) × (0 < length word) × (digits_value 10 word < 2 ^ 32)) (digits_value 10 word)
    → number_within least most word ≡ within least most (result_ok r)
unfolding number_within
number_within-ok least most word (Ok number) few same there parsed =
    let small : digits_value 10 word < 2 ^ 64 = omega (arith, parsed.0.2) in
    let is = numeral-some word (same ∙ parsed.0.0) small in
    ap (within least most) (is ∙ ap Some (sym parsed.1))
number_within-ok least most word (Err fault) few same there parsed =
    number_within-unparsed least most word (is_numeral word) refl (λ is.
    let small : digits_value 10 word < 2 ^ 32 → ⊥ = λ (h : digits_value 10 word < 2 ^ 32). parsed (sym same ∙ is, there, h) in
    omega (arith, small))

-- any other word writes the number that it is parsed as
pub number_within-parsed : {E : Type 0} (least most : ℕ) (word : List ℕ) (first : ℕ) (r : Result ℕ E) → most < 2 ^ 32
    → slice_get word 0 ≡ Some first → first ≢ 43 → first ≢ 48 → ParsesUnsigned 32 10 word r
    → number_within least most word ≡ within least most (result_ok r)
number_within-parsed least most [] first r few is no_sign no_zero parsed = absurd (let e : ⊥ = cc in e)
number_within-parsed least most (head ∷ rest) first r few is no_sign no_zero parsed =
    let e : head ≡ first = cc in
    let differs : get_or (head ∷ rest) 0 0 ≢ 43 = λ (h : head ≡ 43). no_sign (sym e ∙ h) in
    let other : head ≢ 48 = λ (h : head ≡ 48). no_zero (sym e ∙ h) in
    number_within-ok least most (head ∷ rest) r few (is_numeral-digits head rest other) (omega arith)
    (parse_plain digits 32 (head ∷ rest) r parsed differs)

-- words by the first of them, and what stands behind it
pub words-first : {W : Type 0} (view : W → List ℕ) (words : List W) (word : W) → 1 ≤ length words → word ≡ get_or words 0 word
    → map view words ≡ view word ∷ map view (take (length words - 1) (drop 1 words))
words-first view [] word there first = absurd (omega arith)
words-first view (head ∷ rest) word there first =
    let all : take (length (head ∷ rest) - 1) rest ≡ rest = take_all _ rest (omega arith) in
    rw (all, first) refl

-- no words ask for nothing
pub request_of-empty : {W : Type 0} (view : W → List ℕ) (words : List W) → length words < 1 → None ≡ request_of (map view words)
unfolding request_of
request_of-empty view [] none = refl
request_of-empty view (head ∷ rest) none = absurd (omega arith)
