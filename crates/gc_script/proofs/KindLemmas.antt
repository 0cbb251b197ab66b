-- A word that gives a number is the word that is written of it, and the number is one of the word's kind.
use Rattle.std.proofs.Common.{◌≡◌, ℕ, suc, ◌+◌, ◌^◌, ◌<◌, List, [], ◌∷◌, length, get_or, Bool, true, false, ◌&&◌, nat_lt, ◌==◌, Option, Some, None, Ok, refl, sym, ap, ap₂, ◌∙◌, arith, if◌then◌else◌}
use Rattle.std.proofs.lemmas.Bool.Decides.{nat_tests}
use Rattle.std.proofs.lemmas.Bool.{eqb-true}
use Rattle.std.proofs.lemmas.Fmt.{decimal-digits_value}
use Rattle.std.proofs.lemmas.Str.Parse.{numerals_by_value, tells_all_ascii_digits}
use Rattle.std.specs.Fmt.{decimal}
use Rattle.std.specs.Str.{all_ascii_digits, bytes_eq}
use Rattle.std.specs.Str.Parse.{digits_value}
use Rattle.gc_script.specs.declared.calls.Kind.{Kind}
use Rattle.gc_script.specs.declared.calls.Kind.TheVariants as kinds
use Rattle.gc_script.specs.declared.fault.Cause.{Cause}
use Rattle.gc_script.specs.Calls.{IsOfKind, AreOfKinds}
use Rattle.gc_script.specs.Words.{is_numeral, numeral, below, number_below, register, type_from, number_of, numbers_of}
use Rattle.gc_script.specs.Written.{name_of, word_of, words_of_kinds}
use Rattle.gc_script.proofs.Passed.{if-passes, both-pass, bytes_eq-true}

-- a numeral has a digit or more
numeral-nonempty : (word : List ℕ) → is_numeral word ≡ true → 0 < length word
numeral-nonempty [] h = absurd cc
numeral-nonempty (first ∷ rest) h = omega arith

-- a numeral is of digits alone
numeral-digits : (word : List ℕ) → is_numeral word ≡ true → all_ascii_digits word ≡ true
numeral-digits [] h = absurd cc
numeral-digits (first ∷ []) h = grind (arith, nat_tests)
numeral-digits (first ∷ second ∷ rest) h = grind (arith, nat_tests)

-- a numeral that begins with 0 is of one digit
numeral-no_leading_zero : (word : List ℕ) → is_numeral word ≡ true → get_or word 0 0 ≡ 48 → length word ≡ 1
numeral-no_leading_zero [] h zero_first = absurd cc
numeral-no_leading_zero (first ∷ []) h zero_first = refl
numeral-no_leading_zero (first ∷ second ∷ rest) h zero_first = grind (arith, nat_tests)

-- a numeral below 2 ^ 64 is what decimal writes of its value
numeral-spelled : (word : List ℕ) → is_numeral word ≡ true → digits_value 10 word < 2 ^ 64
    → decimal (digits_value 10 word) ≡ word
numeral-spelled word h fits =
    decimal-digits_value (numerals_by_value _ tells_all_ascii_digits) word (numeral-digits word h)
    (numeral-nonempty word h) (numeral-no_leading_zero word h) fits

-- a test that let a value through
record LetThrough (test : Bool) (value n : ℕ) : Type 0 where
  passed : test ≡ true
  same : value ≡ n

if-some : (test : Bool) (value n : ℕ) → (if test then Some value else None) ≡ Some n → LetThrough test value n
if-some true value n h = record { passed = refl; same = cc }
if-some false value n h = absurd cc

-- a numeral is what decimal writes of its number
numeral-written : (word : List ℕ) (n : ℕ) → numeral word ≡ Some n → word ≡ decimal n
unfolding numeral
numeral-written word n h =
    let through = if-some (is_numeral word && nat_lt (digits_value 10 word) (2 ^ 64)) (digits_value 10 word) n h in
    let test = through.passed in
    let first : is_numeral word ≡ true = grind (arith, nat_tests) in
    let fits : digits_value 10 word < 2 ^ 64 = grind (arith, nat_tests) in
    sym (numeral-spelled word first fits) ∙ ap decimal through.same

-- a value below a limit is there, and is below it
record IsBelow (limit : ℕ) (read : Option ℕ) (n : ℕ) : Type 0 where
  is : read ≡ Some n
  fits : n < limit

below-is : (limit : ℕ) (cause : Cause) (read : Option ℕ) (n : ℕ) → below limit cause read ≡ Ok n → IsBelow limit read n
below-is limit cause None n h = absurd cc
below-is limit cause (Some value) n h =
    let guarded = if-passes (nat_lt value limit) (Ok value) cause n h in
    let test = guarded.passed in
    let same : value ≡ n = cc (guarded.gives) in
    record { is = ap Some same; fits = grind (arith, nat_tests) }

-- a number below a limit is written in decimal
pub number_below-written : (limit : ℕ) (cause : Cause) (word : List ℕ) (n : ℕ)
    → number_below limit cause word ≡ Ok n → word ≡ decimal n
unfolding number_below
number_below-written limit cause word n h =
    let read = below-is limit cause (numeral word) n h in numeral-written word n read.is

-- a number below a limit is below it
pub number_below-fits : (limit : ℕ) (cause : Cause) (word : List ℕ) (n : ℕ) → number_below limit cause word ≡ Ok n → n < limit
unfolding number_below
number_below-fits limit cause word n h = let read = below-is limit cause (numeral word) n h in read.fits

-- the digits of a register
record HasDigits (word : List ℕ) (n : ℕ) : Type 0 where
  cause : Cause
  digits : List ℕ
  word_is : word ≡ 114 ∷ digits
  number_is : number_below 16 cause digits ≡ Ok n

register-digits : (word : List ℕ) (n : ℕ) → register word ≡ Ok n → HasDigits word n
unfolding register
register-digits [] n h = absurd cc
register-digits (letter ∷ digits) n h =
    let guarded = if-passes (letter == 114) _ _ n h in
    record { cause = _; digits = digits; word_is = ap (λ l. l ∷ digits) (eqb-true letter 114 guarded.passed); number_is = guarded.gives }

-- the index of a declared name, where the names are those of the types from a number on
record IsNamed (from : ℕ) (names : List (List ℕ)) (word : List ℕ) (ty : ℕ) : Type 0 where
  index : ℕ
  number : ty ≡ from + index
  within : index < length names
  name : get_or names index [] ≡ word

type_from-named : (from : ℕ) (names : List (List ℕ)) (word : List ℕ) (ty : ℕ)
    → type_from from names word ≡ Ok ty → IsNamed from names word ty
unfolding type_from
type_from-named from [] word ty h = absurd cc
type_from-named from (name ∷ names) word ty h =
    go (bytes_eq name word) (bytes_eq-true name word) h (type_from-named (from + 1) names word ty) where
      go : (b : Bool) → (b ≡ true → name ≡ word) → (if b then Ok from else type_from (from + 1) names word) ≡ Ok ty
          → (type_from (from + 1) names word ≡ Ok ty → IsNamed (from + 1) names word ty) → IsNamed from (name ∷ names) word ty
      go true same here behind =
          let first : ty ≡ from = cc in
          record { index = 0; number = omega arith; within = omega arith; name = same refl }
      go false same here behind =
          let later = behind here in
          record {
            index = suc later.index;
            number = omega (arith, later.number);
            within = omega (arith, later.within);
            name = later.name;
          }

-- a word that gives a number is what is written of it
pub word-written : (names : List (List ℕ)) (kind : Kind) (word : List ℕ) (n : ℕ)
    → number_of names kind word ≡ Ok n → word_of names kind n ≡ word
word-written names kinds.Register word n h =
    let read = register-digits word n h in
    let digits = number_below-written 16 read.cause read.digits n read.number_is in
    ap (λ l. 114 ∷ l) (sym digits) ∙ sym read.word_is
word-written names kinds.Small word n h = sym (number_below-written _ _ word n h)
word-written names kinds.CommonPlace word n h = sym (number_below-written _ _ word n h)
word-written names kinds.Number word n h = sym (number_below-written _ _ word n h)
word-written names kinds.TypeName word n h =
    let named = type_from-named 1 names word n h in
    let number : n ≡ suc named.index = omega (arith, named.number) in
    ap (name_of names) number ∙ named.name

-- and the number is one of its kind
pub word-fits : (names : List (List ℕ)) (kind : Kind) (word : List ℕ) (n : ℕ)
    → number_of names kind word ≡ Ok n → IsOfKind (length names + 1) kind n
word-fits names kinds.Register word n h =
    let read = register-digits word n h in number_below-fits 16 read.cause read.digits n read.number_is
word-fits names kinds.Small word n h = number_below-fits _ _ word n h
word-fits names kinds.CommonPlace word n h = number_below-fits _ _ word n h
word-fits names kinds.Number word n h = number_below-fits _ _ word n h
word-fits names kinds.TypeName word n h =
    let named = type_from-named 1 names word n h in
    (omega (arith, named.number), omega (arith, named.number, named.within))

-- words that give numbers are those that are written of them, and the numbers are of their kinds
pub record AreRead (names : List (List ℕ)) (kinds : List Kind) (words : List (List ℕ)) (numbers : List ℕ) : Type 0 where
  pub written : words_of_kinds names kinds numbers ≡ words
  pub fit : AreOfKinds (length names + 1) kinds numbers

pub words-read : (names : List (List ℕ)) (kinds : List Kind) (words : List (List ℕ)) (numbers : List ℕ)
    → numbers_of names kinds words ≡ Ok numbers → AreRead names kinds words numbers
unfolding numbers_of
words-read names [] [] [] h = record { written = refl; fit = tt }
words-read names [] [] (number ∷ numbers) h = absurd cc
words-read names [] (word ∷ words) numbers h = absurd cc
words-read names (kind ∷ kinds) [] numbers h = absurd cc
words-read names (kind ∷ kinds) (word ∷ words) [] h =
    let first = both-pass (number_of names kind word) _ _ h in
    let others = both-pass (numbers_of names kinds words) _ _ first.next_gives in
    absurd (cc (others.next_gives))
words-read names (kind ∷ kinds) (word ∷ words) (number ∷ numbers) h =
    let first = both-pass (number_of names kind word) _ _ h in
    let others = both-pass (numbers_of names kinds words) _ _ first.next_gives in
    let head : first.value ≡ number = cc (others.next_gives) in
    let tail : others.value ≡ numbers = cc (others.next_gives) in
    let first_gives : number_of names kind word ≡ Ok number = first.first_gives ∙ ap Ok head in
    let rest = words-read names kinds words numbers (others.first_gives ∙ ap Ok tail) in
    record {
      written = ap₂ (λ (w : List ℕ) (ws : List (List ℕ)). w ∷ ws) (word-written names kind word number first_gives) rest.written;
      fit = (word-fits names kind word number first_gives, rest.fit);
    }
