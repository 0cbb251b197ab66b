-- Words without newlines and spaces: a line of them is cut into them again, and a text of such lines into its lines.
use Rattle.std.proofs.Common.{◌≡◌, ℕ, ◌<◌, ◌^◌, List, [], ◌∷◌, ◌++◌, length, Bool, true, false, not, ◌||◌, ◌==◌, eqb, refl, ap, ◌∙◌, append_assoc, arith}
use Rattle.std.proofs.lemmas.Bool.{and_parts, and_from, not-true, or_parts}
use Rattle.std.proofs.lemmas.Bool.Decides.{nat_tests}
use Rattle.std.proofs.lemmas.Fmt.{digits_decimal}
use Rattle.std.proofs.lemmas.List.Folds.{list_all-append}
use Rattle.std.proofs.lemmas.Str.Parse.{numerals_by_value, tells_all_ascii_digits}
use Rattle.std.specs.Char.{is_ascii_digit}
use Rattle.std.specs.Fmt.{decimal}
use Rattle.std.specs.List.{list_all}
use Rattle.std.specs.Str.{all_ascii_digits}
use Rattle.gc_script.specs.Text.{with_first, lines_of, words_of}
use Rattle.gc_script.specs.Written.{joined, spelled_line}

-- a byte that ends no line
abbrev pub is_inside_line : ℕ → Bool
is_inside_line byte = not (byte == 10)

-- a byte that ends no word
abbrev pub is_inside_word : ℕ → Bool
is_inside_word byte = not (byte == 10 || byte == 32)

-- a word without newlines and spaces
abbrev pub is_plain : List ℕ → Bool
is_plain word = list_all is_inside_word word

-- the first byte of a plain word, and the others
record IsPlain (byte : ℕ) (bytes : List ℕ) : Type 0 where
  no_newline : eqb byte 10 ≡ false
  no_space : eqb byte 32 ≡ false
  others : is_plain bytes ≡ true

plain-parts : (byte : ℕ) (bytes : List ℕ) → is_plain (byte ∷ bytes) ≡ true → IsPlain byte bytes
plain-parts byte bytes h =
    let both = and_parts (is_inside_word byte) (is_plain bytes) h in
    let neither = or_parts (byte == 10) (byte == 32) (not-true (byte == 10 || byte == 32) both.0) in
    record { no_newline = neither.0; no_space = neither.1; others = both.1 }

-- a plain word alone is one word
words_of-plain : (word : List ℕ) → is_plain word ≡ true → words_of word ≡ word ∷ []
words_of-plain [] h = refl
words_of-plain (byte ∷ bytes) h =
    let plain = plain-parts byte bytes h in
    rw plain.no_space (ap (with_first byte) (words_of-plain bytes plain.others))

-- a plain word and a space are one word, and the words behind the space
words_of-space : (word rest : List ℕ) → is_plain word ≡ true → words_of (word ++ 32 ∷ rest) ≡ word ∷ words_of rest
words_of-space [] rest h = refl
words_of-space (byte ∷ bytes) rest h =
    let plain = plain-parts byte bytes h in
    rw plain.no_space (ap (with_first byte) (words_of-space bytes rest plain.others))

-- a line of plain words has these words
pub words_of-joined : (words : List (List ℕ)) → 0 < length words → list_all is_plain words ≡ true → words_of (joined words) ≡ words
words_of-joined [] some h = absurd (omega arith)
words_of-joined (word ∷ []) some h =
    let both = and_parts (is_plain word) true h in words_of-plain word both.0
words_of-joined (word ∷ next ∷ words) some h =
    let both = and_parts (is_plain word) (list_all is_plain (next ∷ words)) h in
    words_of-space word (joined (next ∷ words)) both.0
    ∙ ap (λ (l : List (List ℕ)). word ∷ l) (words_of-joined (next ∷ words) (omega arith) both.1)

-- what is no newline and no space is no newline
inside_line : (byte : ℕ) → is_inside_word byte ≡ true → is_inside_line byte ≡ true
inside_line byte h = grind (arith, nat_tests)

plain-inside_line : (word : List ℕ) → is_plain word ≡ true → list_all is_inside_line word ≡ true
plain-inside_line [] h = refl
plain-inside_line (byte ∷ bytes) h =
    let both = and_parts (is_inside_word byte) (is_plain bytes) h in
    and_from _ _ (inside_line byte both.0) (plain-inside_line bytes both.1)

-- a line of plain words has no newline
joined-inside_line : (words : List (List ℕ)) → list_all is_plain words ≡ true → list_all is_inside_line (joined words) ≡ true
joined-inside_line [] h = refl
joined-inside_line (word ∷ []) h =
    let both = and_parts (is_plain word) true h in plain-inside_line word both.0
joined-inside_line (word ∷ next ∷ words) h =
    let both = and_parts (is_plain word) (list_all is_plain (next ∷ words)) h in
    list_all-append is_inside_line word (32 ∷ joined (next ∷ words))
    ∙ and_from _ _ (plain-inside_line word both.0) (joined-inside_line (next ∷ words) both.1)

-- a line and a newline are one line, and the lines behind the newline
lines_of-line : (line rest : List ℕ) → list_all is_inside_line line ≡ true → lines_of (line ++ 10 ∷ rest) ≡ line ∷ lines_of rest
lines_of-line [] rest h = refl
lines_of-line (byte ∷ bytes) rest h =
    let both = and_parts (is_inside_line byte) (list_all is_inside_line bytes) h in
    let other = not-true (byte == 10) both.0 in
    rw other (ap (with_first byte) (lines_of-line bytes rest both.1))

-- a spelled line of plain words is a line
pub lines_of-spelled : (words : List (List ℕ)) (rest : List ℕ) → list_all is_plain words ≡ true
    → lines_of (spelled_line words ++ rest) ≡ joined words ∷ lines_of rest
lines_of-spelled words rest h =
    rw (append_assoc (joined words) (10 ∷ []) rest) (lines_of-line (joined words) rest (joined-inside_line words h))

-- digits are plain
digit-inside_word : (byte : ℕ) → is_ascii_digit byte ≡ true → is_inside_word byte ≡ true
digit-inside_word byte h = grind (arith, nat_tests)

digits-plain : (word : List ℕ) → all_ascii_digits word ≡ true → is_plain word ≡ true
digits-plain [] h = refl
digits-plain (byte ∷ bytes) h =
    let both = and_parts (is_ascii_digit byte) (all_ascii_digits bytes) h in
    and_from _ _ (digit-inside_word byte both.0) (digits-plain bytes both.1)

-- what is written of a number is of digits alone
pub decimal-digits : (n : ℕ) → n < 2 ^ 64 → all_ascii_digits (decimal n) ≡ true
decimal-digits n h = digits_decimal (numerals_by_value _ tells_all_ascii_digits) n h

pub decimal-plain : (n : ℕ) → n < 2 ^ 64 → is_plain (decimal n) ≡ true
decimal-plain n h = digits-plain (decimal n) (decimal-digits n h)
