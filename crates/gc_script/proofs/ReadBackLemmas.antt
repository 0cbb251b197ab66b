-- The way back: a number, a word, a call and a line are read from what is written of them.
use Rattle.std.proofs.Common.{◌≡◌, ℕ, zero, suc, ◌+◌, ◌<◌, ◌≤◌, ◌^◌, All, List, [], ◌∷◌, ◌++◌, length, flat_map, true, false, Option, None, Some, Ok, codes, refl, sym, ap, inl, inr, eq-eqb, arith, slice_index_or, get_or}
use Rattle.std.proofs.lemmas.Bool.{and_from, cases_lt, true≢false, false_from_ne_true}
use Rattle.std.proofs.lemmas.Bool.Decides.{nat_tests}
use Rattle.std.proofs.lemmas.Fmt.{decimal_digit, digits_value-decimal, first_decimal}
use Rattle.std.proofs.lemmas.List.Elements.{All-head, All-tail}
use Rattle.std.proofs.lemmas.Str.Parse.{numerals_by_value, tells_all_ascii_digits}
use Rattle.std.specs.Fmt.{decimal}
use Rattle.std.specs.List.{list_all}
use Rattle.std.specs.Str.{all_ascii_digits, bytes_eq}
use Rattle.gc_model.specs.declared.call.Call.{Call}
use Rattle.gc_model.specs.declared.call.Call.TheVariants as calls
use Rattle.gc_model.specs.declared.call.Line.{Line}
use Rattle.gc_script.specs.declared.calls.CallWord.{CallWord}
use Rattle.gc_script.specs.declared.calls.CallWord.TheVariants.{New, Get, Put, Ask, Set, Swap, Same, Copy, Clear, Share, Take, Await, Safepoint, Collect, Block, Unblock}
use Rattle.gc_script.specs.declared.calls.Kind.{Kind}
use Rattle.gc_script.specs.declared.calls.Kind.TheVariants as kinds
use Rattle.gc_script.specs.declared.fault.Cause.{Cause}
use Rattle.gc_script.specs.Calls.{call_word, spelled_word, kinds_of, call_from, parts_of, IsOfKind, AreOfKinds, AreReadable}
use Rattle.gc_script.specs.Fault.{◌>>=◌}
use Rattle.gc_script.specs.Grammar.{counted_word, call_line, call_lines, body}
use Rattle.gc_script.specs.Laws.{IsReadLine}
use Rattle.gc_script.specs.Script.{Preamble, IsScriptLine}
use Rattle.gc_script.specs.Text.{lines_of, words_of}
use Rattle.gc_script.specs.Words.{is_numeral, numeral, number_below, register, type_named, number_of, numbers_of}
use Rattle.gc_script.specs.Written.{joined, word_of, words_of_kinds, words_of_parts, line_words, call_text}
use Rattle.gc_script.proofs.Passed.{bytes_eq-true}
use Rattle.gc_script.proofs.PlainLemmas.{is_plain, words_of-joined, lines_of-spelled, decimal-digits, decimal-plain}

-- digits that don't begin with 0 are a numeral
numeral-from_digits : (word : List ℕ) → all_ascii_digits word ≡ true → 48 < get_or word 0 0 → is_numeral word ≡ true
numeral-from_digits [] digits first = absurd (omega arith)
numeral-from_digits (byte ∷ []) digits first = grind (arith, nat_tests)
numeral-from_digits (byte ∷ next ∷ bytes) digits first = grind (arith, nat_tests)

-- what is written of a number is a numeral
decimal-is_numeral : (n : ℕ) → n < 2 ^ 64 → is_numeral (decimal n) ≡ true
decimal-is_numeral n h =
    elim (cases_lt 0 n) [
      | inl some ↦ numeral-from_digits (decimal n) (decimal-digits n h) (first_decimal n some h)
      | inr none ↦
          let is : n ≡ 0 = omega arith in
          rw (is, decimal_digit 0 (omega arith)) refl
    ]

numeral-decimal : (n : ℕ) → n < 2 ^ 64 → numeral (decimal n) ≡ Some n
unfolding numeral
numeral-decimal n h =
    rw (decimal-is_numeral n h, digits_value-decimal (numerals_by_value _ tells_all_ascii_digits) n h) (grind (arith, nat_tests))

-- a number below a limit is read from its decimal spelling
pub number_below-decimal : (limit : ℕ) (cause : Cause) (n : ℕ) → n < limit → n < 2 ^ 64 → number_below limit cause (decimal n) ≡ Ok n
unfolding number_below
number_below-decimal limit cause n within fits = rw (numeral-decimal n fits) (grind (arith, nat_tests))

-- names of types without newlines and spaces, each of which is read as the type that it names
pub record AreReadNames (names : List (List ℕ)) : Type 0 where
  pub plain : All (λ name. is_plain name ≡ true) names
  pub read : (index : ℕ) → index < length names → type_named names (slice_index_or names index []) ≡ Ok (suc index)

-- a number is read from the word that is written of it
kind-read : (names : List (List ℕ)) → AreReadNames names → (kind : Kind) (n : ℕ) → IsOfKind (length names + 1) kind n
    → number_of names kind (word_of names kind n) ≡ Ok n
unfolding register
kind-read names known kinds.Register n h = number_below-decimal 16 _ n h (omega arith)
kind-read names known kinds.Small n h = number_below-decimal 256 _ n h (omega arith)
kind-read names known kinds.CommonPlace n h = number_below-decimal 16 _ n h (omega arith)
kind-read names known kinds.Number n h = number_below-decimal (2 ^ 64) _ n h h
kind-read names known kinds.TypeName zero (some, within) = absurd (omega arith)
kind-read names known kinds.TypeName (suc index) (some, within) = known.read index (omega arith)

-- and that word has no newline and no space
kind-plain : (names : List (List ℕ)) → AreReadNames names → (kind : Kind) (n : ℕ) → IsOfKind (length names + 1) kind n
    → is_plain (word_of names kind n) ≡ true
kind-plain names known kinds.Register n h = decimal-plain n (omega arith)
kind-plain names known kinds.Small n h = decimal-plain n (omega arith)
kind-plain names known kinds.CommonPlace n h = decimal-plain n (omega arith)
kind-plain names known kinds.Number n h = decimal-plain n h
kind-plain names known kinds.TypeName zero h = refl
kind-plain names known kinds.TypeName (suc index) (some, within) = known.plain index [] (omega arith)

-- words that are written of numbers of their kinds: they give the numbers, and are as many as the kinds
record AreReadBack (names : List (List ℕ)) (kinds : List Kind) (numbers : List ℕ) : Type 0 where
  read : numbers_of names kinds (words_of_kinds names kinds numbers) ≡ Ok numbers
  count : length (words_of_kinds names kinds numbers) ≡ length kinds
  plain : list_all is_plain (words_of_kinds names kinds numbers) ≡ true

words-read_back : (names : List (List ℕ)) → AreReadNames names → (kinds : List Kind) (numbers : List ℕ)
    → AreOfKinds (length names + 1) kinds numbers → AreReadBack names kinds numbers
unfolding numbers_of
words-read_back names known [] [] h = record { read = refl; count = refl; plain = refl }
words-read_back names known [] (number ∷ numbers) h = absurd h
words-read_back names known (kind ∷ kinds) [] h = absurd h
words-read_back names known (kind ∷ kinds) (number ∷ numbers) (first, others) =
    let rest = words-read_back names known kinds numbers others in
    record {
      read = rw (kind-read names known kind number first, rest.read) refl;
      count = ap suc rest.count;
      plain = and_from _ _ (kind-plain names known kind number first) rest.plain;
    }

-- each call word is read from its spelling
call_word-spelled : (word : CallWord) → call_word (spelled_word word) ≡ Ok word
unfolding call_word
call_word-spelled New = refl
call_word-spelled Get = refl
call_word-spelled Put = refl
call_word-spelled Ask = refl
call_word-spelled Set = refl
call_word-spelled Swap = refl
call_word-spelled Same = refl
call_word-spelled Copy = refl
call_word-spelled Clear = refl
call_word-spelled Share = refl
call_word-spelled Take = refl
call_word-spelled Await = refl
call_word-spelled Safepoint = refl
call_word-spelled Collect = refl
call_word-spelled Block = refl
call_word-spelled Unblock = refl

spelled_word-plain : (word : CallWord) → is_plain (spelled_word word) ≡ true
spelled_word-plain New = refl
spelled_word-plain Get = refl
spelled_word-plain Put = refl
spelled_word-plain Ask = refl
spelled_word-plain Set = refl
spelled_word-plain Swap = refl
spelled_word-plain Same = refl
spelled_word-plain Copy = refl
spelled_word-plain Clear = refl
spelled_word-plain Share = refl
spelled_word-plain Take = refl
spelled_word-plain Await = refl
spelled_word-plain Safepoint = refl
spelled_word-plain Collect = refl
spelled_word-plain Block = refl
spelled_word-plain Unblock = refl

-- the call of these parts, or this one where there are none
abbrev pub call_of_parts : Option (CallWord × List ℕ) → Call → Call
call_of_parts None call = call
call_of_parts (Some parts) call = call_from parts.0 parts.1

-- the parts of a call make it again
call-again : (call : Call) → call_of_parts (parts_of call) call ≡ call
call-again (calls.New into ty) = refl
call-again (calls.Get into base place) = refl
call-again (calls.Put base place value) = refl
call-again (calls.Ask base place) = refl
call-again (calls.Set base place number) = refl
call-again (calls.SwapIf base place expected replacement) = refl
call-again (calls.Same left right) = refl
call-again (calls.CopyReg into source) = refl
call-again (calls.ClearReg reg) = refl
call-again (calls.Share place value) = refl
call-again (calls.Take into place) = refl
call-again (calls.Await into place) = refl
call-again calls.Safepoint = refl
call-again calls.Collect = refl
call-again calls.Block = refl
call-again calls.Unblock = refl
call-again calls.End = refl

-- a preamble whose numbers of mutators are read from their spelling, and its names too
pub record IsReadPreamble (preamble : Preamble) : Type 0 where
  pub mutators : preamble.mutators ≤ 8
  pub names : AreReadNames preamble.names

-- so many words behind a call word as it takes
counted_word-spelled : (word : CallWord) (arguments : List (List ℕ)) → length arguments ≡ length (kinds_of word)
    → counted_word (spelled_word word) arguments ≡ Ok word
unfolding counted_word
counted_word-spelled word arguments h = rw (call_word-spelled word, eq-eqb (length arguments) (length (kinds_of word)) h) refl

-- a line of a script is read from the words that are written of it
pub line-read_back : (preamble : Preamble) (line : Line) → IsReadPreamble preamble → IsScriptLine preamble line
    → IsReadLine preamble line
unfolding call_line
line-read_back preamble line known fits = go (parts_of line.call) fits.call (call-again line.call) where
  go : (parts : Option (CallWord × List ℕ)) → AreReadable (length preamble.names + 1) parts → call_of_parts parts line.call ≡ line.call
      → call_line preamble (decimal line.mutator ∷ words_of_parts preamble.names parts) ≡ Ok line
  go None h again = absurd h
  go (Some parts) h again =
      let words = words-read_back preamble.names known.names (kinds_of parts.0) parts.1 h in
      let mutator : line.mutator < 2 ^ 64 = omega (arith, known.mutators, fits.mutator) in
      rw (
        counted_word-spelled parts.0 (words_of_kinds preamble.names (kinds_of parts.0) parts.1) words.count,
        number_below-decimal preamble.mutators _ line.mutator fits.mutator mutator,
        words.read,
        again,
      ) refl

-- and these words have no newline and no space
pub line-plain : (preamble : Preamble) (line : Line) → IsReadPreamble preamble → IsScriptLine preamble line
    → list_all is_plain (line_words preamble.names line) ≡ true
line-plain preamble line known fits =
    and_from _ _ (decimal-plain line.mutator (omega (arith, known.mutators, fits.mutator))) (go (parts_of line.call) fits.call) where
      go : (parts : Option (CallWord × List ℕ)) → AreReadable (length preamble.names + 1) parts
          → list_all is_plain (words_of_parts preamble.names parts) ≡ true
      go None h = absurd h
      go (Some parts) h =
          let words = words-read_back preamble.names known.names (kinds_of parts.0) parts.1 h in
          and_from _ _ (spelled_word-plain parts.0) words.plain

-- a line's text is cut off again
next-line : (preamble : Preamble) (line : Line) (rest : List ℕ) → IsReadPreamble preamble → IsScriptLine preamble line
    → lines_of (call_text preamble.names line ++ rest) ≡ joined (line_words preamble.names line) ∷ lines_of rest
next-line preamble line rest known fits = lines_of-spelled (line_words preamble.names line) rest (line-plain preamble line known fits)

-- and into its words
next-words : (preamble : Preamble) (line : Line) → IsReadPreamble preamble → IsScriptLine preamble line
    → words_of (joined (line_words preamble.names line)) ≡ line_words preamble.names line
next-words preamble line known fits =
    words_of-joined (line_words preamble.names line) (omega arith) (line-plain preamble line known fits)

-- lines of a script are read from the text that is written of them
pub call_lines-read_back : (preamble : Preamble) (number : ℕ) (lines : List Line) → IsReadPreamble preamble
    → All (IsScriptLine preamble) lines → call_lines preamble number (lines_of (flat_map (call_text preamble.names) lines)) ≡ Ok lines
unfolding call_lines
call_lines-read_back preamble number [] known fit = refl
call_lines-read_back preamble number (line ∷ lines) known fit =
    let fits = All-head (IsScriptLine preamble) line lines fit in
    let rest = call_lines-read_back preamble (number + 1) lines known (All-tail (IsScriptLine preamble) line lines fit) in
    rw (
      next-line preamble line (flat_map (call_text preamble.names) lines) known fits,
      next-words preamble line known fits,
      line-read_back preamble line known fits,
      rest,
    ) refl

-- a number isn't spelled `type`
decimal-no_keyword : (n : ℕ) → n < 2 ^ 64 → bytes_eq (decimal n) (codes "type") ≡ false
decimal-no_keyword n h = false_from_ne_true (bytes_eq (decimal n) (codes "type")) (λ same.
    let is : decimal n ≡ codes "type" = bytes_eq-true (decimal n) (codes "type") same in
    true≢false (sym (rw is at (decimal-digits n h))))

-- so a text of call lines alone is read as them, behind a preamble
pub body-read_back : (preamble : Preamble) (number : ℕ) (lines : List Line) → IsReadPreamble preamble
    → All (IsScriptLine preamble) lines
    → body preamble number (lines_of (flat_map (call_text preamble.names) lines)) ≡ Ok (record { preamble = preamble; lines = lines })
unfolding body
body-read_back preamble number [] known fit = ap (λ r. r >>= λ calls. Ok (record { preamble = preamble; lines = calls }))
    (call_lines-read_back preamble number [] known fit)
body-read_back preamble number (line ∷ lines) known fit =
    let fits = All-head (IsScriptLine preamble) line lines fit in
    let behind = flat_map (call_text preamble.names) lines in
    let cut = next-line preamble line behind known fits in
    let read = rw cut at (call_lines-read_back preamble number (line ∷ lines) known fit) in
    let mutator : line.mutator < 2 ^ 64 = omega (arith, known.mutators, fits.mutator) in
    rw (cut, next-words preamble line known fits, decimal-no_keyword line.mutator mutator, read) refl
