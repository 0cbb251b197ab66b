-- Where the first word of a text ends, and whether its line goes on.
use Rattle.std.proofs.Common.{◌≡◌, ◌≢◌, ℕ, suc, ◌+◌, ◌-◌, ◌<◌, ◌≤◌, List, [], ◌∷◌, ◌++◌, length, take, drop, get_or, eqb, refl, ap, inl, inr, arith, eq-eqb, append_assoc, length-drop}
use Rattle.std.proofs.Math.Numerals.{add-one}
use Rattle.std.proofs.lemmas.List.{take_rest}
use Rattle.std.proofs.lemmas.Bool.{cases_eq, ne_eqb}
use Rattle.gc_script.proofs.ListLemmas.{take-front}
use Rattle.gc_script.specs.Text.{with_first, words_of, bytes_before, first_line, after_line, word_end, words_from, after_from}

-- the words of a text's first line, and what stands behind that line
pub record HasFirstLine (text : List ℕ) (words : List (List ℕ)) (behind : List ℕ) : Type 0 where
  pub line : words_of (first_line text) ≡ words
  pub rest : behind ≡ after_line text

-- where a space ends the first word, the line goes on behind it
pub word-space : (bytes : List ℕ) → word_end bytes < length bytes → get_or bytes (word_end bytes) 0 ≡ 32
    → HasFirstLine bytes (take (word_end bytes) bytes ∷ words_of (first_line (drop (suc (word_end bytes)) bytes)))
    (after_line (drop (suc (word_end bytes)) bytes))
unfolding first_line after_line
word-space [] within space = absurd (omega arith)
word-space (byte ∷ bytes) within space =
    elim (cases_eq byte 10) [
      | inl newline ↦ absurd (let h = rw newline at space in omega (arith, h))
      | inr other ↦
          elim (cases_eq byte 32) [
            | inl same ↦ record { line = rw same refl; rest = rw same refl }
            | inr letter ↦
                let no_newline = ne_eqb byte 10 other in
                let no_space = ne_eqb byte 32 letter in
                let behind = word-space bytes (let h = rw (no_newline, no_space) at within in omega (arith, h))
                (rw (no_newline, no_space) at space) in
                record {
                  line = rw (no_newline, no_space) (ap (with_first byte) behind.line);
                  rest = rw (no_newline, no_space) behind.rest;
                }
          ]
    ]

-- where another byte ends it, which is a newline, the line ends there
pub word-newline : (bytes : List ℕ) → word_end bytes < length bytes → get_or bytes (word_end bytes) 0 ≢ 32
    → HasFirstLine bytes (take (word_end bytes) bytes ∷ []) (drop (suc (word_end bytes)) bytes)
unfolding first_line after_line
word-newline [] within newline = absurd (omega arith)
word-newline (byte ∷ bytes) within newline =
    elim (cases_eq byte 10) [
      | inl same ↦ record { line = rw same refl; rest = rw same refl }
      | inr other ↦
          elim (cases_eq byte 32) [
            | inl space ↦ absurd (let h = rw space at newline in h refl)
            | inr letter ↦
                let no_newline = ne_eqb byte 10 other in
                let no_space = ne_eqb byte 32 letter in
                let behind = word-newline bytes (let h = rw (no_newline, no_space) at within in omega (arith, h))
                (rw (no_newline, no_space) at newline) in
                record {
                  line = rw (no_newline, no_space) (ap (with_first byte) behind.line);
                  rest = rw (no_newline, no_space) behind.rest;
                }
          ]
    ]

-- where nothing ends it, the text ends with it
pub word-last : (bytes : List ℕ) → length bytes ≤ word_end bytes → HasFirstLine bytes (bytes ∷ []) []
unfolding first_line after_line
word-last [] past = record { line = refl; rest = refl }
word-last (byte ∷ bytes) past =
    elim (cases_eq byte 10) [
      | inl newline ↦ absurd (let h = rw newline at past in omega (arith, h))
      | inr other ↦
          elim (cases_eq byte 32) [
            | inl space ↦ absurd (let h = rw space at past in omega (arith, h))
            | inr letter ↦
                let no_newline = ne_eqb byte 10 other in
                let no_space = ne_eqb byte 32 letter in
                let behind = word-last bytes (let h = rw (no_newline, no_space) at past in omega (arith, h)) in
                record {
                  line = rw (no_newline, no_space) (ap (with_first byte) behind.line);
                  rest = rw no_newline behind.rest;
                }
          ]
    ]

-- the first word of a text, and those from it on
pub cut-words : (text : List ℕ) (end : ℕ) → end ≡ word_end text → end < length text
    → words_of (first_line text)
    ≡ words_from (take end text) (eqb (get_or text end 0) 32)
    (take (length text - (end + 1)) (drop (end + 1) text))
cut-words text end is within =
    let inside : word_end text < length text = omega (arith, is, within) in
    rw (take_rest text (end + 1), add-one end, is)
    (elim (cases_eq (get_or text (word_end text) 0) 32) [
      | inl space ↦ let cut = word-space text inside space in rw (eq-eqb _ _ space) cut.line
      | inr other ↦ let cut = word-newline text inside other in rw (ne_eqb _ _ other) cut.line
    ])

-- and what stands behind its line
pub cut-after : (text : List ℕ) (end : ℕ) → end ≡ word_end text → end < length text
    → after_from (eqb (get_or text end 0) 32) (take (length text - (end + 1)) (drop (end + 1) text)) ≡ after_line text
cut-after text end is within =
    let inside : word_end text < length text = omega (arith, is, within) in
    rw (take_rest text (end + 1), add-one end, is)
    (elim (cases_eq (get_or text (word_end text) 0) 32) [
      | inl space ↦ let cut = word-space text inside space in rw (eq-eqb _ _ space) cut.rest
      | inr other ↦ let cut = word-newline text inside other in rw (ne_eqb _ _ other) cut.rest
    ])

-- a word that goes behind those so far
pub append-more : (old new : List (List ℕ)) (word : List ℕ) (rest from whole : List (List ℕ)) → new ≡ take 7 (old ++ word ∷ [])
    → rest ≡ from → take 7 (old ++ word ∷ rest) ≡ whole → take 7 (new ++ from) ≡ whole
append-more old new word rest from whole grown same is =
    rw (grown, ← same, take-front 7 (old ++ word ∷ []) rest, append_assoc old (word ∷ []) rest) is

-- what stands behind the first line is shorter than the text
pub after_line-shorter : (bytes : List ℕ) → 0 < length bytes → length (after_line bytes) < length bytes
unfolding after_line
after_line-shorter bytes some = omega (arith, length-drop (suc (bytes_before 10 bytes)) bytes)
