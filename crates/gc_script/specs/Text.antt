-- Cutting a text into lines, and a line into words.
use Rattle.std.specs.Prelude.{ℕ, suc, List, [], ◌∷◌, take, drop, Bool, ◌||◌, ◌==◌, if◌then◌else◌}

-- the most bytes of a script
abbrev pub most_bytes : ℕ
most_bytes = 16777216

-- the pieces with one more byte at the front of the first
abbrev pub with_first : ℕ → List (List ℕ) → List (List ℕ)
with_first byte [] = (byte ∷ []) ∷ []
with_first byte (piece ∷ pieces) = (byte ∷ piece) ∷ pieces

-- the lines: the pieces between newlines, of which the last one is a line only where it isn't empty
abbrev pub lines_of : List ℕ → List (List ℕ)
lines_of [] = []
lines_of (byte ∷ bytes) = if byte == 10 then [] ∷ lines_of bytes else with_first byte (lines_of bytes)

-- the words of a line: the pieces between spaces; an empty line is one empty word
abbrev pub words_of : List ℕ → List (List ℕ)
words_of [] = [] ∷ []
words_of (byte ∷ bytes) = if byte == 32 then [] ∷ words_of bytes else with_first byte (words_of bytes)

-- how many bytes stand before the first that ends a piece, or all of them
abbrev pub bytes_before : ℕ → List ℕ → ℕ
bytes_before end [] = 0
bytes_before end (byte ∷ bytes) = if byte == end then 0 else suc (bytes_before end bytes)

-- the first line of a text that isn't empty
unfoldable pub first_line : List ℕ → List ℕ
first_line bytes = take (bytes_before 10 bytes) bytes

-- what stands behind its newline
unfoldable pub after_line : List ℕ → List ℕ
after_line bytes = drop (suc (bytes_before 10 bytes)) bytes

-- how many bytes stand before the first newline or space, or all of them
abbrev pub word_end : List ℕ → ℕ
word_end [] = 0
word_end (byte ∷ bytes) = if byte == 10 || byte == 32 then 0 else suc (word_end bytes)

-- the words from a word on, by the text behind what ends it: where that is a space, the line goes on
abbrev pub words_from : List ℕ → Bool → List ℕ → List (List ℕ)
words_from word goes_on behind = if goes_on then word ∷ words_of (first_line behind) else word ∷ []

-- what stands behind that line
abbrev pub after_from : Bool → List ℕ → List ℕ
after_from goes_on behind = if goes_on then after_line behind else behind
