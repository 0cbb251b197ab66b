-- The one spelling of a script: each line of words with its newline.
use Rattle.std.specs.Prelude.{ℕ, suc, zero, List, [], ◌∷◌, ◌++◌, flat_map, slice_index_or, Option, None, Some, codes, decimal}
use Rattle.gc_layout.specs.declared.shape.Shape.{Shape}
use Rattle.gc_model.specs.declared.call.Call.{Call}
use Rattle.gc_model.specs.declared.call.Line.{Line}
use Rattle.gc_script.specs.declared.calls.CallWord.{CallWord}
use Rattle.gc_script.specs.declared.calls.Kind.{Kind}
use Rattle.gc_script.specs.declared.calls.Kind.TheVariants.{Register, Small, CommonPlace, Number, TypeName}
use Rattle.gc_script.specs.Calls.{kinds_of, parts_of, spelled_word}
use Rattle.gc_script.specs.Script.{Preamble, Script}

-- words behind one another, with a space between two
abbrev pub joined : List (List ℕ) → List ℕ
joined [] = []
joined (word ∷ []) = word
joined (word ∷ next ∷ words) = word ++ 32 ∷ joined (next ∷ words)

-- words, each behind a space
abbrev pub spaced : List (List ℕ) → List ℕ
spaced [] = []
spaced (word ∷ words) = 32 ∷ word ++ spaced words

-- a line of words, with its newline
abbrev pub spelled_line : List (List ℕ) → List ℕ
spelled_line words = joined words ++ 10 ∷ []

-- a register: `r` and its number
abbrev pub register_word : ℕ → List ℕ
register_word reg = 114 ∷ decimal reg

-- the name of a declared type; the types are numbered from 1
abbrev pub name_of : List (List ℕ) → ℕ → List ℕ
name_of names zero = []
name_of names (suc ty) = slice_index_or names ty []

-- the word of a kind that gives a number
abbrev pub word_of : List (List ℕ) → Kind → ℕ → List ℕ
word_of names Register number = register_word number
word_of names Small number = decimal number
word_of names CommonPlace number = decimal number
word_of names Number number = decimal number
word_of names TypeName number = name_of names number

-- the words of these kinds that give these numbers, one by one
abbrev pub words_of_kinds : List (List ℕ) → List Kind → List ℕ → List (List ℕ)
words_of_kinds names [] numbers = []
words_of_kinds names (kind ∷ kinds) [] = []
words_of_kinds names (kind ∷ kinds) (number ∷ numbers) = word_of names kind number ∷ words_of_kinds names kinds numbers

-- a call word, and the words behind it
abbrev pub words_of_parts : List (List ℕ) → Option (CallWord × List ℕ) → List (List ℕ)
words_of_parts names None = []
words_of_parts names (Some parts) = spelled_word parts.0 ∷ words_of_kinds names (kinds_of parts.0) parts.1

-- the words of a call. End, which no line of a script makes, has none
abbrev pub call_words : List (List ℕ) → Call → List (List ℕ)
call_words names call = words_of_parts names (parts_of call)

-- the words of a call line: the mutator, and those of its call
abbrev pub line_words : List (List ℕ) → Line → List (List ℕ)
line_words names line = decimal line.mutator ∷ call_words names line.call

-- a call line
abbrev pub call_text : List (List ℕ) → Line → List ℕ
call_text names line = spelled_line (line_words names line)

-- a type line: the name, and how many slots and numbers
abbrev pub type_text : List ℕ → Shape → List ℕ
type_text name shape = spelled_line (codes "type" ∷ name ∷ decimal shape.slots ∷ decimal shape.numbers ∷ [])

-- the type lines of names and their shapes
abbrev pub types_text : List (List ℕ) → List Shape → List ℕ
types_text [] shapes = []
types_text (name ∷ names) [] = []
types_text (name ∷ names) (shape ∷ shapes) = type_text name shape ++ types_text names shapes

-- the shapes of the declared types: all but the common object's
abbrev pub declared_shapes : List Shape → List Shape
declared_shapes [] = []
declared_shapes (common ∷ shapes) = shapes

-- the version line and the line of the mutators
abbrev pub head_text : ℕ → List ℕ
head_text mutators = spelled_line (codes "moar-gc 1" ∷ []) ++ spelled_line (codes "mutators" ∷ decimal mutators ∷ [])

-- what stands before the call lines: the version line, the line of the mutators, and the type lines
abbrev pub preamble_text : Preamble → List ℕ
preamble_text preamble = head_text preamble.mutators ++ types_text preamble.names (declared_shapes preamble.types)

-- the text of a script
abbrev pub written : Script → List ℕ
written script = preamble_text script.preamble ++ flat_map (call_text script.preamble.names) script.lines
