-- The script language: each line's tests in their order, and the first fault.
use Rattle.std.specs.Prelude.{◌≡◌, ℕ, ◌+◌, List, [], ◌∷◌, ◌++◌, length, Result, Ok, Err, Option, Some, None, Bool, false, not, ◌&&◌, ◌||◌, ◌==◌, nat_lt, nat_le, if◌then◌else◌, codes}
use Rattle.std.specs.Str.{bytes_eq}
use Rattle.std.specs.List.{list_any}
use Rattle.gc_layout.specs.declared.shape.Shape.{Shape}
use Rattle.gc_layout.specs.Shape.{size_of}
use Rattle.gc_layout.specs.Sizes.{largest_size}
use Rattle.gc_model.specs.declared.call.Call.{Call}
use Rattle.gc_model.specs.declared.call.Line.{Line}
use Rattle.gc_script.specs.declared.calls.CallWord.{CallWord}
use Rattle.gc_script.specs.declared.fault.Cause.{Cause}
use Rattle.gc_script.specs.declared.fault.Cause.TheVariants.{Version, Word, «Type» as TypeCause, Mutator, Duplicate}
use Rattle.gc_script.specs.declared.fault.Fault.{Fault}
use Rattle.gc_script.specs.Calls.{call_word, kinds_of, call_from}
use Rattle.gc_script.specs.Fault.{◌>>=◌, at_line, cause_number}
use Rattle.gc_script.specs.Script.{Preamble, Script, first_preamble}
use Rattle.gc_script.specs.Text.{lines_of, words_of}
use Rattle.gc_script.specs.Words.{number, number_below, small, is_type_name, numbers_of}

-- line 2: `mutators M`, with M from 1 to 8
unfoldable pub mutators_line : List (List ℕ) → Result ℕ Cause
mutators_line (keyword ∷ count ∷ []) = if bytes_eq keyword (codes "mutators")
    then (number count >>= λ mutators. if nat_lt 0 mutators && nat_le mutators 8 then Ok mutators else Err Mutator)
    else Err Word
mutators_line words = Err Word

-- a line whose first word is `type`
abbrev pub is_type_line : List (List ℕ) → Bool
is_type_line [] = false
is_type_line (keyword ∷ words) = bytes_eq keyword (codes "type")

-- the name is `common`, or is declared
abbrev pub is_in_use : List (List ℕ) → List ℕ → Bool
is_in_use names name = bytes_eq name (codes "common") || list_any (λ declared. bytes_eq declared name) names

-- what is declared with one more type, of at most 64 words, where there are fewer than 256 types
unfoldable pub with_type : Preamble → List ℕ → Shape → Result Preamble Cause
with_type preamble name shape =
    if nat_le (size_of shape) largest_size && nat_lt (length preamble.types) 256
    then Ok (record preamble { names = preamble.names ++ name ∷ []; types = preamble.types ++ shape ∷ [] })
    else Err TypeCause

-- the numbers of slots and of number fields
unfoldable pub shape_of : List ℕ → List ℕ → Result Shape Cause
shape_of slots numbers = do
  slot_count ← small slots
  number_count ← small numbers
  Ok (record { slots = slot_count; numbers = number_count })

-- a type line: `type NAME S F`
unfoldable pub type_line : Preamble → List (List ℕ) → Result Preamble Cause
type_line preamble (keyword ∷ name ∷ slots ∷ numbers ∷ []) =
    if not (is_type_name name) then Err TypeCause
    else (if is_in_use preamble.names name then Err Duplicate
    else (shape_of slots numbers >>= with_type preamble name))
type_line preamble words = Err Word

-- the call word of a call line, where so many words stand behind it as it takes
unfoldable pub counted_word : List ℕ → List (List ℕ) → Result CallWord Cause
counted_word word arguments = do
  kind ← call_word word
  if length arguments == length (kinds_of kind) then Ok kind else Err Word

-- the call of a call word and the words behind it
abbrev pub call_of : List (List ℕ) → CallWord → List (List ℕ) → Result Call Cause
call_of names word words = numbers_of names (kinds_of word) words >>= λ numbers. Ok (call_from word numbers)

-- a call line: a mutator, a call word and the words behind it
unfoldable pub call_line : Preamble → List (List ℕ) → Result Line Cause
call_line preamble (mutator ∷ word ∷ arguments) = do
  kind ← counted_word word arguments
  t ← number_below preamble.mutators Mutator mutator
  call ← call_of preamble.names kind arguments
  Ok (record { mutator = t; call = call })
call_line preamble words = Err Word

-- the call lines, of which the first has this number
unfoldable pub call_lines : Preamble → ℕ → List (List ℕ) → Result (List Line) Fault
call_lines preamble number [] = Ok []
call_lines preamble number (line ∷ lines) = do
  first ← at_line number (call_line preamble (words_of line))
  others ← call_lines preamble (number + 1) lines
  Ok (first ∷ others)

-- the call lines, behind a preamble
abbrev pub script_with_calls : Preamble → ℕ → List (List ℕ) → Result Script Fault
script_with_calls preamble number lines =
    call_lines preamble number lines >>= λ calls. Ok (record { preamble = preamble; lines = calls })

-- the type lines, of which the first has this number, and then the call lines
unfoldable pub body : Preamble → ℕ → List (List ℕ) → Result Script Fault
body preamble number [] = script_with_calls preamble number []
body preamble number (line ∷ lines) =
    if is_type_line (words_of line)
    then (at_line number (type_line preamble (words_of line)) >>= λ next. body next (number + 1) lines)
    else script_with_calls preamble number (line ∷ lines)

-- what stands behind the version line
unfoldable pub after_version : List (List ℕ) → Result Script Fault
after_version [] = Err (record { line = 2; cause = Word })
after_version (line ∷ lines) = at_line 2 (mutators_line (words_of line)) >>= λ mutators. body (first_preamble mutators) 3 lines

-- the script of these lines, or its first fault
unfoldable pub script_of_lines : List (List ℕ) → Result Script Fault
script_of_lines [] = Err (record { line = 1; cause = Version })
script_of_lines (version ∷ lines) = if bytes_eq version (codes "moar-gc 1") then after_version lines
    else Err (record { line = 1; cause = Version })

-- what a text is read as: a script, or the least bad line with its first failing test
abbrev pub script_of : List ℕ → Result Script Fault
script_of bytes = script_of_lines (lines_of bytes)

-- the text is this script
abbrev pub IsScript : List ℕ → Script → Type 0
IsScript bytes script = script_of bytes ≡ Ok script

-- the text's first fault is in this line, and its cause has this number
abbrev pub IsFirstFault : List ℕ → ℕ → ℕ → Type 0
IsFirstFault bytes line cause =
    (fault : Fault) × (script_of bytes ≡ Err fault) × (line ≡ fault.line) × (cause ≡ cause_number fault.cause)

-- the fault, where nothing was read
abbrev pub fault_of : Result Script Fault → Option Fault
fault_of (Ok script) = None
fault_of (Err fault) = Some fault

-- the first fault of a text, where it is no script
abbrev pub first_fault : List ℕ → Option Fault
first_fault bytes = fault_of (script_of bytes)
