-- A script has one text: it is read as the script, two scripts differ in theirs, and what is accepted is such a text
-- but for its last newline.
use Rattle.std.specs.Prelude.{◌≡◌, ◌≤◌, ◌⊎◌, ℕ, List, [], ◌∷◌, ◌++◌, length, Ok}
use Rattle.gc_model.specs.declared.call.Line.{Line}
use Rattle.gc_script.specs.Grammar.{IsScript, call_line}
use Rattle.gc_script.specs.Script.{Preamble, Script}
use Rattle.gc_script.specs.Text.{most_bytes}
use Rattle.gc_script.specs.Written.{line_words, written}

-- what a script is written as is read as it
unfoldable pub IsReadBack : Script → Type 0
IsReadBack script = IsScript (written script) script

-- the words that a line is written as are read as it
abbrev pub IsReadLine : Preamble → Line → Type 0
IsReadLine preamble line = call_line preamble (line_words preamble.names line) ≡ Ok line

-- what is true of each Script: it has no more lines than a script has bytes, and what it is written as is read as it
pub record IsWritable (script : Script) : Type 0 where
  pub few : length script.lines ≤ most_bytes
  pub read_back : IsReadBack script

-- a text is another one, or has one more newline
abbrev pub IsEnded : List ℕ → List ℕ → Type 0
IsEnded text bytes = (text ≡ bytes) ⊎ (text ≡ bytes ++ 10 ∷ [])

-- a script that some text is read as is read back from what it is written as, however long
abbrev pub ScriptsAreReadBack : Type 0
ScriptsAreReadBack = (bytes : List ℕ) (script : Script) → IsScript bytes script → IsReadBack script

-- the script of a text is written as that text, or as that text and a last newline
abbrev pub AcceptedBytesAreWrittenBack : Type 0
AcceptedBytesAreWrittenBack = (bytes : List ℕ) (script : Script) → IsScript bytes script → IsEnded (written script) bytes
