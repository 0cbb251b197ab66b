-- What a script says.
use Rattle.std.specs.Prelude.{ℕ, ◌+◌, ◌<◌, List, [], ◌∷◌, length}
use Rattle.gc_layout.specs.declared.shape.Shape.{Shape}
use Rattle.gc_layout.specs.Shape.{common_shape}
use Rattle.gc_model.specs.Answer.{IsFit}
use Rattle.gc_model.specs.declared.call.Line.{Line}
use Rattle.gc_script.specs.Calls.{IsReadable}

-- what stands before the call lines: the number of mutators, the names of the types from type 1 on, and the
-- shapes of the types, of which type 0 is the common object's
pub record Preamble : Type 0 where
  pub mutators : ℕ
  pub names : List (List ℕ)
  pub types : List Shape

-- no type is declared yet
abbrev pub first_preamble : ℕ → Preamble
first_preamble mutators = record { mutators = mutators; names = []; types = common_shape ∷ [] }

pub record Script : Type 0 where
  pub preamble : Preamble
  pub lines : List Line

-- a line's mutator is there, its type is declared, and its place of the common object is below 16
abbrev pub IsFitLine : Preamble → Line → Type 0
IsFitLine preamble line = IsFit preamble.types preamble.mutators line.mutator line.call

-- a line that a call line can be read as: its mutator is there, and its call is one that call lines make of the
-- types that are declared
pub record IsScriptLine (preamble : Preamble) (line : Line) : Type 0 where
  pub mutator : line.mutator < preamble.mutators
  pub call : IsReadable (length preamble.names + 1) line.call

-- the number in the text, from 1, of a call line counted from 0: the version line, the line of the mutators
-- and the type lines stand before the call lines
abbrev pub number_of_line : Script → ℕ → ℕ
number_of_line script i = 3 + length script.preamble.names + i
