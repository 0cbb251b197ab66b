-- The generated script. Four mutators make a table each, which is a cache of eight requests, and share it. Then they take
-- turns: in each round a mutator makes a request, which is a node with the round's number, puts it into its cache, and asks
-- a request in its neighbour's cache for its number.
use Rattle.std.specs.Prelude.{ℕ, ◌+◌, ◌/◌, ◌%◌, List, [], ◌∷◌, ◌++◌, map, flat_map, ◌==◌, if◌then◌else◌, codes}
use Rattle.std.specs.List.{range_with_len}
use Rattle.gc_layout.specs.declared.shape.TypeNo.{TypeNo}
use Rattle.gc_layout.specs.Shape.{common_shape}
use Rattle.gc_model.specs.declared.call.Call.{Call}
use Rattle.gc_model.specs.declared.call.Call.TheVariants.{New, Get, Put, Ask, Set, SwapIf, Share, Take, Collect}
use Rattle.gc_model.specs.declared.call.Line.{Line}
use Rattle.gc_script.specs.Script.{Preamble, Script}

-- four mutators, and two types: a node has two slots and a number, a table eight slots and a number
abbrev pub generated_preamble : Preamble
generated_preamble = record {
  mutators = 4;
  names = codes "node" ∷ codes "table" ∷ [];
  types = common_shape ∷ record { slots = 2; numbers = 1 } ∷ record { slots = 8; numbers = 1 } ∷ [];
}

-- the numbers of the types, in the order of their names
abbrev pub node : TypeNo
node = record { 0 = 1 }

abbrev pub table : TypeNo
table = record { 0 = 2 }

-- calls of a mutator, one after another
abbrev pub lines_by : ℕ → List Call → List Line
lines_by mutator calls = map (λ call. record { mutator = mutator; call = call }) calls

-- a mutator makes its table, and shares it
abbrev pub table_lines : ℕ → List Line
table_lines mutator = lines_by mutator (New 15 table ∷ Share mutator 15 ∷ [])

-- the calls of round i, counted from 0, where four rounds are a group, one of each mutator: the request goes into the
-- place of the cache that is next, and the neighbour's is looked into at the same place
abbrev pub request_calls : ℕ → List Call
request_calls i =
    let group = i / 4 in
    let place = group % 8 in
    let neighbour = (i % 4 + 1) % 4 in
    New 0 node
    ∷ Set 0 0 i
    ∷ New 1 node
    ∷ Put 0 0 1
    ∷ Put 1 0 15
    ∷ Put 15 place 0
    ∷ Take 2 neighbour
    ∷ Get 3 2 place
    ∷ Ask 3 0
    ∷ SwapIf 15 0 group (group + 1)
    ∷ []

-- each 64th round ends with a full collection
abbrev pub collect_calls : ℕ → List Call
collect_calls i = if i % 64 == 63 then Collect ∷ [] else []

-- round i, of the mutator whose turn it is
abbrev pub round_lines : ℕ → List Line
round_lines i = lines_by (i % 4) (request_calls i ++ collect_calls i)

-- the lines before the rounds
abbrev pub first_lines : List Line
first_lines = flat_map table_lines (range_with_len 0 4)

-- the script of so many rounds
unfoldable pub generated : ℕ → Script
generated rounds = record {
  preamble = generated_preamble;
  lines = first_lines ++ flat_map round_lines (range_with_len 0 rounds);
}
