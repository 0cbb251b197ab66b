-- The world: the graph, and what the registers of the mutators name.
use Rattle.std.specs.Prelude.{ℕ, List, [], ◌∷◌, ◌++◌, replicate, Option, None, slice_index, slice_index_or, slice_set, Bool, false}
use Rattle.gc_layout.specs.Sizes.{register_count}
use Rattle.gc_model.specs.Graph.{Object, Graph, common_object, object_at}

-- a mutator: what its 16 registers name, and whether it is blocked
pub record Mutator : Type 0 where
  pub registers : List (Option ℕ)
  pub blocked : Bool

pub record World : Type 0 where
  pub graph : Graph
  pub mutators : List Mutator

-- a mutator that has done nothing yet
abbrev pub fresh_mutator : Mutator
fresh_mutator = record { registers = replicate register_count None; blocked = false }

-- the first world has the common object alone; all registers are nothing and nobody is blocked
abbrev pub first_world : ℕ → World
first_world mutators = record { graph = common_object ∷ []; mutators = replicate mutators fresh_mutator }

-- the mutator of a number
abbrev pub mutator_at : World → ℕ → Mutator
mutator_at world t = slice_index_or world.mutators t fresh_mutator

-- what a register of a mutator names
abbrev pub named_by : World → ℕ → ℕ → Option ℕ
named_by world t reg = slice_index_or (mutator_at world t).registers reg None

-- whether a mutator is blocked
abbrev pub is_blocked : World → ℕ → Bool
is_blocked world t = (mutator_at world t).blocked

-- what a slot of an object names
abbrev pub slot_at : World → ℕ → ℕ → Option ℕ
slot_at world number place = slice_index_or (object_at world.graph number).slots place None

-- what stands in a number field of an object
abbrev pub number_at : World → ℕ → ℕ → ℕ
number_at world number place = slice_index (object_at world.graph number).numbers place

-- the world in which a mutator is another one
abbrev pub with_mutator : World → ℕ → Mutator → World
with_mutator world t mutator = record world { mutators = slice_set world.mutators t mutator }

-- the world in which a register names something else
abbrev pub with_register : World → ℕ → ℕ → Option ℕ → World
with_register world t reg value =
    with_mutator world t (record (mutator_at world t) { registers = slice_set (mutator_at world t).registers reg value })

-- the world in which a mutator is blocked, or no longer blocked
abbrev pub with_blocked : World → ℕ → Bool → World
with_blocked world t blocked = with_mutator world t (record (mutator_at world t) { blocked = blocked })

-- the world with one more object
abbrev pub with_object : World → Object → World
with_object world object = record world { graph = world.graph ++ object ∷ [] }

-- the world in which a slot of an object names something else
abbrev pub with_slot : World → ℕ → ℕ → Option ℕ → World
with_slot world number place value =
    let object = object_at world.graph number in
    record world { graph = slice_set world.graph number (record object { slots = slice_set object.slots place value }) }

-- the world in which a number of an object is another one
abbrev pub with_number : World → ℕ → ℕ → ℕ → World
with_number world number place value =
    let object = object_at world.graph number in
    record world { graph = slice_set world.graph number (record object { numbers = slice_set object.numbers place value }) }
