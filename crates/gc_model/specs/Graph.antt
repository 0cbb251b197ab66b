-- The graph of objects.
use Rattle.std.specs.Prelude.{ℕ, ◌+◌, List, length, replicate, Option, None, Some, slice_index_or, Bool, false, ◌==◌}
use Rattle.gc_layout.specs.declared.shape.Shape.{Shape}
use Rattle.gc_layout.specs.Shape.{common_shape}

-- an object: its type, its maker (a mutator, or nobody), what its slots name, and its numbers
pub record Object : Type 0 where
  pub ty : ℕ
  pub maker : Option ℕ
  pub slots : List (Option ℕ)
  pub numbers : List ℕ

-- an object's number is its index in the list; objects are never taken away
abbrev pub Graph : Type 0
Graph = List Object

-- a new object of a shape: all slots are nothing and all numbers are 0
abbrev pub fresh_object : ℕ → Option ℕ → Shape → Object
fresh_object ty maker shape =
    record { ty = ty; maker = maker; slots = replicate shape.slots None; numbers = replicate shape.numbers 0 }

-- object 0, which nobody made
abbrev pub common_object : Object
common_object = fresh_object 0 None common_shape

-- the object of a number
abbrev pub object_at : Graph → ℕ → Object
object_at graph number = slice_index_or graph number common_object

-- the size in words: header, forwarding word, slots and numbers
abbrev pub object_size : Object → ℕ
object_size object = 2 + length object.slots + length object.numbers

-- whether a maker is this mutator
abbrev pub is_mutator : ℕ → Option ℕ → Bool
is_mutator mutator None = false
is_mutator mutator (Some maker) = maker == mutator

-- whether a mutator made the object
abbrev pub is_made_by : ℕ → Object → Bool
is_made_by mutator object = is_mutator mutator object.maker
