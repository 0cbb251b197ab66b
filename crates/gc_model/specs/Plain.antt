-- The plain graph that a program keeps: a world, and the types of its objects.
use Rattle.std.specs.Prelude.{List}
use Rattle.gc_layout.specs.declared.shape.Shape.{Shape}
use Rattle.gc_layout.specs.Types.{AreTypes}
use Rattle.gc_model.specs.Graph.{Object}
use Rattle.gc_model.specs.Laws.{IsSound, IsWellTyped}
use Rattle.gc_model.specs.World.{World, Mutator}

pub record Plain : Type 0 where
  pub types : List Shape
  pub world : World

abbrev pub plain_of : List Shape → List Object → List Mutator → Plain
plain_of types graph mutators = record { types = types; world = record { graph = graph; mutators = mutators } }

-- the plain graph after a call: the types stay
abbrev pub with_world : Plain → World → Plain
with_world plain world = record { types = plain.types; world = world }

-- types as a script may have them, names that are objects', and objects of these types
pub record IsWellFormed (plain : Plain) : Type 0 where
  pub types : AreTypes plain.types
  pub sound : IsSound plain.world
  pub typed : IsWellTyped plain.types plain.world
