-- What is reached from roots, round by round, among the objects that belong; and of a world what is reachable, and how
-- much that is.
use Rattle.std.specs.Prelude.{◌≡◌, ℕ, zero, suc, ◌<◌, ◌∷◌, List, length, Option, None, Some, sum_by, filter, Bool, true, false, ◌||◌, ◌&&◌, ◌==◌}
use Rattle.std.specs.List.{list_any, enumerate_from, flat_map}
use Rattle.gc_model.specs.declared.world.Live.{Live}
use Rattle.gc_model.specs.Graph.{Graph, Object, object_at, object_size, is_made_by}
use Rattle.gc_model.specs.World.{Mutator, World}

-- a tracing of a graph: the names that are its roots, and which objects belong to it
pub record Tracing : Type 0 where
  pub graph : Graph
  pub roots : List (Option ℕ)
  pub belongs : ℕ → Bool

-- whether a name is this object's
abbrev pub names : ℕ → Option ℕ → Bool
names number None = false
names number (Some other) = other == number

-- whether one of these names is this object's
abbrev pub is_named : ℕ → List (Option ℕ) → Bool
is_named number named = list_any (names number) named

-- round 0 has the objects that belong and that the roots name; each further round adds those that belong among what
-- the slots of members name
abbrev pub is_reached_in : Tracing → ℕ → ℕ → Bool
is_reached_in tracing zero number = tracing.belongs number && is_named number tracing.roots
is_reached_in tracing (suc rounds) number =
    is_reached_in tracing rounds number
    || (tracing.belongs number
    && list_any (λ member. is_reached_in tracing rounds member.0 && is_named number member.1.slots) (enumerate_from 0 tracing.graph))

-- whether an object is reached: after as many rounds as there are objects
abbrev pub is_reached : Tracing → ℕ → Bool
is_reached tracing number = is_reached_in tracing (length tracing.graph) number

-- a set of objects that has all that belongs of what the roots name, and of what the slots of its own objects name
pub record IsClosedUnderSlots (tracing : Tracing) (has : ℕ → Bool) : Type 0 where
  pub roots : (number : ℕ) → tracing.belongs number ≡ true → is_named number tracing.roots ≡ true → has number ≡ true
  pub slots : (member number : ℕ) → member < length tracing.graph → has member ≡ true → tracing.belongs number ≡ true
      → is_named number (object_at tracing.graph member).slots ≡ true → has number ≡ true

-- what the registers of mutators name; a blocked mutator's count
abbrev pub registers_of : List Mutator → List (Option ℕ)
registers_of mutators = flat_map (λ mutator. mutator.registers) mutators

-- the roots of a world: object 0, and what registers name
abbrev pub root_names : List Mutator → List (Option ℕ)
root_names mutators = Some 0 ∷ registers_of mutators

-- every object belongs
abbrev pub every : ℕ → Bool
every number = true

-- the tracing of all that a world has
abbrev pub whole : World → Tracing
whole world = record { graph = world.graph; roots = root_names world.mutators; belongs = every }

-- whether an object is reachable
abbrev pub is_reachable : World → ℕ → Bool
is_reachable world number = is_reached (whole world) number

-- the reachable objects, with their numbers
abbrev pub reach : World → List (ℕ × Object)
reach world = filter (λ member. is_reachable world member.0) (enumerate_from 0 world.graph)

-- how many objects are reachable, and the sum of their sizes in words
abbrev pub live : World → Live
live world = record { objects = length (reach world); words = sum_by (λ member. object_size member.1) (reach world) }

-- the words of the reachable objects that a mutator made
abbrev pub own_words : World → ℕ → ℕ
own_words world t = sum_by (λ member. object_size member.1) (filter (λ member. is_made_by t member.1) (reach world))
