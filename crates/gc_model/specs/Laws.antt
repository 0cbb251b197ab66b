-- What every call and collection keeps: the objects and their kinds, that each name is an object's, and that each
-- object has its type's counts.
use Rattle.std.specs.Prelude.{◌≡◌, ℕ, ◌<◌, ◌⊎◌, ◌++◌, ◌∷◌, List, [], Option, length, map, All, IfSome}
use Rattle.gc_layout.specs.declared.shape.Shape.{Shape}
use Rattle.gc_layout.specs.Types.{AreTypes}
use Rattle.gc_layout.specs.Sizes.{register_count}
use Rattle.gc_model.specs.declared.entry.Entry.{Entry}
use Rattle.gc_model.specs.declared.entry.Entry.TheVariants.{Made, Run}
use Rattle.gc_model.specs.Answer.{IsFit, shape_at}
use Rattle.gc_model.specs.Graph.{Object, Graph, common_object, object_at}
use Rattle.gc_model.specs.World.{Mutator, World}
use Rattle.gc_model.specs.History.{Configuration, History, world_after, world_after_entry}

-- what stays of an object: its type, its maker, and how many slots and numbers it has
pub record Kind : Type 0 where
  pub ty : ℕ
  pub maker : Option ℕ
  pub slots : ℕ
  pub numbers : ℕ

abbrev pub kind_of : Object → Kind
kind_of object =
    record { ty = object.ty; maker = object.maker; slots = length object.slots; numbers = length object.numbers }

abbrev pub kinds_of : Graph → List Kind
kinds_of graph = map kind_of graph

-- a step keeps the mutators and the objects: there is at most one more object, at the end
pub record KeepsObjects (old new : World) : Type 0 where
  pub mutators : length new.mutators ≡ length old.mutators
  pub objects : (kinds_of new.graph ≡ kinds_of old.graph)
      ⊎ ((kind : Kind) × (kinds_of new.graph ≡ kinds_of old.graph ++ kind ∷ []))

-- whatever the call, its mutator and its reply: no object is taken away or changes its kind
abbrev pub NoObjectIsTakenAway : Type 0
NoObjectIsTakenAway = (types : List Shape) (world : World) (entry : Entry) → KeepsObjects world (world_after_entry types world entry)

-- it names one of so many objects, or nothing
abbrev pub IsThere : ℕ → Option ℕ → Type 0
IsThere count name = IfSome name (λ number. number < count)

-- each of these names one of so many objects, or nothing
abbrev pub AreThere : ℕ → List (Option ℕ) → Type 0
AreThere count names = All (IsThere count) names

-- a mutator has 16 registers, which name objects that are there
abbrev pub HasSoundRegisters : World → Mutator → Type 0
HasSoundRegisters world mutator =
    (length mutator.registers ≡ register_count) × AreThere (length world.graph) mutator.registers

-- the common object is there, each mutator has 16 registers, and registers and slots name objects that are there
pub record IsSound (world : World) : Type 0 where
  pub common : 0 < length world.graph
  pub registers : All (HasSoundRegisters world) world.mutators
  pub slots : All (λ object. AreThere (length world.graph) object.slots) world.graph

-- after every history each name is an object's
abbrev pub EachNameIsAnObjects : Type 0
EachNameIsAnObjects = (heap : Configuration) (history : History) → IsSound (world_after heap history)

-- an object of this kind has a type that is known, and this type's counts of slots and of numbers
pub record IsTyped (types : List Shape) (kind : Kind) : Type 0 where
  pub known : kind.ty < length types
  pub slots : kind.slots ≡ (shape_at types kind.ty).slots
  pub numbers : kind.numbers ≡ (shape_at types kind.ty).numbers

-- each object has its type's counts, and object 0 is of the common object's kind
pub record IsWellTyped (types : List Shape) (world : World) : Type 0 where
  pub objects : All (λ object. IsTyped types (kind_of object)) world.graph
  pub common : kind_of (object_at world.graph 0) ≡ kind_of common_object

-- an entry's call is fit for so many mutators
abbrev pub IsFitEntry : List Shape → ℕ → Entry → Type 0
IsFitEntry types mutators (Made t call reply) = IsFit types mutators t call
IsFitEntry types mutators (Run report) = Unit {0}

-- after every history of fit calls each object has its type's counts
abbrev pub EachObjectIsWellTyped : Type 0
EachObjectIsWellTyped =
    (heap : Configuration) (history : History) → AreTypes heap.types → All (IsFitEntry heap.types heap.mutators) history
    → IsWellTyped heap.types (world_after heap history)
