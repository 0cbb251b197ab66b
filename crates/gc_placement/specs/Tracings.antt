-- What a collection reaches: what its roots reach among the objects that belong to it.
use Rattle.std.specs.Option.{option_map_or}
use Rattle.std.specs.List.{enumerate_from, flat_map}
use Rattle.std.specs.Prelude.{ℕ, Bool, false, List, [], ◌++◌, Option, if◌then◌else◌}
use Rattle.gc_model.specs.Graph.{Graph}
use Rattle.gc_model.specs.Reach.{Tracing, registers_of, whole}
use Rattle.gc_model.specs.World.{World}
use Rattle.gc_model.specs.declared.entry.RunKind.{RunKind}
use Rattle.gc_placement.specs.Headers.{head_of}
use Rattle.gc_placement.specs.Memory.{Memory}
use Rattle.gc_placement.specs.Placement.{Placement}
use Rattle.gc_placement.specs.Sums.{is_young}

-- whether an object is placed, and its header has the bit remembered
abbrev pub is_remembered : (ℕ → ℕ) → Placement → ℕ → Bool
is_remembered word placement number = option_map_or (λ address. (head_of (word address)).remembered) (placement number) false

-- what the slots of the remembered objects name
abbrev pub remembered_slots : (ℕ → ℕ) → Placement → Graph → List (Option ℕ)
remembered_slots word placement graph =
    flat_map (λ member. if is_remembered word placement member.0 then member.1.slots else []) (enumerate_from 0 graph)

-- a minor collection reaches objects in halves, from registers and from the slots of remembered objects, through objects
-- in halves
abbrev pub minor_tracing : Memory → Placement → World → Tracing
minor_tracing memory placement world =
    record {
      graph = world.graph;
      roots = registers_of world.mutators ++ remembered_slots memory.word placement world.graph;
      belongs = is_young memory.layout placement;
    }

-- what a collection of a kind reaches, on a memory that shows a world: a full one all that the world has
abbrev pub tracing_of : RunKind → Memory → Placement → World → Tracing
tracing_of RunKind.Minor memory placement world = minor_tracing memory placement world
tracing_of RunKind.Full memory placement world = whole world
