-- Sums of words, and which objects lie in halves.
use Rattle.std.specs.Option.{option_map_or}
use Rattle.std.specs.List.{enumerate_from}
use Rattle.std.specs.Prelude.{ℕ, ◌+◌, ◌*◌, ◌-◌, ◌%◌, ◌&&◌, Bool, false, not, nat_le, sum_by, filter, length}
use Rattle.gc_layout.specs.Places.{Layout, region_words}
use Rattle.gc_layout.specs.Sizes.{register_count}
use Rattle.gc_model.specs.Graph.{Graph, object_at, object_size}
use Rattle.gc_placement.specs.Extents.{is_home}
use Rattle.gc_placement.specs.Placement.{Placement}

-- the words of the objects that have a property
abbrev pub words_where : (ℕ → Bool) → Graph → ℕ
words_where has graph = sum_by (λ member. object_size member.1) (filter (λ member. has member.0) (enumerate_from 0 graph))

-- whether an address lies behind the halves of the region that it is in
abbrev pub is_in_page : Layout → ℕ → Bool
is_in_page layout a = nat_le (register_count + 2 * layout.nursery) ((a - 1) % region_words layout)

-- whether an object is placed in a half
abbrev pub is_young : Layout → Placement → ℕ → Bool
is_young layout placement number = option_map_or (λ address. not (is_in_page layout address)) (placement number) false

-- the words of the objects in a mutator's region that are placed in halves
abbrev pub young_words : Layout → Placement → Graph → ℕ → ℕ
young_words layout placement graph t =
    words_where (λ number. is_young layout placement number && is_home t (object_at graph number)) graph

-- the words of the objects in a mutator's region that have a property
abbrev pub own_words_where : (ℕ → Bool) → Graph → ℕ → ℕ
own_words_where has graph t = words_where (λ number. has number && is_home t (object_at graph number)) graph

-- how many objects have a property
abbrev pub objects_where : (ℕ → Bool) → Graph → ℕ
objects_where has graph = length (filter (λ member. has member.0) (enumerate_from 0 graph))

-- and how many of those that lie in a mutator's region
abbrev pub own_objects_where : (ℕ → Bool) → Graph → ℕ → ℕ
own_objects_where has graph t = objects_where (λ number. has number && is_home t (object_at graph number)) graph
