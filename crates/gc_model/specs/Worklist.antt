-- The worklist of a search through a graph: marks, and the list of what is marked, which it goes through to its end.
-- What stands in the list before an index was scanned; what stands from there on is still to be scanned.
use Rattle.std.specs.Prelude.{◌≡◌, ℕ, ◌<◌, ◌≤◌, List, length, filter, Option, Bool, true, false, slice_index, slice_index_or, All, IfSome, count_by, sum_by}
use Rattle.std.specs.List.{enumerate_from}
use Rattle.gc_model.specs.declared.world.Live.{Live}
use Rattle.gc_model.specs.Graph.{Graph, Object, object_at, object_size}
use Rattle.gc_model.specs.Reach.{Tracing, is_named, is_reached_in, is_reached}

-- a mark for each object, and the marked objects in the order in which they were met
pub record Worklist : Type 0 where
  pub marks : List Bool
  pub listed : List ℕ

-- whether an object is marked
abbrev pub is_marked : Worklist → ℕ → Bool
is_marked work number = slice_index_or work.marks number false

-- each object that belongs and that one of these names is marked
abbrev pub AreMarked : (ℕ → Bool) → Worklist → List (Option ℕ) → Type 0
AreMarked belongs work named =
    All (λ name. IfSome name (λ number. belongs number ≡ true → is_marked work number ≡ true)) named

-- the list has what is marked and nothing else, and as many entries as there are marks
pub record IsListed (work : Worklist) : Type 0 where
  pub marked : (index : ℕ) → index < length work.listed → is_marked work (slice_index work.listed index) ≡ true
  pub listed : (number : ℕ) → is_marked work number ≡ true
      → (index : ℕ) × (index < length work.listed) × (slice_index work.listed index ≡ number)
  pub counted : length work.listed ≡ count_by (λ mark. mark) work.marks

-- a step of a search marks what these names name, where it belongs, and nothing else: what was marked stays so, what
-- was listed stays at its index, and what is listed after it is named and belongs
pub record Adds (belongs : ℕ → Bool) (named : List (Option ℕ)) (old new : Worklist) : Type 0 where
  pub marks : length new.marks ≡ length old.marks
  pub stays : (number : ℕ) → is_marked old number ≡ true → is_marked new number ≡ true
  pub longer : length old.listed ≤ length new.listed
  pub before : (index : ℕ) → index < length old.listed → slice_index new.listed index ≡ slice_index old.listed index
  pub added : AreMarked belongs new named
  pub only : (index : ℕ) → length old.listed ≤ index → index < length new.listed
      → (belongs (slice_index new.listed index) ≡ true) × (is_named (slice_index new.listed index) named ≡ true)

-- a search under way: the roots are marked, what stands in the list was reached in as many rounds as stand before it,
-- and what the slots of the first so many objects of the list name is marked, each where it belongs
pub record IsUnderWay (tracing : Tracing) (work : Worklist) (next : ℕ) : Type 0 where
  pub marks : length work.marks ≡ length tracing.graph
  pub within : next ≤ length work.listed
  pub begun : AreMarked tracing.belongs work tracing.roots
  pub reached : (index : ℕ) → index < length work.listed → is_reached_in tracing index (slice_index work.listed index) ≡ true
  pub scanned : (index : ℕ) → index < next
      → AreMarked tracing.belongs work (object_at tracing.graph (slice_index work.listed index)).slots

-- exactly what is reached is marked
abbrev pub HasReached : Tracing → Worklist → Type 0
HasReached tracing work = (number : ℕ) → is_marked work number ≡ is_reached tracing number

-- the marked objects, with their numbers
abbrev pub marked_of : Graph → Worklist → List (ℕ × Object)
marked_of graph work = filter (λ member. is_marked work member.0) (enumerate_from 0 graph)

-- how many objects these are, and the sum of their sizes in words
abbrev pub sum_of : List (ℕ × Object) → Live
sum_of members = record { objects = length members; words = sum_by (λ member. object_size member.1) members }
