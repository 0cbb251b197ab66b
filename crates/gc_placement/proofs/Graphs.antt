-- What calls keep of a graph: how many objects it has, their makers and their sizes.
use Rattle.std.proofs.Common.{◌≡◌, ℕ, ◌+◌, ◌<◌, Option, List, [], ◌∷◌, ◌++◌, length, slice_index_or, refl, sym, ap, ◌∙◌}
use Rattle.std.proofs.Math.ListN.{get_or-map}
use Rattle.std.proofs.lemmas.List.{get_or_append_left, get_or_at, length-map}
use Rattle.gc_model.specs.Graph.{Graph, Object, common_object, object_at, object_size}
use Rattle.gc_model.specs.Laws.{Kind, kind_of, kinds_of}
use Rattle.gc_model.specs.World.{World, with_number, with_slot}
use Rattle.gc_model.proofs.Objects.{with_number-kinds, with_slot-kinds}

-- a graph has as many objects as another, of the same makers and sizes
pub record KeepsSizes (old new : Graph) : Type 0 where
  pub count : length new ≡ length old
  pub maker : (number : ℕ) → (object_at new number).maker ≡ (object_at old number).maker
  pub size : (number : ℕ) → object_size (object_at new number) ≡ object_size (object_at old number)

-- the kind of an object is that at its place among the kinds
kind-at : (graph : Graph) (number : ℕ) → slice_index_or (kinds_of graph) number (kind_of common_object) ≡ kind_of (object_at graph number)
kind-at graph number = get_or-map kind_of graph number common_object

-- objects of the same kinds have the same makers and sizes
pub same_kinds-keep : (old new : Graph) → kinds_of new ≡ kinds_of old → KeepsSizes old new
same_kinds-keep old new same =
    let each : (number : ℕ) → kind_of (object_at new number) ≡ kind_of (object_at old number) =
    λ number. sym (kind-at new number)
    ∙ ap (λ (kinds : List Kind). slice_index_or kinds number (kind_of common_object)) same
    ∙ kind-at old number in
    record {
      count = sym (length-map new kind_of) ∙ ap length same ∙ length-map old kind_of;
      maker = λ number. ap (λ (kind : Kind). kind.maker) (each number);
      size = λ number. ap (λ (kind : Kind). 2 + kind.slots + kind.numbers) (each number);
    }

-- a slot that changes keeps them
pub with_slot-keeps : (world : World) (number place : ℕ) (value : Option ℕ)
    → KeepsSizes world.graph (with_slot world number place value).graph
with_slot-keeps world number place value =
    same_kinds-keep world.graph (with_slot world number place value).graph (with_slot-kinds world number place value)

-- and a number that changes
pub with_number-keeps : (world : World) (number place value : ℕ) → KeepsSizes world.graph (with_number world number place value).graph
with_number-keeps world number place value =
    same_kinds-keep world.graph (with_number world number place value).graph (with_number-kinds world number place value)

-- one more object leaves those before it as they are
pub push-before : (graph : Graph) (object : Object) (number : ℕ) → number < length graph
    → object_at (graph ++ object ∷ []) number ≡ object_at graph number
push-before graph object number before = get_or_append_left graph (object ∷ []) common_object number before

-- and stands behind them
pub push-last : (graph : Graph) (object : Object) → object_at (graph ++ object ∷ []) (length graph) ≡ object
push-last graph object = get_or_at graph object [] common_object (length graph) refl
