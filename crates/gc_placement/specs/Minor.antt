-- A minor collection as a whole: what it does to a memory.
use Rattle.std.specs.Prelude.{◌≡◌, ◌↔◌, ℕ, ◌+◌, ◌<◌, ◌&&◌, Bool, true, not, is_some}
use Rattle.gc_model.specs.Reach.{is_reached}
use Rattle.gc_model.specs.World.{World}
use Rattle.gc_placement.specs.Flipped.{AreFlipped, CellsStay}
use Rattle.gc_placement.specs.Memory.{Memory}
use Rattle.gc_placement.specs.Moves.{KeepsPlaced}
use Rattle.gc_placement.specs.Placement.{IsPlaced, Placement}
use Rattle.gc_placement.specs.Promotion.{ArePromoted}
use Rattle.gc_placement.specs.Rest.{IsAtRest}
use Rattle.gc_placement.specs.Sums.{is_young, own_words_where}
use Rattle.gc_placement.specs.Tracings.{minor_tracing}
use Rattle.gc_placement.specs.UnderWay.{all_begun}

-- whether an object lay in a half before, and is kept
abbrev pub was_young_and_kept : Memory → Placement → Placement → ℕ → Bool
was_young_and_kept memory before after number = is_young memory.layout before number && is_some (after number)

-- whether it lay in a half before, and lies in a page after
abbrev pub was_promoted : Memory → Placement → Placement → ℕ → Bool
was_promoted memory before after number = was_young_and_kept memory before after number && not (is_young memory.layout after number)

-- what a minor collection does to a memory that shows a world: it keeps the world, the objects in pages and their cells; of
-- the objects in halves it keeps exactly what it reaches, each once: the words that are used afterwards in the half of a
-- mutator, and those of the objects that were promoted, are together those of the kept
pub record IsMinorCollection (old new : Memory) (before after : Placement) (world : World) : Type 0 where
  pub rest : IsAtRest new after world
  pub flipped : AreFlipped old.layout.mutators all_begun old.bay new.bay
  pub keeps : KeepsPlaced old.layout before after
  pub cells_stay : CellsStay old.layout.mutators old.bay new.bay
  pub reached : (number : ℕ) → is_young old.layout before number ≡ true
      → IsPlaced after number ↔ (is_reached (minor_tracing old before world) number ≡ true)
  pub sums : (t : ℕ) → t < old.layout.mutators
      → (new.bay t).used + own_words_where (was_promoted old before after) world.graph t
      ≡ own_words_where (was_young_and_kept old before after) world.graph t
  pub promoted : ArePromoted old.layout old.word new.word new.bay before after world.graph
