-- What a placement covers.
use Rattle.std.specs.Prelude.{◌≡◌, ℕ, true}
use Rattle.gc_model.specs.Reach.{is_reachable}
use Rattle.gc_model.specs.World.{World, named_by, slot_at}
use Rattle.gc_placement.specs.Placement.{Placement, IsPlaced, IsNamePlaced}

-- the common object is placed, and what registers and the slots of placed objects name is placed
pub record Covers (placement : Placement) (world : World) : Type 0 where
  pub common : IsPlaced placement 0
  pub registers : (t reg : ℕ) → IsNamePlaced placement (named_by world t reg)
  pub slots : (number place : ℕ) → IsPlaced placement number → IsNamePlaced placement (slot_at world number place)

-- so all that is reachable is placed
abbrev pub ReachableIsPlaced : Type 0
ReachableIsPlaced =
    (placement : Placement) (world : World) → Covers placement world
    → (number : ℕ) → is_reachable world number ≡ true → IsPlaced placement number
