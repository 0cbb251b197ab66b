-- The bays of a heap's mutators.
use Rattle.std.specs.Prelude.{◌≡◌, ℕ, ◌<◌}
use Rattle.gc_bay.specs.Bay.{Bay, IsBay}
use Rattle.gc_layout.specs.Places.{Layout, IsWithinLimits}

-- the layout is within the limits, and each mutator has its bay in it
pub record AreBays (layout : Layout) (bay : ℕ → Bay) : Type 0 where
  pub limits : IsWithinLimits layout
  pub each : (t : ℕ) → t < layout.mutators → IsBay (bay t)
  pub layout_is : (t : ℕ) → t < layout.mutators → (bay t).layout ≡ layout
  pub mutator_is : (t : ℕ) → t < layout.mutators → (bay t).mutator ≡ t
