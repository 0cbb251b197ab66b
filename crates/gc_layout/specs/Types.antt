-- What holds of every table of types.
use Rattle.std.specs.Prelude.{◌≡◌, ◌≤◌, List, length, slice_get, Some, All}
use Rattle.gc_layout.specs.declared.shape.Shape.{Shape}
use Rattle.gc_layout.specs.Sizes.{largest_size}
use Rattle.gc_layout.specs.Shape.{size_of, common_shape}

-- type 0 is the common object's, there are at most 256 types, and no object has more than 64 words
pub record AreTypes (shapes : List Shape) : Type 0 where
  pub common : slice_get shapes 0 ≡ Some common_shape
  pub few : length shapes ≤ 256
  pub sizes : All (λ shape. size_of shape ≤ largest_size) shapes
