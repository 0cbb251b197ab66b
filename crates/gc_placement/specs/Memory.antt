-- The memory of a heap, however it is kept.
use Rattle.std.specs.Prelude.{ℕ, List}
use Rattle.gc_bay.specs.Bay.{Bay}
use Rattle.gc_layout.specs.declared.shape.Shape.{Shape}
use Rattle.gc_layout.specs.Places.{Layout}

-- the types, the layout, the word at an address, and the bay of a mutator
pub record Memory : Type 0 where
  pub types : List Shape
  pub layout : Layout
  pub word : ℕ → ℕ
  pub bay : ℕ → Bay
