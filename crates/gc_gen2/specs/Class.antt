-- Sizes and size classes, in words.
use Rattle.std.specs.Prelude.{◌≡◌, ℕ, ◌+◌, ◌*◌, ◌/◌, ◌%◌, ◌≤◌}

-- the size class of a size: the least multiple of 4 that is at least the size
abbrev pub class_of : ℕ → ℕ
class_of size = 4 * ((size + 3) / 4)

-- a size class: a multiple of 4, from 4 to 64 words
pub record IsClass (class : ℕ) : Type 0 where
  pub multiple : class % 4 ≡ 0
  pub some : 4 ≤ class
  pub few : class ≤ 64

-- how many cells of a class a page of 1024 words has
abbrev pub cells_in : ℕ → ℕ
cells_in class = 1024 / class
