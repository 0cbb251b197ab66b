-- How four words of bits show the free cells of a page.
use Rattle.std.specs.Prelude.{◌≡◌, ℕ, ◌^◌, ◌/◌, ◌%◌, ◌<◌, ◌≤◌, Bool, ◌==◌, Option, IfSome, List, length, map, slice_index}
use Rattle.std.specs.Int.{bit_at}
use Rattle.std.specs.List.{range_with_len}
use Rattle.gc_gen2.specs.Class.{IsClass}
use Rattle.gc_gen2.specs.Page.{cells_of}

-- the bit of a cell, by the cell's number: 1 where the cell is free
abbrev pub free_bit : List ℕ → ℕ → ℕ
free_bit words number = bit_at (slice_index words (number / 64)) (number % 64)

-- which of a page's cells are used
abbrev pub used_of : Option ℕ → List ℕ → List Bool
used_of class words = map (λ number. free_bit words number == 0) (range_with_len 0 (cells_of class))

-- there are four words of 64 bits, and no bit past the cells of the page's class is set
pub record IsFreeSet (own : Option ℕ) (words : List ℕ) : Type 0 where
  pub class : IfSome own IsClass
  pub four : length words ≡ 4
  pub fit : (i : ℕ) → slice_index words i < 2 ^ 64
  pub no_more : (number : ℕ) → cells_of own ≤ number → number < 256 → free_bit words number ≡ 0
