-- How many cells a page has.
use Rattle.std.proofs.Common.{ℕ, ◌+◌, ◌*◌, ◌/◌, ◌<◌, ◌≤◌, Option, Some, None, arith}
use Rattle.std.specs.Prelude.{IfSome}
use Rattle.std.proofs.lemmas.Nat.{div_below, le-div, div-add-mod', mul-le}
use Rattle.gc_gen2.specs.Class.{IsClass, cells_in}
use Rattle.gc_gen2.specs.Page.{cells_of}

-- a page has 16 to 256 cells
pub cells_in-le : (class : ℕ) → IsClass class → cells_in class ≤ 256
cells_in-le class is = let below : 1024 / class < 257 = div_below 1024 class 257 (omega (arith, is.some)) (omega (arith, is.some)) in omega
    arith

pub cells_in-ge : (class : ℕ) → IsClass class → 16 ≤ cells_in class
cells_in-ge class is = le-div 16 1024 class (omega (arith, is.some)) (omega (arith, is.few))

pub cells_of-le : (own : Option ℕ) → IfSome own IsClass → cells_of own ≤ 256
cells_of-le None is = omega arith
cells_of-le (Some class) is = cells_in-le class is

-- a cell ends inside its page
pub cell-inside : (class number : ℕ) → number < cells_in class → number * class + class ≤ 1024
cell-inside class number within =
    omega (arith, div-add-mod' 1024 class, mul-le (number + 1) class (1024 / class) class (omega arith) (omega arith))
