-- The number by which the owner of an address is computed without a division.
use Rattle.std.specs.Prelude.{ℕ, ◌+◌, ◌/◌}
use Rattle.gc_layout.specs.Places.{Layout, region_words}

-- the reciprocal of a region's words, scaled by 2 to the 42 and rounded up
abbrev pub reciprocal_of : Layout → ℕ
reciprocal_of layout = 4398046511104 / region_words layout + 1
