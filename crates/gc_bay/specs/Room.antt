-- How many entries the lists have room for.
use Rattle.std.specs.Prelude.{ℕ, ◌+◌, ◌*◌, ◌/◌}
use Rattle.gc_layout.specs.Places.{Layout}

-- the most addresses of a batch
abbrev pub batch_room : ℕ
batch_room = 62

-- the most cells of a page: those of the least class
abbrev pub most_cells : ℕ
most_cells = 256

-- a grey object lies in the half, where each takes two words at least, or in a cell
abbrev pub grey_room : Layout → ℕ
grey_room layout = layout.nursery / 2 + most_cells * layout.pages

-- a remembered object lies in a cell of any mutator
abbrev pub remembered_room : Layout → ℕ
remembered_room layout = most_cells * layout.pages * layout.mutators
