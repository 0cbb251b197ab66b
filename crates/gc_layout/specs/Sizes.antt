-- The numbers of the layout by name.
use Rattle.std.specs.Prelude.{ℕ}

-- the registers of a mutator, each with a root word in its region
abbrev pub register_count : ℕ
register_count = 16

-- the slots of the common object
abbrev pub common_slots : ℕ
common_slots = 16

-- the most words of an object, and the fewest of a semispace half
abbrev pub largest_size : ℕ
largest_size = 64

-- the words of a page
abbrev pub page_words : ℕ
page_words = 1024

-- how far the forwarding word stands behind the header
abbrev pub forwarding_word : ℕ
forwarding_word = 1

-- how far the first slot stands behind the header
abbrev pub first_slot : ℕ
first_slot = 2
