-- Sizes in words, and where the words of an object lie behind the address of its header.
use Rattle.std.specs.Prelude.{ℕ, ◌+◌}
use Rattle.gc_layout.specs.declared.shape.Shape.{Shape}
use Rattle.gc_layout.specs.Sizes.{common_slots, forwarding_word, first_slot}

-- the size of an object: header word, forwarding word, slots and numbers
abbrev pub size_of : Shape → ℕ
size_of shape = first_slot + shape.slots + shape.numbers

-- the common object has 16 slots and no numbers
abbrev pub common_shape : Shape
common_shape = record { slots = common_slots; numbers = 0 }

-- the forwarding word stands behind the header
abbrev pub forwarding_address : ℕ → ℕ
forwarding_address address = address + forwarding_word

-- the slots stand behind the forwarding word
abbrev pub slot_address : ℕ → ℕ → ℕ
slot_address address place = address + first_slot + place

-- how far the numbers stand behind the header: behind all slots
abbrev pub first_number : Shape → ℕ
first_number shape = first_slot + shape.slots

-- the numbers stand behind all slots
abbrev pub number_address : ℕ → Shape → ℕ → ℕ
number_address address shape place = address + first_number shape + place
