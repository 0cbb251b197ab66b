-- The header word.
use Rattle.std.specs.Prelude.{ℕ, ◌+◌, Bool, false, if◌then◌else◌}
use Rattle.gc_layout.specs.declared.head.Head.{Head}
use Rattle.gc_layout.specs.declared.shape.TypeNo.{TypeNo}

-- what a flag adds to the word
abbrev pub flag_value : Bool → ℕ → ℕ
flag_value on flag = if on then flag else 0

-- bits 0 to 7 are the type number, bit 8 is old, 9 seen, 10 remembered, 11 marked, and bit 12 is set
abbrev pub head_word : Head → ℕ
head_word head =
    head.ty.0 + flag_value head.old 256 + flag_value head.seen 512 + flag_value head.remembered 1024
    + flag_value head.marked 2048 + 4096

-- the header of a new object, which is old where it lies in a page: no other flag is set
abbrev pub fresh_head : TypeNo → Bool → Head
fresh_head ty old = record { ty = ty; old = old; seen = false; remembered = false; marked = false }
