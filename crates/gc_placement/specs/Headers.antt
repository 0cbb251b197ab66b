-- What a header's word says.
use Rattle.std.specs.Prelude.{◌≡◌, ℕ, ◌/◌, ◌%◌, Bool, ◌==◌, false, true}
use Rattle.gc_layout.specs.declared.head.Head.{Head}
use Rattle.gc_layout.specs.Head.{fresh_head, head_word}
use Rattle.gc_model.specs.declared.entry.RunKind.{RunKind}

-- whether a word has the flag of this value
abbrev pub has_flag : ℕ → ℕ → Bool
has_flag word flag = word / flag % 2 == 1

-- what a header's word says: the type in its low byte, and the flags above it
abbrev pub head_of : ℕ → Head
head_of word =
    record {
      ty = record { 0 = word % 256 };
      old = has_flag word 256;
      seen = has_flag word 512;
      remembered = has_flag word 1024;
      marked = has_flag word 2048;
    }

-- a header with the bit remembered set or not, all else as it was
abbrev pub with_remembered : ℕ → Bool → ℕ
with_remembered word on = head_word (record (head_of word) { remembered = on })

-- the word is the header's of an object of this type
pub record IsHeader (word ty : ℕ) : Type 0 where
  pub header : head_word (head_of word) ≡ word
  pub type_is : (head_of word).ty.0 ≡ ty

-- the header of a copy in a half, from that of its object: it has the bit seen, and no other
abbrev pub survivor_head : ℕ → Head
survivor_head word = record (fresh_head (head_of word).ty false) { seen = true }

-- whether a collection is full
abbrev pub is_full : RunKind → Bool
is_full RunKind.Minor = false
is_full RunKind.Full = true

-- the header of a copy in a page: it is old and remembered, and a full collection has marked it
abbrev pub promoted_head : RunKind → ℕ → Head
promoted_head kind word = record (fresh_head (head_of word).ty true) { remembered = true; marked = is_full kind }

-- the header of an object in a page that a full collection marks: it is marked and remembered
abbrev pub marked_head : ℕ → Head
marked_head word = record (head_of word) { remembered = true; marked = true }

-- and its header once its cell is looked at: it isn't marked any more
abbrev pub unmarked_head : ℕ → Head
unmarked_head word = record (head_of word) { marked = false }
