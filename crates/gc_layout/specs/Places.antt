-- Where everything lies: a region of words for each mutator, and its parts.
use Rattle.std.specs.Prelude.{ℕ, ◌+◌, ◌-◌, ◌*◌, ◌/◌, ◌<◌, ◌≤◌}
use Rattle.gc_layout.specs.declared.places.Part.{Part}
use Rattle.gc_layout.specs.declared.places.Part.TheVariants.{Root, Half, Page}
use Rattle.gc_layout.specs.Sizes.{register_count, largest_size, page_words}

-- the three numbers that lay a heap out: its mutators, the words of a semispace half, and the pages that each
-- mutator has
pub record Layout : Type 0 where
  pub mutators : ℕ
  pub nursery : ℕ
  pub pages : ℕ

-- the limits: 1 to 8 mutators, 64 to 65536 words in a half, and 1 to 128 pages
pub record IsWithinLimits (layout : Layout) : Type 0 where
  pub some_mutator : 1 ≤ layout.mutators
  pub few_mutators : layout.mutators ≤ 8
  pub large_nursery : largest_size ≤ layout.nursery
  pub small_nursery : layout.nursery ≤ 65536
  pub some_page : 1 ≤ layout.pages
  pub few_pages : layout.pages ≤ 128

-- the words of a mutator's region: 16 root words, two halves and the pages
abbrev pub region_words : Layout → ℕ
region_words layout = register_count + 2 * layout.nursery + page_words * layout.pages

-- the words of the whole heap, which are also its addresses: 1 to this number
abbrev pub word_count : Layout → ℕ
word_count layout = layout.mutators * region_words layout

-- the address at which the region of a mutator begins
abbrev pub region_start : Layout → ℕ → ℕ
region_start layout m = 1 + m * region_words layout

-- how many words of its region stand before a part: the root words come first, then half 0, half 1 and
-- the pages in order
abbrev pub words_before : Layout → Part → ℕ
words_before layout (Root reg) = reg
words_before layout (Half half offset) = register_count + (half * layout.nursery + offset)
words_before layout (Page page offset) = register_count + 2 * layout.nursery + (page * page_words + offset)

-- the address of a part of a mutator
abbrev pub address_of : Layout → ℕ → Part → ℕ
address_of layout m part = region_start layout m + words_before layout part

-- the part is there: one of 16 registers, of two halves or of the pages, and a word inside it
abbrev pub IsInside : Layout → Part → Type 0
IsInside layout (Root reg) = reg < register_count
IsInside layout (Half half offset) = (half < 2) × (offset < layout.nursery)
IsInside layout (Page page offset) = (page < layout.pages) × (offset < page_words)

-- the mutator in whose region an address lies
abbrev pub owner_of : Layout → ℕ → ℕ
owner_of layout a = (a - 1) / region_words layout

-- the address is a word of this half of the mutator
pub record IsInHalf (layout : Layout) (m half a : ℕ) : Type 0 where
  pub from : address_of layout m (Half half 0) ≤ a
  pub to : a < address_of layout m (Half half layout.nursery)

-- the address is a word of a page of the mutator
pub record IsInPages (layout : Layout) (m a : ℕ) : Type 0 where
  pub from : address_of layout m (Page 0 0) ≤ a
  pub to : a < address_of layout m (Page layout.pages 0)

-- the address of a word that has so many words of the mutator's pages before it, as a cell's offset says
abbrev pub cell_address : Layout → ℕ → ℕ → ℕ
cell_address layout m offset = address_of layout m (Page 0 offset)
