-- The arithmetic of places.
use Rattle.std.proofs.Common.{◌≡◌, ℕ, ◌+◌, ◌-◌, ◌*◌, ◌/◌, ◌%◌, ◌<◌, ◌≤◌, ap, ◌∙◌, arith}
use Rattle.std.proofs.lemmas.Nat.{mul-add-lt, div-mul-add, mod-mul-add, same_from_place}
use Rattle.gc_layout.specs.declared.places.Part.{Part}
use Rattle.gc_layout.specs.declared.places.Part.TheVariants.{Root, Half, Page}
use Rattle.gc_layout.specs.Places.{Layout, region_words, word_count, words_before, address_of, IsInside, owner_of}

-- the row of a place that is counted from 1
pub row_of : (a m r k : ℕ) → k < r → 1 + m * r + k ≡ a → (a - 1) / r ≡ m
row_of a m r k h e =
    let before : a - 1 ≡ m * r + k = omega arith in ap (λ n. n / r) before ∙ div-mul-add m r k h

-- the column of a place that is counted from 1
pub column_of : (a m r k : ℕ) → k < r → 1 + m * r + k ≡ a → (a - 1) % r ≡ k
column_of a m r k h e =
    let before : a - 1 ≡ m * r + k = omega arith in ap (λ n. n % r) before ∙ mod-mul-add m r k h

-- the place of a row and a column is one of the rows' words
pub place-within : (m n r k : ℕ) → m < n → k < r → 1 + m * r + k ≤ n * r
place-within m n r k h j = omega (arith, mul-add-lt m r k n h j)

-- a part is one of its region's words
pub before-below : (layout : Layout) (part : Part) → IsInside layout part
    → words_before layout part < region_words layout
before-below layout (Root reg) h = omega arith
before-below layout (Half half offset) h = omega (arith, mul-add-lt half layout.nursery offset 2 h.0 h.1)
before-below layout (Page page offset) h = omega (arith, h.0, h.1)

-- two parts with as many words before them are one
pub same_part : (layout : Layout) (part other : Part) → IsInside layout part → IsInside layout other
    → words_before layout part ≡ words_before layout other → part ≡ other
same_part layout (Root reg) (Root other) h j e = ap Root e
same_part layout (Root reg) (Half half offset) h j e = absurd (omega arith)
same_part layout (Root reg) (Page page offset) h j e = absurd (omega arith)
same_part layout (Half half offset) (Root reg) h j e = absurd (omega arith)
same_part layout (Half half offset) (Half half' offset') h j e =
    let same : (half ≡ half') × (offset ≡ offset') =
    same_from_place half offset half' offset' layout.nursery h.1 j.1 (omega arith) in
    cc (same.0, same.1)
same_part layout (Half half offset) (Page page offset') h j e =
    absurd (omega (arith, mul-add-lt half layout.nursery offset 2 h.0 h.1))
same_part layout (Page page offset) (Root reg) h j e = absurd (omega arith)
same_part layout (Page page offset) (Half half offset') h j e =
    absurd (omega (arith, mul-add-lt half layout.nursery offset' 2 j.0 j.1))
same_part layout (Page page offset) (Page page' offset') h j e =
    let same : (page ≡ page') × (offset ≡ offset') =
    same_from_place page offset page' offset' 1024 h.1 j.1 (omega arith) in
    cc (same.0, same.1)

-- the address of a part is one of the heap's
pub address-within : (layout : Layout) (m : ℕ) (part : Part) → m < layout.mutators → IsInside layout part
    → address_of layout m part ≤ word_count layout
address-within layout m part h j =
    place-within m layout.mutators (region_words layout) (words_before layout part) h (before-below layout part j)

-- the address of a part of a mutator is owned by it
pub address-owner : (layout : Layout) (m a : ℕ) (part : Part) → IsInside layout part → address_of layout m part ≡ a
    → owner_of layout a ≡ m
address-owner layout m a part j e =
    row_of a m (region_words layout) (words_before layout part) (before-below layout part j) e

-- the words before an address in its region are the words before its part
pub address-before : (layout : Layout) (m a : ℕ) (part : Part) → IsInside layout part → address_of layout m part ≡ a
    → (a - 1) % region_words layout ≡ words_before layout part
address-before layout m a part j e =
    column_of a m (region_words layout) (words_before layout part) (before-below layout part j) e
