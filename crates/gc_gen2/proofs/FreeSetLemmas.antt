-- What a change of one bit of a page's free set is to the page, and where its first bit stands.
use Rattle.std.proofs.Common.{◌≡◌, ◌≢◌, ℕ, zero, suc, [], ◌∷◌, ◌+◌, ◌*◌, ◌-◌, ◌^◌, ◌/◌, ◌%◌, ◌<◌, ◌≤◌, Bool, false, not, Option, Some, None, List, length, get_or, set, replicate, min, refl, ap, sym, ◌∙◌, ⊎_elim, arith, get_or-set_same, get_or-set_other}
use Rattle.std.specs.Prelude.{◌==◌, position, slice_index}
use Rattle.std.proofs.lemmas.Nat.{pow_pos}
use Rattle.std.specs.Int.{bit_at, w64, trailing_zeros}
use Rattle.std.proofs.lemmas.Bool.{cases_eq, cases_lt}
use Rattle.std.proofs.lemmas.List.{length-set, same_lists, get_or-replicate, length-replicate, get_or_past}
use lib.Pow.{pow_mono}
use Rattle.std.proofs.lemmas.List.FromFn.{length-map-range_with_len, get_or-map-range_with_len}
use Rattle.std.proofs.lemmas.Nat.Bits.{bit_at-zero, bit_at-trailing_zeros, bit_at_ones, bit_at_ones_above}
use Rattle.gc_gen2.specs.Class.{IsClass, cells_in}
use Rattle.gc_gen2.specs.Page.{Page, cells_of}
use Rattle.gc_gen2.specs.FreeSet.{free_bit, used_of, IsFreeSet}
use Rattle.gc_gen2.proofs.BitLemmas.{SameBut}
use Rattle.gc_gen2.proofs.ClassLemmas.{cells_of-le, cells_in-le}
use Rattle.gc_gen2.proofs.ListLemmas.{position-first, position-none}

-- a page has a mark for each of its cells
pub length-used_of : (own : Option ℕ) (words : List ℕ) → length (used_of own words) ≡ cells_of own
length-used_of own words = length-map-range_with_len (λ number. free_bit words number == 0) 0 (cells_of own)

-- the mark of a cell says that its bit is off
pub get_or-used_of : (own : Option ℕ) (words : List ℕ) (number : ℕ) (d : Bool) → number < cells_of own
    → get_or (used_of own words) number d ≡ (free_bit words number == 0)
get_or-used_of own words number d within =
    get_or-map-range_with_len (λ k. free_bit words k == 0) 0 (cells_of own) number number d within (omega arith)

-- the bit of a cell whose word was set, and the other bits
free_bit-set_same : (words : List ℕ) (v number : ℕ) → number / 64 < length words
    → free_bit (set words (number / 64) v) number ≡ bit_at v (number % 64)
free_bit-set_same words v number within =
    ap (λ w. bit_at w (number % 64)) (get_or-set_same words (number / 64) v 0 within)

free_bit-set_other : (words : List ℕ) (v number k : ℕ) → number / 64 < length words
    → SameBut w64 (slice_index words (number / 64)) v (number % 64) → k ≢ number → free_bit (set words (number / 64) v) k ≡ free_bit words k
free_bit-set_other words v number k within same apart =
    ⊎_elim
    (λ here.
    let bit : k % 64 ≢ number % 64 = λ e. apart (omega arith) in
    let word : get_or (set words (number / 64) v) (k / 64) 0 ≡ v =
    ap (λ i. get_or (set words (number / 64) v) i 0) here ∙ get_or-set_same words (number / 64) v 0 within
    in
    let was : slice_index words (number / 64) ≡ slice_index words (k / 64) = ap (slice_index words) (sym here) in
    ap (λ w. bit_at w (k % 64)) word ∙ same.others (k % 64) (omega arith) bit ∙ ap (λ w. bit_at w (k % 64)) was)
    (λ elsewhere. ap (λ w. bit_at w (k % 64)) (get_or-set_other words (number / 64) (k / 64) v 0 elsewhere))
    (cases_eq (k / 64) (number / 64))

-- a word whose one bit changed leaves a free set
pub IsFreeSet-set : (own : Option ℕ) (words : List ℕ) (v number : ℕ) → IsFreeSet own words → number < cells_of own
    → SameBut w64 (slice_index words (number / 64)) v (number % 64) → IsFreeSet own (set words (number / 64) v)
IsFreeSet-set own words v number is within same =
    let few : cells_of own ≤ 256 = cells_of-le own is.class in
    let word : number / 64 < length words = omega (arith, is.four) in
    record {
      class = is.class;
      four = length-set words (number / 64) v ∙ is.four;
      fit = λ i.
          ⊎_elim
          (λ here.
          let e : get_or (set words (number / 64) v) i 0 ≡ v =
          ap (λ k. get_or (set words (number / 64) v) k 0) here ∙ get_or-set_same words (number / 64) v 0 word
          in
          rw e same.fits)
          (λ elsewhere.
          let e : get_or (set words (number / 64) v) i 0 ≡ get_or words i 0 =
          get_or-set_other words (number / 64) i v 0 elsewhere
          in
          rw e (is.fit i))
          (cases_eq i (number / 64));
      no_more = λ k past low.
          let apart : k ≢ number = λ e. absurd (omega arith) in
          free_bit-set_other words v number k word same apart ∙ is.no_more k past low;
    }

-- and it changes the mark of its cell alone
pub used_of-set : (own : Option ℕ) (words : List ℕ) (v number : ℕ) → IsFreeSet own words → number < cells_of own
    → SameBut w64 (slice_index words (number / 64)) v (number % 64)
    → used_of own (set words (number / 64) v) ≡ set (used_of own words) number (bit_at v (number % 64) == 0)
used_of-set own words v number is within same =
    let few : cells_of own ≤ 256 = cells_of-le own is.class in
    let word : number / 64 < length words = omega (arith, is.four) in
    let words' = set words (number / 64) v in
    let mark = bit_at v (number % 64) == 0 in
    same_lists (used_of own words') (set (used_of own words) number mark)
    (length-used_of own words' ∙ sym (length-set (used_of own words) number mark ∙ length-used_of own words))
    (λ k d below.
    let cell : k < cells_of own = omega (arith, length-used_of own words') in
    let long : number < length (used_of own words) = omega (arith, length-used_of own words) in
    get_or-used_of own words' k d cell
    ∙ ⊎_elim
    (λ here.
    ap (λ i. free_bit words' i == 0) here
    ∙ ap (λ b. b == 0) (free_bit-set_same words v number word)
    ∙ sym
    (ap (λ i. get_or (set (used_of own words) number mark) i d) here ∙ get_or-set_same (used_of own words) number mark d long))
    (λ elsewhere.
    ap (λ b. b == 0) (free_bit-set_other words v number k word same elsewhere)
    ∙ sym (get_or-set_other (used_of own words) number k mark d elsewhere ∙ get_or-used_of own words k d cell))
    (cases_eq k number))

-- all words before word i are 0
abbrev pub NoneBefore : List ℕ → ℕ → Type 0
NoneBefore words i = (k : ℕ) → k < i → slice_index words k ≡ 0

-- no bit is on in a word that is 0
off_in_zero : (words : List ℕ) (number : ℕ) → slice_index words (number / 64) ≡ 0 → free_bit words number ≡ 0
off_in_zero words number none = ap (λ w. bit_at w (number % 64)) none ∙ bit_at-zero (number % 64)

-- the lowest bit of the first word that isn't 0 is the first free cell
pub first_free_cell-lowest : (own : Option ℕ) (words : List ℕ) (i m : ℕ) → IsFreeSet own words → i < 4 → NoneBefore words i
    → slice_index words i ≢ 0 → m ≡ 64 * i + trailing_zeros w64 (slice_index words i) → position not (used_of own words) ≡ Some m
first_free_cell-lowest own words i m is four before some at =
    let word = slice_index words i in
    let lowest = bit_at-trailing_zeros w64 word (omega arith) (is.fit i) in
    let low : trailing_zeros w64 word < 64 = lowest.0 in
    let row : m / 64 ≡ i = omega arith in
    let column : m % 64 ≡ trailing_zeros w64 word = omega arith in
    let on : free_bit words m ≡ 1 = ap (λ k. bit_at (slice_index words k) (m % 64)) row ∙ ap (bit_at word) column ∙ lowest.1 in
    let cell : m < cells_of own =
    ⊎_elim (λ lt. lt) (λ past. absurd (omega (arith, is.no_more m past (omega arith)))) (cases_lt m (cells_of own)) in
    let used : (k : ℕ) → k < m → free_bit words k ≡ 0 = λ k below.
    ⊎_elim
    (λ lt. off_in_zero words k (before (k / 64) lt))
    (λ le.
    let here : k / 64 ≡ i = omega arith in
    ap (λ j. bit_at (slice_index words j) (k % 64)) here ∙ lowest.2 (k % 64) (omega arith))
    (cases_lt (k / 64) i)
    in
    position-first not (used_of own words) m false (omega (arith, length-used_of own words))
    (λ k below.
    ap not (get_or-used_of own words k false (omega arith)) ∙ ap (λ b. not (b == 0)) (used k below))
    (ap not (get_or-used_of own words m false cell) ∙ ap (λ b. not (b == 0)) on)

-- where all words are 0 no cell is free
pub first_free_cell-none : (own : Option ℕ) (words : List ℕ) → IsFreeSet own words → NoneBefore words 4
    → position not (used_of own words) ≡ None
first_free_cell-none own words is none =
    position-none not (used_of own words) false
    (λ k below.
    let cell : k < cells_of own = omega (arith, length-used_of own words) in
    let few : cells_of own ≤ 256 = cells_of-le own is.class in
    ap not (get_or-used_of own words k false cell) ∙ ap (λ b. not (b == 0)) (off_in_zero words k (none (k / 64) (omega arith))))

-- a cell of the page that a free set shows is one of its class's cells, and its word is one of the four
pub cell-within : (own : Option ℕ) (words : List ℕ) (page : Page) (number : ℕ) → record { class = own; used = used_of own words } ≡ page
    → number < length page.used → number < cells_of own
cell-within own words page number shows within =
    let long : length (used_of own words) ≡ length page.used = ap (λ (p : Page). length p.used) shows in
    omega (arith, length-used_of own words)

pub word-within : (own : Option ℕ) (words : List ℕ) (page : Page) (number : ℕ) → record { class = own; used = used_of own words } ≡ page
    → IsFreeSet own words → number < length page.used → number / 64 < 4
word-within own words page number shows is within =
    omega (arith, cells_of-le own is.class, cell-within own words page number shows within)

-- the word whose lowest bits are on: so many of them, or all 64
abbrev pub ones_of : ℕ → ℕ
ones_of count = 2 ^ min count 64 - 1

-- the free set whose first so many bits are on
abbrev pub first_ones : ℕ → List ℕ
first_ones count = ones_of count ∷ ones_of (count - 64) ∷ ones_of (count - 128) ∷ ones_of (count - 192) ∷ []

-- its words
first_ones-at : (count i : ℕ) → i < 4 → slice_index (first_ones count) i ≡ ones_of (count - 64 * i)
first_ones-at count zero within = let e : count ≡ count - 64 * 0 = omega arith in ap ones_of e
first_ones-at count (suc zero) within = refl
first_ones-at count (suc (suc zero)) within = refl
first_ones-at count (suc (suc (suc zero))) within = refl
first_ones-at count (suc (suc (suc (suc i)))) within = absurd (omega arith)

-- its bits
ones-on : (count n : ℕ) → n < count → n < 256 → free_bit (first_ones count) n ≡ 1
ones-on count n below low =
    ap (λ w. bit_at w (n % 64)) (first_ones-at count (n / 64) (omega arith))
    ∙ bit_at_ones (min (count - 64 * (n / 64)) 64) (n % 64) (omega arith)

ones-off : (count n : ℕ) → count ≤ n → n < 256 → free_bit (first_ones count) n ≡ 0
ones-off count n past low =
    ap (λ w. bit_at w (n % 64)) (first_ones-at count (n / 64) (omega arith))
    ∙ bit_at_ones_above (min (count - 64 * (n / 64)) 64) (n % 64) (omega arith)

ones-fit : (count : ℕ) → ones_of count < 2 ^ 64
ones-fit count =
    let few : min count 64 ≤ 64 = omega arith in
    let le : 2 ^ min count 64 ≤ 2 ^ 64 = pow_mono few in
    omega (arith, pow_pos (min count 64))

-- a page of a class all of whose cells are free
pub IsFreeSet-first_ones : (class : ℕ) → IsClass class → IsFreeSet (Some class) (first_ones (cells_in class))
IsFreeSet-first_ones class is = record {
  class = is;
  four = refl;
  fit = λ i.
      ⊎_elim
      (λ lt. rw (first_ones-at (cells_in class) i lt) (ones-fit (cells_in class - 64 * i)))
      (λ le. rw (get_or_past (first_ones (cells_in class)) i 0 le) (pow_pos 64))
      (cases_lt i 4);
  no_more = λ n past low. ones-off (cells_in class) n past low;
}

pub used_of-first_ones : (class : ℕ) → IsClass class → used_of (Some class) (first_ones (cells_in class)) ≡ replicate (cells_in class) false
used_of-first_ones class is =
    let words = first_ones (cells_in class) in
    same_lists (used_of (Some class) words) (replicate (cells_in class) false)
    (length-used_of (Some class) words ∙ sym (length-replicate (cells_in class) false))
    (λ k d below.
    let cell : k < cells_in class = omega (arith, length-used_of (Some class) words) in
    get_or-used_of (Some class) words k d cell
    ∙ ap (λ b. b == 0) (ones-on (cells_in class) k cell (omega (arith, cells_in-le class is)))
    ∙ sym (get_or-replicate (cells_in class) k false d cell))
