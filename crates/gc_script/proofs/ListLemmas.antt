-- Lists in general.
use Rattle.std.proofs.Common.{◌≡◌, ℕ, zero, suc, ◌+◌, ◌*◌, ◌<◌, ◌≤◌, List, [], ◌∷◌, ◌++◌, length, take, drop, refl, sym, ap, ◌∙◌, append_assoc, append-nil, length-append, arith, All, IfSome, slice_get}
use Rattle.std.proofs.lemmas.List.Elements.{All-nil, All-append, All-head, All-tail}
use Rattle.std.specs.List.{flat_map, range_with_len}

-- the first so many of the first so many and more are the first so many of all
pub take-front : {X : Type 0} (n : ℕ) (xs ys : List X) → take n (take n xs ++ ys) ≡ take n (xs ++ ys)
take-front zero xs ys = refl
take-front (suc n) [] ys = refl
take-front {X = X} (suc n) (x ∷ xs) ys = ap (λ (zs : List X). x ∷ zs) (take-front n xs ys)

-- the pieces that are left begin with the next
pub flat_map-next : {X : Type 0} (f : X → List ℕ) (xs : List X) (i : ℕ) (piece : List ℕ) → i < length xs
    → IfSome (slice_get xs i) (λ x. piece ≡ f x) → flat_map f (drop i xs) ≡ piece ++ flat_map f (drop (i + 1) xs)
flat_map-next f [] i piece h is = absurd (omega arith)
flat_map-next f (x ∷ xs) zero piece h is = rw is refl
flat_map-next f (x ∷ xs) (suc i) piece h is =
    let e : suc i + 1 ≡ suc (i + 1) = omega arith in rw e (flat_map-next f xs i piece (omega arith) is)

-- what holds of each element holds of the one of an index
pub All-slice_get : {X : Type 0} (P : X → Type 0) (xs : List X) (i : ℕ) → All P xs → IfSome (slice_get xs i) P
All-slice_get P [] i h = tt
All-slice_get P (x ∷ xs) zero h = All-head P x xs h
All-slice_get P (x ∷ xs) (suc i) h = All-slice_get P xs i (All-tail P x xs h)

-- the piece of one more number stands behind the others
flat_map-range_behind : {X : Type 0} (f : ℕ → List X) (a n : ℕ)
    → flat_map f (range_with_len a (suc n)) ≡ flat_map f (range_with_len a n) ++ f (a + n)
flat_map-range_behind f a zero = let first : a + 0 ≡ a = omega arith in rw (first, append-nil (f a)) refl
flat_map-range_behind f a (suc n) =
    let last : a + 1 + n ≡ a + suc n = omega arith in
    ap (λ l. f a ++ l) (flat_map-range_behind f (a + 1) n) ∙ sym (append_assoc (f a) _ _)
    ∙ ap (λ k. (f a ++ flat_map f (range_with_len (a + 1) n)) ++ f k) last

-- what stands there so far and the next piece are what stands there then
pub flat_map-range_more : {X : Type 0} (f : ℕ → List X) (n : ℕ) (front old new : List X)
    → old ≡ front ++ flat_map f (range_with_len 0 n) → new ≡ old ++ f n → new ≡ front ++ flat_map f (range_with_len 0 (n + 1))
flat_map-range_more f n front old new so_far grown =
    let next : n + 1 ≡ suc n = omega arith in
    let first : 0 + n ≡ n = omega arith in
    rw (next, flat_map-range_behind f 0 n, first, grown, so_far) (append_assoc front (flat_map f (range_with_len 0 n)) (f n))

-- what holds of each element of each piece holds of each element
pub All-flat_map_range : {X : Type 0} (P : X → Type 0) (f : ℕ → List X) (a n : ℕ)
    → ((i : ℕ) → i < a + n → All P (f i)) → All P (flat_map f (range_with_len a n))
All-flat_map_range P f a zero each = All-nil P
All-flat_map_range P f a (suc n) each =
    All-append P (f a) (flat_map f (range_with_len (a + 1) n)) (each a (omega arith))
    (All-flat_map_range P f (a + 1) n (λ i below. each i (omega arith)))

-- pieces of at most so many elements
pub length-flat_map_range : {X : Type 0} (f : ℕ → List X) (most a n : ℕ) → ((i : ℕ) → length (f i) ≤ most)
    → length (flat_map f (range_with_len a n)) ≤ n * most
length-flat_map_range f most a zero each = omega arith
length-flat_map_range f most a (suc n) each =
    let rest = length-flat_map_range f most (a + 1) n each in
    omega (arith, length-append (f a) (flat_map f (range_with_len (a + 1) n)), each a, rest)
