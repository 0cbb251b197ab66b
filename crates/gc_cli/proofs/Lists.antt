-- Elements of lists by their index.
use Rattle.std.proofs.Common.{◌≡◌, ℕ, zero, suc, ◌<◌, ◌≤◌, List, [], ◌∷◌, ◌++◌, length, take, drop, Some, slice_get, sum_by, refl, ap, arith}
use Rattle.std.proofs.lemmas.List.Sums.{sum_by-cons}

-- below the length there is an element
pub slice_get-below : {X : Type 0} (xs : List X) (i : ℕ) → i < length xs → (x : X) × (slice_get xs i ≡ Some x)
slice_get-below [] i h = absurd (omega arith)
slice_get-below (x ∷ xs) zero h = (x, refl)
slice_get-below (x ∷ xs) (suc i) h = slice_get-below xs i (omega arith)

-- and what is left begins with it
pub drop-at : {X : Type 0} (xs : List X) (i : ℕ) (x : X) → slice_get xs i ≡ Some x → drop i xs ≡ x ∷ drop (suc i) xs
drop-at [] i x h = cc
drop-at (y ∷ xs) zero x h = cc
drop-at (y ∷ xs) (suc i) x h = drop-at xs i x h

-- and what stands before the next element grows by it
pub take-at : {X : Type 0} (xs : List X) (i : ℕ) (x : X) → slice_get xs i ≡ Some x → take (suc i) xs ≡ take i xs ++ x ∷ []
take-at [] i x h = cc
take-at (y ∷ xs) zero x h = cc
take-at {X = X} (y ∷ xs) (suc i) x h = ap (λ (zs : List X). y ∷ zs) (take-at xs i x h)

-- an element counts no more than all together
pub part-of_sum : {X : Type 0} (f : X → ℕ) (xs : List X) (i : ℕ) (x : X) → slice_get xs i ≡ Some x → f x ≤ sum_by f xs
part-of_sum f [] i x h = cc
part-of_sum f (y ∷ xs) zero x h =
    let same : y ≡ x = cc in omega (arith, sum_by-cons f y xs, ap f same)
part-of_sum f (y ∷ xs) (suc i) x h = omega (arith, sum_by-cons f y xs, part-of_sum f xs i x h)
