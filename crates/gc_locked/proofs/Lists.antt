-- Sums over lists, and facts of all elements, where one element is exchanged.
use Rattle.std.proofs.Common.{◌≡◌, ◌∙◌, ℕ, zero, suc, ◌+◌, ◌<◌, ◌≤◌, length, map, List, [], ◌∷◌, ◌++◌, All, Some, drop, slice_get, take, get_or, set, sum_by, refl, sym, ap, subst, arith}
use Rattle.std.proofs.lemmas.List.Elements.{All-cons, All-head, All-nil, All-tail}
use Rattle.std.proofs.lemmas.List.Sums.{sum_by-cons}
use Rattle.std.proofs.lemmas.Option.{same_Some}
use lib.ListN.{get_elem?}
use mathlib.Core.Option.{some, some-injective, some-ne-none}

-- the sum, where an element is exchanged for another
pub sum-exchanged : {X : Type 0} (f : X → ℕ) (xs : List X) (i : ℕ) (x y : X) → get_elem? xs i ≡ some x
    → sum_by f (set xs i y) + f x ≡ sum_by f xs + f y
sum-exchanged f [] i x y at = absurd (some-ne-none x (sym at))
sum-exchanged f (z ∷ xs) zero x y at =
    let same : z ≡ x = some-injective z x at in omega (arith, sum_by-cons f y xs, sum_by-cons f z xs, ap f same)
sum-exchanged f (z ∷ xs) (suc i) x y at =
    omega (arith, sum_by-cons f z (set xs i y), sum_by-cons f z xs, sum-exchanged f xs i x y at)

-- what holds of all holds of one
pub all-at : {X : Type 0} (P : X → Type 0) (xs : List X) (i : ℕ) (x : X) → All P xs → get_elem? xs i ≡ some x → P x
all-at P [] i x all at = absurd (some-ne-none x (sym at))
all-at P (z ∷ xs) zero x all at = subst P (some-injective z x at) (All-head P z xs all)
all-at P (z ∷ xs) (suc i) x all at = all-at P xs i x (All-tail P z xs all) at

-- where two facts hold of all, so does what follows from them
pub all-both : {X : Type 0} (P Q R : X → Type 0) (xs : List X) → All P xs → All Q xs → ((x : X) → P x → Q x → R x) → All R xs
all-both P Q R xs ps qs both k d there = both (get_or xs k d) (ps k d there) (qs k d there)

-- where the sum is nothing, so is each part
pub all-nothing : {X : Type 0} (f : X → ℕ) (xs : List X) → sum_by f xs ≡ 0 → All (λ x. f x ≡ 0) xs
all-nothing f [] none = All-nil (λ x. f x ≡ 0)
all-nothing f (x ∷ xs) none =
    All-cons (λ x. f x ≡ 0) x xs (omega (arith, none, sum_by-cons f x xs)) (all-nothing f xs (omega (arith, none, sum_by-cons f x xs)))

-- where the sum is 1 at most and an element has it, the others have nothing
pub others-nothing : {X : Type 0} (f : X → ℕ) (xs : List X) (i : ℕ) (x spent : X) → get_elem? xs i ≡ some x → sum_by f xs ≤ 1
    → 1 ≤ f x → f spent ≡ 0 → All (λ y. f y ≡ 0) (set xs i spent)
others-nothing f xs i x spent at one own nothing =
    all-nothing f (set xs i spent) (omega (arith, one, own, nothing, sum-exchanged f xs i x spent at))

-- an element that is exchanged twice
pub set-twice : {X : Type 0} (xs : List X) (i : ℕ) (x y : X) → set (set xs i x) i y ≡ set xs i y
set-twice [] i x y = refl
set-twice (z ∷ xs) zero x y = refl
set-twice {X = X} (z ∷ xs) (suc i) x y = ap (λ (zs : List X). z ∷ zs) (set-twice xs i x y)

-- what holds of all holds of the first ones and of the last
pub all-last : {X : Type 0} (P : X → Type 0) (xs : List X) (x : X) → All P (xs ++ x ∷ []) → All P xs × P x
all-last P [] x all = (All-nil P, All-head P x [] all)
all-last P (y ∷ xs) x all =
    let rest = all-last P xs x (All-tail P y (xs ++ x ∷ []) all) in
    (All-cons P y xs (All-head P y (xs ++ x ∷ []) all) rest.0, rest.1)

-- what holds of all holds of one that is read
pub all-read : {X : Type 0} (P : X → Type 0) (xs : List X) (i : ℕ) (x : X) → All P xs → slice_get xs i ≡ Some x → P x
all-read P [] i x all at = cc
all-read P (y ∷ xs) zero x all at = subst P (same_Some _ _ at) (All-head P y xs all)
all-read P (y ∷ xs) (suc i) x all at = all-read P xs i x (All-tail P y xs all) at

-- what is left of a list begins with the next element
pub drop-next : {X : Type 0} (xs : List X) (i : ℕ) (x : X) → slice_get xs i ≡ Some x → drop i xs ≡ x ∷ drop (suc i) xs
drop-next [] i x at = cc
drop-next (y ∷ xs) zero x at = cc
drop-next (y ∷ xs) (suc i) x at = drop-next xs i x at

-- and its first part grows by it
pub take-next : {X : Type 0} (xs : List X) (i : ℕ) (x : X) → slice_get xs i ≡ Some x → take (suc i) xs ≡ take i xs ++ x ∷ []
take-next [] i x at = cc
take-next (y ∷ xs) zero x at = cc
take-next {X = X} (y ∷ xs) (suc i) x at = ap (λ (zs : List X). y ∷ zs) (take-next xs i x at)

-- ---- a list of lists, by their items

-- an element that is read
pub read-here : {X : Type 0} (xs : List X) (i : ℕ) (x : X) → i < length xs → x ≡ get_or xs i x → slice_get xs i ≡ Some x
read-here [] i x there is = absurd (omega (arith, there))
read-here (y ∷ xs) zero x there is = ap Some (sym is)
read-here (y ∷ xs) (suc i) x there is = read-here xs i x (omega (arith, there)) is

-- what the element at a place stands for
pub read-mapped : {V X : Type 0} (f : V → X) (vs : List V) (i : ℕ) (x : X) (v : V) → slice_get (map f vs) i ≡ Some x → v ≡ get_or vs i v
    → f v ≡ x
read-mapped f [] i x v at is = cc
read-mapped f (w ∷ vs) zero x v at is = ap f is ∙ same_Some _ _ at
read-mapped f (w ∷ vs) (suc i) x v at is = read-mapped f vs i x v at is

-- one more
pub mapped-more : {V X : Type 0} (f : V → X) (g : ℕ → X) (vs : List V) (v : V)
    → ((u : ℕ) → u < length vs → slice_get (map f vs) u ≡ Some (g u)) → f v ≡ g (length vs) → (u : ℕ) → u < suc (length vs)
    → slice_get (map f (vs ++ v ∷ [])) u ≡ Some (g u)
mapped-more f g [] v each is zero below = ap Some is
mapped-more f g [] v each is (suc u) below = absurd (omega (arith, below))
mapped-more f g (w ∷ vs) v each is zero below = each 0 (omega arith)
mapped-more f g (w ∷ vs) v each is (suc u) below =
    mapped-more f (λ n. g (suc n)) vs v (λ n under. each (suc n) (omega (arith, under))) is u (omega (arith, below))
