-- General lemmas on lists: the first index that passes a test, and sums and counts that are 0 or full.
use Rattle.std.proofs.Common.{◌≡◌, ℕ, ◌+◌, ◌-◌, ◌<◌, ◌≤◌, ◌⊎◌, inl, inr, Bool, true, false, not, cond, Option, Some, None, List, length, get_or, take, drop, ap, ◌∙◌, refl, ⊎_elim, arith, lt-ltb, le-ltb}
use Rattle.std.specs.Prelude.{position, is_some, sum_by, count_by, nat_lt}
use Rattle.std.specs.List.{position_or_len}
use Rattle.std.proofs.lemmas.Bool.{cond-true, cond-false, cases_Bool, ltb-false}
use Rattle.std.proofs.lemmas.List.{length-take, length-drop, get_or-take, get_or-drop}
use Rattle.std.proofs.lemmas.List.Elements.{All-from_get_or}
use Rattle.std.proofs.lemmas.List.Filters.{length-filter_both}
use Rattle.std.proofs.lemmas.List.Quantifiers.{position-Some}
use Rattle.std.proofs.lemmas.List.Sums.{position_or_len_is, fails_before_first, sum_by-le, get_or-le-sum_by, length-filter, sum_by-take-drop}

-- an index that passes, before which none does, is the first
pub position-first : {X : Type 0} (p : X → Bool) (xs : List X) (i : ℕ) (d : X) → i < length xs
    → ((k : ℕ) → k < i → p (get_or xs k d) ≡ false) → p (get_or xs i d) ≡ true → position p xs ≡ Some i
position-first p xs i d within before here =
    let at : position_or_len p xs ≡ i = position_or_len_is p xs i d (omega arith) before (λ _. here) in
    let at_first : position_or_len p xs < length xs = omega arith in
    cond-true _ _ _ (lt-ltb _ _ at_first) ∙ ap Some at

-- where no index passes there is no first
pub position-none : {X : Type 0} (p : X → Bool) (xs : List X) (d : X) → ((k : ℕ) → k < length xs → p (get_or xs k d) ≡ false)
    → position p xs ≡ None
position-none p xs d fails =
    let at : position_or_len p xs ≡ length xs =
    position_or_len_is p xs (length xs) d (omega arith) fails (λ within. absurd (omega arith))
    in
    let past : length xs ≤ position_or_len p xs = omega arith in
    cond-false _ _ _ (le-ltb _ _ past)

-- the first index is the length of what stands before
pub position_or_len-first : {X : Type 0} (p : X → Bool) (xs : List X) (i : ℕ) → position p xs ≡ Some i → position_or_len p xs ≡ i
position_or_len-first p xs i first =
    ⊎_elim
    (λ t. let at_first = cond-true (nat_lt (position_or_len p xs) (length xs)) (Some (position_or_len p xs)) None t in cc)
    (λ f. let none = cond-false (nat_lt (position_or_len p xs) (length xs)) (Some (position_or_len p xs)) None f in cc)
    (cases_Bool (nat_lt (position_or_len p xs) (length xs)))

-- where there is no first, no index passes
pub none-fails : {X : Type 0} (p : X → Bool) (xs : List X) (d : X) → position p xs ≡ None → (k : ℕ) → k < length xs
    → p (get_or xs k d) ≡ false
none-fails p xs d none k within =
    let past : length xs ≤ position_or_len p xs =
    ⊎_elim
    (λ t. let at_first = cond-true (nat_lt (position_or_len p xs) (length xs)) (Some (position_or_len p xs)) None t in absurd (cc))
    (λ f. ltb-false _ _ f)
    (cases_Bool (nat_lt (position_or_len p xs) (length xs)))
    in
    fails_before_first p xs k d (omega arith)

-- a sum of nothings is 0
pub sum_by-zero : {X : Type 0} (f : X → ℕ) (xs : List X) (d : X) → ((k : ℕ) → k < length xs → f (get_or xs k d) ≡ 0) → sum_by f xs ≡ 0
sum_by-zero f xs d none =
    omega (arith, sum_by-le f 0 xs (All-from_get_or (λ x. f x ≤ 0) xs d (λ k within. omega (arith, none k within))))

-- a sum is 0 where no index passes a test of its terms, and else it is not
pub sum_by-none : {X : Type 0} (f : X → ℕ) (p : X → Bool) (xs : List X) (d : X) → ((x : X) → p x ≡ false → f x ≡ 0) → position p xs ≡ None
    → sum_by f xs ≡ 0
sum_by-none f p xs d zero first =
    sum_by-zero f xs d (λ k within. zero (get_or xs k d) (none-fails p xs d first k within))

pub sum_by-some : {X : Type 0} (f : X → ℕ) (p : X → Bool) (xs : List X) (i : ℕ) (d : X) → ((x : X) → p x ≡ true → 0 < f x)
    → position p xs ≡ Some i → 0 < sum_by f xs
sum_by-some f p xs i d some first =
    let at = position-Some p xs i d first in
    omega (arith, some (get_or xs i d) at.1, get_or-le-sum_by f xs i d at.0)

-- the same of a count
pub count_by-none : {X : Type 0} (p : X → Bool) (xs : List X) (d : X) → position p xs ≡ None → count_by p xs ≡ 0
count_by-none p xs d first = sum_by-none (λ x. cond (p x) 1 0) p xs d (λ x f. cond-false (p x) 1 0 f) first

pub count_by-some : {X : Type 0} (p : X → Bool) (xs : List X) (i : ℕ) (d : X) → position p xs ≡ Some i → 0 < count_by p xs
count_by-some p xs i d first =
    sum_by-some (λ x. cond (p x) 1 0) p xs i d (λ x t. omega (arith, cond-true {A = ℕ} (p x) 1 0 t)) first

-- whether there is a first index tells whether the count is 0
pub count_by-cases : {X : Type 0} (p : X → Bool) (xs : List X) (d : X) (first : Option ℕ) → position p xs ≡ first
    → ((is_some first ≡ true) × (0 < count_by p xs)) ⊎ ((is_some first ≡ false) × (count_by p xs ≡ 0))
count_by-cases p xs d None e = inr (refl, count_by-none p xs d e)
count_by-cases p xs d (Some i) e = inl (refl, count_by-some p xs i d e)

-- a count of what passes everywhere is the length
pub count_by-all : {X : Type 0} (p : X → Bool) (xs : List X) (d : X) → ((k : ℕ) → k < length xs → p (get_or xs k d) ≡ true)
    → count_by p xs ≡ length xs
count_by-all p xs d all =
    let rest : count_by (λ x. not (p x)) xs ≡ 0 =
    sum_by-zero (λ x. cond (not (p x)) 1 0) xs d (λ k within. ap (λ b. cond (not b) 1 0) (all k within)) in
    omega (arith, length-filter_both p (λ x. not (p x)) (λ _. refl) xs, length-filter p xs, length-filter (λ x. not (p x)) xs)

-- a count of what passes from an index on, and nowhere before
pub count_by-from : {X : Type 0} (p : X → Bool) (xs : List X) (n : ℕ) (d : X) → n ≤ length xs
    → ((k : ℕ) → k < n → p (get_or xs k d) ≡ false) → ((k : ℕ) → n ≤ k → p (get_or xs k d) ≡ true) → count_by p xs ≡ length xs - n
count_by-from p xs n d within before after =
    let front : count_by p (take n xs) ≡ 0 = sum_by-zero (λ x. cond (p x) 1 0) (take n xs) d (λ k below.
    let low : k < n = omega (arith, length-take n xs) in
    ap (λ x. cond (p x) 1 0) (get_or-take n xs k d low) ∙ cond-false _ 1 0 (before k low)) in
    let back : count_by p (drop n xs) ≡ length (drop n xs) = count_by-all p (drop n xs) d (λ k below.
    ap p (get_or-drop n xs k d) ∙ after (n + k) (omega arith)) in
    omega (arith, sum_by-take-drop (λ x. cond (p x) 1 0) xs n, length-drop n xs)
