-- General facts on lists: what holds of each element and of the default, and counts of what passes a test.
use Rattle.std.proofs.Common.{◌≡◌, ℕ, ◌<◌, ◌≤◌, Bool, true, false, ◌&&◌, not, cond, List, [], ◌∷◌, All, length, map, inl, inr, refl, ap, sym, subst, arith, slice_index_or, count_by}
use Rattle.std.proofs.Math.ListN.{get_or-eq_default}
use Rattle.std.proofs.lemmas.Bool.{cases_lt, or_cases, false≢true}
use Rattle.std.proofs.lemmas.List.{get_or-map, length-map}
use Rattle.std.proofs.lemmas.List.Sums.{sum_by-cons, sum_by-le-sum_by}
use Rattle.std.specs.List.{list_any}

-- what holds of each element and of the default holds of what stands at any index
pub or_default : {X : Type 0} (P : X → Type 0) (xs : List X) (index : ℕ) (d : X) → All P xs → P d → P (slice_index_or xs index d)
or_default P xs index d all base =
    elim (cases_lt index (length xs)) as (λ _. P (slice_index_or xs index d)) [
      | inl below ↦ all index d below
      | inr above ↦ subst P (sym (get_or-eq_default xs d above)) base
    ]

-- what holds of each image holds so of each element
pub All-unmap : {X Y : Type 0} (P : Y → Type 0) (f : X → Y) (xs : List X) → All P (map f xs) → All (λ x. P (f x)) xs
All-unmap P f xs all index d below =
    subst P (get_or-map f xs index d (f d) below) (all index (f d) (omega (arith, below, length-map xs f)))

-- what an element counts by the answer of a test
abbrev pub weight : Bool → ℕ
weight passes = cond passes 1 0

-- it counts as much where another test passes too
weight-le : (one other : Bool) → (one ≡ true → other ≡ true) → weight one ≤ weight other
weight-le false other implies = omega arith
weight-le true other implies = rw (implies refl) (omega arith)

-- and more where the other passes alone
weight-less : (one other : Bool) → (other && not one) ≡ true → weight one < weight other
weight-less false true differs = omega arith
weight-less false false differs = absurd (false≢true differs)
weight-less true true differs = absurd (false≢true differs)
weight-less true false differs = absurd (false≢true differs)

-- a test that passes only where another does passes at most as often
pub count-le : {X : Type 0} (fewer more : X → Bool) → ((x : X) → fewer x ≡ true → more x ≡ true) → (xs : List X)
    → count_by fewer xs ≤ count_by more xs
count-le fewer more implies xs =
    sum_by-le-sum_by (λ x. weight (fewer x)) (λ x. weight (more x)) xs (λ x. weight-le (fewer x) (more x) (implies x))

-- and more rarely where some element passes the other test alone
pub count-less : {X : Type 0} (fewer more : X → Bool) → ((x : X) → fewer x ≡ true → more x ≡ true) → (xs : List X)
    → list_any (λ x. more x && not (fewer x)) xs ≡ true → count_by fewer xs < count_by more xs
count-less fewer more implies [] some = absurd (false≢true some)
count-less fewer more implies (x ∷ xs) some =
    let front = sum_by-cons (λ x. weight (fewer x)) x xs in
    let back = sum_by-cons (λ x. weight (more x)) x xs in
    elim (or_cases (more x && not (fewer x)) (list_any (λ x. more x && not (fewer x)) xs) some)
    as (λ _. count_by fewer (x ∷ xs) < count_by more (x ∷ xs)) [
      | inl here ↦ omega (arith, front, back, weight-less (fewer x) (more x) here, count-le fewer more implies xs)
      | inr later ↦ omega (arith, front, back, weight-le (fewer x) (more x) (implies x), count-less fewer more implies xs later)
    ]

-- a test that passes at some element passes at least once
pub count-some : {X : Type 0} (test : X → Bool) (xs : List X) → list_any test xs ≡ true → 0 < count_by test xs
count-some test [] some = absurd (false≢true some)
count-some test (x ∷ xs) some =
    let front = sum_by-cons (λ x. weight (test x)) x xs in
    elim (or_cases (test x) (list_any test xs) some) as (λ _. 0 < count_by test (x ∷ xs)) [
      | inl here ↦ omega (arith, front, ap weight here)
      | inr later ↦ omega (arith, front, count-some test xs later)
    ]

-- tests that follow from each other are the same
pub same_from_tests : (one other : Bool) → (one ≡ true → other ≡ true) → (other ≡ true → one ≡ true) → one ≡ other
same_from_tests one other there back = grind arith
