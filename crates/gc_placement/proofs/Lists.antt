-- General facts on lists: what holds after a write, in a list of one value, and in lists joined end to end.
use Rattle.std.proofs.Common.{◌≡◌, ℕ, List, [], ◌∷◌, All, length, replicate, inl, inr, refl, sym, subst, slice_index_or, slice_set}
use Rattle.std.proofs.lemmas.Bool.{cases_eq, cases_lt}
use Rattle.std.proofs.lemmas.List.{get_or-set_other, get_or-set_same, set_past}
use Rattle.std.proofs.lemmas.List.Elements.{All-append, All-head, All-nil, All-replicate, All-tail}
use Rattle.std.specs.List.{flat_map}
use Rattle.gc_model.proofs.Lists.{or_default}

-- what holds of a new element and of the old one at an index holds of what stands at the index afterwards
pub set-either : {X : Type 0} (P : X → Type 0) (xs : List X) (i j : ℕ) (x d : X) → P x → P (slice_index_or xs j d)
    → P (slice_index_or (slice_set xs i x) j d)
set-either P xs i j x d new old =
    elim (cases_eq j i) [
      | inl same ↦ elim (cases_lt i (length xs)) [
        | inl below ↦ subst (λ k. P (slice_index_or (slice_set xs i x) k d)) (sym same) (rw get_or-set_same new)
        | inr past ↦ rw (set_past xs i x past) old
      ]
      | inr differs ↦ rw (get_or-set_other xs i j x d differs) old
    ]

-- a list of one value is that value everywhere
pub replicate-at : {X : Type 0} (n i : ℕ) (x : X) → slice_index_or (replicate n x) i x ≡ x
replicate-at n i x = or_default (λ y. y ≡ x) (replicate n x) i x (All-replicate (λ y. y ≡ x) n x refl) refl

-- what holds of each element of each of these lists holds of each element of them all
pub All-flat_map : {X Y : Type 0} (P : Y → Type 0) (f : X → List Y) (xs : List X) → All (λ x. All P (f x)) xs → All P (flat_map f xs)
All-flat_map P f [] all = All-nil P
All-flat_map P f (x ∷ xs) all =
    All-append P (f x) (flat_map f xs) (All-head (λ x. All P (f x)) x xs all)
    (All-flat_map P f xs (All-tail (λ x. All P (f x)) x xs all))
