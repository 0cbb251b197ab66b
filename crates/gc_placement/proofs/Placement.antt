-- A placement with one more object.
use Rattle.std.proofs.Common.{◌≡◌, ◌≢◌, ◌∙◌, ◌⊎◌, inl, inr, ℕ, Option, None, Some, refl, sym, ap, eq-eqb}
use Rattle.std.proofs.lemmas.Bool.{cases_eq, ne_eqb}
use Rattle.gc_placement.specs.Placement.{Placement, IsNamePlaced, name_address, or_nothing, with_place}

-- the object that is given a place has it
pub with_place-same : (placement : Placement) (number address : ℕ) → with_place placement number address number ≡ Some address
with_place-same placement number address = rw (eq-eqb number number refl) refl

-- another object keeps its place, or has none as before
pub with_place-other : (placement : Placement) (number address other : ℕ) → other ≢ number
    → with_place placement number address other ≡ placement other
with_place-other placement number address other differs = rw (ne_eqb other number differs) refl

-- an object that is placed now is the new one, or it was placed there before
pub with_place-from : (placement : Placement) (number address other place : ℕ) → with_place placement number address other ≡ Some place
    → ((other ≡ number) × (place ≡ address)) ⊎ ((other ≢ number) × (placement other ≡ Some place))
with_place-from placement number address other place at = elim (cases_eq other number) [
  | inl same ↦
      let here : with_place placement number address other ≡ Some address =
      ap (with_place placement number address) same ∙ with_place-same placement number address in
      let one : Some place ≡ Some address = sym at ∙ here in
      inl (same, cc one)
  | inr differs ↦ inr (differs, sym (with_place-other placement number address other differs) ∙ at)
]

-- a placed name keeps its address where an object that had no place is given one
pub name_address-with_place : (placement : Placement) (number address : ℕ) (name : Option ℕ) → IsNamePlaced placement name
    → ((a : ℕ) → placement number ≢ Some a) → name_address (with_place placement number address) name ≡ name_address placement name
name_address-with_place placement number address None placed unplaced = refl
name_address-with_place placement number address (Some other) placed unplaced =
    ap or_nothing (with_place-other placement number address other (λ same. unplaced placed.address (ap placement (sym same) ∙ placed.at)))
