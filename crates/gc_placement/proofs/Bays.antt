-- The bays of a heap's mutators where one of them changes, or none.
use Rattle.std.proofs.Common.{◌≡◌, ◌≢◌, ℕ, ◌<◌, inl, inr, sym, subst, ◌∙◌}
use Rattle.std.proofs.lemmas.Bool.{cases_eq}
use Rattle.gc_bay.specs.Bay.{Bay, IsBay}
use Rattle.gc_layout.specs.Places.{Layout}
use Rattle.gc_placement.specs.Bays.{AreBays}
use Rattle.gc_placement.specs.Changes.{ChangesBay, IsSameOwners}

-- what holds of the bay that changed, and of each other one as it was, holds of all
pub each-changed : (P : ℕ → Bay → Type 0) (old new : ℕ → Bay) (t : ℕ) (bay : Bay) → ChangesBay old new t bay → P t bay
    → ((u : ℕ) → u ≢ t → P u (old u)) → (u : ℕ) → P u (new u)
each-changed P old new t bay changes here elsewhere u = elim (cases_eq u t) [
  | inl same ↦ subst (λ each. P each (new each)) (sym same) (subst (P t) (sym changes.here) here)
  | inr differs ↦ subst (P u) (sym (changes.elsewhere u differs)) (elsewhere u differs)
]

-- a bay is this mutator's in the layout
record IsOwn (layout : Layout) (t : ℕ) (bay : Bay) : Type 0 where
  is_bay : IsBay bay
  layout_is : bay.layout ≡ layout
  mutator_is : bay.mutator ≡ t

-- each mutator has its own
own-bay : (layout : Layout) (bay : ℕ → Bay) (t : ℕ) → AreBays layout bay → t < layout.mutators → IsOwn layout t (bay t)
own-bay layout bay t are there =
    record { is_bay = are.each t there; layout_is = are.layout_is t there; mutator_is = are.mutator_is t there }

-- bays that are each their mutator's own are bays of the layout, as those before
from-own : (layout : Layout) (old new : ℕ → Bay) → AreBays layout old → ((u : ℕ) → u < layout.mutators → IsOwn layout u (new u))
    → AreBays layout new
from-own layout old new are own = record {
  limits = are.limits;
  each = λ u there. (own u there).is_bay;
  layout_is = λ u there. (own u there).layout_is;
  mutator_is = λ u there. (own u there).mutator_is;
}

-- where a mutator's bay changes into another of its own, the bays are bays
pub are_bays-changed : (layout : Layout) (old new : ℕ → Bay) (t : ℕ) (bay : Bay) → AreBays layout old → ChangesBay old new t bay
    → (t < layout.mutators → IsSameOwners (old t) bay) → AreBays layout new
are_bays-changed layout old new t bay are changes owners =
    from-own layout old new are
    (each-changed (λ u each. u < layout.mutators → IsOwn layout u each) old new t bay changes
    (λ there. record {
      is_bay = (owners there).bay;
      layout_is = (owners there).layout ∙ are.layout_is t there;
      mutator_is = (owners there).mutator ∙ are.mutator_is t there;
    })
    (λ u differs there. own-bay layout old u are there))

-- and where all are as before
pub are_bays-same : (layout : Layout) (old new : ℕ → Bay) → AreBays layout old → ((u : ℕ) → new u ≡ old u) → AreBays layout new
are_bays-same layout old new are same =
    from-own layout old new are (λ u there. subst (IsOwn layout u) (sym (same u)) (own-bay layout old u are there))
