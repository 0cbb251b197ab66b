-- The remembered lists, from which a collection starts: which object is in hand, and where the collection stands once it is
-- scanned.
use Rattle.std.proofs.Common.{◌≡◌, ◌∙◌, inl, inr, ℕ, ◌+◌, ◌<◌, ◌≤◌, Bool, true, Option, Some, List, length, is_some, refl, sym, ap, arith, slice_get, slice_index, slice_index_or}
use Rattle.std.proofs.lemmas.Bool.{cases_Bool}
use Rattle.std.proofs.lemmas.Option.{get_or_from_slice_get}
use Rattle.std.specs.Option.{IsNone, IsSome}
use Rattle.gc_bay.specs.Bay.{Bay}
use Rattle.gc_model.specs.declared.entry.RunKind.{RunKind}
use Rattle.gc_solo.specs.Collecting.{AreTraced, Beginning, HasCounts, IsCollecting, IsToTreat, at_list, with_in_hand}
use Rattle.gc_solo.specs.Kept.{Kept, bay_at}
use Rattle.gc_solo.proofs.Collecting.{bay-at, bay-there}
use Rattle.gc_solo.proofs.Hands.{hand-listed, list-ended, lists-grown}
use Rattle.gc_solo.proofs.RootRegisters.{mutator-before}
use Rattle.gc_solo.proofs.Scanned.{IsScanned}

-- whatever minor collection had treated the registers, the remembered lists are gone through up to this index of this mutator's
abbrev pub IsListedTo : Kept → Kept → List ℕ → ℕ → ℕ → Type 0
IsListedTo old new counts t index =
    (start : Beginning) → start.kind ≡ RunKind.Minor → HasCounts start counts
    → AreTraced old start old.layout.mutators 0 (at_list 0 0) → AreTraced new start old.layout.mutators 0 (at_list t index)

-- a minor collection that has treated the registers, and how long the remembered lists were
pub record HasTracedRegisters (old : Kept) (start : Beginning) (counts : List ℕ) : Type 0 where
  pub minor : start.kind ≡ RunKind.Minor
  pub counted : HasCounts start counts
  pub traced : AreTraced old start old.layout.mutators 0 (at_list 0 0)

-- a mutator has a bay
pub listed-bay : (old kept : Kept) (start : Beginning) (counts : List ℕ) (t index : ℕ) → HasTracedRegisters old start counts
    → t < old.layout.mutators → IsListedTo old kept counts t index → t < length kept.bays
listed-bay old kept start counts t index has below listed =
    bay-there t (listed start has.minor has.counted has.traced).collecting (mutator-before t has.traced below)

-- an index below the length of before is below the length
pub listed-within : (old kept : Kept) (start : Beginning) (counts : List ℕ) (t index at : ℕ) (read : Bay)
    → HasTracedRegisters old start counts → t < old.layout.mutators → index < slice_index counts t → IsListedTo old kept counts t index
    → at ≡ t → read ≡ slice_index_or kept.bays at read → index < length read.remembered
listed-within old kept start counts t index at read has below within listed place is =
    let collecting = (listed start has.minor has.counted has.traced).collecting in
    let there = mutator-before t has.traced below in
    let own = ap (λ (bay : Bay). length bay.remembered) (bay-at t at read collecting there place is) in
    omega (arith, own, has.counted t there, within, (lists-grown has.minor collecting t there).longer)

-- so there is an address
pub some-listed : (found : Option ℕ) (list : List ℕ) (index : ℕ) → (IsNone found → length list ≤ index) → index < length list
    → IsSome found
some-listed found list index none within = elim (cases_Bool (is_some found)) [
  | inl some ↦ some
  | inr missing ↦ absurd (omega (arith, none missing, within))
]

-- its object is in hand
pub listed-hand : (old kept : Kept) (start : Beginning) (counts : List ℕ) (t index at address : ℕ) (found : Option ℕ) (read : Bay)
    → t < old.layout.mutators → index < slice_index counts t → at ≡ t → read ≡ slice_index_or kept.bays at read
    → found ≡ slice_get read.remembered index → found ≡ Some address → start.kind ≡ RunKind.Minor → HasCounts start counts
    → AreTraced old start old.layout.mutators 0 (at_list 0 0)
    → (now : AreTraced kept start old.layout.mutators 0 (at_list t index))
    → (number : ℕ) × IsCollecting kept start now.placement now.done (with_in_hand (at_list t (index + 1)) number 0)
    × IsToTreat start now.placement (at_list t (index + 1)) number address
listed-hand old kept start counts t index at address found read below within place is found_is some minor counted first now =
    let there = mutator-before t first below in
    let own = bay-at t at read now.collecting there place is in
    let value : address ≡ slice_index (bay_at kept.bays t).remembered index =
    sym (get_or_from_slice_get read.remembered index address 0 (sym found_is ∙ some))
    ∙ ap (λ (bay : Bay). slice_index bay.remembered index) own in
    hand-listed kept start now.placement now.done t index address minor now.collecting there (omega (arith, within, counted t there)) value

-- one more object is scanned
pub listed_to-more : (old kept new : Kept) (counts : List ℕ) (t index at address : ℕ) (found : Option ℕ) (read : Bay)
    → t < old.layout.mutators → index < slice_index counts t → at ≡ t → read ≡ slice_index_or kept.bays at read
    → found ≡ slice_get read.remembered index → found ≡ Some address → IsListedTo old kept counts t index
    → IsScanned RunKind.Minor kept new address → IsListedTo old new counts t (index + 1)
listed_to-more old kept new counts t index at address found read below within place is found_is some listed scans start minor counted
    first =
    let now = listed start minor counted first in
    let hand = listed-hand old kept start counts t index at address found read below within place is found_is some minor counted first
    now in
    let gone = scans start now.placement now.done (at_list t (index + 1)) hand.0 minor refl hand.1 hand.2 in
    record {
      placement = gone.placement;
      done = gone.now_done;
      collecting = gone.collecting;
      registers = (
        λ u reg before. gone.registers u reg ∙ now.registers.0 u reg before,
        λ u reg past. gone.registers u reg ∙ now.registers.1 u reg past,
      );
      common = gone.common ∙ now.common;
    }

-- one more list is gone through
pub listed_to-next : (old kept : Kept) (counts : List ℕ) (t index : ℕ) → t < old.layout.mutators → slice_index counts t ≤ index
    → IsListedTo old kept counts t index → IsListedTo old kept counts (t + 1) 0
listed_to-next old kept counts t index below all listed start minor counted first =
    let now = listed start minor counted first in
    let count = counted t (mutator-before t first below) in
    record {
      placement = now.placement;
      done = now.done;
      collecting = list-ended kept start now.placement now.done t index now.collecting (omega (arith, count, all));
      registers = now.registers;
      common = now.common;
    }
