-- What differs by the kind of a collection that is under way: its lists and bits.
use Rattle.std.proofs.Common.{◌≡◌, ◌≢◌, ◌∙◌, ◌&&◌, ◌↔◌, ℕ, ◌<◌, Bool, true, false, length, Some, inl, inr, refl, ap, sym, subst}
use Rattle.std.proofs.lemmas.Bool.{cases_Bool}
use Rattle.gc_bay.specs.Bay.{Bay}
use Rattle.gc_layout.specs.Places.{Layout}
use Rattle.gc_model.specs.Graph.{Graph, object_at}
use Rattle.gc_model.specs.declared.entry.RunKind.{RunKind}
use Rattle.gc_placement.specs.Extents.{IsInAPage, home_of}
use Rattle.gc_placement.specs.Headers.{head_of, is_full}
use Rattle.gc_placement.specs.Holders.{IsGrey}
use Rattle.gc_placement.specs.Placement.{Placement, with_place}
use Rattle.gc_placement.specs.Remembered.{AreLists, IsOnAList}
use Rattle.gc_placement.specs.Sums.{is_young}
use Rattle.gc_placement.specs.UnderWay.{GreyWereYoungIn, HaveBitsIn, HaveMarkBits, ListsGrowIn}
use Rattle.gc_placement.proofs.CopyLists.{MayGrow, bits-copied, grey_of, grey_were_young-copied, lists_grow-copied, on_a_list-from, on_a_list-kept, remembered_of, stands-added, stands-listed}
use Rattle.gc_placement.proofs.Placement.{with_place-from}
use Rattle.gc_placement.proofs.Remembered.{bits-frame, on_a_list-frame, unplaced-on_no_list}

-- ---- bays and words change elsewhere

-- the headers of placed objects and the lists are as before
mark_bits-frame : (old_word word : ℕ → ℕ) (layout : Layout) (old new : ℕ → Bay) (placement : Placement)
    → HaveMarkBits old_word layout old placement
    → ((number address : ℕ) → placement number ≡ Some address → word address ≡ old_word address)
    → ((t : ℕ) → t < layout.mutators → (new t).remembered ≡ (old t).remembered) → HaveMarkBits word layout new placement
mark_bits-frame old_word word layout old new placement have headers same =
    let mutators = layout.mutators in
    let header : (number address : ℕ) → placement number ≡ Some address
    → (head_of (word address)).marked ≡ (head_of (old_word address)).marked =
    λ number address at. ap (λ (w : ℕ). (head_of w).marked) (headers number address at) in
    record {
      marked = λ number address at.
          let bit = have.marked number address at in (
            λ is. on_a_list-frame mutators new old address (λ t below. sym (same t below)) (bit.0 (sym (header number address at) ∙ is)),
            λ on. header number address at ∙ bit.1 (on_a_list-frame mutators old new address same on),
          );
      remembered = λ number address at is.
          ap (λ (w : ℕ). (head_of w).remembered) (headers number address at)
          ∙ have.remembered number address at (sym (header number address at) ∙ is);
      young = λ number address at outside.
          ap (λ (w : ℕ). (head_of w).remembered) (headers number address at) ∙ have.young number address at outside;
    }

-- so are the bits of a kind
pub bits_in-frame : (kind : RunKind) (old_word word : ℕ → ℕ) (layout : Layout) (old new : ℕ → Bay) (placement : Placement)
    → HaveBitsIn kind old_word layout old placement
    → ((number address : ℕ) → placement number ≡ Some address → word address ≡ old_word address)
    → ((t : ℕ) → t < layout.mutators → (new t).remembered ≡ (old t).remembered) → HaveBitsIn kind word layout new placement
bits_in-frame RunKind.Minor old_word word layout old new placement have headers same =
    bits-frame old_word word layout.mutators old new placement have headers same
bits_in-frame RunKind.Full old_word word layout old new placement have headers same =
    mark_bits-frame old_word word layout old new placement have headers same

-- the remembered lists have grown as before
pub lists_grow_in-kept : (kind : RunKind) (mutators : ℕ) (first old new : ℕ → Bay)
    → ((t : ℕ) → t < mutators → (new t).remembered ≡ (old t).remembered) → ListsGrowIn kind mutators first old
    → ListsGrowIn kind mutators first new
lists_grow_in-kept RunKind.Minor mutators first old new same grow = λ t there. rw (same t there) (grow t there)
lists_grow_in-kept RunKind.Full mutators first old new same grow = grow

-- what is grey was grey before
pub grey_were_young_in-fewer : (kind : RunKind) (layout : Layout) (old new : ℕ → Bay) (before after : Placement)
    → ((a : ℕ) → IsGrey layout.mutators new a → IsGrey layout.mutators old a) → GreyWereYoungIn kind layout old before after
    → GreyWereYoungIn kind layout new before after
grey_were_young_in-fewer RunKind.Minor layout old new before after was were = λ number a at grey. were number a at (was a grey)
grey_were_young_in-fewer RunKind.Full layout old new before after was were = were

-- ---- an object is copied

-- the lists grow
pub lists_grow_in-copied : (kind : RunKind) (mutators : ℕ) (old bay new : ℕ → Bay) (t : ℕ) (promoted : Bool) (copy : ℕ)
    → ListsGrowIn kind mutators old bay → MayGrow mutators (remembered_of bay) (remembered_of new) t promoted copy
    → ListsGrowIn kind mutators old new
lists_grow_in-copied RunKind.Minor mutators old bay new t promoted copy grow may =
    lists_grow-copied mutators old bay new t promoted copy grow may
lists_grow_in-copied RunKind.Full mutators old bay new t promoted copy grow may = grow

-- the copy is marked as it is put on a list, and remembered where it is
mark_bits-copied : (word other : ℕ → ℕ) (layout : Layout) (bay new : ℕ → Bay) (after : Placement) (number copy t : ℕ)
    (promoted : Bool) → HaveMarkBits word layout bay after → AreLists layout layout.mutators bay after
    → MayGrow layout.mutators (remembered_of bay) (remembered_of new) t promoted copy
    → ((each a : ℕ) → after each ≡ Some a → other a ≡ word a) → ((each : ℕ) → after each ≢ Some copy)
    → (head_of (other copy)).remembered ≡ promoted → (head_of (other copy)).marked ≡ promoted
    → (promoted ≡ true → IsInAPage layout copy) → HaveMarkBits other layout new (with_place after number copy)
mark_bits-copied word other layout bay new after number copy t promoted have are may headers unplaced remembered marked page =
    let mutators = layout.mutators in
    let absent : ¬ IsOnAList mutators bay copy = unplaced-on_no_list layout mutators bay after copy are unplaced in
    let Right : ℕ → Type 0 = λ a. ((head_of (other a)).marked ≡ true) ↔ IsOnAList mutators new a in
    record {
      marked = λ each a at. elim (with_place-from after number copy each a at) [
        | inl here ↦ subst Right (sym here.1) (
          λ is. record {
            mutator = t;
            index = length (bay t).remembered;
            listed = stands-listed mutators new copy t (length (bay t).remembered)
                (stands-added mutators (remembered_of bay) (remembered_of new) t promoted copy may (sym marked ∙ is));
          },
          λ on. elim (on_a_list-from mutators bay new t promoted copy copy may on) [
            | inl before ↦ absurd (absent before)
            | inr now ↦ marked ∙ now.0
          ],
        )
        | inr there ↦
            let header = ap (λ (w : ℕ). (head_of w).marked) (headers each a there.1) in
            let bit = have.marked each a there.1 in (
              λ is. on_a_list-kept mutators bay new t promoted copy a may (bit.0 (sym header ∙ is)),
              λ on. elim (on_a_list-from mutators bay new t promoted copy a may on) [
                | inl before ↦ header ∙ bit.1 before
                | inr now ↦ absurd (unplaced each (there.1 ∙ ap Some now.1))
              ],
            )
      ];
      remembered = λ each a at. elim (with_place-from after number copy each a at) [
        | inl here ↦ λ is.
            subst (λ (w : ℕ). (head_of (other w)).remembered ≡ true) (sym here.1)
            (remembered ∙ sym marked ∙ ap (λ (w : ℕ). (head_of (other w)).marked) (sym here.1) ∙ is)
        | inr there ↦ λ is.
            ap (λ (w : ℕ). (head_of w).remembered) (headers each a there.1)
            ∙ have.remembered each a there.1 (sym (ap (λ (w : ℕ). (head_of w).marked) (headers each a there.1)) ∙ is)
      ];
      young = λ each a at outside. elim (with_place-from after number copy each a at) [
        | inl here ↦
            subst (λ (w : ℕ). (head_of (other w)).remembered ≡ false) (sym here.1)
            (remembered ∙ elim (cases_Bool promoted) as (λ _. promoted ≡ false) [
              | inl is ↦ absurd (outside (subst (IsInAPage layout) (sym here.1) (page is)))
              | inr isnt ↦ isnt
            ])
        | inr there ↦ ap (λ (w : ℕ). (head_of w).remembered) (headers each a there.1) ∙ have.young each a there.1 outside
      ];
    }

-- a mark in a full collection alone
pub marked-by_kind : (promoted : Bool) → promoted && true ≡ promoted
marked-by_kind true = refl
marked-by_kind false = refl

-- and nowhere in a minor one
unmarked-by_kind : (promoted : Bool) → promoted && false ≡ false
unmarked-by_kind true = refl
unmarked-by_kind false = refl

-- so are the bits of a kind
pub bits_in-copied : (kind : RunKind) (word other : ℕ → ℕ) (layout : Layout) (bay new : ℕ → Bay) (after : Placement)
    (number copy t : ℕ) (promoted : Bool) → HaveBitsIn kind word layout bay after → AreLists layout layout.mutators bay after
    → MayGrow layout.mutators (remembered_of bay) (remembered_of new) t promoted copy
    → ((each a : ℕ) → after each ≡ Some a → other a ≡ word a) → ((each : ℕ) → after each ≢ Some copy)
    → (head_of (other copy)).remembered ≡ promoted → (head_of (other copy)).marked ≡ (promoted && is_full kind)
    → (promoted ≡ true → IsInAPage layout copy) → HaveBitsIn kind other layout new (with_place after number copy)
bits_in-copied RunKind.Minor word other layout bay new after number copy t promoted have are may headers unplaced remembered marked page =
    bits-copied word other layout layout.mutators bay new after number copy t promoted have are may headers unplaced remembered
    (marked ∙ unmarked-by_kind promoted)
bits_in-copied RunKind.Full word other layout bay new after number copy t promoted have are may headers unplaced remembered marked page =
    mark_bits-copied word other layout bay new after number copy t promoted have are may headers unplaced remembered
    (marked ∙ marked-by_kind promoted) page

-- what is grey was in a half, in a minor collection
pub grey_were_young_in-copied : (kind : RunKind) (layout : Layout) (bay new : ℕ → Bay) (before after : Placement) (graph : Graph)
    (number copy : ℕ) (grows : Bool) → GreyWereYoungIn kind layout bay before after
    → MayGrow layout.mutators (grey_of bay) (grey_of new) (home_of (object_at graph number).maker) grows copy
    → ((each : ℕ) → after each ≢ Some copy) → is_young layout before number ≡ true
    → GreyWereYoungIn kind layout new before (with_place after number copy)
grey_were_young_in-copied RunKind.Minor layout bay new before after graph number copy grows were may unplaced young =
    grey_were_young-copied layout layout.mutators bay new before after graph number copy grows were may unplaced young
grey_were_young_in-copied RunKind.Full layout bay new before after graph number copy grows were may unplaced young = were
