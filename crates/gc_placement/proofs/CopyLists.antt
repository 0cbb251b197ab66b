-- The copy of an object: the remembered lists and their bits, and the grey lists.
use Rattle.std.proofs.Common.{◌≡◌, ◌≢◌, ◌⊎◌, ◌∙◌, ◌↔◌, ℕ, ◌<◌, Bool, true, false, List, [], ◌∷◌, ◌++◌, length, None, Some, inl, inr, refl, ap, sym, subst, arith, nat_lt, slice_index, lt-ltb}
use Rattle.std.proofs.lemmas.Bool.{cases_eq, false≢true}
use Rattle.std.proofs.lemmas.List.{get_or_append_left, get_or_push, length_push}
use Rattle.std.proofs.lemmas.Option.{none-some}
use Rattle.std.specs.Prelude.{if◌then◌else◌}
use Rattle.gc_bay.specs.Bay.{Bay}
use Rattle.gc_layout.specs.Places.{Layout}
use Rattle.gc_model.specs.Graph.{Graph, object_at}
use Rattle.gc_placement.specs.Changes.{ChangesBay}
use Rattle.gc_placement.specs.Extents.{IsInAPage, home_of}
use Rattle.gc_placement.specs.Flipped.{BeginsWith, ListsGrow}
use Rattle.gc_placement.specs.Headers.{head_of}
use Rattle.gc_placement.specs.Holders.{AreGrey, GreyOrWaiting, GreyWereYoung, IsGrey, IsGreyAt, OnlyKeptAreDone}
use Rattle.gc_placement.specs.Sums.{is_young}
use Rattle.gc_placement.specs.Placement.{Placement, with_place}
use Rattle.gc_placement.specs.Remembered.{AreLists, HaveBits, IsListed, IsOnAList}
use Rattle.gc_placement.proofs.Placement.{with_place-from, with_place-other, with_place-same}
use Rattle.gc_placement.proofs.Remembered.{unplaced-on_no_list}

-- ---- lists that may have one more address

-- a list with one more address at its end where it grows, and else the list
abbrev pub with_one_more : List ℕ → Bool → ℕ → List ℕ
with_one_more list grows added = if grows then list ++ added ∷ [] else list

-- a grey list where an object with so many slots is copied: the copy is put on it where it has slots
abbrev pub grey_with : List ℕ → ℕ → ℕ → List ℕ
grey_with list copy slots = with_one_more list (nat_lt 0 slots) copy

-- of so many lists one has one more address where it grows, and all others are as before
pub record MayGrow (mutators : ℕ) (old new : ℕ → List ℕ) (t : ℕ) (grows : Bool) (added : ℕ) : Type 0 where
  pub mutator : t < mutators
  pub here : new t ≡ with_one_more (old t) grows added
  pub elsewhere : (u : ℕ) → u ≢ t → new u ≡ old u

-- so do the remembered lists where a bay changes
pub may_grow-remembered : (mutators : ℕ) (old new : ℕ → Bay) (t : ℕ) (own : Bay) (grows : Bool) (added : ℕ) → t < mutators
    → ChangesBay old new t own → own.remembered ≡ with_one_more (old t).remembered grows added
    → MayGrow mutators (λ u. (old u).remembered) (λ u. (new u).remembered) t grows added
may_grow-remembered mutators old new t own grows added there changes list = record {
  mutator = there;
  here = ap (λ (bay : Bay). bay.remembered) changes.here ∙ list;
  elsewhere = λ u differs. ap (λ (bay : Bay). bay.remembered) (changes.elsewhere u differs);
}

-- and the grey lists
pub may_grow-grey : (mutators : ℕ) (old new : ℕ → Bay) (t : ℕ) (own : Bay) (grows : Bool) (added : ℕ) → t < mutators
    → ChangesBay old new t own → own.grey ≡ with_one_more (old t).grey grows added
    → MayGrow mutators (λ u. (old u).grey) (λ u. (new u).grey) t grows added
may_grow-grey mutators old new t own grows added there changes list = record {
  mutator = there;
  here = ap (λ (bay : Bay). bay.grey) changes.here ∙ list;
  elsewhere = λ u differs. ap (λ (bay : Bay). bay.grey) (changes.elsewhere u differs);
}

-- a list begins with itself
begins-same : (list : List ℕ) → BeginsWith list list
begins-same list = record { longer = omega arith; same = λ index below. refl }

-- a list that begins with one that begins with another begins with that
begins-trans : (front middle list : List ℕ) → BeginsWith front middle → BeginsWith middle list → BeginsWith front list
begins-trans front middle list first second = record {
  longer = omega (arith, first.longer, second.longer);
  same = λ index below. second.same index (omega (arith, below, first.longer)) ∙ first.same index below;
}

-- a list with one more address begins with the list
begins-with_one_more : (list : List ℕ) (grows : Bool) (added : ℕ) → BeginsWith list (with_one_more list grows added)
begins-with_one_more list false added = begins-same list
begins-with_one_more list true added = record {
  longer = omega (arith, length_push list added);
  same = λ index below. get_or_append_left list (added ∷ []) 0 index below;
}

-- so each of the lists begins with what it was
pub may_grow-begins : (mutators : ℕ) (old new : ℕ → List ℕ) (t : ℕ) (grows : Bool) (added : ℕ)
    → MayGrow mutators old new t grows added → (u : ℕ) → BeginsWith (old u) (new u)
may_grow-begins mutators old new t grows added may u = elim (cases_eq u t) [
  | inl same ↦
      subst (λ v. BeginsWith (old v) (new v)) (sym same)
      (subst (BeginsWith (old t)) (sym may.here) (begins-with_one_more (old t) grows added))
  | inr differs ↦ subst (BeginsWith (old u)) (sym (may.elsewhere u differs)) (begins-same (old u))
]

-- an address stands on one of so many lists, at an index
pub record StandsOn (mutators : ℕ) (lists : ℕ → List ℕ) (address t index : ℕ) : Type 0 where
  pub mutator : t < mutators
  pub within : index < length (lists t)
  pub at : slice_index (lists t) index ≡ address

-- what stood on a list stands there still
stands-kept : (mutators : ℕ) (old new : ℕ → List ℕ) (t : ℕ) (grows : Bool) (added address u index : ℕ)
    → MayGrow mutators old new t grows added → StandsOn mutators old address u index → StandsOn mutators new address u index
stands-kept mutators old new t grows added address u index may stands =
    let begins = may_grow-begins mutators old new t grows added may u in
    record {
      mutator = stands.mutator;
      within = omega (arith, stands.within, begins.longer);
      at = begins.same index stands.within ∙ stands.at;
    }

-- the address that is added stands at the end of its list
record IsAtEnd (list grown : List ℕ) (grows : Bool) (added index : ℕ) : Type 0 where
  grows_is : grows ≡ true
  index_is : index ≡ length list
  at : slice_index grown index ≡ added

-- at the end of a list that grows
added-at_end : (list : List ℕ) (grows : Bool) (added : ℕ) → grows ≡ true
    → (length list < length (with_one_more list grows added)) × (slice_index (with_one_more list grows added) (length list) ≡ added)
added-at_end list false added grows = absurd (false≢true grows)
added-at_end list true added grows = (omega (arith, length_push list added), get_or_push list added 0 (length list) refl)

-- an entry of a list with one more address is one of the list, or the added one
entry-from : (list : List ℕ) (grows : Bool) (added index : ℕ) → index < length (with_one_more list grows added)
    → (index < length list) ⊎ IsAtEnd list (with_one_more list grows added) grows added index
entry-from list false added index within = inl within
entry-from list true added index within = elim (cases_eq index (length list)) [
  | inl last ↦ inr (record { grows_is = refl; index_is = last; at = get_or_push list added 0 index (sym last) })
  | inr before ↦ inl (omega (arith, within, before, length_push list added))
]

-- so it stands on that list now
pub stands-added : (mutators : ℕ) (old new : ℕ → List ℕ) (t : ℕ) (grows : Bool) (added : ℕ) → MayGrow mutators old new t grows added
    → grows ≡ true → StandsOn mutators new added t (length (old t))
stands-added mutators old new t grows added may is =
    let end = added-at_end (old t) grows added is in
    record {
      mutator = may.mutator;
      within = omega (arith, end.0, ap length may.here);
      at = ap (λ (list : List ℕ). slice_index list (length (old t))) may.here ∙ end.1;
    }

-- the address is the one that is added, at the end of its list
pub record IsAdded (old : ℕ → List ℕ) (t : ℕ) (grows : Bool) (added address u index : ℕ) : Type 0 where
  pub grows_is : grows ≡ true
  pub mutator_is : u ≡ t
  pub index_is : index ≡ length (old t)
  pub address_is : address ≡ added

-- what stands on a list stood there, or it is the added one
pub stands-from : (mutators : ℕ) (old new : ℕ → List ℕ) (t : ℕ) (grows : Bool) (added address u index : ℕ)
    → MayGrow mutators old new t grows added → StandsOn mutators new address u index
    → StandsOn mutators old address u index ⊎ IsAdded old t grows added address u index
stands-from mutators old new t grows added address u index may stands =
    let begins = may_grow-begins mutators old new t grows added may u in
    let stood : index < length (old u) → StandsOn mutators old address u index = λ below.
    record { mutator = stands.mutator; within = below; at = sym (begins.same index below) ∙ stands.at } in
    elim (cases_eq u t) [
      | inl same ↦
          let list : new u ≡ with_one_more (old t) grows added = ap new same ∙ may.here in
          elim (entry-from (old t) grows added index (omega (arith, stands.within, ap length list))) [
            | inl before ↦ inl (stood (subst (λ v. index < length (old v)) (sym same) before))
            | inr end ↦ inr (record {
              grows_is = end.grows_is;
              mutator_is = same;
              index_is = end.index_is;
              address_is = sym stands.at ∙ ap (λ (each : List ℕ). slice_index each index) list ∙ end.at;
            })
          ]
      | inr differs ↦ inl (stood (omega (arith, stands.within, ap length (may.elsewhere u differs))))
    ]

-- an address stands on the lists once
abbrev StandsOnce : ℕ → (ℕ → List ℕ) → Type 0
StandsOnce mutators lists =
    (address t u i j : ℕ) → StandsOn mutators lists address t i → StandsOn mutators lists address u j → (t ≡ u) × (i ≡ j)

-- so does each where one is added that stood on none
pub once-grown : (mutators : ℕ) (old new : ℕ → List ℕ) (t : ℕ) (grows : Bool) (added : ℕ) → MayGrow mutators old new t grows added
    → StandsOnce mutators old → ((u i : ℕ) → StandsOn mutators old added u i → ⊥) → StandsOnce mutators new
once-grown mutators old new t grows added may once absent address u v i j one other =
    let clash : (w k : ℕ) → StandsOn mutators old address w k → address ≡ added → ⊥ = λ w k stands same.
    absent w k (subst (λ a. StandsOn mutators old a w k) same stands) in
    elim (stands-from mutators old new t grows added address u i may one) [
      | inl one_old ↦ elim (stands-from mutators old new t grows added address v j may other) [
        | inl other_old ↦ once address u v i j one_old other_old
        | inr other_new ↦ absurd (clash u i one_old other_new.address_is)
      ]
      | inr one_new ↦ elim (stands-from mutators old new t grows added address v j may other) [
        | inl other_old ↦ absurd (clash v j other_old one_new.address_is)
        | inr other_new ↦ (one_new.mutator_is ∙ sym other_new.mutator_is, one_new.index_is ∙ sym other_new.index_is)
      ]
    ]

-- ---- the remembered lists

-- the remembered lists of bays
abbrev pub remembered_of : (ℕ → Bay) → ℕ → List ℕ
remembered_of bay t = (bay t).remembered

-- what is listed stands on a remembered list
listed-stands : (mutators : ℕ) (bay : ℕ → Bay) (address t index : ℕ) → IsListed mutators bay address t index
    → StandsOn mutators (remembered_of bay) address t index
listed-stands mutators bay address t index listed =
    record { mutator = listed.mutator; within = listed.within; at = listed.at }

-- and the other way round
pub stands-listed : (mutators : ℕ) (bay : ℕ → Bay) (address t index : ℕ) → StandsOn mutators (remembered_of bay) address t index
    → IsListed mutators bay address t index
stands-listed mutators bay address t index stands =
    record { mutator = stands.mutator; within = stands.within; at = stands.at }

-- what was on a list is on one
pub on_a_list-kept : (mutators : ℕ) (old new : ℕ → Bay) (t : ℕ) (grows : Bool) (added address : ℕ)
    → MayGrow mutators (remembered_of old) (remembered_of new) t grows added → IsOnAList mutators old address
    → IsOnAList mutators new address
on_a_list-kept mutators old new t grows added address may on = record {
  mutator = on.mutator;
  index = on.index;
  listed = stands-listed mutators new address on.mutator on.index
      (stands-kept mutators (remembered_of old) (remembered_of new) t grows added address on.mutator on.index may
      (listed-stands mutators old address on.mutator on.index on.listed));
}

-- what is on a list was on one, or it is the added one
pub on_a_list-from : (mutators : ℕ) (old new : ℕ → Bay) (t : ℕ) (grows : Bool) (added address : ℕ)
    → MayGrow mutators (remembered_of old) (remembered_of new) t grows added → IsOnAList mutators new address
    → IsOnAList mutators old address ⊎ ((grows ≡ true) × (address ≡ added))
on_a_list-from mutators old new t grows added address may on =
    elim (stands-from mutators (remembered_of old) (remembered_of new) t grows added address on.mutator on.index may
    (listed-stands mutators new address on.mutator on.index on.listed)) [
      | inl before ↦ inl (record {
        mutator = on.mutator;
        index = on.index;
        listed = stands-listed mutators old address on.mutator on.index before;
      })
      | inr now ↦ inr (now.grows_is, now.address_is)
    ]

-- an object that was placed is placed there where one more is that wasn't
still-placed : (placement : Placement) (number copy each a : ℕ) → placement number ≡ None → placement each ≡ Some a
    → with_place placement number copy each ≡ Some a
still-placed placement number copy each a unkept at =
    with_place-other placement number copy each (λ same. none-some a (sym unkept ∙ ap placement (sym same) ∙ at)) ∙ at

-- the lists are lists where the copy in a page is put on one
pub lists-copied : (layout : Layout) (mutators : ℕ) (bay new : ℕ → Bay) (after : Placement) (number copy t : ℕ) (promoted : Bool)
    → AreLists layout mutators bay after → MayGrow mutators (remembered_of bay) (remembered_of new) t promoted copy
    → (promoted ≡ true → IsInAPage layout copy) → ((each : ℕ) → after each ≢ Some copy) → after number ≡ None
    → AreLists layout mutators new (with_place after number copy)
lists-copied layout mutators bay new after number copy t promoted are may page unplaced unkept =
    let absent : ¬ IsOnAList mutators bay copy = unplaced-on_no_list layout mutators bay after copy are unplaced in
    record {
      placed = λ a on. elim (on_a_list-from mutators bay new t promoted copy a may on) [
        | inl before ↦
            let held = are.placed a before in
            record { number = held.number; at = still-placed after number copy held.number a unkept held.at }
        | inr now ↦ record { number = number; at = with_place-same after number copy ∙ ap Some (sym now.1) }
      ];
      old = λ a on. elim (on_a_list-from mutators bay new t promoted copy a may on) [
        | inl before ↦ are.old a before
        | inr now ↦ subst (IsInAPage layout) (sym now.1) (page now.0)
      ];
      once = λ a u v i j one other.
          once-grown mutators (remembered_of bay) (remembered_of new) t promoted copy may
          (λ b w x k l first second.
          are.once b w x k l (stands-listed mutators bay b w k first) (stands-listed mutators bay b x l second))
          (λ w k stands. absent (record { mutator = w; index = k; listed = stands-listed mutators bay copy w k stands }))
          a u v i j (listed-stands mutators new a u i one) (listed-stands mutators new a v j other);
    }

-- the lists have the entries of before in front
pub lists_grow-copied : (mutators : ℕ) (old bay new : ℕ → Bay) (t : ℕ) (promoted : Bool) (copy : ℕ) → ListsGrow mutators old bay
    → MayGrow mutators (remembered_of bay) (remembered_of new) t promoted copy → ListsGrow mutators old new
lists_grow-copied mutators old bay new t promoted copy grow may u there =
    begins-trans (old u).remembered (bay u).remembered (new u).remembered (grow u there)
    (may_grow-begins mutators (remembered_of bay) (remembered_of new) t promoted copy may u)

-- the bits are exact where the copy has the bit remembered as it is put on a list
pub bits-copied : (word other : ℕ → ℕ) (layout : Layout) (mutators : ℕ) (bay new : ℕ → Bay) (after : Placement)
    (number copy t : ℕ) (promoted : Bool) → HaveBits word mutators bay after → AreLists layout mutators bay after
    → MayGrow mutators (remembered_of bay) (remembered_of new) t promoted copy
    → ((each a : ℕ) → after each ≡ Some a → other a ≡ word a) → ((each : ℕ) → after each ≢ Some copy)
    → (head_of (other copy)).remembered ≡ promoted → (head_of (other copy)).marked ≡ false
    → HaveBits other mutators new (with_place after number copy)
bits-copied word other layout mutators bay new after number copy t promoted have are may headers unplaced remembered unmarked =
    let absent : ¬ IsOnAList mutators bay copy = unplaced-on_no_list layout mutators bay after copy are unplaced in
    let Right : ℕ → Type 0 = λ a. ((head_of (other a)).remembered ≡ true) ↔ IsOnAList mutators new a in
    let Unmarked : ℕ → Type 0 = λ a. (head_of (other a)).marked ≡ false in
    record {
      remembered = λ each a at. elim (with_place-from after number copy each a at) [
        | inl here ↦ subst Right (sym here.1) (
          λ is. record {
            mutator = t;
            index = length (bay t).remembered;
            listed = stands-listed mutators new copy t (length (bay t).remembered)
                (stands-added mutators (remembered_of bay) (remembered_of new) t promoted copy may (sym remembered ∙ is));
          },
          λ on. elim (on_a_list-from mutators bay new t promoted copy copy may on) [
            | inl before ↦ absurd (absent before)
            | inr now ↦ remembered ∙ now.0
          ],
        )
        | inr there ↦
            let header = ap (λ (w : ℕ). (head_of w).remembered) (headers each a there.1) in
            let bit = have.remembered each a there.1 in (
              λ is. on_a_list-kept mutators bay new t promoted copy a may (bit.0 (sym header ∙ is)),
              λ on. elim (on_a_list-from mutators bay new t promoted copy a may on) [
                | inl before ↦ header ∙ bit.1 before
                | inr now ↦ absurd (unplaced each (there.1 ∙ ap Some now.1))
              ],
            )
      ];
      marked = λ each a at. elim (with_place-from after number copy each a at) [
        | inl here ↦ subst Unmarked (sym here.1) unmarked
        | inr there ↦ ap (λ (w : ℕ). (head_of w).marked) (headers each a there.1) ∙ have.marked each a there.1
      ];
    }

-- ---- the grey lists

-- the grey lists of bays
abbrev pub grey_of : (ℕ → Bay) → ℕ → List ℕ
grey_of bay t = (bay t).grey

-- what is grey stands on a grey list
pub grey-stands : (mutators : ℕ) (bay : ℕ → Bay) (address t index : ℕ) → IsGreyAt mutators bay address t index
    → StandsOn mutators (grey_of bay) address t index
grey-stands mutators bay address t index listed =
    record { mutator = listed.mutator; within = listed.within; at = listed.at }

-- and the other way round
pub stands-grey : (mutators : ℕ) (bay : ℕ → Bay) (address t index : ℕ) → StandsOn mutators (grey_of bay) address t index
    → IsGreyAt mutators bay address t index
stands-grey mutators bay address t index stands =
    record { mutator = stands.mutator; within = stands.within; at = stands.at }

-- what was grey is grey
pub is_grey-kept : (mutators : ℕ) (old new : ℕ → Bay) (t : ℕ) (grows : Bool) (added address : ℕ)
    → MayGrow mutators (grey_of old) (grey_of new) t grows added → IsGrey mutators old address → IsGrey mutators new address
is_grey-kept mutators old new t grows added address may on = record {
  mutator = on.mutator;
  index = on.index;
  listed = stands-grey mutators new address on.mutator on.index
      (stands-kept mutators (grey_of old) (grey_of new) t grows added address on.mutator on.index may
      (grey-stands mutators old address on.mutator on.index on.listed));
}

-- what is grey was grey, or it is the added one
pub is_grey-from : (mutators : ℕ) (old new : ℕ → Bay) (t : ℕ) (grows : Bool) (added address : ℕ)
    → MayGrow mutators (grey_of old) (grey_of new) t grows added → IsGrey mutators new address
    → IsGrey mutators old address ⊎ (address ≡ added)
is_grey-from mutators old new t grows added address may on =
    elim (stands-from mutators (grey_of old) (grey_of new) t grows added address on.mutator on.index may
    (grey-stands mutators new address on.mutator on.index on.listed)) [
      | inl before ↦ inl (record {
        mutator = on.mutator;
        index = on.index;
        listed = stands-grey mutators old address on.mutator on.index before;
      })
      | inr now ↦ inr now.address_is
    ]

-- the grey lists have objects that are kept, each once and on its owner's list, where the copy is put on one
pub grey-copied : (mutators : ℕ) (bay new : ℕ → Bay) (after : Placement) (graph : Graph) (number copy : ℕ) (grows : Bool)
    → AreGrey mutators bay after graph
    → MayGrow mutators (grey_of bay) (grey_of new) (home_of (object_at graph number).maker) grows copy
    → ((each : ℕ) → after each ≢ Some copy) → after number ≡ None → AreGrey mutators new (with_place after number copy) graph
grey-copied mutators bay new after graph number copy grows are may unplaced unkept =
    let t = home_of (object_at graph number).maker in
    record {
      kept = λ a u i listed.
          elim (stands-from mutators (grey_of bay) (grey_of new) t grows copy a u i may (grey-stands mutators new a u i listed)) [
            | inl before ↦
                let held = are.kept a u i (stands-grey mutators bay a u i before) in
                record { number = held.number; at = still-placed after number copy held.number a unkept held.at; own = held.own }
            | inr now ↦ record {
              number = number;
              at = with_place-same after number copy ∙ ap Some (sym now.address_is);
              own = sym now.mutator_is;
            }
          ];
      once = λ a u v i j one other.
          once-grown mutators (grey_of bay) (grey_of new) t grows copy may
          (λ b w x k l first second.
          are.once b w x k l (stands-grey mutators bay b w k first) (stands-grey mutators bay b x l second))
          (λ w k stands. let held = are.kept copy w k (stands-grey mutators bay copy w k stands) in unplaced held.number held.at)
          a u v i j (grey-stands mutators new a u i one) (grey-stands mutators new a v j other);
    }

-- what is grey was young, the copied object too
pub grey_were_young-copied : (layout : Layout) (mutators : ℕ) (bay new : ℕ → Bay) (before after : Placement) (graph : Graph)
    (number copy : ℕ) (grows : Bool) → GreyWereYoung layout mutators bay before after
    → MayGrow mutators (grey_of bay) (grey_of new) (home_of (object_at graph number).maker) grows copy
    → ((each : ℕ) → after each ≢ Some copy) → is_young layout before number ≡ true
    → GreyWereYoung layout mutators new before (with_place after number copy)
grey_were_young-copied layout mutators bay new before after graph number copy grows were may unplaced young each a at grey =
    elim (with_place-from after number copy each a at) [
      | inl here ↦ ap (is_young layout before) here.0 ∙ young
      | inr there ↦ elim (is_grey-from mutators bay new (home_of (object_at graph number).maker) grows copy a may grey) [
        | inl was ↦ were each a there.1 was
        | inr now ↦ absurd (unplaced each (there.1 ∙ ap Some now))
      ]
    ]

-- an object that is kept and isn't grey isn't grey then
pub not_grey-copied : (mutators : ℕ) (bay new : ℕ → Bay) (after : Placement) (t copy each a : ℕ) (grows : Bool)
    → MayGrow mutators (grey_of bay) (grey_of new) t grows copy → ((other : ℕ) → after other ≢ Some copy) → after each ≡ Some a
    → ¬ IsGrey mutators bay a → ¬ IsGrey mutators new a
not_grey-copied mutators bay new after t copy each a grows may unplaced at not_grey grey =
    elim (is_grey-from mutators bay new t grows copy a may grey) [
      | inl was ↦ not_grey was
      | inr now ↦ unplaced each (at ∙ ap Some now)
    ]

-- the slots of the copy aren't done: it is grey where it has slots
pub grey_or_waiting-copied : (mutators : ℕ) (bay new : ℕ → Bay) (after : Placement) (done : ℕ → ℕ → Bool) (graph : Graph)
    (waiting : ℕ → ℕ → Type 0) (number copy : ℕ) → GreyOrWaiting mutators bay after done graph waiting
    → OnlyKeptAreDone after done
    → MayGrow mutators (grey_of bay) (grey_of new) (home_of (object_at graph number).maker)
    (nat_lt 0 (length (object_at graph number).slots)) copy
    → ((each : ℕ) → after each ≢ Some copy) → after number ≡ None
    → GreyOrWaiting mutators new (with_place after number copy) done graph waiting
grey_or_waiting-copied mutators bay new after done graph waiting number copy are only may unplaced unkept each a place at below =
    let t = home_of (object_at graph number).maker in
    let grows = nat_lt 0 (length (object_at graph number).slots) in
    elim (with_place-from after number copy each a at) [
      | inl here ↦ (
        λ _.
            let some : grows ≡ true =
            lt-ltb 0 (length (object_at graph number).slots) (omega (arith, below, ap (λ k. length (object_at graph k).slots) here.0)) in
            inl (subst (IsGrey mutators new) (sym here.1) (record {
              mutator = t;
              index = length (bay t).grey;
              listed = stands-grey mutators new copy t (length (bay t).grey)
                  (stands-added mutators (grey_of bay) (grey_of new) t grows copy may some);
            })),
        λ _. only each place (ap after here.0 ∙ unkept),
      )
      | inr there ↦
          let was = are each a place there.1 below in (
            λ undone. elim (was.0 undone) [
              | inl grey ↦ inl (is_grey-kept mutators bay new t grows copy a may grey)
              | inr waits ↦ inr waits
            ],
            λ either. elim either [
              | inl grey ↦ elim (is_grey-from mutators bay new t grows copy a may grey) [
                | inl before ↦ was.1 (inl before)
                | inr now ↦ absurd (unplaced each (there.1 ∙ ap Some now))
              ]
              | inr waits ↦ was.1 (inr waits)
            ],
          )
    ]
