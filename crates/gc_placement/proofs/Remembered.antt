-- The remembered set: which changes of the memory, of the placement and of the world leave it as it is.
use Rattle.std.proofs.Common.{◌≡◌, ◌≢◌, ◌∙◌, ◌⊎◌, ◌↔◌, ℕ, ◌<◌, Bool, true, false, List, [], length, Option, None, Some, inl, inr, refl, ap, sym, subst, arith, slice_index}
use Rattle.std.proofs.lemmas.Bool.{cases_eq, cases_lt, false≢true}
use Rattle.gc_bay.specs.Bay.{Bay}
use Rattle.gc_layout.specs.declared.shape.Shape.{Shape}
use Rattle.gc_layout.specs.Places.{Layout}
use Rattle.gc_model.specs.Answer.{shape_at, with_new}
use Rattle.gc_model.specs.Graph.{fresh_object}
use Rattle.gc_model.specs.World.{Mutator, World, first_world, slot_at, with_mutator, with_number, with_slot}
use Rattle.gc_placement.specs.Extents.{IsInAPage}
use Rattle.gc_placement.specs.Headers.{head_of}
use Rattle.gc_placement.specs.Names.{Covers}
use Rattle.gc_placement.specs.Placement.{Placement, IsNamePlaced, IsPlaced, with_place}
use Rattle.gc_placement.specs.Remembered.{AreLists, HaveBits, IsListed, IsOnAList, IsRemembered, NamesYoung, YoungAreRemembered}
use Rattle.gc_placement.proofs.Placement.{with_place-other, with_place-same}
use Rattle.gc_placement.proofs.Worlds.{slot_at-either, slot_at-first, slot_at-fresh, slot_at-number, slot_at-object, slot_at-other}

-- so many bays have the remembered lists of others
abbrev HasLists : ℕ → (ℕ → Bay) → (ℕ → Bay) → Type 0
HasLists mutators old new = (t : ℕ) → t < mutators → (new t).remembered ≡ (old t).remembered

-- what stands on a list stands there on the same list of other bays
listed-frame : (mutators : ℕ) (old new : ℕ → Bay) (address t index : ℕ) → HasLists mutators old new → IsListed mutators new address t index
    → IsListed mutators old address t index
listed-frame mutators old new address t index same listed =
    let list = same t listed.mutator in
    record {
      mutator = listed.mutator;
      within = omega (arith, listed.within, ap length list);
      at = ap (λ (xs : List ℕ). slice_index xs index) (sym list) ∙ listed.at;
    }

-- so what is on some list is on one there
pub on_a_list-frame : (mutators : ℕ) (old new : ℕ → Bay) (address : ℕ) → HasLists mutators old new → IsOnAList mutators new address
    → IsOnAList mutators old address
on_a_list-frame mutators old new address same on = record {
  mutator = on.mutator;
  index = on.index;
  listed = listed-frame mutators old new address on.mutator on.index same on.listed;
}

-- the lists are as before
pub lists-frame : (layout : Layout) (mutators : ℕ) (old new : ℕ → Bay) (placement : Placement) → AreLists layout mutators old placement
    → ((t : ℕ) → t < mutators → (new t).remembered ≡ (old t).remembered) → AreLists layout mutators new placement
lists-frame layout mutators old new placement are same = record {
  placed = λ address on. are.placed address (on_a_list-frame mutators old new address same on);
  old = λ address on. are.old address (on_a_list-frame mutators old new address same on);
  once = λ address t u i j one other. are.once address t u i j (listed-frame mutators old new address t i same one)
      (listed-frame mutators old new address u j same other);
}

-- what was placed is placed where it was
pub lists-placed : (layout : Layout) (mutators : ℕ) (bay : ℕ → Bay) (placement other : Placement)
    → AreLists layout mutators bay placement
    → ((number address : ℕ) → placement number ≡ Some address → other number ≡ Some address) → AreLists layout mutators bay other
lists-placed layout mutators bay placement other are keeps = record {
  placed = λ address on.
      let held = are.placed address on in
      record { number = held.number; at = keeps held.number address held.at };
  old = are.old;
  once = are.once;
}

-- at first all lists are empty
pub lists-first : (layout : Layout) (mutators : ℕ) (bay : ℕ → Bay) (placement : Placement)
    → ((t : ℕ) → t < mutators → (bay t).remembered ≡ []) → AreLists layout mutators bay placement
lists-first layout mutators bay placement empty =
    let none : (address t index : ℕ) → IsListed mutators bay address t index → ⊥ = λ address t index listed.
    omega (arith, listed.within, ap length (empty t listed.mutator)) in
    record {
      placed = λ address on. absurd (none address on.mutator on.index on.listed);
      old = λ address on. absurd (none address on.mutator on.index on.listed);
      once = λ address t u i j one other. absurd (none address t i one);
    }

-- an address at which no object is placed is on no list
pub unplaced-on_no_list : (layout : Layout) (mutators : ℕ) (bay : ℕ → Bay) (placement : Placement) (address : ℕ)
    → AreLists layout mutators bay placement → ((number : ℕ) → placement number ≢ Some address) → ¬ IsOnAList mutators bay address
unplaced-on_no_list layout mutators bay placement address are unplaced on =
    let held = are.placed address on in unplaced held.number held.at

-- the headers of placed objects and the lists are as before
pub bits-frame : (old_word word : ℕ → ℕ) (mutators : ℕ) (old new : ℕ → Bay) (placement : Placement)
    → HaveBits old_word mutators old placement
    → ((number address : ℕ) → placement number ≡ Some address → word address ≡ old_word address)
    → ((t : ℕ) → t < mutators → (new t).remembered ≡ (old t).remembered) → HaveBits word mutators new placement
bits-frame old_word word mutators old new placement have headers same = record {
  remembered = λ number address at.
      let header = ap (λ (w : ℕ). (head_of w).remembered) (headers number address at) in
      let bit = have.remembered number address at in (
        λ is. on_a_list-frame mutators new old address (λ t below. sym (same t below)) (bit.0 (sym header ∙ is)),
        λ on. header ∙ bit.1 (on_a_list-frame mutators old new address same on),
      );
  marked = λ number address at. ap (λ (w : ℕ). (head_of w).marked) (headers number address at) ∙ have.marked number address at;
}

-- a new object is given a place: its header has neither bit, and its address is on no list
pub bits-new : (word : ℕ → ℕ) (mutators : ℕ) (bay : ℕ → Bay) (placement : Placement) (number address : ℕ)
    → HaveBits word mutators bay placement → (head_of (word address)).remembered ≡ false → (head_of (word address)).marked ≡ false
    → ¬ IsOnAList mutators bay address → HaveBits word mutators bay (with_place placement number address)
bits-new word mutators bay placement number address have unremembered unmarked unlisted =
    let after = with_place placement number address in
    let new_at : (other a : ℕ) → after other ≡ Some a → other ≡ number → a ≡ address = λ other a at same.
    let is : Some a ≡ Some address = sym at ∙ ap after same ∙ with_place-same placement number address in cc in
    let old_at : (other a : ℕ) → after other ≡ Some a → other ≢ number → placement other ≡ Some a = λ other a at differs.
    sym (with_place-other placement number address other differs) ∙ at in
    record {
      remembered = λ other a at. elim (cases_eq other number) [
        | inl same ↦
            let Right : ℕ → Type 0 = λ w. ((head_of (word w)).remembered ≡ true) ↔ IsOnAList mutators bay w in
            subst Right (sym (new_at other a at same))
            (λ is. absurd (false≢true (sym unremembered ∙ is)), λ on. absurd (unlisted on))
        | inr differs ↦ have.remembered other a (old_at other a at differs)
      ];
      marked = λ other a at. elim (cases_eq other number) [
        | inl same ↦ ap (λ (w : ℕ). (head_of (word w)).marked) (new_at other a at same) ∙ unmarked
        | inr differs ↦ have.marked other a (old_at other a at differs)
      ];
    }

-- nothing is placed yet
pub bits-none : (word : ℕ → ℕ) (mutators : ℕ) (bay : ℕ → Bay) → HaveBits word mutators bay (λ number. None)
bits-none word mutators bay = record { remembered = λ number address at. cc; marked = λ number address at. cc }

-- a slot that names an object in a half named it before, where the slot is as before
abbrev names_young-frame : (layout : Layout) (placement : Placement) (world after : World) (number place : ℕ)
    → (names : NamesYoung layout placement after number place) → slot_at after number place ≡ slot_at world number place
    → NamesYoung layout placement world number place
names_young-frame layout placement world after number place names same = record {
  address = names.address;
  at = names.at;
  old = names.old;
  named = names.named;
  named_is = sym same ∙ names.named_is;
  named_address = names.named_address;
  named_at = names.named_at;
  young = names.young;
}

-- the headers and the slots of placed objects are as before
pub young-frame : (old_word word : ℕ → ℕ) (layout : Layout) (placement : Placement) (world after : World) (pending : ℕ → Bool)
    → YoungAreRemembered old_word layout placement world pending
    → ((number address : ℕ) → placement number ≡ Some address → word address ≡ old_word address)
    → ((number place : ℕ) → IsPlaced placement number → slot_at after number place ≡ slot_at world number place)
    → YoungAreRemembered word layout placement after pending
young-frame old_word word layout placement world after pending are headers slots number place names settled =
    let placed : IsPlaced placement number = record { address = names.address; at = names.at } in
    ap (λ (w : ℕ). (head_of w).remembered) (headers number names.address names.at)
    ∙ are number place (names_young-frame layout placement world after number place names (slots number place placed)) settled

-- what isn't pending any more has the bit, and what is pending now needs none
pub young-pending : (word : ℕ → ℕ) (layout : Layout) (placement : Placement) (world : World) (pending later : ℕ → Bool)
    → YoungAreRemembered word layout placement world pending
    → ((a : ℕ) → later a ≡ false → (pending a ≡ false) ⊎ ((head_of (word a)).remembered ≡ true))
    → YoungAreRemembered word layout placement world later
young-pending word layout placement world pending later are settles number place names settled =
    elim (settles names.address settled) [ inl before ↦ are number place names before | inr has ↦ has ]

-- a number that changes is no slot
pub young-number : (word : ℕ → ℕ) (layout : Layout) (placement : Placement) (world : World) (pending : ℕ → Bool)
    (number place value : ℕ) → YoungAreRemembered word layout placement world pending
    → YoungAreRemembered word layout placement (with_number world number place value) pending
young-number word layout placement world pending number place value are =
    young-frame word word layout placement world (with_number world number place value) pending are (λ other address at. refl)
    (λ other at placed. slot_at-number world number place value other at)

-- a mutator has no slots
pub young-mutator : (word : ℕ → ℕ) (layout : Layout) (placement : Placement) (world : World) (pending : ℕ → Bool) (t : ℕ)
    (mutator : Mutator) → YoungAreRemembered word layout placement world pending
    → YoungAreRemembered word layout placement (with_mutator world t mutator) pending
young-mutator word layout placement world pending t mutator are =
    young-frame word word layout placement world (with_mutator world t mutator) pending are (λ other address at. refl)
    (λ other at placed. refl)

-- a new object is given a place: its slots name nothing, and no slot named it
pub young-new : (types : List Shape) (word : ℕ → ℕ) (layout : Layout) (placement : Placement) (world : World) (pending : ℕ → Bool)
    (t into ty address : ℕ) → YoungAreRemembered word layout placement world pending → Covers placement world
    → ((number a : ℕ) → placement number ≡ Some a → number < length world.graph)
    → YoungAreRemembered word layout (with_place placement (length world.graph) address) (with_new types world t into ty) pending
young-new types word layout placement world pending t into ty address are covers known number place names settled =
    let count = length world.graph in
    elim (cases_lt number count) [
      | inl below ↦
          let differs : number ≢ count = omega (arith, below) in
          let at : placement number ≡ Some names.address = sym (with_place-other placement count address number differs) ∙ names.at in
          let named_is : slot_at world number place ≡ Some names.named =
          sym (slot_at-object world (fresh_object ty (Some t) (shape_at types ty)) number place below) ∙ names.named_is in
          let named : IsPlaced placement names.named =
          subst (IsNamePlaced placement) named_is (covers.slots number place (record { address = names.address; at = at })) in
          let other : names.named ≢ count = let there = known names.named named.address named.at in omega (arith, there) in
          are number place (record {
            address = names.address;
            at = at;
            old = names.old;
            named = names.named;
            named_is = named_is;
            named_address = names.named_address;
            named_at = sym (with_place-other placement count address names.named other) ∙ names.named_at;
            young = names.young;
          }) settled
      | inr above ↦
          let nothing : None ≡ Some names.named =
          sym (slot_at-fresh world ty (Some t) (shape_at types ty) number place above) ∙ names.named_is in cc
    ]

-- a slot comes to name something: where the object lies in a page and what is named doesn't, the object is pending
pub young-slot : (word : ℕ → ℕ) (layout : Layout) (placement : Placement) (world : World) (pending : ℕ → Bool) (number place : ℕ)
    (name : Option ℕ) → YoungAreRemembered word layout placement world pending
    → ((address named named_address : ℕ) → placement number ≡ Some address → IsInAPage layout address → name ≡ Some named
    → placement named ≡ Some named_address → ¬ IsInAPage layout named_address → pending address ≡ true)
    → YoungAreRemembered word layout placement (with_slot world number place name) pending
young-slot word layout placement world pending number place name are waits other at names settled =
    let after = with_slot world number place name in
    elim (cases_eq other number) [
      | inl same ↦
          let Remembers : Option ℕ → Type 0 =
          λ held. held ≡ Some names.named → (head_of (word names.address)).remembered ≡ true in
          slot_at-either Remembers world number place at name
          (λ is. absurd (false≢true (sym settled ∙ waits names.address names.named names.named_address
          (ap placement (sym same) ∙ names.at) names.old is names.named_at names.young)))
          (λ is. are number at (record {
            address = names.address;
            at = ap placement (sym same) ∙ names.at;
            old = names.old;
            named = names.named;
            named_is = is;
            named_address = names.named_address;
            named_at = names.named_at;
            young = names.young;
          }) settled)
          (ap (λ (k : ℕ). slot_at after k at) (sym same) ∙ names.named_is)
      | inr differs ↦
          are other at (names_young-frame layout placement world after other at names
          (slot_at-other world number place other at name differs)) settled
    ]

-- an object that is pending may come to name anything
pub young-slot_pending : (word : ℕ → ℕ) (layout : Layout) (placement : Placement) (world : World) (pending : ℕ → Bool)
    (number place address : ℕ) (name : Option ℕ) → YoungAreRemembered word layout placement world pending
    → placement number ≡ Some address → pending address ≡ true
    → YoungAreRemembered word layout placement (with_slot world number place name) pending
young-slot_pending word layout placement world pending number place address name are at waits =
    young-slot word layout placement world pending number place name are (λ own named named_address own_at old is named_at young.
    let same : Some own ≡ Some address = sym own_at ∙ at in
    let one : own ≡ address = cc in ap pending one ∙ waits)

-- so may one that lies in no page
pub young-slot_young : (word : ℕ → ℕ) (layout : Layout) (placement : Placement) (world : World) (pending : ℕ → Bool)
    (number place address : ℕ) (name : Option ℕ) → YoungAreRemembered word layout placement world pending
    → placement number ≡ Some address → ¬ IsInAPage layout address
    → YoungAreRemembered word layout placement (with_slot world number place name) pending
young-slot_young word layout placement world pending number place address name are at young_owner =
    young-slot word layout placement world pending number place name are (λ own named named_address own_at old is named_at young.
    let same : Some own ≡ Some address = sym own_at ∙ at in
    let one : own ≡ address = cc in absurd (young_owner (subst (IsInAPage layout) one old)))

-- and any object what lies in a page, or nothing
pub young-slot_old : (word : ℕ → ℕ) (layout : Layout) (placement : Placement) (world : World) (pending : ℕ → Bool)
    (number place : ℕ) (name : Option ℕ) → YoungAreRemembered word layout placement world pending
    → ((named address : ℕ) → name ≡ Some named → placement named ≡ Some address → IsInAPage layout address)
    → YoungAreRemembered word layout placement (with_slot world number place name) pending
young-slot_old word layout placement world pending number place name are old_name =
    young-slot word layout placement world pending number place name are (λ own named named_address own_at old is named_at young.
    absurd (young (old_name named named_address is named_at)))

-- an object in a page that names one in a half is on a list, but for one that is pending
pub young-listed : (word : ℕ → ℕ) (layout : Layout) (bay : ℕ → Bay) (placement : Placement) (world : World) (pending : ℕ → Bool)
    → IsRemembered word layout bay placement world pending → (number place : ℕ)
    → (names : NamesYoung layout placement world number place) → pending names.address ≡ false
    → IsOnAList layout.mutators bay names.address
young-listed word layout bay placement world pending is number place names settled =
    (is.bits.remembered number names.address names.at).0 (is.young number place names settled)

-- the headers of placed objects, the lists and the slots are as before: so is the remembered set
pub remembered-frame : (old_word word : ℕ → ℕ) (layout : Layout) (old new : ℕ → Bay) (placement : Placement) (world after : World)
    (pending : ℕ → Bool) → IsRemembered old_word layout old placement world pending
    → ((number address : ℕ) → placement number ≡ Some address → word address ≡ old_word address)
    → ((t : ℕ) → t < layout.mutators → (new t).remembered ≡ (old t).remembered)
    → ((number place : ℕ) → IsPlaced placement number → slot_at after number place ≡ slot_at world number place)
    → IsRemembered word layout new placement after pending
remembered-frame old_word word layout old new placement world after pending is headers same slots = record {
  lists = lists-frame layout layout.mutators old new placement is.lists same;
  bits = bits-frame old_word word layout.mutators old new placement is.bits headers same;
  young = young-frame old_word word layout placement world after pending is.young headers slots;
}

-- at first no slot names anything
pub young-first : (word : ℕ → ℕ) (layout : Layout) (placement : Placement) (mutators : ℕ) (pending : ℕ → Bool)
    → YoungAreRemembered word layout placement (first_world mutators) pending
young-first word layout placement mutators pending number place names settled =
    let nothing : None ≡ Some names.named = sym (slot_at-first mutators number place) ∙ names.named_is in cc
