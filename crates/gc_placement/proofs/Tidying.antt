-- Tidying the remembered lists when a minor collection has ended: it stays a minor collection where an object that names
-- none in a half is forgotten; and once each object on a list names one, the remembered objects are those that do.
use Rattle.std.proofs.Common.{◌≡◌, ◌∙◌, ⊎_elim, ℕ, ◌+◌, ◌-◌, ◌<◌, ◌≤◌, Bool, false, List, length, Some, inl, inr, refl, ap, sym, subst, arith, slice_index}
use Rattle.std.proofs.lemmas.Bool.{cases_eq}
use Rattle.std.specs.List.{swap_remove}
use Rattle.gc_bay.specs.Bay.{Bay, IsBay}
use Rattle.gc_layout.specs.declared.head.Head.{Head}
use Rattle.gc_layout.specs.Places.{Layout}
use Rattle.gc_model.specs.Graph.{Graph, object_at, object_size}
use Rattle.gc_model.specs.World.{World}
use Rattle.gc_placement.specs.Changes.{ChangesBay, DropsFromList, Stores}
use Rattle.gc_placement.specs.Extents.{AreApart, home_of}
use Rattle.gc_placement.specs.Headers.{head_of, with_remembered}
use Rattle.gc_placement.specs.Memory.{Memory}
use Rattle.gc_placement.specs.Minor.{IsMinorCollection}
use Rattle.gc_placement.specs.Rest.{IsAtRest}
use Rattle.gc_placement.specs.Tidying.{AreTidyBefore, HoldsNameOfYoung, OnlyYoungAreRemembered}
use Rattle.gc_placement.specs.Placement.{Placement}
use Rattle.gc_placement.specs.Promotion.{ArePromoted, HasNoCell}
use Rattle.gc_placement.specs.Remembered.{HaveBits, IsListed, IsRemembered, NamesYoung}
use Rattle.gc_placement.specs.Shows.{Shows, nowhere}
use Rattle.gc_placement.proofs.Barrier.{drops-bay, remembered-dropped, shows-lists, shows-remembered, stored-head, swap_remove-elsewhere}

-- ---- an object is forgotten

-- where a bay changes in its remembered list alone, each is as before but for that list
pub but_list : (old new : ℕ → Bay) (t : ℕ) (bay : Bay) (list : List ℕ) → ChangesBay old new t bay
    → bay ≡ record (old t) { remembered = list } → (u : ℕ) → new u ≡ record (old u) { remembered = (new u).remembered }
but_list old new t bay list changes same u =
    elim (cases_eq u t) as (λ _. new u ≡ record (old u) { remembered = (new u).remembered }) [
      | inl here ↦
          let is : new t ≡ record (old t) { remembered = list } = changes.here ∙ same in
          let at : list ≡ (new t).remembered = sym (ap (λ (each : Bay). each.remembered) is) in
          subst (λ v. new v ≡ record (old v) { remembered = (new v).remembered }) (sym here)
          (is ∙ ap (λ (xs : List ℕ). record (old t) { remembered = xs }) at)
      | inr differs ↦
          subst (λ (each : Bay). each ≡ record (old u) { remembered = each.remembered }) (sym (changes.elsewhere u differs)) refl
    ]

-- a header where the bit is stored has the bit seen as before, and so has each other one
pub seen-stored : (word other : ℕ → ℕ) (address : ℕ) (on : Bool) → Stores word other address (with_remembered (word address) on) → (a : ℕ)
    → (head_of (other a)).seen ≡ (head_of (word a)).seen
seen-stored word other address on stores a =
    elim (cases_eq a address) as (λ _. (head_of (other a)).seen ≡ (head_of (word a)).seen) [
      | inl same ↦
          subst (λ b. (head_of (other b)).seen ≡ (head_of (word b)).seen) (sym same)
          (ap (λ (head : Head). head.seen) (stored-head word other address on stores))
      | inr differs ↦ ap (λ (w : ℕ). (head_of w).seen) (stores.elsewhere a differs)
    ]

-- who is promoted is so still where the bits seen and the pages are as before
promoted-frame : (layout : Layout) (old_word word other : ℕ → ℕ) (old new : ℕ → Bay) (before after : Placement) (graph : Graph)
    → ArePromoted layout old_word word old before after graph
    → ((a : ℕ) → (head_of (other a)).seen ≡ (head_of (word a)).seen) → ((u : ℕ) → (new u).pages ≡ (old u).pages)
    → ArePromoted layout old_word other new before after graph
promoted-frame layout old_word word other old new before after graph are seen pages = record {
  seen = are.seen;
  no_cell = λ number address copy at young copy_at copy_young had.
      let home = home_of (object_at graph number).maker in
      let none : HasNoCell (old home) (object_size (object_at graph number)) =
      are.no_cell number address copy at young copy_at copy_young had in
      record { cells = rw (pages home) none.cells; pages = rw (pages home) none.pages };
  survived = λ number copy at young. seen copy ∙ are.survived number copy at young;
}

-- a memory is at rest still where an object that names none in a half is forgotten: it loses the bit, and its address is
-- taken off its list
pub rest-forgets : (old new : Memory) (placement : Placement) (world : World) (t index number address : ℕ) (bay : Bay)
    → IsAtRest old placement world → new.types ≡ old.types → new.layout ≡ old.layout
    → IsListed old.layout.mutators old.bay address t index → placement number ≡ Some address
    → ((place : ℕ) → ¬ NamesYoung old.layout placement world number place)
    → Stores old.word new.word address (with_remembered (old.word address) false) → ChangesBay old.bay new.bay t bay
    → bay ≡ record (old.bay t) { remembered = swap_remove (old.bay t).remembered index 0 } → IsBay bay
    → IsAtRest new placement world
rest-forgets old new placement world t index number address bay rest types layout listed placed none stores changes same is =
    let list = swap_remove (old.bay t).remembered index 0 in
    let half : Memory = record old { word = new.word } in
    let stored : Shows half placement world =
    shows-remembered old half placement world number address false rest.shown
    (record { types = refl; layout = refl; bays = λ u. refl }) stores placed in
    let dropped : IsRemembered new.word old.layout new.bay placement world nowhere =
    remembered-dropped old.word new.word old.layout old.bay new.bay placement world t index number address rest.remembered
    rest.shown.apart listed placed none stores (drops-bay old.layout.mutators old.bay new.bay t index bay listed.within changes same) in
    record {
      shown = shows-lists half new placement world t bay list stored
          (record { types = types; layout = layout; words = λ a. refl }) changes same is;
      remembered = subst (λ (each : Layout). IsRemembered new.word each new.bay placement world nowhere) (sym layout) dropped;
      no_grey = λ u there.
          ap (λ (each : Bay). each.grey) (but_list old.bay new.bay t bay list changes same u)
          ∙ rest.no_grey u (subst (λ (each : Layout). u < each.mutators) layout there);
    }

-- so what a minor collection did is a minor collection still
pub collection-forgets : (old mid new : Memory) (before after : Placement) (world : World) (t index number address : ℕ) (bay : Bay)
    → IsMinorCollection old mid before after world → new.types ≡ mid.types → new.layout ≡ mid.layout
    → IsListed mid.layout.mutators mid.bay address t index → after number ≡ Some address
    → ((place : ℕ) → ¬ NamesYoung mid.layout after world number place)
    → Stores mid.word new.word address (with_remembered (mid.word address) false) → ChangesBay mid.bay new.bay t bay
    → bay ≡ record (mid.bay t) { remembered = swap_remove (mid.bay t).remembered index 0 } → IsBay bay
    → IsMinorCollection old new before after world
collection-forgets old mid new before after world t index number address bay collection types layout listed placed none stores changes
    same is =
    let list = swap_remove (mid.bay t).remembered index 0 in
    let each : (u : ℕ) → new.bay u ≡ record (mid.bay u) { remembered = (new.bay u).remembered } =
    but_list mid.bay new.bay t bay list changes same in
    record {
      rest = rest-forgets mid new after world t index number address bay collection.rest types layout listed placed none stores
          changes same is;
      flipped = λ u there. ap (λ (one : Bay). one.half) (each u) ∙ collection.flipped u there;
      keeps = collection.keeps;
      cells_stay = λ u class offset there used.
          let stays = collection.cells_stay u class offset there used in
          let pages : (new.bay u).pages ≡ (mid.bay u).pages = ap (λ (one : Bay). one.pages) (each u) in
          rw pages stays;
      reached = collection.reached;
      sums = λ u there. omega (arith, ap (λ (one : Bay). one.used) (each u), collection.sums u there);
      promoted = promoted-frame old.layout old.word mid.word new.word mid.bay new.bay before after world.graph collection.promoted
          (seen-stored mid.word new.word address false stores) (λ u. ap (λ (one : Bay). one.pages) (each u));
    }

-- ---- the objects on the lists name some in halves

-- before the first entry of all there is none
pub tidy-begins : (layout : Layout) (bay : ℕ → Bay) (placement : Placement) (world : World)
    → AreTidyBefore layout bay placement world 0 0
tidy-begins layout bay placement world u place there within before =
    ⊎_elim (λ (less : u < 0). absurd (omega (arith, less))) (λ last. absurd (omega (arith, last.1))) before

-- an entry whose object names one in a half stays where it is
pub tidy-keeps : (layout : Layout) (bay : ℕ → Bay) (placement : Placement) (world : World) (t index : ℕ)
    → AreTidyBefore layout bay placement world t index
    → HoldsNameOfYoung layout placement world (slice_index (bay t).remembered index)
    → AreTidyBefore layout bay placement world t (index + 1)
tidy-keeps layout bay placement world t index tidy here u place there within before = elim before [
  | inl less ↦ tidy u place there within (inl less)
  | inr (same, below) ↦ elim (cases_eq place index) [
    | inl last ↦ rw (same, last) here
    | inr differs ↦ tidy u place there within (inr (same, omega (arith, below, differs)))
  ]
]

-- an entry whose object names none in a half is dropped, and the last one comes in its place
pub tidy-drops : (layout : Layout) (old new : ℕ → Bay) (placement : Placement) (world : World) (t index : ℕ)
    → AreTidyBefore layout old placement world t index → DropsFromList layout.mutators old new t index
    → AreTidyBefore layout new placement world t index
tidy-drops layout old new placement world t index tidy drops u place there within before =
    let Holds : List ℕ → Type 0 = λ list. HoldsNameOfYoung layout placement world (slice_index list place) in
    let HoldsAt : ℕ → Type 0 = λ a. HoldsNameOfYoung layout placement world a in
    elim (cases_eq u t) as (λ _. Holds (new u).remembered) [
      | inl same ↦
          let xs : List ℕ = (old t).remembered in
          let below : place < index =
          ⊎_elim (λ (less : u < t). absurd (omega (arith, less, same))) (λ (last : (u ≡ t) × (place < index)). last.1) before in
          let last : place < length xs - 1 = omega (arith, below, drops.within) in
          let was : HoldsAt (slice_index xs place) =
          tidy t place (subst (λ v. v < layout.mutators) same there) (omega (arith, last)) (inr (refl, below)) in
          let dropped : Holds (new t).remembered =
          subst Holds (sym drops.here)
          (subst HoldsAt (sym (swap_remove-elsewhere xs index place last (λ meet. omega (arith, below, meet)))) was) in
          subst (λ v. Holds (new v).remembered) (sym same) dropped
      | inr differs ↦
          let list : (new u).remembered ≡ (old u).remembered = drops.elsewhere u there differs in
          subst Holds (sym list) (tidy u place there (omega (arith, within, ap length list)) before)
    ]

-- at the end of a mutator's list the next one's begins
pub tidy-next : (layout : Layout) (bay : ℕ → Bay) (placement : Placement) (world : World) (t index : ℕ)
    → AreTidyBefore layout bay placement world t index → length (bay t).remembered ≤ index
    → AreTidyBefore layout bay placement world (t + 1) 0
tidy-next layout bay placement world t index tidy end u place there within before = elim before [
  | inl less ↦ elim (cases_eq u t) [
    | inl same ↦
        let own : length (bay u).remembered ≤ index = rw same end in
        tidy u place there within (inr (same, omega (arith, within, own)))
    | inr differs ↦ tidy u place there within (inl (omega (arith, less, differs)))
  ]
  | inr (same, below) ↦ absurd (omega (arith, below))
]

-- where each object on a list names one in a half, the remembered objects are those that do
pub only_young-listed : (memory : Memory) (placement : Placement) (world : World)
    → HaveBits memory.word memory.layout.mutators memory.bay placement → AreApart placement world.graph
    → ((t index : ℕ) → t < memory.layout.mutators → index < length (memory.bay t).remembered
    → HoldsNameOfYoung memory.layout placement world (slice_index (memory.bay t).remembered index))
    → OnlyYoungAreRemembered memory placement world
only_young-listed memory placement world bits apart each number address at has =
    let on = (bits.remembered number address at).0 has in
    let listed = on.listed in
    let holds : HoldsNameOfYoung memory.layout placement world address =
    subst (HoldsNameOfYoung memory.layout placement world) listed.at (each on.mutator on.index listed.mutator listed.within) in
    let own : holds.number ≡ number = apart address holds.number number
    (record { address = address; at = holds.at; from = omega arith; to = omega arith })
    (record { address = address; at = at; from = omega arith; to = omega arith }) in
    (holds.place, subst (λ n. NamesYoung memory.layout placement world n holds.place) own holds.names)

-- so behind the last list
pub tidy-ends : (memory : Memory) (placement : Placement) (world : World) (t index : ℕ)
    → HaveBits memory.word memory.layout.mutators memory.bay placement → AreApart placement world.graph
    → AreTidyBefore memory.layout memory.bay placement world t index → memory.layout.mutators ≤ t
    → OnlyYoungAreRemembered memory placement world
tidy-ends memory placement world t index bits apart tidy all =
    only_young-listed memory placement world bits apart
    (λ u place there within. tidy u place there within (inl (omega (arith, there, all))))
