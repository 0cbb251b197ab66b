-- What leaves a memory at rest where a slot comes to name something: where no barrier is needed, and behind the barrier.
use Rattle.std.proofs.Common.{◌≡◌, ◌∙◌, ◌⊎◌, ℕ, ◌<◌, ◌==◌, Bool, true, false, [], ◌∷◌, ◌++◌, length, Option, Some, inl, inr, refl, ap, arith, eq-eqb}
use Rattle.std.proofs.lemmas.Bool.{ne_eqb}
use Rattle.gc_bay.specs.Bay.{Bay, IsBay}
use Rattle.gc_layout.specs.Shape.{slot_address}
use Rattle.gc_model.specs.Graph.{object_at}
use Rattle.gc_model.specs.World.{World, with_slot}
use Rattle.gc_placement.specs.Changes.{AddsToList, ChangesBay, KeepsBays, Stores}
use Rattle.gc_placement.specs.Extents.{IsInAPage}
use Rattle.gc_placement.specs.Headers.{head_of, with_remembered}
use Rattle.gc_placement.specs.Memory.{Memory}
use Rattle.gc_placement.specs.Rest.{IsAtRest}
use Rattle.gc_placement.specs.Placement.{IsNamePlaced, Placement, name_address}
use Rattle.gc_placement.specs.Remembered.{IsRemembered, YoungAreRemembered}
use Rattle.gc_placement.specs.Shows.{Shows, nowhere}
use Rattle.gc_placement.proofs.Barrier.{adds-bay, remembered-already, remembered-set, shows-lists, shows-remembered}
use Rattle.gc_placement.proofs.Bays.{each-changed}
use Rattle.gc_placement.proofs.OldInPages.{headers-stored}
use Rattle.gc_placement.proofs.Remembered.{remembered-frame, young-pending, young-slot_old, young-slot_pending, young-slot_young}
use Rattle.gc_placement.proofs.Rest.{rest-made}
use Rattle.gc_placement.proofs.Shows.{shows-slot}

-- the name of a placed object, or nothing, whose address is this, goes into a slot of a placed object
pub record IsSlotPut (placement : Placement) (world : World) (number place address at v : ℕ) (name : Option ℕ) : Type 0 where
  pub placed : placement number ≡ Some address
  pub below : place < length (object_at world.graph number).slots
  pub at_is : at ≡ slot_address address place
  pub v_is : v ≡ name_address placement name
  pub named : IsNamePlaced placement name

-- the object lies in no page or is remembered already, or what is named lies in a page
abbrev pub NeedsNoBarrier : Memory → Placement → ℕ → Option ℕ → Type 0
NeedsNoBarrier memory placement address name =
    (¬ IsInAPage memory.layout address) ⊎ (((head_of (memory.word address)).remembered ≡ true)
    ⊎ ((named a : ℕ) → name ≡ Some named → placement named ≡ Some a → IsInAPage memory.layout a))

-- no header changes
pub put-headers : (old : Memory) (word : ℕ → ℕ) (placement : Placement) (world : World) (number place address at v : ℕ) (name : Option ℕ)
    → IsAtRest old placement world → IsSlotPut placement world number place address at v name → Stores old.word word at v
    → (each each_address : ℕ) → placement each ≡ Some each_address → word each_address ≡ old.word each_address
put-headers old word placement world number place address at v name rest put stores =
    headers-stored old.word word placement world.graph number address at v rest.shown.apart put.placed (omega (arith, put.at_is))
    (omega (arith, put.at_is, put.below)) stores

-- the remembered set before a slot names something else is the one after it, but for the object itself
put-pending : (old : Memory) (placement : Placement) (world : World) (number place address : ℕ) (name : Option ℕ)
    → IsAtRest old placement world → placement number ≡ Some address
    → IsRemembered old.word old.layout old.bay placement (with_slot world number place name) (λ a. a == address)
put-pending old placement world number place address name rest placed =
    let is = rest.remembered in
    let waits : YoungAreRemembered old.word old.layout placement world (λ a. a == address) =
    young-pending old.word old.layout placement world nowhere (λ a. a == address) is.young (λ a _. inl refl) in
    record {
      lists = is.lists;
      bits = is.bits;
      young = young-slot_pending old.word old.layout placement world (λ a. a == address) number place address name waits placed
          (eq-eqb address address refl);
    }

-- and where no barrier is needed it is the one after it
put-settled : (old : Memory) (placement : Placement) (world : World) (number place address : ℕ) (name : Option ℕ)
    → IsAtRest old placement world → placement number ≡ Some address → NeedsNoBarrier old placement address name
    → IsRemembered old.word old.layout old.bay placement (with_slot world number place name) nowhere
put-settled old placement world number place address name rest placed needs =
    let is = rest.remembered in
    let layout = old.layout in elim needs [
      | inl outside ↦ record {
        lists = is.lists;
        bits = is.bits;
        young = young-slot_young old.word layout placement world nowhere number place address name is.young placed outside;
      }
      | inr rest_of ↦ elim rest_of [
        | inl has ↦
            remembered-already old.word layout old.bay placement (with_slot world number place name) (λ a. a == address) address
            (put-pending old placement world number place address name rest placed) (λ a differs. ne_eqb a address differs) has
        | inr inside ↦ record {
          lists = is.lists;
          bits = is.bits;
          young = young-slot_old old.word layout placement world nowhere number place name is.young inside;
        }
      ]
    ]

-- a slot comes to name what is placed, where no barrier is needed
pub rest-slot : (old new : Memory) (placement : Placement) (world : World) (number place address at v : ℕ) (name : Option ℕ)
    → IsAtRest old placement world → KeepsBays old new → Stores old.word new.word at v
    → IsSlotPut placement world number place address at v name → NeedsNoBarrier old placement address name
    → IsAtRest new placement (with_slot world number place name)
rest-slot old new placement world number place address at v name rest keeps stores put needs =
    let after = with_slot world number place name in
    let lists : (t : ℕ) → (new.bay t).remembered ≡ (old.bay t).remembered = λ t.
    ap (λ (each : Bay). each.remembered) (keeps.bays t) in
    rest-made new old.layout placement after keeps.layout
    (shows-slot old new placement world number place address at v name rest.shown keeps stores put.placed put.below put.at_is put.v_is
    put.named)
    (remembered-frame old.word new.word old.layout old.bay new.bay placement after after nowhere
    (put-settled old placement world number place address name rest put.placed needs)
    (put-headers old new.word placement world number place address at v name rest put stores) (λ t _. lists t) (λ _ _ _. refl))
    (λ t below. ap (λ (each : Bay). each.grey) (keeps.bays t) ∙ rest.no_grey t below)

-- the barrier: a slot of an object in a page that isn't remembered comes to name what is placed, and then the object gets the
-- bit, and its address is put on a list
pub rest-barrier : (old new : Memory) (word : ℕ → ℕ) (placement : Placement) (world : World) (number place address at v t : ℕ)
    (name : Option ℕ) (bay : Bay) → IsAtRest old placement world → Stores old.word word at v
    → IsSlotPut placement world number place address at v name → IsInAPage old.layout address
    → (head_of (word address)).remembered ≡ false → t < old.layout.mutators → new.types ≡ old.types → new.layout ≡ old.layout
    → Stores word new.word address (with_remembered (word address) true) → ChangesBay old.bay new.bay t bay
    → bay ≡ record (old.bay t) { remembered = (old.bay t).remembered ++ address ∷ [] } → IsBay bay
    → IsAtRest new placement (with_slot world number place name)
rest-barrier old new word placement world number place address at v t name bay rest stores put page unset there types layout again
    changes bay_is is =
    let after = with_slot world number place name in
    let mid : Memory = record old { word = word } in
    let half : Memory = record old { word = new.word } in
    let pending : ℕ → Bool = λ a. a == address in
    let shown_mid : Shows mid placement after =
    shows-slot old mid placement world number place address at v name rest.shown
    (record { types = refl; layout = refl; bays = λ u. refl }) stores put.placed put.below put.at_is put.v_is put.named in
    let shown_half : Shows half placement after =
    shows-remembered mid half placement after number address true shown_mid (record { types = refl; layout = refl; bays = λ u. refl })
    again put.placed in
    let waits : IsRemembered word old.layout old.bay placement after pending =
    remembered-frame old.word word old.layout old.bay old.bay placement after after pending
    (put-pending old placement world number place address name rest put.placed)
    (put-headers old word placement world number place address at v name rest put stores) (λ u _. refl) (λ _ _ _. refl) in
    let adds : AddsToList old.layout.mutators old.bay new.bay t address =
    adds-bay old.layout.mutators old.bay new.bay t address bay there changes bay_is in
    let greys : (u : ℕ) → (new.bay u).grey ≡ (old.bay u).grey =
    each-changed (λ u (each : Bay). each.grey ≡ (old.bay u).grey) old.bay new.bay t bay changes
    (ap (λ (each : Bay). each.grey) bay_is) (λ u _. refl) in
    rest-made new old.layout placement after layout
    (shows-lists half new placement after t bay ((old.bay t).remembered ++ address ∷ []) shown_half
    (record { types = types; layout = layout; words = λ a. refl }) changes bay_is is)
    (remembered-set word new.word old.layout old.bay new.bay placement after pending t number address waits
    (λ a differs. ne_eqb a address differs) put.placed page unset again adds)
    (λ u below. greys u ∙ rest.no_grey u below)
