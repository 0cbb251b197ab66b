-- The steps of the remembered set: the bit of a header, an address put on a list, and one taken off its list.
use Rattle.std.proofs.Common.{◌≡◌, ◌≢◌, ◌∙◌, ◌⊎◌, ◌↔◌, ℕ, ◌+◌, ◌-◌, ◌<◌, Bool, true, false, List, [], ◌∷◌, ◌++◌, length, Some, inl, inr, refl, ap, sym, subst, arith, slice_index, slice_set}
use Rattle.std.proofs.lemmas.Bool.{cases_eq, false≢true}
use Rattle.std.proofs.lemmas.List.{get_or-set_other, get_or-set_same, get_or-take, get_or_append_left, get_or_push, length-set, length-take-le, length_push}
use Rattle.std.specs.List.{swap_remove}
use Rattle.gc_bay.specs.Bay.{Bay, IsBay}
use Rattle.gc_layout.specs.declared.head.Head.{Head}
use Rattle.gc_layout.specs.Head.{head_word}
use Rattle.gc_layout.specs.Places.{Layout}
use Rattle.gc_layout.specs.Shape.{slot_address}
use Rattle.gc_model.specs.Graph.{Graph, Object, object_at}
use Rattle.gc_model.specs.World.{World}
use Rattle.gc_placement.specs.Changes.{AddsToList, ChangesBay, DropsFromList, HasSameExtents, KeepsBays, KeepsWords, Stores}
use Rattle.gc_placement.specs.Extents.{AreApart, AreOldInPages, IsInAPage}
use Rattle.gc_placement.specs.Headers.{IsHeader, head_of, with_remembered}
use Rattle.gc_placement.specs.Memory.{Memory}
use Rattle.gc_placement.specs.Objects.{AllStand, Naming, StandsAt}
use Rattle.gc_placement.specs.Placement.{Placement}
use Rattle.gc_placement.specs.Remembered.{AreLists, HaveBits, IsListed, IsOnAList, IsRemembered, NamesYoung}
use Rattle.gc_placement.specs.Shows.{Shows, nowhere}
use Rattle.gc_placement.proofs.Bays.{are_bays-same}
use Rattle.gc_placement.proofs.Extents.{all_lie-same, cells-same}
use Rattle.gc_placement.proofs.Headers.{head_of-head_word}
use Rattle.gc_placement.proofs.Objects.{stands-frame}
use Rattle.gc_placement.proofs.Registers.{have_registers-same}
use Rattle.gc_placement.proofs.Remembered.{young-pending}
use Rattle.gc_placement.proofs.Shows.{in_place, shows-bay}

-- ---- the bit of a header

-- the bit is read back, and all else as it was
pub head_of-with_remembered : (word : ℕ) (on : Bool) → head_of (with_remembered word on) ≡ record (head_of word) { remembered = on }
head_of-with_remembered word on = head_of-head_word (record (head_of word) { remembered = on }) (omega arith)

-- and the word is a header's of the type that it had
pub IsHeader-with_remembered : (word ty : ℕ) (on : Bool) → IsHeader word ty → IsHeader (with_remembered word on) ty
IsHeader-with_remembered word ty on header =
    let read = head_of-with_remembered word on in
    record { header = ap head_word read; type_is = ap (λ (head : Head). head.ty.0) read ∙ header.type_is }

-- a header where the bit is stored says what is stored
pub stored-head : (word other : ℕ → ℕ) (address : ℕ) (on : Bool) → Stores word other address (with_remembered (word address) on)
    → head_of (other address) ≡ record (head_of (word address)) { remembered = on }
stored-head word other address on stores = ap head_of stores.here ∙ head_of-with_remembered (word address) on

-- an object stands where the bit of its header changes
stands-remembered : (word other : ℕ → ℕ) (address : ℕ) (naming : Naming) (number : ℕ) (object : Object) (on : Bool)
    → StandsAt word address naming number object → Stores word other address (with_remembered (word address) on)
    → StandsAt other address naming number object
stands-remembered word other address naming number object on stands stores = record {
  header = subst (λ (w : ℕ). IsHeader w object.ty) (sym stores.here)
      (IsHeader-with_remembered (word address) object.ty on stands.header);
  forwarding = stores.elsewhere (address + 1) (λ meet. omega (arith, meet)) ∙ stands.forwarding;
  slots = λ place below.
      stores.elsewhere (slot_address address place) (λ meet. omega (arith, meet)) ∙ stands.slots place below;
  numbers = λ place below.
      stores.elsewhere (address + 2 + length object.slots + place) (λ meet. omega (arith, meet)) ∙ stands.numbers place below;
}

-- and so do all
pub all_stand-remembered : (word other : ℕ → ℕ) (placement : Placement) (naming : Naming) (graph : Graph) (number address : ℕ)
    (on : Bool) → AllStand word placement naming graph → AreApart placement graph → placement number ≡ Some address
    → Stores word other address (with_remembered (word address) on) → AllStand other placement naming graph
all_stand-remembered word other placement naming graph number address on standing apart placed stores each each_address each_at =
    elim (cases_eq each_address address) as (λ _. StandsAt other each_address naming each (object_at graph each)) [
      | inl same ↦
          let moved : placement each ≡ Some address = each_at ∙ ap Some same in
          subst (λ a. StandsAt other a naming each (object_at graph each)) (sym same)
          (stands-remembered word other address naming each (object_at graph each) on (standing each address moved) stores)
      | inr differs ↦
          stands-frame word other each_address naming each (object_at graph each) (standing each each_address each_at)
          (λ a first last. stores.elsewhere a (λ meet.
          let own : each ≡ number = apart a each number
          (record { address = each_address; at = each_at; from = first; to = last })
          (record { address = address; at = placed; from = omega (arith, meet); to = omega (arith, meet) }) in
          let one : Some each_address ≡ Some address = sym each_at ∙ ap placement own ∙ placed in
          differs (cc one)))
    ]

-- and each is as old as it was
pub old-remembered : (word other : ℕ → ℕ) (layout : Layout) (placement : Placement) (address : ℕ) (on : Bool)
    → AreOldInPages word layout placement → Stores word other address (with_remembered (word address) on)
    → AreOldInPages other layout placement
old-remembered word other layout placement address on are stores number each_address at =
    let Agrees : ℕ → Bool → Type 0 = λ a old. (old ≡ true) ↔ IsInAPage layout a in
    elim (cases_eq each_address address) as (λ _. Agrees each_address (head_of (other each_address)).old) [
      | inl same ↦
          let read : (head_of (other address)).old ≡ (head_of (word address)).old =
          ap (λ (head : Head). head.old) (stored-head word other address on stores) in
          subst (λ a. Agrees a (head_of (other a)).old) (sym same)
          (subst (Agrees address) (sym read) (are number address (at ∙ ap Some same)))
      | inr differs ↦
          subst (λ (w : ℕ). Agrees each_address (head_of w).old) (sym (stores.elsewhere each_address differs))
          (are number each_address at)
    ]

-- the bit of a placed object's header changes: the memory shows the same world
pub shows-remembered : (old new : Memory) (placement : Placement) (world : World) (number address : ℕ) (on : Bool)
    → Shows old placement world → KeepsBays old new → Stores old.word new.word address (with_remembered (old.word address) on)
    → placement number ≡ Some address → Shows new placement world
shows-remembered old new placement world number address on shown keeps stores placed =
    in_place new old.types old.layout placement world keeps.types keeps.layout (record {
      are_types = shown.are_types;
      bays = are_bays-same old.layout old.bay new.bay shown.bays keeps.bays;
      mutators = shown.mutators;
      standing = all_stand-remembered old.word new.word placement _ world.graph number address on shown.standing shown.apart placed
          stores;
      old = old-remembered old.word new.word old.layout placement address on shown.old stores;
      lying = all_lie-same old.layout.mutators old.bay new.bay placement world.graph keeps.bays shown.lying;
      common = shown.common;
      apart = shown.apart;
      cells = cells-same old.layout.mutators old.bay new.bay placement nowhere keeps.bays shown.cells;
      registers = have_registers-same old.layout.mutators old.bay new.bay placement world shown.registers keeps.bays;
      covers = shown.covers;
    })

-- ---- a remembered list changes

-- a bay's extents are as before where its remembered list alone changes
pub same-lists : (old bay : Bay) (list : List ℕ) → IsBay bay → bay ≡ record old { remembered = list } → HasSameExtents old bay
same-lists old bay list is same = record {
  owner = record { bay = is; layout = ap (λ (each : Bay). each.layout) same; mutator = ap (λ (each : Bay). each.mutator) same };
  half = ap (λ (each : Bay). each.half) same;
  used = ap (λ (each : Bay). each.used) same;
  pages = ap (λ (each : Bay). each.pages) same;
}

-- so the memory shows the same world
pub shows-lists : (old new : Memory) (placement : Placement) (world : World) (t : ℕ) (bay : Bay) (list : List ℕ)
    → Shows old placement world → KeepsWords old new → ChangesBay old.bay new.bay t bay
    → bay ≡ record (old.bay t) { remembered = list } → IsBay bay → Shows new placement world
shows-lists old new placement world t bay list shown keeps changes same is =
    shows-bay old new placement world t bay shown keeps changes (same-lists (old.bay t) bay list is same)
    (ap (λ (each : Bay). each.registers) same)

-- a bay that has one more address on its list adds it to the lists
pub adds-bay : (mutators : ℕ) (old new : ℕ → Bay) (t address : ℕ) (bay : Bay) → t < mutators → ChangesBay old new t bay
    → bay ≡ record (old t) { remembered = (old t).remembered ++ address ∷ [] } → AddsToList mutators old new t address
adds-bay mutators old new t address bay there changes same = record {
  mutator = there;
  here = ap (λ (each : Bay). each.remembered) (changes.here ∙ same);
  elsewhere = λ u _ differs. ap (λ (each : Bay). each.remembered) (changes.elsewhere u differs);
}

-- and one that has an address fewer drops it from them
pub drops-bay : (mutators : ℕ) (old new : ℕ → Bay) (t index : ℕ) (bay : Bay) → index < length (old t).remembered
    → ChangesBay old new t bay → bay ≡ record (old t) { remembered = swap_remove (old t).remembered index 0 }
    → DropsFromList mutators old new t index
drops-bay mutators old new t index bay within changes same = record {
  within = within;
  here = ap (λ (each : Bay). each.remembered) (changes.here ∙ same);
  elsewhere = λ u _ differs. ap (λ (each : Bay). each.remembered) (changes.elsewhere u differs);
}

-- what stands on a list that is as before stands there still
listed-same : (mutators : ℕ) (old new : ℕ → Bay) (address u index : ℕ) → (new u).remembered ≡ (old u).remembered
    → IsListed mutators old address u index → IsListed mutators new address u index
listed-same mutators old new address u index same listed = record {
  mutator = listed.mutator;
  within = omega (arith, listed.within, ap length same);
  at = ap (λ (xs : List ℕ). slice_index xs index) same ∙ listed.at;
}

-- ---- the barrier: an address is put on a list

-- where an address is added, what was listed stands where it stood
listed-kept : (mutators : ℕ) (old new : ℕ → Bay) (t added address u index : ℕ) → AddsToList mutators old new t added
    → IsListed mutators old address u index → IsListed mutators new address u index
listed-kept mutators old new t added address u index adds listed = elim (cases_eq u t) [
  | inl same ↦
      let list : (new u).remembered ≡ (old u).remembered ++ added ∷ [] =
      subst (λ v. (new v).remembered ≡ (old v).remembered ++ added ∷ []) (sym same) adds.here in
      record {
        mutator = listed.mutator;
        within = omega (arith, ap length list, length_push (old u).remembered added, listed.within);
        at = ap (λ (xs : List ℕ). slice_index xs index) list
            ∙ get_or_append_left (old u).remembered (added ∷ []) 0 index listed.within
            ∙ listed.at;
      }
  | inr differs ↦ listed-same mutators old new address u index (adds.elsewhere u listed.mutator differs) listed
]

-- and it stands at the end of its list
listed-added : (mutators : ℕ) (old new : ℕ → Bay) (t added : ℕ) → AddsToList mutators old new t added
    → IsListed mutators new added t (length (old t).remembered)
listed-added mutators old new t added adds = record {
  mutator = adds.mutator;
  within = omega (arith, ap length adds.here, length_push (old t).remembered added);
  at = ap (λ (xs : List ℕ). slice_index xs (length (old t).remembered)) adds.here
      ∙ get_or_push (old t).remembered added 0 (length (old t).remembered) refl;
}

-- the address is the added one, at the end of its list
record IsAdded (old : ℕ → Bay) (t added address u index : ℕ) : Type 0 where
  mutator_is : u ≡ t
  index_is : index ≡ length (old t).remembered
  address_is : address ≡ added

-- what is listed was listed there, or it is the added one
listed-from : (mutators : ℕ) (old new : ℕ → Bay) (t added address u index : ℕ) → AddsToList mutators old new t added
    → IsListed mutators new address u index → IsListed mutators old address u index ⊎ IsAdded old t added address u index
listed-from mutators old new t added address u index adds listed = elim (cases_eq u t) [
  | inl same ↦
      let list : (new u).remembered ≡ (old u).remembered ++ added ∷ [] =
      subst (λ v. (new v).remembered ≡ (old v).remembered ++ added ∷ []) (sym same) adds.here in
      let read : slice_index ((old u).remembered ++ added ∷ []) index ≡ address =
      ap (λ (xs : List ℕ). slice_index xs index) (sym list) ∙ listed.at in
      let within : index < length (old u).remembered + 1 =
      omega (arith, ap length list, length_push (old u).remembered added, listed.within) in
      elim (cases_eq index (length (old u).remembered)) [
        | inl last ↦ inr (record {
          mutator_is = same;
          index_is = last ∙ ap (λ v. length (old v).remembered) same;
          address_is = sym read ∙ get_or_push (old u).remembered added 0 index (sym last);
        })
        | inr before ↦
            let below : index < length (old u).remembered = omega (arith, within, before) in
            inl (record {
              mutator = listed.mutator;
              within = below;
              at = sym (get_or_append_left (old u).remembered (added ∷ []) 0 index below) ∙ read;
            })
      ]
  | inr differs ↦ inl (listed-same mutators new old address u index (sym (adds.elsewhere u listed.mutator differs)) listed)
]

-- what was on a list is on one
on_a_list-kept : (mutators : ℕ) (old new : ℕ → Bay) (t added address : ℕ) → AddsToList mutators old new t added
    → IsOnAList mutators old address → IsOnAList mutators new address
on_a_list-kept mutators old new t added address adds on = record {
  mutator = on.mutator;
  index = on.index;
  listed = listed-kept mutators old new t added address on.mutator on.index adds on.listed;
}

-- and what is on a list was on one, or it is the added one
on_a_list-from : (mutators : ℕ) (old new : ℕ → Bay) (t added address : ℕ) → AddsToList mutators old new t added
    → IsOnAList mutators new address → IsOnAList mutators old address ⊎ (address ≡ added)
on_a_list-from mutators old new t added address adds on =
    elim (listed-from mutators old new t added address on.mutator on.index adds on.listed) [
      | inl before ↦ inl (record { mutator = on.mutator; index = on.index; listed = before })
      | inr now ↦ inr now.address_is
    ]

-- the lists are lists where a placed object in a page is added that was on none
pub lists-added : (layout : Layout) (mutators : ℕ) (old new : ℕ → Bay) (placement : Placement) (t number address : ℕ)
    → AreLists layout mutators old placement → AddsToList mutators old new t address → placement number ≡ Some address
    → IsInAPage layout address → ¬ IsOnAList mutators old address → AreLists layout mutators new placement
lists-added layout mutators old new placement t number address are adds placed page absent =
    let clash : (a u i : ℕ) → IsListed mutators old a u i → a ≡ address → ⊥ = λ a u i listed same.
    absent (record { mutator = u; index = i; listed = subst (λ b. IsListed mutators old b u i) same listed }) in
    record {
      placed = λ a on. elim (on_a_list-from mutators old new t address a adds on) [
        | inl before ↦ are.placed a before
        | inr same ↦ record { number = number; at = placed ∙ ap Some (sym same) }
      ];
      old = λ a on. elim (on_a_list-from mutators old new t address a adds on) [
        | inl before ↦ are.old a before
        | inr same ↦ subst (IsInAPage layout) (sym same) page
      ];
      once = λ a u v i j one other. elim (listed-from mutators old new t address a u i adds one) [
        | inl one_old ↦ elim (listed-from mutators old new t address a v j adds other) [
          | inl other_old ↦ are.once a u v i j one_old other_old
          | inr other_new ↦ absurd (clash a u i one_old other_new.address_is)
        ]
        | inr one_new ↦ elim (listed-from mutators old new t address a v j adds other) [
          | inl other_old ↦ absurd (clash a v j other_old one_new.address_is)
          | inr other_new ↦ (one_new.mutator_is ∙ sym other_new.mutator_is, one_new.index_is ∙ sym other_new.index_is)
        ]
      ];
    }

-- the bits are exact where one is stored as its address is listed now, and other addresses are listed as before
bits-stored : (word other : ℕ → ℕ) (mutators : ℕ) (old new : ℕ → Bay) (placement : Placement) (address : ℕ) (on : Bool)
    → HaveBits word mutators old placement → Stores word other address (with_remembered (word address) on)
    → (on ≡ true) ↔ IsOnAList mutators new address
    → ((a : ℕ) → a ≢ address → IsOnAList mutators old a ↔ IsOnAList mutators new a) → HaveBits other mutators new placement
bits-stored word other mutators old new placement address on have stores here others =
    let read : (head_of (other address)).remembered ≡ on =
    ap (λ (head : Head). head.remembered) (stored-head word other address on stores) in
    record {
      remembered = λ number a at.
          let Agrees : ℕ → Bool → Type 0 = λ b is. (is ≡ true) ↔ IsOnAList mutators new b in
          elim (cases_eq a address) as (λ _. Agrees a (head_of (other a)).remembered) [
            | inl same ↦
                subst (λ b. Agrees b (head_of (other b)).remembered) (sym same) (subst (Agrees address) (sym read) here)
            | inr differs ↦
                let header = ap (λ (w : ℕ). (head_of w).remembered) (stores.elsewhere a differs) in
                let bit = have.remembered number a at in (
                  λ is. (others a differs).0 (bit.0 (sym header ∙ is)),
                  λ listed. header ∙ bit.1 ((others a differs).1 listed),
                )
          ];
      marked = λ number a at. elim (cases_eq a address) as (λ _. (head_of (other a)).marked ≡ false) [
        | inl same ↦
            ap (λ b. (head_of (other b)).marked) same
            ∙ ap (λ (head : Head). head.marked) (stored-head word other address on stores)
            ∙ have.marked number address (at ∙ ap Some same)
        | inr differs ↦ ap (λ (w : ℕ). (head_of w).marked) (stores.elsewhere a differs) ∙ have.marked number a at
      ];
    }

-- the barrier: an object in a page that may name one in a half gets the bit, and its address is put on a list
pub remembered-set : (word other : ℕ → ℕ) (layout : Layout) (old new : ℕ → Bay) (placement : Placement) (world : World)
    (pending : ℕ → Bool) (t number address : ℕ) → IsRemembered word layout old placement world pending
    → ((a : ℕ) → a ≢ address → pending a ≡ false) → placement number ≡ Some address → IsInAPage layout address
    → (head_of (word address)).remembered ≡ false → Stores word other address (with_remembered (word address) true)
    → AddsToList layout.mutators old new t address → IsRemembered other layout new placement world nowhere
remembered-set word other layout old new placement world pending t number address is settled placed page unset stores adds =
    let mutators = layout.mutators in
    let absent : ¬ IsOnAList mutators old address =
    λ on. false≢true (sym unset ∙ (is.bits.remembered number address placed).1 on) in
    record {
      lists = lists-added layout mutators old new placement t number address is.lists adds placed page absent;
      bits = bits-stored word other mutators old new placement address true is.bits stores (
        λ _. record {
          mutator = t;
          index = length (old t).remembered;
          listed = listed-added mutators old new t address adds;
        },
        λ _. refl,
      )
          (λ a differs. (
            on_a_list-kept mutators old new t address a adds,
            λ on. elim (on_a_list-from mutators old new t address a adds on) [
              | inl before ↦ before
              | inr same ↦ absurd (differs same)
            ],
          ));
      young = λ each place names _.
          elim (cases_eq names.address address) as (λ _. (head_of (other names.address)).remembered ≡ true) [
            | inl same ↦
                ap (λ a. (head_of (other a)).remembered) same
                ∙ ap (λ (head : Head). head.remembered) (stored-head word other address true stores)
            | inr differs ↦
                ap (λ (w : ℕ). (head_of w).remembered) (stores.elsewhere names.address differs)
                ∙ is.young each place names (settled names.address differs)
          ];
    }

-- where the object has the bit already nothing is to be done
pub remembered-already : (word : ℕ → ℕ) (layout : Layout) (bay : ℕ → Bay) (placement : Placement) (world : World)
    (pending : ℕ → Bool) (address : ℕ) → IsRemembered word layout bay placement world pending
    → ((a : ℕ) → a ≢ address → pending a ≡ false) → (head_of (word address)).remembered ≡ true
    → IsRemembered word layout bay placement world nowhere
remembered-already word layout bay placement world pending address is settled has = record {
  lists = is.lists;
  bits = is.bits;
  young = young-pending word layout placement world pending nowhere is.young (λ a _. elim (cases_eq a address) [
    | inl same ↦ inr (ap (λ b. (head_of (word b)).remembered) same ∙ has)
    | inr differs ↦ inl (settled a differs)
  ]);
}

-- ---- tidying: an address is taken off its list

-- a list from which an entry is taken off is one shorter
swap_remove-length : (xs : List ℕ) (index : ℕ) → length (swap_remove xs index 0) ≡ length xs - 1
swap_remove-length xs index =
    let last = slice_index xs (length xs - 1) in
    length-take-le (length xs - 1) (slice_set xs index last) (omega (arith, length-set xs index last))

-- the last entry comes in its place
swap_remove-here : (xs : List ℕ) (index : ℕ) → index < length xs - 1
    → slice_index (swap_remove xs index 0) index ≡ slice_index xs (length xs - 1)
swap_remove-here xs index below =
    let last = slice_index xs (length xs - 1) in
    get_or-take (length xs - 1) (slice_set xs index last) index 0 below
    ∙ get_or-set_same xs index last 0 (omega (arith, below))

-- and the others before the last stand where they stood
pub swap_remove-elsewhere : (xs : List ℕ) (index place : ℕ) → place < length xs - 1 → place ≢ index
    → slice_index (swap_remove xs index 0) place ≡ slice_index xs place
swap_remove-elsewhere xs index place below differs =
    let last = slice_index xs (length xs - 1) in
    get_or-take (length xs - 1) (slice_set xs index last) place 0 below ∙ get_or-set_other xs index place last 0 differs

-- what is at a place now came from the end, or it was there
abbrev CameFrom : ℕ → ℕ → ℕ → ℕ → Type 0
CameFrom index last place was = ((place ≡ index) × (was ≡ last)) ⊎ ((place ≢ index) × (was ≡ place))

-- the address was listed by the same mutator, and either came from the end to the place of the dropped one or stayed
record WasListed (mutators : ℕ) (old : ℕ → Bay) (t index address u place : ℕ) : Type 0 where
  was : ℕ
  listed : IsListed mutators old address u was
  moved : u ≡ t → (place < length (old t).remembered - 1) × CameFrom index (length (old t).remembered - 1) place was
  stayed : u ≢ t → was ≡ place

-- what is listed was listed
listed-before : (mutators : ℕ) (old new : ℕ → Bay) (t index address u place : ℕ) → DropsFromList mutators old new t index
    → IsListed mutators new address u place → WasListed mutators old t index address u place
listed-before mutators old new t index address u place drops listed = elim (cases_eq u t) [
  | inl same ↦
      let xs : List ℕ = (old t).remembered in
      let list : (new u).remembered ≡ swap_remove xs index 0 = ap (λ v. (new v).remembered) same ∙ drops.here in
      let below : place < length xs - 1 = omega (arith, listed.within, ap length list, swap_remove-length xs index) in
      let read : slice_index (swap_remove xs index 0) place ≡ address =
      ap (λ (ys : List ℕ). slice_index ys place) (sym list) ∙ listed.at in
      let there : t < mutators = subst (λ v. v < mutators) same listed.mutator in
      let before : (was : ℕ) → was < length xs → slice_index xs was ≡ address → IsListed mutators old address u was =
      λ was within at.
      subst (λ v. IsListed mutators old address v was) (sym same) (record { mutator = there; within = within; at = at }) in
      elim (cases_eq place index) [
        | inl here ↦ record {
          was = length xs - 1;
          listed = before (length xs - 1) (omega (arith, below))
              (sym (swap_remove-here xs index (omega (arith, below, here)))
              ∙ ap (slice_index (swap_remove xs index 0)) (sym here)
              ∙ read);
          moved = λ _. (below, inl (here, refl));
          stayed = λ other. absurd (other same);
        }
        | inr elsewhere ↦ record {
          was = place;
          listed = before place (omega (arith, below)) (sym (swap_remove-elsewhere xs index place below elsewhere) ∙ read);
          moved = λ _. (below, inr (elsewhere, refl));
          stayed = λ other. absurd (other same);
        }
      ]
  | inr differs ↦ record {
    was = place;
    listed = listed-same mutators new old address u place (sym (drops.elsewhere u listed.mutator differs)) listed;
    moved = λ same. absurd (differs same);
    stayed = λ _. refl;
  }
]

-- what was listed at another place is on a list still
on_a_list-left : (mutators : ℕ) (old new : ℕ → Bay) (t index address u was : ℕ) → DropsFromList mutators old new t index
    → IsListed mutators old address u was → (u ≡ t → was ≢ index) → IsOnAList mutators new address
on_a_list-left mutators old new t index address u was drops listed other = elim (cases_eq u t) [
  | inl same ↦
      let xs : List ℕ = (old t).remembered in
      let there : t < mutators = subst (λ v. v < mutators) same listed.mutator in
      let before : IsListed mutators old address t was = subst (λ v. IsListed mutators old address v was) same listed in
      let apart : was ≢ index = other same in
      let now : (place : ℕ) → place < length xs - 1 → slice_index (swap_remove xs index 0) place ≡ address
      → IsOnAList mutators new address = λ place below at.
      record {
        mutator = t;
        index = place;
        listed = record {
          mutator = there;
          within = omega (arith, below, ap length drops.here, swap_remove-length xs index);
          at = ap (λ (ys : List ℕ). slice_index ys place) drops.here ∙ at;
        };
      } in
      elim (cases_eq was (length xs - 1)) [
        | inl last ↦
            let below : index < length xs - 1 = omega (arith, drops.within, apart, last) in
            now index below (swap_remove-here xs index below ∙ ap (slice_index xs) (sym last) ∙ before.at)
        | inr inner ↦
            let below : was < length xs - 1 = omega (arith, before.within, inner) in
            now was below (swap_remove-elsewhere xs index was below apart ∙ before.at)
      ]
  | inr differs ↦ record {
    mutator = u;
    index = was;
    listed = listed-same mutators old new address u was (drops.elsewhere u listed.mutator differs) listed;
  }
]

-- two that came from one place are at one place
came_from-one : (index last i j was : ℕ) → i < last → j < last → CameFrom index last i was → CameFrom index last j was → i ≡ j
came_from-one index last i j was i_below j_below one other = elim one [
  | inl (i_here, i_was) ↦ elim other [
    | inl (j_here, j_was) ↦ i_here ∙ sym j_here
    | inr (j_there, j_was) ↦ absurd (omega (arith, i_was, j_was, j_below))
  ]
  | inr (i_there, i_was) ↦ elim other [
    | inl (j_here, j_was) ↦ absurd (omega (arith, i_was, j_was, i_below))
    | inr (j_there, j_was) ↦ sym i_was ∙ j_was
  ]
]

-- the dropped address is on no list
dropped-absent : (layout : Layout) (mutators : ℕ) (old new : ℕ → Bay) (placement : Placement) (t index address : ℕ)
    → AreLists layout mutators old placement → IsListed mutators old address t index → DropsFromList mutators old new t index
    → ¬ IsOnAList mutators new address
dropped-absent layout mutators old new placement t index address are listed drops on =
    let before = listed-before mutators old new t index address on.mutator on.index drops on.listed in
    let one = are.once address on.mutator t before.was index before.listed listed in
    let moved = before.moved one.0 in
    elim moved.1 [
      | inl (here, was) ↦ omega (arith, moved.0, here, was, one.1)
      | inr (there, was) ↦ there (sym was ∙ one.1)
    ]

-- the lists are lists where an address is dropped
pub lists-dropped : (layout : Layout) (mutators : ℕ) (old new : ℕ → Bay) (placement : Placement) (t index : ℕ)
    → AreLists layout mutators old placement → DropsFromList mutators old new t index → AreLists layout mutators new placement
lists-dropped layout mutators old new placement t index are drops =
    let before : (a u i : ℕ) → IsListed mutators new a u i → WasListed mutators old t index a u i =
    λ a u i listed. listed-before mutators old new t index a u i drops listed in
    let on_before : (a : ℕ) → IsOnAList mutators new a → IsOnAList mutators old a = λ a on.
    let was = before a on.mutator on.index on.listed in
    record { mutator = on.mutator; index = was.was; listed = was.listed } in
    record {
      placed = λ a on. are.placed a (on_before a on);
      old = λ a on. are.old a (on_before a on);
      once = λ a u v i j one other.
          let one_was = before a u i one in
          let other_was = before a v j other in
          let same = are.once a u v one_was.was other_was.was one_was.listed other_was.listed in
          elim (cases_eq u t) [
            | inl here ↦
                let one_moved = one_was.moved here in
                let other_moved = other_was.moved (sym same.0 ∙ here) in
                let last : ℕ = length (old t).remembered - 1 in (
                  same.0,
                  came_from-one index last i j other_was.was one_moved.0 other_moved.0
                      (subst (CameFrom index last i) same.1 one_moved.1) other_moved.1,
                )
            | inr differs ↦ (
              same.0,
              sym (one_was.stayed differs) ∙ same.1 ∙ other_was.stayed (λ here. differs (same.0 ∙ here)),
            )
          ];
    }

-- tidying: an object that names none in a half loses the bit, and its address is taken off its list
pub remembered-dropped : (word other : ℕ → ℕ) (layout : Layout) (old new : ℕ → Bay) (placement : Placement) (world : World)
    (t index number address : ℕ) → IsRemembered word layout old placement world nowhere → AreApart placement world.graph
    → IsListed layout.mutators old address t index → placement number ≡ Some address
    → ((place : ℕ) → ¬ NamesYoung layout placement world number place)
    → Stores word other address (with_remembered (word address) false) → DropsFromList layout.mutators old new t index
    → IsRemembered other layout new placement world nowhere
remembered-dropped word other layout old new placement world t index number address is apart listed placed none stores drops =
    let mutators = layout.mutators in
    let absent = dropped-absent layout mutators old new placement t index address is.lists listed drops in
    record {
      lists = lists-dropped layout mutators old new placement t index is.lists drops;
      bits = bits-stored word other mutators old new placement address false is.bits stores
          (λ wrong. absurd (false≢true wrong), λ on. absurd (absent on))
          (λ a differs. (
            λ on. on_a_list-left mutators old new t index a on.mutator on.index drops on.listed
                (λ same was. differs (
                sym on.listed.at
                ∙ ap (λ u. slice_index (old u).remembered on.index) same
                ∙ ap (slice_index (old t).remembered) was
                ∙ listed.at)),
            λ on.
                let before = listed-before mutators old new t index a on.mutator on.index drops on.listed in
                record { mutator = on.mutator; index = before.was; listed = before.listed },
          ));
      young = λ each place names settled.
          elim (cases_eq names.address address) as (λ _. (head_of (other names.address)).remembered ≡ true) [
            | inl same ↦
                let own : each ≡ number = apart address each number
                (record { address = names.address; at = names.at; from = omega (arith, same); to = omega (arith, same) })
                (record { address = address; at = placed; from = omega arith; to = omega arith }) in
                absurd (none place (subst (λ n. NamesYoung layout placement world n place) own names))
            | inr differs ↦
                ap (λ (w : ℕ). (head_of w).remembered) (stores.elsewhere names.address differs)
                ∙ is.young each place names settled
          ];
    }
