-- Steps of a minor collection that change a register, or take an address off a grey list.
use Rattle.std.proofs.Common.{◌≡◌, ◌≢◌, ◌∙◌, ◌⊎◌, inl, inr, ℕ, ◌<◌, Bool, true, List, [], ◌∷◌, ◌++◌, length, Some, refl, sym, ap, subst, arith, slice_index, slice_set}
use Rattle.std.proofs.lemmas.Bool.{cases_eq, cases_lt, eq-eqb, ne_eqb}
use Rattle.std.proofs.lemmas.List.{get_or-set_other, get_or-set_same, get_or_append_left, get_or_push, length_push}
use Rattle.gc_bay.specs.Bay.{Bay, IsBay}
use Rattle.gc_model.specs.Graph.{Graph, object_at}
use Rattle.gc_model.specs.World.{World, named_by}
use Rattle.gc_model.specs.declared.entry.RunKind.{RunKind}
use Rattle.gc_placement.specs.Changes.{ChangesBay, HasSameExtents}
use Rattle.gc_placement.specs.Extents.{AreApart}
use Rattle.gc_placement.specs.Flipped.{BeginsWith}
use Rattle.gc_placement.specs.Holders.{AreGrey, CoversDone, Done, GreyOrWaiting, HaveMovingRegisters, IsGrey, IsGreyAt, IsKeptOf, with_register_done}
use Rattle.gc_placement.specs.Memory.{Memory}
use Rattle.gc_placement.specs.UnderWay.{IsCollectionUnderWay}
use Rattle.gc_placement.specs.Moves.{name_before_or_after}
use Rattle.gc_placement.specs.Placement.{IsNamePlaced, Placement, name_address}
use Rattle.gc_placement.proofs.Bays.{each-changed}
use Rattle.gc_placement.proofs.Extents.{same-register}
use Rattle.gc_placement.proofs.ByKind.{grey_were_young_in-fewer}
use Rattle.gc_placement.proofs.MinorFrames.{AllKeepPlaces, all_keep-changed, under_way-kept}

-- ---- what waits

-- what waits of the slots of kept objects can be said otherwise
pub grey_or_waiting-same : (mutators : ℕ) (bay : ℕ → Bay) (after : Placement) (done : ℕ → ℕ → Bool) (graph : Graph)
    (waiting other : ℕ → ℕ → Type 0)
    → ((number address place : ℕ) → after number ≡ Some address → place < length (object_at graph number).slots
    → waiting number place → other number place)
    → ((number address place : ℕ) → after number ≡ Some address → place < length (object_at graph number).slots
    → other number place → waiting number place)
    → GreyOrWaiting mutators bay after done graph waiting → GreyOrWaiting mutators bay after done graph other
grey_or_waiting-same mutators bay after done graph waiting other to from each number address place at within =
    let before = each number address place at within in (
      λ is. elim (before.0 is) [ inl grey ↦ inl grey | inr waits ↦ inr (to number address place at within waits) ],
      λ is. before.1 (elim is [ inl grey ↦ inl grey | inr waits ↦ inr (from number address place at within waits) ]),
    )

-- and the collection under way is the same
pub waiting-same_within : {kind : RunKind} (old : Memory) (before : Placement) (world : World) (word : ℕ → ℕ) (bay : ℕ → Bay)
    (after : Placement)
    (done : Done) (waiting other : ℕ → ℕ → Type 0) → IsCollectionUnderWay kind old before world word bay after done waiting
    → ((number address place : ℕ) → after number ≡ Some address → place < length (object_at world.graph number).slots
    → waiting number place → other number place)
    → ((number address place : ℕ) → after number ≡ Some address → place < length (object_at world.graph number).slots
    → other number place → waiting number place)
    → IsCollectionUnderWay kind old before world word bay after done other
waiting-same_within {kind} old before world word bay after done waiting other way to from = record {
  bays = way.bays;
  standing = way.standing;
  headers = way.headers;
  old_in_pages = way.old_in_pages;
  keeps = way.keeps;
  reached = way.reached;
  flipped = way.flipped;
  cells_stay = way.cells_stay;
  lying = way.lying;
  apart = way.apart;
  cells = way.cells;
  copies = way.copies;
  registers = way.registers;
  covers = way.covers;
  lists = way.lists;
  lists_grow = way.lists_grow;
  bits = way.bits;
  grey = way.grey;
  grey_or_waiting = grey_or_waiting-same old.layout.mutators bay after done.slots world.graph waiting other to from
      way.grey_or_waiting;
  grey_were_young = way.grey_were_young;
  only_kept = way.only_kept;
  promoted = way.promoted;
  promoted_remembered = way.promoted_remembered;
}

-- as where all that waits is said otherwise
pub waiting-same : {kind : RunKind} (old : Memory) (before : Placement) (world : World) (word : ℕ → ℕ) (bay : ℕ → Bay)
    (after : Placement) (done : Done)
    (waiting other : ℕ → ℕ → Type 0) → IsCollectionUnderWay kind old before world word bay after done waiting
    → ((number place : ℕ) → waiting number place → other number place)
    → ((number place : ℕ) → other number place → waiting number place)
    → IsCollectionUnderWay kind old before world word bay after done other
waiting-same {kind} old before world word bay after done waiting other way to from =
    waiting-same_within old before world word bay after done waiting other way
    (λ number address place at within. to number place) (λ number address place at within. from number place)

-- ---- what is grey

-- so many bays have the grey lists of others
abbrev pub HasGreyLists : ℕ → (ℕ → Bay) → (ℕ → Bay) → Type 0
HasGreyLists mutators old new = (t : ℕ) → t < mutators → (new t).grey ≡ (old t).grey

-- what stands on a grey list stands there on the same list of other bays
pub grey_at-frame : (mutators : ℕ) (old new : ℕ → Bay) (address t index : ℕ) → HasGreyLists mutators old new
    → IsGreyAt mutators new address t index → IsGreyAt mutators old address t index
grey_at-frame mutators old new address t index same listed =
    let list = same t listed.mutator in
    record {
      mutator = listed.mutator;
      within = omega (arith, listed.within, ap length list);
      at = ap (λ (xs : List ℕ). slice_index xs index) (sym list) ∙ listed.at;
    }

-- so what is grey is grey there
pub is_grey-frame : (mutators : ℕ) (old new : ℕ → Bay) (address : ℕ) → HasGreyLists mutators old new → IsGrey mutators new address
    → IsGrey mutators old address
is_grey-frame mutators old new address same grey = record {
  mutator = grey.mutator;
  index = grey.index;
  listed = grey_at-frame mutators old new address grey.mutator grey.index same grey.listed;
}

-- the grey lists are as before
pub grey-frame : (mutators : ℕ) (old new : ℕ → Bay) (after : Placement) (graph : Graph) → HasGreyLists mutators old new
    → AreGrey mutators old after graph → AreGrey mutators new after graph
grey-frame mutators old new after graph same are = record {
  kept = λ address t index listed. are.kept address t index (grey_at-frame mutators old new address t index same listed);
  once = λ address t u i j one other. are.once address t u i j (grey_at-frame mutators old new address t i same one)
      (grey_at-frame mutators old new address u j same other);
}

-- and what is grey or waits is as before
pub grey_or_waiting-frame : (mutators : ℕ) (old new : ℕ → Bay) (after : Placement) (done : ℕ → ℕ → Bool) (graph : Graph)
    (waiting : ℕ → ℕ → Type 0) → HasGreyLists mutators old new → GreyOrWaiting mutators old after done graph waiting
    → GreyOrWaiting mutators new after done graph waiting
grey_or_waiting-frame mutators old new after done graph waiting same each number address place at within =
    let was = each number address place at within in
    let back : HasGreyLists mutators new old = λ t there. sym (same t there) in (
      λ is. elim (was.0 is) [ inl grey ↦ inl (is_grey-frame mutators new old address back grey) | inr waits ↦ inr waits ],
      λ is. was.1 (elim is [ inl grey ↦ inl (is_grey-frame mutators old new address same grey) | inr waits ↦ inr waits ]),
    )

-- ---- a register is treated

-- the register that was treated is done
pub register_done-here : (done : Done) (t reg : ℕ) → (with_register_done done t reg).registers t reg ≡ true
register_done-here done t reg = rw (eq-eqb t t refl, eq-eqb reg reg refl) refl

-- another one is done where it was
pub register_done-other : (done : Done) (t reg u other : ℕ) → ((u ≡ t) → other ≡ reg → ⊥)
    → (with_register_done done t reg).registers u other ≡ done.registers u other
register_done-other done t reg u other differs = elim (cases_eq u t) [
  | inl same ↦ rw (eq-eqb u t same, ne_eqb other reg (differs same)) refl
  | inr elsewhere ↦ rw (ne_eqb u t elsewhere) refl
]

-- a register of a bay holds the address after of what it names: it is done
pub moving_registers-done : (mutators : ℕ) (old new : ℕ → Bay) (before after : Placement) (done : Done) (world : World)
    (t reg value : ℕ) (bay : Bay) → HaveMovingRegisters mutators old before after done.registers world → ChangesBay old new t bay
    → bay.registers ≡ slice_set (old t).registers reg value → reg < length (old t).registers
    → value ≡ name_address after (named_by world t reg)
    → HaveMovingRegisters mutators new before after (with_register_done done t reg).registers world
moving_registers-done mutators old new before after done world t reg value bay have changes set within value_is u other =
    let later = (with_register_done done t reg).registers in
    each-changed
    (λ m each. (at : ℕ) → m < mutators
    → slice_index each.registers at ≡ name_before_or_after before after (later m at) (named_by world m at)) old new t bay changes
    (λ at there. elim (cases_eq at reg) [
      | inl same ↦
          let held : slice_index bay.registers reg ≡ value =
          ap (λ (registers : List ℕ). slice_index registers reg) set ∙ get_or-set_same (old t).registers reg value 0 within in
          rw (same, register_done-here done t reg) (held ∙ value_is)
      | inr differs ↦
          let held : slice_index bay.registers at ≡ slice_index (old t).registers at =
          ap (λ (registers : List ℕ). slice_index registers at) set ∙ get_or-set_other (old t).registers reg at value 0 differs in
          rw (register_done-other done t reg t at (λ same. differs)) (held ∙ have t at there)
    ])
    (λ m elsewhere at there. rw (register_done-other done t reg m at (λ same. absurd (elsewhere same))) (have m at there)) u other

-- and what it names is kept
pub covers_done-register : (after : Placement) (done : Done) (world : World) (t reg : ℕ) → CoversDone after done world
    → IsNamePlaced after (named_by world t reg) → CoversDone after (with_register_done done t reg) world
covers_done-register after done world t reg covers named = record {
  registers = λ u other is. elim (cases_eq u t) [
    | inl same_mutator ↦ elim (cases_eq other reg) [
      | inl same ↦ rw (same_mutator, same) named
      | inr differs ↦
          covers.registers u other (sym (register_done-other done t reg u other (λ whose. differs)) ∙ is)
    ]
    | inr elsewhere ↦
        covers.registers u other (sym (register_done-other done t reg u other (λ whose. absurd (elsewhere whose))) ∙ is)
  ];
  slots = covers.slots;
}

-- a register of a mutator is treated
pub register-done : {kind : RunKind} (old : Memory) (before : Placement) (world : World) (word : ℕ → ℕ) (bay new : ℕ → Bay)
    (after : Placement)
    (done : Done) (waiting : ℕ → ℕ → Type 0) (t reg value : ℕ) (own : Bay)
    → IsCollectionUnderWay kind old before world word bay after done waiting → t < old.layout.mutators → reg < 16 → ChangesBay bay new t own
    → own ≡ record (bay t) { registers = slice_set (bay t).registers reg value } → IsBay own
    → value ≡ name_address after (named_by world t reg) → IsNamePlaced after (named_by world t reg)
    → IsCollectionUnderWay kind old before world word new after (with_register_done done t reg) waiting
register-done {kind} old before world word bay new after done waiting t reg value own way there within changes own_is is value_is named =
    let mutators = old.layout.mutators in
    let registers = slice_set (bay t).registers reg value in
    let extents : HasSameExtents (bay t) own =
    subst (HasSameExtents (bay t)) (sym own_is) (same-register (bay t) registers (subst IsBay own_is is)) in
    let keeps : AllKeepPlaces mutators bay new =
    all_keep-changed old.layout bay new t own way.bays changes
    (λ below. record { extents = extents; remembered = ap (λ (each : Bay). each.remembered) own_is }) in
    let same : HasGreyLists mutators bay new =
    each-changed (λ u each. u < mutators → each.grey ≡ (bay u).grey) bay new t own changes
    (λ below. ap (λ (each : Bay). each.grey) own_is)
    (λ u differs below. refl) in
    let inside : reg < length (bay t).registers = omega (arith, within, (way.bays.each t there).registers) in
    under_way-kept old before world word bay new after done (with_register_done done t reg).registers waiting waiting way keeps
    (moving_registers-done mutators bay new before after done world t reg value own way.registers changes
    (ap (λ (each : Bay). each.registers) own_is) inside value_is)
    (covers_done-register after done world t reg way.covers named)
    (grey-frame mutators bay new after world.graph same way.grey)
    (grey_were_young_in-fewer kind old.layout bay new before after (λ a. is_grey-frame mutators bay new a same) way.grey_were_young)
    (grey_or_waiting-frame mutators bay new after done.slots world.graph waiting same way.grey_or_waiting)

-- ---- an object is taken off a grey list

-- a list has its own entries in front
pub begins_with-same : (list : List ℕ) → BeginsWith list list
begins_with-same list = record { longer = omega arith; same = λ index below. refl }

-- and so it has where one more stands behind it
pub begins_with-push : (list : List ℕ) (entry : ℕ) → BeginsWith list (list ++ entry ∷ [])
begins_with-push list entry = record {
  longer = omega (arith, length_push list entry);
  same = λ index below. get_or_append_left list (entry ∷ []) 0 index below;
}

-- two objects that are placed at one address are one
pub one_number : (placement : Placement) (graph : Graph) (i j address : ℕ) → AreApart placement graph → placement i ≡ Some address
    → placement j ≡ Some address → i ≡ j
one_number placement graph i j address apart at at_other =
    apart address i j (record { address = address; at = at; from = omega arith; to = omega arith })
    (record { address = address; at = at_other; from = omega arith; to = omega arith })

-- where grey lists are cut short, what stands on one stood there
pub grey_at-cut : (mutators : ℕ) (old new : ℕ → Bay) (address t index : ℕ)
    → ((u : ℕ) → u < mutators → BeginsWith (new u).grey (old u).grey) → IsGreyAt mutators new address t index
    → IsGreyAt mutators old address t index
grey_at-cut mutators old new address t index cut listed =
    let front = cut t listed.mutator in
    record {
      mutator = listed.mutator;
      within = omega (arith, listed.within, front.longer);
      at = front.same index listed.within ∙ listed.at;
    }

-- the grey lists are cut short
pub grey-cut : (mutators : ℕ) (old new : ℕ → Bay) (after : Placement) (graph : Graph)
    → ((u : ℕ) → u < mutators → BeginsWith (new u).grey (old u).grey) → AreGrey mutators old after graph
    → AreGrey mutators new after graph
grey-cut mutators old new after graph cut are = record {
  kept = λ address t index listed. are.kept address t index (grey_at-cut mutators old new address t index cut listed);
  once = λ address t u i j one other. are.once address t u i j (grey_at-cut mutators old new address t i cut one)
      (grey_at-cut mutators old new address u j cut other);
}

-- and what is grey was so
pub is_grey-cut : (mutators : ℕ) (old new : ℕ → Bay) (address : ℕ)
    → ((u : ℕ) → u < mutators → BeginsWith (new u).grey (old u).grey) → IsGrey mutators new address → IsGrey mutators old address
is_grey-cut mutators old new address cut grey = record {
  mutator = grey.mutator;
  index = grey.index;
  listed = grey_at-cut mutators old new address grey.mutator grey.index cut grey.listed;
}

-- an address is taken from the end of a mutator's grey list
pub record TakesGrey (mutators : ℕ) (old new : ℕ → Bay) (t : ℕ) (rest : List ℕ) (address : ℕ) : Type 0 where
  pub mutator : t < mutators
  pub was : (old t).grey ≡ rest ++ address ∷ []
  pub now : (new t).grey ≡ rest
  pub elsewhere : (u : ℕ) → u ≢ t → (new u).grey ≡ (old u).grey

-- so the lists are cut short
pub taken-cut : (mutators : ℕ) (old new : ℕ → Bay) (t : ℕ) (rest : List ℕ) (address : ℕ)
    → TakesGrey mutators old new t rest address → (u : ℕ) → u < mutators → BeginsWith (new u).grey (old u).grey
taken-cut mutators old new t rest address takes u there = elim (cases_eq u t) [
  | inl same ↦ rw (same, takes.now, takes.was) (begins_with-push rest address)
  | inr differs ↦ rw (takes.elsewhere u differs) (begins_with-same (old u).grey)
]

-- it stood at the end of the list
pub taken-at : (mutators : ℕ) (old new : ℕ → Bay) (t : ℕ) (rest : List ℕ) (address : ℕ) → TakesGrey mutators old new t rest address
    → IsGreyAt mutators old address t (length rest)
taken-at mutators old new t rest address takes = record {
  mutator = takes.mutator;
  within = omega (arith, ap length takes.was, length_push rest address);
  at = ap (λ (list : List ℕ). slice_index list (length rest)) takes.was ∙ get_or_push rest address 0 (length rest) refl;
}

-- any other address that was grey is
pub taken-other : (mutators : ℕ) (old new : ℕ → Bay) (t : ℕ) (rest : List ℕ) (address other : ℕ)
    → TakesGrey mutators old new t rest address → IsGrey mutators old other → (other ≡ address) ⊎ IsGrey mutators new other
taken-other mutators old new t rest address other takes grey =
    let u = grey.mutator in
    let index = grey.index in
    let listed = grey.listed in
    elim (cases_eq u t) [
      | inl same ↦
          let was : (old u).grey ≡ rest ++ address ∷ [] = ap (λ (m : ℕ). (old m).grey) same ∙ takes.was in
          let now : (new u).grey ≡ rest = ap (λ (m : ℕ). (new m).grey) same ∙ takes.now in
          let at : slice_index (rest ++ address ∷ []) index ≡ other =
          ap (λ (list : List ℕ). slice_index list index) (sym was) ∙ listed.at in
          elim (cases_lt index (length rest)) [
            | inl below ↦ inr (record {
              mutator = u;
              index = index;
              listed = record {
                mutator = listed.mutator;
                within = omega (arith, below, ap length now);
                at = ap (λ (list : List ℕ). slice_index list index) now
                    ∙ sym (get_or_append_left rest (address ∷ []) 0 index below) ∙ at;
              };
            })
            | inr past ↦
                let last : length rest ≡ index =
                omega (arith, past, listed.within, ap length was, length_push rest address) in
                inl (sym at ∙ get_or_push rest address 0 index last)
          ]
      | inr differs ↦
          let list = takes.elsewhere u differs in
          inr (record {
            mutator = u;
            index = index;
            listed = record {
              mutator = listed.mutator;
              within = omega (arith, listed.within, ap length list);
              at = ap (λ (each : List ℕ). slice_index each index) list ∙ listed.at;
            };
          })
    ]

-- and this one isn't
pub taken-not_grey : (mutators : ℕ) (old new : ℕ → Bay) (after : Placement) (graph : Graph) (t : ℕ) (rest : List ℕ) (address : ℕ)
    → AreGrey mutators old after graph → TakesGrey mutators old new t rest address → ¬ IsGrey mutators new address
taken-not_grey mutators old new after graph t rest address are takes grey =
    let u = grey.mutator in
    let was : IsGreyAt mutators old address u grey.index =
    grey_at-cut mutators old new address u grey.index (taken-cut mutators old new t rest address takes) grey.listed in
    let one = are.once address u t grey.index (length rest) was (taken-at mutators old new t rest address takes) in
    let list : (new u).grey ≡ rest = ap (λ (m : ℕ). (new m).grey) one.0 ∙ takes.now in
    omega (arith, grey.listed.within, ap length list, one.1)

-- the slots of the object that is taken wait
pub grey_or_waiting-taken : (mutators : ℕ) (old new : ℕ → Bay) (after : Placement) (done : ℕ → ℕ → Bool) (graph : Graph)
    (waiting : ℕ → ℕ → Type 0) (t : ℕ) (rest : List ℕ) (address number : ℕ) → TakesGrey mutators old new t rest address
    → AreApart after graph → after number ≡ Some address → GreyOrWaiting mutators old after done graph waiting
    → GreyOrWaiting mutators new after done graph (λ each place. waiting each place ⊎ (each ≡ number))
grey_or_waiting-taken mutators old new after done graph waiting t rest address number takes apart placed each_grey each each_address
    place at within =
    let was = each_grey each each_address place at within in (
      λ is. elim (was.0 is) [
        | inl grey ↦ elim (taken-other mutators old new t rest address each_address takes grey) [
          | inl same ↦
              inr (inr (one_number after graph each number address apart (at ∙ ap (λ (a : ℕ). Some a) same) placed))
          | inr still ↦ inl still
        ]
        | inr waits ↦ inr (inl waits)
      ],
      λ is. was.1 (elim is [
        | inl grey ↦ inl (record {
          mutator = grey.mutator;
          index = grey.index;
          listed = grey_at-cut mutators old new each_address grey.mutator grey.index
              (taken-cut mutators old new t rest address takes) grey.listed;
        })
        | inr waits ↦ elim waits [
          | inl still ↦ inr still
          | inr same ↦
              let moved : Some each_address ≡ Some address = sym at ∙ ap after same ∙ placed in
              let here : each_address ≡ address = cc in
              inl (record {
                mutator = t;
                index = length rest;
                listed = rw here (taken-at mutators old new t rest address takes);
              })
        ]
      ]),
    )

-- another grey list leaves a bay's extents as they are
pub same-grey : (bay : Bay) (grey : List ℕ) → IsBay (record bay { grey = grey }) → HasSameExtents bay (record bay { grey = grey })
same-grey bay grey is =
    record { owner = record { bay = is; layout = refl; mutator = refl }; half = refl; used = refl; pages = refl }

-- a bay's grey list loses its last address
pub takes_grey-bay : (mutators : ℕ) (bay new : ℕ → Bay) (t : ℕ) (own : Bay) (rest : List ℕ) (address : ℕ) → t < mutators
    → ChangesBay bay new t own → own ≡ record (bay t) { grey = rest } → (bay t).grey ≡ rest ++ address ∷ []
    → TakesGrey mutators bay new t rest address
takes_grey-bay mutators bay new t own rest address there changes own_is was = record {
  mutator = there;
  was = was;
  now = ap (λ (each : Bay). each.grey) (changes.here ∙ own_is);
  elsewhere = λ u differs. ap (λ (each : Bay). each.grey) (changes.elsewhere u differs);
}

-- the last address of a grey list is a kept object's, and the object is the list's mutator's
pub grey-number : {kind : RunKind} (old : Memory) (before : Placement) (world : World) (word : ℕ → ℕ) (bay : ℕ → Bay)
    (after : Placement) (done : Done)
    (waiting : ℕ → ℕ → Type 0) (t : ℕ) (rest : List ℕ) (address : ℕ)
    → IsCollectionUnderWay kind old before world word bay after done waiting → t < old.layout.mutators → (bay t).grey ≡ rest ++ address ∷ []
    → IsKeptOf after world.graph t address
grey-number {kind} old before world word bay after done waiting t rest address way there was =
    way.grey.kept address t (length rest) (record {
      mutator = there;
      within = omega (arith, ap length was, length_push rest address);
      at = ap (λ (list : List ℕ). slice_index list (length rest)) was ∙ get_or_push rest address 0 (length rest) refl;
    })

-- the last object of a grey list is taken for being scanned: its slots wait, and it isn't grey any more
pub grey-taken : {kind : RunKind} (old : Memory) (before : Placement) (world : World) (word : ℕ → ℕ) (bay new : ℕ → Bay) (after : Placement)
    (done : Done) (waiting : ℕ → ℕ → Type 0) (t : ℕ) (own : Bay) (rest : List ℕ) (address number : ℕ)
    → IsCollectionUnderWay kind old before world word bay after done waiting → t < old.layout.mutators → ChangesBay bay new t own
    → own ≡ record (bay t) { grey = rest } → (bay t).grey ≡ rest ++ address ∷ [] → IsBay own → after number ≡ Some address
    → IsCollectionUnderWay kind old before world word new after done (λ each place. waiting each place ⊎ (each ≡ number))
    × (¬ IsGrey old.layout.mutators new address)
grey-taken {kind} old before world word bay new after done waiting t own rest address number way there changes own_is was is placed =
    let mutators = old.layout.mutators in
    let extents : HasSameExtents (bay t) own =
    subst (HasSameExtents (bay t)) (sym own_is) (same-grey (bay t) rest (subst IsBay own_is is)) in
    let keeps : AllKeepPlaces mutators bay new =
    all_keep-changed old.layout bay new t own way.bays changes
    (λ below. record { extents = extents; remembered = ap (λ (each : Bay). each.remembered) own_is }) in
    let same : (u : ℕ) → (new u).registers ≡ (bay u).registers =
    each-changed (λ u each. each.registers ≡ (bay u).registers) bay new t own changes (ap (λ (each : Bay). each.registers) own_is)
    (λ u differs. refl) in
    let takes = takes_grey-bay mutators bay new t own rest address there changes own_is was in
    let cut = taken-cut mutators bay new t rest address takes in (
      under_way-kept old before world word bay new after done done.registers waiting _ way keeps
          (λ u reg below. ap (λ (registers : List ℕ). slice_index registers reg) (same u) ∙ way.registers u reg below) way.covers
          (grey-cut mutators bay new after world.graph cut way.grey)
          (grey_were_young_in-fewer kind old.layout bay new before after (λ a. is_grey-cut mutators bay new a cut) way.grey_were_young)
          (grey_or_waiting-taken mutators bay new after done.slots world.graph waiting t rest address number takes way.apart placed
          way.grey_or_waiting),
      taken-not_grey mutators bay new after world.graph t rest address way.grey takes,
    )
