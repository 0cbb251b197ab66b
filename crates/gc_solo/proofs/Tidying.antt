-- Tidying the remembered lists of a heap on which a collection has kept all that it reaches.
use Rattle.std.proofs.Common.{◌≡◌, ◌≢◌, ◌∙◌, ◌⊎◌, ⊎_elim, ℕ, ◌+◌, ◌*◌, ◌<◌, ◌≤◌, true, false, List, length, Option, Some, inl, inr, sym, ap, refl, subst, arith, slice_get, slice_index, slice_index_or, slice_set}
use Rattle.std.proofs.lemmas.Bool.{cases_eq, cases_lt, false≢true}
use Rattle.std.proofs.lemmas.List.{get_or_read, length-set}
use Rattle.std.proofs.lemmas.Option.{get_or_from_slice_get, slice_get_within}
use Rattle.std.specs.List.{swap_remove}
use native.Mathlib.Nat.{mul-le-mul_left}
use Rattle.gc_bay.specs.Bay.{Bay, IsBay}
use Rattle.gc_bay.specs.Room.{most_cells, remembered_room}
use Rattle.gc_layout.specs.declared.shape.Shape.{Shape}
use Rattle.gc_layout.specs.Places.{Layout, word_count}
use Rattle.gc_layout.specs.Shape.{slot_address}
use Rattle.gc_model.specs.Answer.{shape_at}
use Rattle.gc_model.specs.Graph.{object_at}
use Rattle.gc_model.specs.Laws.{IsWellTyped}
use Rattle.gc_placement.specs.Changes.{DropsFromList, Stores}
use Rattle.gc_placement.specs.Extents.{HoldsPlaced, IsInAPage}
use Rattle.gc_placement.specs.Headers.{IsHeader, head_of, with_remembered}
use Rattle.gc_placement.specs.Tidying.{AreTidyBefore, HoldsNameOfYoung, OnlyYoungAreRemembered}
use Rattle.gc_placement.specs.Placement.{Placement}
use Rattle.gc_placement.specs.Remembered.{IsListed, IsOnAList, NamesYoung}
use Rattle.gc_placement.specs.Rest.{IsAtRest}
use Rattle.gc_placement.proofs.Tidying.{tidy-drops, tidy-ends, tidy-keeps, tidy-next}
use Rattle.gc_solo.specs.Collecting.{Beginning, HasTraced, IsTidyTo}
use Rattle.gc_solo.specs.Kept.{Kept, bay_at, memory_of, no_bay}
use Rattle.gc_solo.proofs.ByKind.{collection-rest, kind-forgets}
use Rattle.gc_solo.proofs.Registers.{bay-written}
use Rattle.gc_solo.proofs.Resting.{IsResting, resting-header, resting-header_inside, resting-named, resting-names_young, resting-no_slot, resting-slots, resting-young_named}

-- ---- a heap on which a collection has kept all

-- it is at rest
pub traced-rest : (kept : Kept) (start : Beginning) (after : Placement) → HasTraced kept start after
    → IsAtRest (memory_of kept) after start.world
traced-rest kept start after traced =
    collection-rest start.kind start.memory (memory_of kept) start.placement after start.world traced.collection

-- with the words and types that it had
pub traced-resting : (kept : Kept) (start : Beginning) (after : Placement) → HasTraced kept start after → IsResting kept after start.world
traced-resting kept start after traced = record {
  rest = traced-rest kept start after traced;
  typed = subst (λ types. IsWellTyped types start.world) (sym traced.types) traced.typed;
  words = omega (arith, traced.words, ap word_count traced.layout);
}

-- each mutator has a bay
pub traced-bay : (kept : Kept) (start : Beginning) (after : Placement) (t : ℕ) → HasTraced kept start after → t < kept.layout.mutators
    → t < length kept.bays
traced-bay kept start after t traced there = omega (arith, there, traced.bays, ap (λ (each : Layout). each.mutators) traced.layout)

-- ---- whether an object names one in a half

-- a slot of a placed object was read, and holds this
pub record IsSlotRead (kept : Kept) (start : Beginning) (after : Placement) (number address place held : ℕ) : Type 0 where
  pub resting : IsResting kept after start.world
  pub at : after number ≡ Some address
  pub within : place < length (object_at start.world.graph number).slots
  pub held_is : held ≡ slice_index kept.words (slot_address address place)

-- so it is where the place is below the count of the shape of its header's type
pub slot-read : (kept : Kept) (start : Beginning) (after : Placement) (number address place held : ℕ) (shape : Shape)
    → HasTraced kept start after → after number ≡ Some address
    → ((ty : ℕ) → IsHeader (slice_index kept.words address) ty → shape ≡ shape_at kept.types ty) → place < shape.slots
    → held ≡ slice_index kept.words (slot_address address place) → IsSlotRead kept start after number address place held
slot-read kept start after number address place held shape traced at shape_is below held_is =
    let resting = traced-resting kept start after traced in
    let slots = resting-slots kept after start.world number address shape resting at shape_is in
    record { resting = resting; at = at; within = omega (arith, slots, below); held_is = held_is }

-- the address lies among the words, and few are less
pub traced-small : (kept : Kept) (start : Beginning) (after : Placement) (number address : ℕ) → HasTraced kept start after
    → after number ≡ Some address → (1 ≤ address) × (address < length kept.words) × (address < 2097281)
traced-small kept start after number address traced =
    resting-header_inside kept after start.world number address (traced-resting kept start after traced)

-- where a slot doesn't hold 0, it holds the address of a header
pub read-header : (kept : Kept) (start : Beginning) (after : Placement) (number address place held : ℕ)
    → IsSlotRead kept start after number address place held → held ≢ 0
    → ((ty : ℕ) × IsHeader (slice_index kept.words held) ty) × (held < length kept.words)
read-header kept start after number address place held read some =
    let named = resting-named kept after start.world number address place held read.resting read.at read.within read.held_is some in (
      ((object_at start.world.graph named.0).ty, resting-header kept after start.world named.0 held read.resting named.2),
      (resting-header_inside kept after start.world named.0 held read.resting named.2).1,
    )

-- a slot of an object in a page that holds the address of a header without the bit old names one in a half
pub read-young : (kept : Kept) (start : Beginning) (after : Placement) (number address place held : ℕ)
    → IsSlotRead kept start after number address place held → IsInAPage kept.layout address → held ≢ 0
    → (head_of (slice_index kept.words held)).old ≡ false → HoldsNameOfYoung kept.layout after start.world address
read-young kept start after number address place held read page some young = record {
  number = number;
  at = read.at;
  place = place;
  names = resting-young_named kept after start.world number address place held read.resting read.at read.within read.held_is page
      some young;
}

-- none of the first slots of an object names one in a half
abbrev pub NamesNoneBefore : Kept → Beginning → Placement → ℕ → ℕ → Type 0
NamesNoneBefore kept start after number count = (place : ℕ) → place < count → ¬ NamesYoung kept.layout after start.world number place

-- nor does one more that holds 0, or the address of a header with the bit old
pub read-none : (kept : Kept) (start : Beginning) (after : Placement) (number address place held : ℕ)
    → IsSlotRead kept start after number address place held → NamesNoneBefore kept start after number place
    → (held ≡ 0) ⊎ ((head_of (slice_index kept.words held)).old ≡ true) → NamesNoneBefore kept start after number (place + 1)
read-none kept start after number address place held read none old each below names =
    elim (cases_eq each place) [
      | inl same ↦
          let young =
          resting-names_young kept after start.world number address place held read.resting read.at read.within read.held_is
          (subst (NamesYoung kept.layout after start.world number) same names) in
          ⊎_elim young.0 (λ has. false≢true (sym young.1 ∙ has)) old
      | inr differs ↦ none each (omega (arith, below, differs)) names
    ]

-- where none of all slots names one in a half, none does
pub none-at_all : (kept : Kept) (start : Beginning) (after : Placement) (number address count place : ℕ) (shape : Shape)
    → HasTraced kept start after → after number ≡ Some address
    → ((ty : ℕ) → IsHeader (slice_index kept.words address) ty → shape ≡ shape_at kept.types ty) → shape.slots ≤ count
    → NamesNoneBefore kept start after number count → ¬ NamesYoung kept.layout after start.world number place
none-at_all kept start after number address count place shape traced at shape_is all none names =
    let slots =
    resting-slots kept after start.world number address shape (traced-resting kept start after traced) at shape_is in
    elim (cases_lt place count) [
      | inl below ↦ none place below names
      | inr past ↦ resting-no_slot kept after start.world number place (omega (arith, all, past, slots)) names
    ]

-- ---- an object is forgotten

-- what is read at a mutator's place is its bay
pub bay-read_at : (bays : List Bay) (t at : ℕ) (read : Bay) → t < length bays → at ≡ t → read ≡ slice_index_or bays at read
    → read ≡ bay_at bays t
bay-read_at bays t at read there place is =
    get_or_read bays at read (omega (arith, there, place)) is no_bay ∙ ap (bay_at bays) place

-- a collection has kept all still where an object that names none in a half is forgotten
pub traced-forgets : (old mid : Kept) (start : Beginning) (after : Placement) (t index number address header : ℕ) (bay : Bay)
    → HasTraced old start after → mid ≡ record old { words = mid.words } → length mid.words ≡ length old.words
    → Stores (memory_of old).word (memory_of mid).word address header → header ≡ with_remembered (slice_index old.words address) false
    → bay ≡ record (bay_at old.bays t) { remembered = swap_remove (bay_at old.bays t).remembered index 0 } → IsBay bay
    → IsListed old.layout.mutators (bay_at old.bays) address t index → after number ≡ Some address
    → ((place : ℕ) → ¬ NamesYoung old.layout after start.world number place)
    → HasTraced (record mid { bays = slice_set mid.bays t bay }) start after
traced-forgets old mid start after t index number address header bay traced rest count stores header_is bay_is is listed at none =
    let there : t < length old.bays = traced-bay old start after t traced listed.mutator in
    let after_words : Kept = record old { words = mid.words } in
    let new : Kept = record after_words { bays = slice_set old.bays t bay } in
    let stored : Stores (memory_of old).word (memory_of new).word address (with_remembered (slice_index old.words address) false) =
    subst (Stores (memory_of old).word (memory_of new).word address) header_is stores in
    let changes = bay-written old.bays t bay there in
    let forgotten : HasTraced new start after = record {
      rest = traced.rest;
      sound = traced.sound;
      typed = traced.typed;
      types = traced.types;
      layout = traced.layout;
      words = count ∙ traced.words;
      bays = length-set old.bays t bay ∙ traced.bays;
      collection = kind-forgets start.kind start.memory (memory_of old) (memory_of new) start.placement after start.world t index number
          address bay traced.collection refl refl listed at none stored changes bay_is is;
    } in
    subst (λ (each : Kept). HasTraced (record each { bays = slice_set each.bays t bay }) start after) (sym rest) forgotten

-- ---- a list is gone through

-- an address was read off a mutator's list
pub entry-read : (initial kept : Kept) (start : Beginning) (after : Placement) (t at index address : ℕ) (bay : Bay) (read : Option ℕ)
    → kept ≡ record initial { words = kept.words; bays = kept.bays } → HasTraced kept start after → t < initial.layout.mutators
    → at ≡ t → bay ≡ slice_index_or kept.bays at bay → read ≡ slice_get bay.remembered index → read ≡ Some address
    → IsListed kept.layout.mutators (bay_at kept.bays) address t index
entry-read initial kept start after t at index address bay read same traced there place bay_is read_is is =
    let below : t < kept.layout.mutators = omega (arith, there, ap (λ (each : Kept). each.layout.mutators) same) in
    let own : bay ≡ bay_at kept.bays t =
    bay-read_at kept.bays t at bay (traced-bay kept start after t traced below) place bay_is in
    let found : slice_get (bay_at kept.bays t).remembered index ≡ Some address =
    sym (read_is ∙ ap (λ (each : Bay). slice_get each.remembered index) own) ∙ is in
    record {
      mutator = below;
      within = slice_get_within (bay_at kept.bays t).remembered index address found;
      at = get_or_from_slice_get (bay_at kept.bays t).remembered index address 0 found;
    }

-- or there was none at an index: all entries stand before it
pub entry-none : (initial kept : Kept) (start : Beginning) (after : Placement) (t at index : ℕ) (bay : Bay)
    → kept ≡ record initial { words = kept.words; bays = kept.bays } → HasTraced kept start after → t < initial.layout.mutators
    → at ≡ t → bay ≡ slice_index_or kept.bays at bay → length bay.remembered ≤ index → IsTidyTo kept start after t index
    → IsTidyTo kept start after (t + 1) 0
entry-none initial kept start after t at index bay same traced there place bay_is past tidy =
    let below : t < kept.layout.mutators = omega (arith, there, ap (λ (each : Kept). each.layout.mutators) same) in
    let own : bay ≡ bay_at kept.bays t =
    bay-read_at kept.bays t at bay (traced-bay kept start after t traced below) place bay_is in
    tidy-next kept.layout (bay_at kept.bays) after start.world t index tidy
    (omega (arith, past, ap (λ (each : Bay). length each.remembered) own))

-- it is a placed object's, which lies in a page
pub listed-placed : (kept : Kept) (start : Beginning) (after : Placement) (t index address : ℕ) → HasTraced kept start after
    → IsListed kept.layout.mutators (bay_at kept.bays) address t index → HoldsPlaced after address × IsInAPage kept.layout address
listed-placed kept start after t index address traced listed =
    let lists = (traced-rest kept start after traced).remembered.lists in
    let on : IsOnAList kept.layout.mutators (bay_at kept.bays) address = record { mutator = t; index = index; listed = listed } in
    (lists.placed address on, lists.old address on)

-- a list has few entries, so an index of one is small
pub entry-small : (kept : Kept) (start : Beginning) (after : Placement) (t index address : ℕ) → HasTraced kept start after
    → IsListed kept.layout.mutators (bay_at kept.bays) address t index → index < 262144
entry-small kept start after t index address traced listed =
    let bays = (traced-rest kept start after traced).shown.bays in
    let there = listed.mutator in
    let rooms : remembered_room (bay_at kept.bays t).layout ≡ remembered_room kept.layout = ap remembered_room (bays.layout_is t there) in
    let all : most_cells * kept.layout.pages * kept.layout.mutators ≤ most_cells * kept.layout.pages * 8 =
    mul-le-mul_left (most_cells * kept.layout.pages) bays.limits.few_mutators in
    omega (arith, listed.within, (bays.each t there).remembered, rooms, all, bays.limits.few_pages)

-- an entry whose object names one in a half stays
pub tidy-stays : (kept : Kept) (start : Beginning) (after : Placement) (t index address : ℕ)
    → IsListed kept.layout.mutators (bay_at kept.bays) address t index → IsTidyTo kept start after t index
    → HoldsNameOfYoung kept.layout after start.world address → IsTidyTo kept start after t (index + 1)
tidy-stays kept start after t index address listed tidy holds =
    tidy-keeps kept.layout (bay_at kept.bays) after start.world t index tidy
    (subst (HoldsNameOfYoung kept.layout after start.world) (sym listed.at) holds)

-- one whose object is forgotten is dropped
pub tidy-forgets : (old new : Kept) (start : Beginning) (after : Placement) (t index : ℕ)
    → new ≡ record old { words = new.words; bays = new.bays }
    → DropsFromList old.layout.mutators (bay_at old.bays) (bay_at new.bays) t index → IsTidyTo old start after t index
    → IsTidyTo new start after t index
tidy-forgets old new start after t index same drops tidy =
    let layout : new.layout ≡ old.layout = ap (λ (each : Kept). each.layout) same in
    subst (λ (each : Layout). AreTidyBefore each (bay_at new.bays) after start.world t index) (sym layout)
    (tidy-drops old.layout (bay_at old.bays) (bay_at new.bays) after start.world t index tidy drops)

-- behind the last list the remembered objects are those that name some in halves
pub tidy-exact : (initial kept : Kept) (start : Beginning) (after : Placement) (t : ℕ)
    → kept ≡ record initial { words = kept.words; bays = kept.bays } → HasTraced kept start after → initial.layout.mutators ≤ t
    → IsTidyTo kept start after t 0 → OnlyYoungAreRemembered (memory_of kept) after start.world
tidy-exact initial kept start after t same traced all tidy =
    let rest = traced-rest kept start after traced in
    tidy-ends (memory_of kept) after start.world t 0 rest.remembered.bits rest.shown.apart tidy
    (omega (arith, all, ap (λ (each : Kept). each.layout.mutators) same))
