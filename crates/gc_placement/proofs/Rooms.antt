-- The rooms of the lists: a remembered list and a grey list have room for each object that isn't on them.
use Rattle.std.proofs.Common.{◌≡◌, ◌≢◌, ◌∙◌, ◌⊎◌, ⊎_elim, ℕ, ◌+◌, ◌-◌, ◌*◌, ◌/◌, ◌%◌, ◌<◌, ◌≤◌, List, [], ◌∷◌, ◌++◌, length, map, Contains, Some, inl, inr, refl, ap, sym, subst, arith, slice_index, nat_lt, if◌then◌else◌}
use Rattle.std.proofs.lemmas.Bool.{cases_lt, le-ltb, lt-ltb}
use Rattle.std.proofs.lemmas.List.{get_or-map, get_or_append_left, get_or_default, get_or_push, length-map, length_push}
use Rattle.std.proofs.lemmas.List.Elements.{Contains-get_or}
use Rattle.std.proofs.lemmas.Nat.{mul-add-lt, same_from_place}
use Rattle.gc_bay.specs.Bay.{Bay}
use Rattle.gc_bay.specs.Room.{grey_room, remembered_room}
use Rattle.gc_bay.proofs.ExtentLemmas.{half-ends}
use Rattle.gc_gen2.specs.Class.{class_of}
use Rattle.gc_gen2.specs.Page.{Page}
use Rattle.gc_gen2.proofs.CellLaws.{start-is}
use Rattle.gc_gen2.proofs.PagesLemmas.{page-within}
use Rattle.gc_layout.specs.declared.places.Part.TheVariants.{Half, Page as InPage}
use Rattle.gc_layout.specs.Places.{Layout, address_of, cell_address, owner_of, region_words}
use Rattle.gc_layout.proofs.PlacesLemmas.{column_of, row_of}
use Rattle.gc_model.specs.Graph.{Graph, object_at, object_size}
use Rattle.gc_placement.specs.Bays.{AreBays}
use Rattle.gc_placement.specs.Extents.{AllLie, AreApart, HoldsOwn, IsInAPage, LiesIn, LiesInCell, LiesInHalf, home_of}
use Rattle.gc_placement.specs.Placement.{Placement}
use Rattle.gc_placement.specs.Remembered.{AreLists, IsListed, IsOnAList}
use Rattle.gc_placement.proofs.Extents.{half-not_in_page, lies-at_home}
use Rattle.gc_placement.proofs.Sums.{distinct-few}

-- ---- lists whose entries have different numbers

-- no two places of a list have the same entry
abbrev pub HasEachOnce : List ℕ → Type 0
HasEachOnce list =
    (i j : ℕ) → i < length list → j < length list → slice_index list i ≡ slice_index list j → i ≡ j

-- an entry of a longer list is one of the list, or the last one
with_last-holds : (P : ℕ → Type 0) (list : List ℕ) (last i : ℕ) → ((k : ℕ) → k < length list → P (slice_index list k)) → P last
    → i < length list + 1 → P (slice_index (list ++ last ∷ []) i)
with_last-holds P list last i each one within = elim (cases_lt i (length list)) [
  | inl below ↦ subst P (sym (get_or_append_left list (last ∷ []) 0 i below)) (each i below)
  | inr past ↦ subst P (sym (get_or_push list last 0 i (omega (arith, past, within)))) one
]

-- a longer list has each entry once where the last one is new
with_last-once : (list : List ℕ) (last : ℕ) → HasEachOnce list → ¬ Contains list last → (i j : ℕ) → i < length list + 1
    → j < length list + 1 → slice_index (list ++ last ∷ []) i ≡ slice_index (list ++ last ∷ []) j → i ≡ j
with_last-once list last once absent i j i_within j_within same =
    let before : (k : ℕ) → k < length list → slice_index (list ++ last ∷ []) k ≡ slice_index list k =
    λ k below. get_or_append_left list (last ∷ []) 0 k below in
    let at_end : (k : ℕ) → length list ≤ k → k < length list + 1 → slice_index (list ++ last ∷ []) k ≡ last =
    λ k past within. get_or_push list last 0 k (omega (arith, past, within)) in
    let clash : (k : ℕ) → k < length list → slice_index list k ≡ last → ⊥ =
    λ k below is. absent (subst (Contains list) is (Contains-get_or list k 0 below)) in
    elim (cases_lt i (length list)) [
      | inl i_below ↦ elim (cases_lt j (length list)) [
        | inl j_below ↦ once i j i_below j_below (sym (before i i_below) ∙ same ∙ before j j_below)
        | inr j_past ↦ absurd (clash i i_below (sym (before i i_below) ∙ same ∙ at_end j j_past j_within))
      ]
      | inr i_past ↦ elim (cases_lt j (length list)) [
        | inl j_below ↦ absurd (clash j j_below (sym (before j j_below) ∙ sym same ∙ at_end i i_past i_within))
        | inr j_past ↦ omega (arith, i_past, j_past, i_within, j_within)
      ]
    ]

-- where addresses have different numbers below a limit, a list of some of them that lacks one is shorter than the limit
coded-few : (P : ℕ → Type 0) (code : ℕ → ℕ) (limit : ℕ) (list : List ℕ) (address : ℕ) → ((a : ℕ) → P a → code a < limit)
    → ((a b : ℕ) → P a → P b → code a ≡ code b → a ≡ b) → ((i : ℕ) → i < length list → P (slice_index list i)) → HasEachOnce list
    → P address → ¬ Contains list address → length list < limit
coded-few P code limit list address below apart each once here absent =
    let entries : List ℕ = list ++ address ∷ [] in
    let codes : List ℕ = map code entries in
    let count : length codes ≡ length list + 1 = length-map entries code ∙ length_push list address in
    let holds : (i : ℕ) → i < length codes → P (slice_index entries i) =
    λ i within. with_last-holds P list address i each here (omega (arith, within, count)) in
    let read : (i : ℕ) → i < length codes → slice_index codes i ≡ code (slice_index entries i) =
    λ i within. get_or-map code entries i 0 0 (omega (arith, within, length-map entries code)) in
    let few : length codes ≤ limit =
    distinct-few codes limit
    (λ i within. subst (λ n. n < limit) (sym (read i within)) (below (slice_index entries i) (holds i within)))
    (λ i j i_within j_within same.
    with_last-once list address once absent i j (omega (arith, i_within, count)) (omega (arith, j_within, count))
    (apart (slice_index entries i) (slice_index entries j) (holds i i_within) (holds j j_within)
    (sym (read i i_within) ∙ same ∙ read j j_within))) in
    omega (arith, few, count)

-- a list has no entry that is at none of its places
pub absent-by_place : (list : List ℕ) (address : ℕ) → ((i : ℕ) → i < length list → slice_index list i ≢ address)
    → ¬ Contains list address
absent-by_place list address nowhere there =
    nowhere there.0 there.1 (sym (get_or_default list there.0 address 0 there.1) ∙ there.2)

-- ---- the addresses of cells

-- the address is that of a cell of a mutator's: so many words of its pages stand before it, a multiple of 4
record BeginsCell (layout : Layout) (m a : ℕ) : Type 0 where
  offset : ℕ
  at : cell_address layout m offset ≡ a
  multiple : offset % 4 ≡ 0
  inside : offset < 1024 * layout.pages

-- so is that of an extent in a cell
cell-begins : (layout : Layout) (m : ℕ) (pages : List Page) (address size : ℕ) → length pages ≡ layout.pages
    → LiesInCell layout m pages address size → BeginsCell layout m address
cell-begins layout m pages address size count lies =
    let quarter : ℕ = (size + 3) / 4 in
    let number : ℕ = lies.offset % 1024 / class_of size in
    let start : lies.offset % 1024 ≡ number * (4 * quarter) = start-is pages (class_of size) lies.offset lies.used.cell in
    record {
      offset = lies.offset;
      at = lies.at;
      multiple = omega (arith, start);
      inside = omega (arith, count, page-within pages (lies.offset / 1024) (class_of size) lies.used.cell.page);
    }

-- ---- the remembered list

-- the address is that of a cell of some mutator's
record BeginsSomeCell (layout : Layout) (a : ℕ) : Type 0 where
  owner : ℕ
  there : owner < layout.mutators
  cell : BeginsCell layout owner a

-- a placed object in a page begins a cell
placed-begins : (layout : Layout) (bay : ℕ → Bay) (placement : Placement) (graph : Graph) (number a : ℕ) → AreBays layout bay
    → AllLie layout.mutators bay placement graph → placement number ≡ Some a → IsInAPage layout a → BeginsSomeCell layout a
placed-begins layout bay placement graph number a are lie at page =
    let object = object_at graph number in
    let t = home_of object.maker in
    let home = lies-at_home layout.mutators bay placement graph number a lie at in
    let is = are.each t home.there in
    let own_layout : (bay t).layout ≡ layout = are.layout_is t home.there in
    let own_mutator : (bay t).mutator ≡ t = are.mutator_is t home.there in
    ⊎_elim
    (λ (half : LiesInHalf (bay t).layout (bay t).mutator (bay t).half (bay t).used a (object_size object)).
    absurd (half-not_in_page (bay t).layout (bay t).mutator (bay t).half (bay t).used a (object_size object) is.half is.used
    (omega arith) half (subst (λ each. IsInAPage each a) (sym own_layout) page)))
    (λ (cell : LiesInCell (bay t).layout (bay t).mutator (bay t).pages a (object_size object)).
    let begins = cell-begins (bay t).layout (bay t).mutator (bay t).pages a (object_size object) is.page_count cell in
    record { owner = t; there = home.there; cell = rw (own_layout, own_mutator) at begins })
    home.lies

-- the number of a cell's address among those of all mutators' cells
abbrev cell_code : Layout → ℕ → ℕ
cell_code layout a =
    owner_of layout a * (256 * layout.pages) + ((a - 1) % region_words layout - (16 + 2 * layout.nursery)) / 4

-- it is counted by its mutator and its offset
cell_code-is : (layout : Layout) (a : ℕ) → (begins : BeginsSomeCell layout a)
    → cell_code layout a ≡ begins.owner * (256 * layout.pages) + begins.cell.offset / 4
cell_code-is layout a begins =
    let m = begins.owner in
    let before : ℕ = 16 + 2 * layout.nursery + begins.cell.offset in
    let below : before < region_words layout = omega (arith, begins.cell.inside) in
    let place : 1 + m * region_words layout + before ≡ a = omega (arith, begins.cell.at) in
    let row = row_of a m (region_words layout) before below place in
    let column = column_of a m (region_words layout) before below place in
    ap (λ u. u * (256 * layout.pages) + ((a - 1) % region_words layout - (16 + 2 * layout.nursery)) / 4) row
    ∙ ap (λ k. m * (256 * layout.pages) + (k - (16 + 2 * layout.nursery)) / 4) column
    ∙ ap (λ k. m * (256 * layout.pages) + k / 4) (omega arith)

-- there are no more of them than a remembered list has room for
cell_code-below : (layout : Layout) (a : ℕ) → BeginsSomeCell layout a → cell_code layout a < remembered_room layout
cell_code-below layout a begins =
    let quarter : begins.cell.offset / 4 < 256 * layout.pages = omega (arith, begins.cell.inside) in
    omega (
      arith,
      cell_code-is layout a begins,
      mul-add-lt begins.owner (256 * layout.pages) (begins.cell.offset / 4) layout.mutators begins.there quarter,
    )

-- cells of one number are one
cell_code-apart : (layout : Layout) (a b : ℕ) → BeginsSomeCell layout a → BeginsSomeCell layout b
    → cell_code layout a ≡ cell_code layout b → a ≡ b
cell_code-apart layout a b one other same =
    let one_below : one.cell.offset / 4 < 256 * layout.pages = omega (arith, one.cell.inside) in
    let other_below : other.cell.offset / 4 < 256 * layout.pages = omega (arith, other.cell.inside) in
    let parts =
    same_from_place one.owner (one.cell.offset / 4) other.owner (other.cell.offset / 4) (256 * layout.pages) one_below other_below
    (sym (cell_code-is layout a one) ∙ same ∙ cell_code-is layout b other) in
    let offset : one.cell.offset ≡ other.cell.offset = omega (arith, parts.1, one.cell.multiple, other.cell.multiple) in
    sym one.cell.at
    ∙ ap (λ m. cell_address layout m one.cell.offset) parts.0
    ∙ ap (cell_address layout other.owner) offset
    ∙ other.cell.at

-- a remembered list has room for each placed object in a page that is on no list, and doesn't have it
pub list-room : (layout : Layout) (bay : ℕ → Bay) (placement : Placement) (graph : Graph) (number address t : ℕ)
    → AreLists layout layout.mutators bay placement → AreBays layout bay → AllLie layout.mutators bay placement graph
    → placement number ≡ Some address → IsInAPage layout address → ¬ IsOnAList layout.mutators bay address → t < layout.mutators
    → (length (bay t).remembered < remembered_room layout) × ¬ Contains (bay t).remembered address
list-room layout bay placement graph number address t lists are lie placed page absent there =
    let list : List ℕ = (bay t).remembered in
    let listed : (i : ℕ) → i < length list → IsListed layout.mutators bay (slice_index list i) t i =
    λ i within. record { mutator = there; within = within; at = refl } in
    let each : (i : ℕ) → i < length list → BeginsSomeCell layout (slice_index list i) = λ i within.
    let on : IsOnAList layout.mutators bay (slice_index list i) =
    record { mutator = t; index = i; listed = listed i within } in
    let held = lists.placed (slice_index list i) on in
    placed-begins layout bay placement graph held.number (slice_index list i) are lie held.at (lists.old (slice_index list i) on) in
    let once : HasEachOnce list = λ i j i_within j_within same.
    (lists.once (slice_index list i) t t i j (listed i i_within)
    (record { mutator = there; within = j_within; at = sym same })).1 in
    let new : ¬ Contains list address = absent-by_place list address (λ i within is.
    absent (record { mutator = t; index = i; listed = record { mutator = there; within = within; at = is } })) in (
      coded-few (BeginsSomeCell layout) (cell_code layout) (remembered_room layout) list address (cell_code-below layout)
          (cell_code-apart layout) each once (placed-begins layout bay placement graph number address are lie placed page) new,
      new,
    )

-- ---- the grey list

-- the number of an object's address among those of a mutator's: first those in its current half, and then those of its cells
abbrev own_code : Layout → ℕ → ℕ → ℕ → ℕ
own_code layout t half a =
    if nat_lt a (address_of layout t (InPage 0 0)) then (a - address_of layout t (Half half 0)) / 2
    else layout.nursery / 2 + (a - address_of layout t (InPage 0 0)) / 4

-- two words from the address on lie in a mutator's half
record BeginsInHalf (layout : Layout) (t half a : ℕ) : Type 0 where
  from : address_of layout t (Half half 0) ≤ a
  to : a + 2 ≤ address_of layout t (Half half layout.nursery)

-- in the half it counts by pairs of words
half_code-is : (layout : Layout) (t half a : ℕ) → half < 2 → BeginsInHalf layout t half a
    → own_code layout t half a ≡ (a - address_of layout t (Half half 0)) / 2
half_code-is layout t half a two begins =
    let before : a < address_of layout t (InPage 0 0) =
    omega (arith, begins.to, half-ends layout t half layout.nursery two (omega arith)) in
    rw (lt-ltb a (address_of layout t (InPage 0 0)) before) refl

-- and behind them it counts the cells
page_code-is : (layout : Layout) (t half a : ℕ) → (begins : BeginsCell layout t a)
    → own_code layout t half a ≡ layout.nursery / 2 + begins.offset / 4
page_code-is layout t half a begins =
    let pages : ℕ = address_of layout t (InPage 0 0) in
    let behind : pages ≤ a = omega (arith, begins.at) in
    let offset : a - pages ≡ begins.offset = omega (arith, begins.at) in
    rw (le-ltb a pages behind) (ap (λ k. layout.nursery / 2 + k / 4) offset)

-- an object of a mutator's lies in its half or begins a cell
own-begins : (layout : Layout) (bay : ℕ → Bay) (placement : Placement) (graph : Graph) (t a : ℕ) → AreBays layout bay
    → AllLie layout.mutators bay placement graph → t < layout.mutators → HoldsOwn placement graph t a
    → BeginsInHalf layout t (bay t).half a ⊎ BeginsCell layout t a
own-begins layout bay placement graph t a are lie there holds =
    let size = object_size (object_at graph holds.number) in
    let is = are.each t there in
    let own_layout : (bay t).layout ≡ layout = are.layout_is t there in
    let own_mutator : (bay t).mutator ≡ t = are.mutator_is t there in
    let lies : LiesIn (bay t) a size = subst (λ u. LiesIn (bay u) a size) holds.home (lie.lying holds.number a holds.at) in
    let used : (bay t).used ≤ layout.nursery = omega (arith, is.used, ap (λ (each : Layout). each.nursery) own_layout) in
    ⊎_elim
    (λ (half : LiesInHalf (bay t).layout (bay t).mutator (bay t).half (bay t).used a size).
    let here : LiesInHalf layout t (bay t).half (bay t).used a size = rw (own_layout, own_mutator) at half in
    inl (record { from = here.from; to = omega (arith, here.to, used) }))
    (λ (cell : LiesInCell (bay t).layout (bay t).mutator (bay t).pages a size).
    let begins = cell-begins (bay t).layout (bay t).mutator (bay t).pages a size is.page_count cell in
    inr (rw (own_layout, own_mutator) at begins))
    lies

-- an object of a mutator's that begins less than two words behind another one is this one
near-one : (placement : Placement) (graph : Graph) (t a b : ℕ) → AreApart placement graph → HoldsOwn placement graph t a
    → HoldsOwn placement graph t b → a ≤ b → b < a + 2 → a ≡ b
near-one placement graph t a b apart one other from to =
    let same : one.number ≡ other.number = apart b one.number other.number
    (record { address = a; at = one.at; from = from; to = omega (arith, to) })
    (record { address = b; at = other.at; from = omega arith; to = omega arith }) in
    let both : Some a ≡ Some b = sym one.at ∙ ap placement same ∙ other.at in
    cc both

-- a grey list of a mutator's objects, each once, has room for each of its objects that isn't on it
pub grey-room : (layout : Layout) (bay : ℕ → Bay) (placement : Placement) (graph : Graph) (t address : ℕ) (grey : List ℕ)
    → AreBays layout bay → AllLie layout.mutators bay placement graph → AreApart placement graph → t < layout.mutators
    → ((i : ℕ) → i < length grey → HoldsOwn placement graph t (slice_index grey i)) → HasEachOnce grey
    → HoldsOwn placement graph t address → ¬ Contains grey address → length grey < grey_room layout
grey-room layout bay placement graph t address grey are lie apart there each once here absent =
    let half = (bay t).half in
    let two : half < 2 = (are.each t there).half in
    let start : ℕ = address_of layout t (Half half 0) in
    let code : ℕ → ℕ = own_code layout t half in
    let begins : (a : ℕ) → HoldsOwn placement graph t a → BeginsInHalf layout t half a ⊎ BeginsCell layout t a =
    λ a holds. own-begins layout bay placement graph t a are lie there holds in
    let below : (a : ℕ) → HoldsOwn placement graph t a → code a < grey_room layout = λ a holds. elim (begins a holds) [
      | inl young ↦ omega (arith, half_code-is layout t half a two young, young.from, young.to)
      | inr cell ↦ omega (arith, page_code-is layout t half a cell, cell.inside)
    ] in
    let differ : (a b : ℕ) → HoldsOwn placement graph t a → HoldsOwn placement graph t b → code a ≡ code b → a ≡ b =
    λ a b one other same. elim (begins a one) [
      | inl a_young ↦ elim (begins b other) [
        | inl b_young ↦
            let pair : (a - start) / 2 ≡ (b - start) / 2 =
            sym (half_code-is layout t half a two a_young) ∙ same ∙ half_code-is layout t half b two b_young in
            elim (cases_lt a b) [
              | inl less ↦
                  near-one placement graph t a b apart one other (omega (arith, less))
                  (omega (arith, pair, a_young.from, b_young.from))
              | inr more ↦
                  sym (near-one placement graph t b a apart other one more (omega (arith, pair, a_young.from, b_young.from)))
            ]
        | inr b_cell ↦
            absurd (omega (
              arith,
              same,
              half_code-is layout t half a two a_young,
              page_code-is layout t half b b_cell,
              a_young.from,
              a_young.to,
            ))
      ]
      | inr a_cell ↦ elim (begins b other) [
        | inl b_young ↦
            absurd (omega (
              arith,
              same,
              half_code-is layout t half b two b_young,
              page_code-is layout t half a a_cell,
              b_young.from,
              b_young.to,
            ))
        | inr b_cell ↦
            let offset : a_cell.offset ≡ b_cell.offset =
            omega (
              arith,
              same,
              page_code-is layout t half a a_cell,
              page_code-is layout t half b b_cell,
              a_cell.multiple,
              b_cell.multiple,
            ) in
            sym a_cell.at ∙ ap (cell_address layout t) offset ∙ b_cell.at
      ]
    ] in
    coded-few (HoldsOwn placement graph t) code (grey_room layout) grey address below differ each once here absent
