-- Where the extents of placed objects lie, that they are apart, and what changes of a bay and of the graph leave of this.
use Rattle.std.proofs.Common.{◌≡◌, ◌≢◌, ◌⊎◌, inl, inr, ⊎_elim, ℕ, ◌+◌, ◌*◌, ◌/◌, ◌<◌, ◌≤◌, List, [], ◌∷◌, ◌++◌, length, Bool, true, Option, Some, None, refl, sym, ap, subst, ◌∙◌, arith, nat_le}
use Rattle.std.proofs.lemmas.Bool.{cases_eq, cases_lt}
use Rattle.std.proofs.lemmas.List.{length_push}
use Rattle.std.proofs.lemmas.Option.{cond_some, none-some}
use Rattle.std.specs.Prelude.{option_map}
use Rattle.gc_bay.specs.Bay.{Bay, IsBay}
use Rattle.gc_bay.specs.Extent.{IsFreshExtent, IsInUse, next_in_cells, next_in_half}
use Rattle.gc_bay.proofs.ExtentLemmas.{half-ends, pages-end}
use Rattle.gc_gen2.specs.Cells.{IsUsed, IsUsedCell, TakesCell, next_cell}
use Rattle.gc_gen2.specs.Class.{class_of}
use Rattle.gc_gen2.specs.Page.{Page}
use Rattle.gc_gen2.proofs.CellLaws.{cell-ends}
use Rattle.gc_gen2.proofs.PagesLemmas.{page-within}
use Rattle.gc_layout.specs.declared.places.Part.TheVariants.{Half, Page as InPage}
use Rattle.gc_layout.specs.declared.shape.Shape.{Shape}
use Rattle.gc_layout.specs.Places.{Layout, address_of, cell_address, region_start, word_count}
use Rattle.gc_layout.specs.Shape.{size_of}
use Rattle.gc_model.specs.Answer.{shape_at}
use Rattle.gc_model.specs.Graph.{Graph, Object, fresh_object, object_at, object_size}
use Rattle.gc_model.specs.World.{World, with_object}
use Rattle.gc_model.proofs.Objects.{fresh_object-size}
use Rattle.gc_placement.specs.Bays.{AreBays}
use Rattle.gc_placement.specs.Changes.{ChangesBay, HasOneMoreExtent, HasSameExtents}
use Rattle.gc_placement.specs.Extents.{AllLie, AreApart, CommonLies, EachCellHolds, HoldsPlaced, IsInAPage, LiesIn, LiesInCell, LiesInHalf, home_of}
use Rattle.gc_placement.specs.Placement.{IsWordOf, Placement, with_place}
use Rattle.gc_placement.proofs.Bays.{each-changed}
use Rattle.gc_placement.proofs.Graphs.{KeepsSizes, push-before, push-last}
use Rattle.gc_placement.proofs.Placement.{with_place-from, with_place-other, with_place-same}
use Rattle.gc_placement.proofs.Regions.{region-within, regions_apart}

-- ---- where an extent lies

-- an extent in a half lies between the start of the region and the pages
pub half-in_region : (layout : Layout) (m half used address size : ℕ) → half < 2 → used ≤ layout.nursery
    → LiesInHalf layout m half used address size
    → (region_start layout m ≤ address) × (address + size ≤ address_of layout m (InPage 0 0))
half-in_region layout m half used address size two within lies =
    (omega (arith, lies.from), omega (arith, lies.to, half-ends layout m half used two within))

-- a used cell ends inside the pages
cell-within : (layout : Layout) (pages : List Page) (class offset : ℕ) → length pages ≡ layout.pages → IsUsedCell pages class offset
    → offset + class ≤ 1024 * layout.pages
cell-within layout pages class offset count used =
    omega (arith, count, page-within pages (offset / 1024) class used.cell.page, cell-ends pages class offset used.cell)

-- an extent in a cell lies between the start of the pages and the end of the region
pub cell-in_region : (layout : Layout) (m : ℕ) (pages : List Page) (address size : ℕ) → length pages ≡ layout.pages
    → LiesInCell layout m pages address size
    → (address_of layout m (InPage 0 0) ≤ address) × (address + size ≤ region_start layout (m + 1))
cell-in_region layout m pages address size count lies =
    let end : cell_address layout m lies.offset + class_of size ≤ region_start layout (m + 1) =
    pages-end layout m lies.offset (class_of size) (cell-within layout pages (class_of size) lies.offset count lies.used) in
    (omega (arith, lies.at), omega (arith, end, lies.at))

-- an extent of a bay lies in its mutator's region
pub lies-in_region : (bay : Bay) (address size : ℕ) → IsBay bay → LiesIn bay address size
    → (region_start bay.layout bay.mutator ≤ address) × (address + size ≤ region_start bay.layout (bay.mutator + 1))
lies-in_region bay address size is lies =
    ⊎_elim
    (λ (half : LiesInHalf bay.layout bay.mutator bay.half bay.used address size).
    let inside = half-in_region bay.layout bay.mutator bay.half bay.used address size is.half is.used half in
    (inside.0, omega (arith, inside.1)))
    (λ (cell : LiesInCell bay.layout bay.mutator bay.pages address size).
    let inside = cell-in_region bay.layout bay.mutator bay.pages address size is.page_count cell in
    (omega (arith, inside.0), inside.1))
    lies

-- and each of its words is in use there
pub lies-in_use : (bay : Bay) (address size a : ℕ) → LiesIn bay address size → address ≤ a → a < address + size → IsInUse bay a
lies-in_use bay address size a lies from to =
    ⊎_elim
    (λ (half : LiesInHalf bay.layout bay.mutator bay.half bay.used address size).
    inl (record { from = omega (arith, half.from); to = omega (arith, half.to) }))
    (λ (cell : LiesInCell bay.layout bay.mutator bay.pages address size).
    inr (record {
      class = class_of size;
      offset = cell.offset;
      cell = cell.used;
      from = omega (arith, cell.at);
      to = omega (arith, cell.at);
    }))
    lies

-- an extent of a half begins in no page
pub half-not_in_page : (layout : Layout) (m half used address size : ℕ) → half < 2 → used ≤ layout.nursery → 1 ≤ size
    → LiesInHalf layout m half used address size → ¬ IsInAPage layout address
half-not_in_page layout m half used address size two within some lies page =
    let inside = half-in_region layout m half used address size two within lies in
    let same : m ≡ page.mutator =
    regions_apart layout m page.mutator address inside.0 (omega (arith, inside.1)) (omega (arith, page.inside.from))
    (omega (arith, page.inside.to)) in
    let pages : address_of layout m (InPage 0 0) ≤ address =
    subst (λ u. address_of layout u (InPage 0 0) ≤ address) (sym same) page.inside.from in
    omega (arith, inside.1, pages)

-- and one of a cell in a page
pub cell-in_page : (layout : Layout) (m : ℕ) (pages : List Page) (address size : ℕ) → length pages ≡ layout.pages
    → LiesInCell layout m pages address size → IsInAPage layout address
cell-in_page layout m pages address size count lies = record {
  mutator = m;
  inside = record {
    from = omega (arith, lies.at);
    to = omega (arith, lies.at, count, page-within pages (lies.offset / 1024) (class_of size) lies.used.cell.page);
  };
}

-- an object lies at an address in the bay of its maker
pub record LiesAtHome (mutators : ℕ) (bay : ℕ → Bay) (object : Object) (address : ℕ) : Type 0 where
  pub there : home_of object.maker < mutators
  pub lies : LiesIn (bay (home_of object.maker)) address (object_size object)

-- as each placed object does
pub lies-at_home : (mutators : ℕ) (bay : ℕ → Bay) (placement : Placement) (graph : Graph) (number address : ℕ)
    → AllLie mutators bay placement graph → placement number ≡ Some address → LiesAtHome mutators bay (object_at graph number) address
lies-at_home mutators bay placement graph number address lie at =
    record { there = lie.home number address at; lies = lie.lying number address at }

-- so it lies in the region of its maker
pub home-in_region : (layout : Layout) (bay : ℕ → Bay) (object : Object) (address : ℕ) → AreBays layout bay
    → LiesAtHome layout.mutators bay object address
    → (region_start layout (home_of object.maker) ≤ address)
    × (address + object_size object ≤ region_start layout (home_of object.maker + 1))
home-in_region layout bay object address are home =
    let t = home_of object.maker in
    let inside = lies-in_region (bay t) address (object_size object) (are.each t home.there) home.lies in
    let own_layout : (bay t).layout ≡ layout = are.layout_is t home.there in
    let own_mutator : (bay t).mutator ≡ t = are.mutator_is t home.there in
    (rw (own_layout, own_mutator) at inside.0, rw (own_layout, own_mutator) at inside.1)

-- a word of a placed object is a word of the heap
pub word-within : (layout : Layout) (bay : ℕ → Bay) (placement : Placement) (graph : Graph) (number a : ℕ) → AreBays layout bay
    → AllLie layout.mutators bay placement graph → IsWordOf placement graph number a → (1 ≤ a) × (a < 1 + word_count layout)
word-within layout bay placement graph number a are lie word =
    let object = object_at graph number in
    let home = lies-at_home layout.mutators bay placement graph number word.address lie word.at in
    let inside = home-in_region layout bay object word.address are home in
    region-within layout (home_of object.maker) a home.there (omega (arith, inside.0, word.from)) (omega (arith, inside.1, word.to))

-- a fresh extent has no word of a placed object
pub fresh-apart : (layout : Layout) (bay : ℕ → Bay) (placement : Placement) (graph : Graph) (t address size : ℕ) → AreBays layout bay
    → AllLie layout.mutators bay placement graph → t < layout.mutators → IsFreshExtent (bay t) address size
    → (number a : ℕ) → IsWordOf placement graph number a → (a < address) ⊎ (address + size ≤ a)
fresh-apart layout bay placement graph t address size are lie there fresh number a word =
    let object = object_at graph number in
    let u = home_of object.maker in
    let home = lies-at_home layout.mutators bay placement graph number word.address lie word.at in
    let own = home-in_region layout bay object word.address are home in
    let own_layout : (bay t).layout ≡ layout = are.layout_is t there in
    let own_mutator : (bay t).mutator ≡ t = are.mutator_is t there in
    let from : region_start layout t ≤ address = rw (own_layout, own_mutator) at fresh.from in
    let to : address + size ≤ region_start layout (t + 1) = rw (own_layout, own_mutator) at fresh.to in
    elim (cases_lt a address) [
      | inl before ↦ inl before
      | inr behind ↦ elim (cases_lt a (address + size)) [
        | inl inside ↦
            let same : u ≡ t =
            regions_apart layout u t a (omega (arith, own.0, word.from)) (omega (arith, own.1, word.to)) (omega (arith, from, behind))
            (omega (arith, to, inside)) in
            let used : IsInUse (bay u) a = lies-in_use (bay u) word.address (object_size object) a home.lies word.from word.to in
            absurd (fresh.apart a behind inside (subst (λ owner. IsInUse (bay owner) a) same used))
        | inr past ↦ inr past
      ]
    ]

-- ---- what a change of a bay leaves of an extent

-- where a bay's extents are as before, an extent lies where it lay
pub lies-same : (old new : Bay) (address size : ℕ) → HasSameExtents old new → LiesIn old address size → LiesIn new address size
lies-same old new address size same lies = rw (same.owner.layout, same.owner.mutator, same.half, same.used, same.pages) lies

-- and where there is one more
pub lies-more : (old new : Bay) (a s address size : ℕ) → HasOneMoreExtent old new a s → LiesIn old address size
    → LiesIn new address size
lies-more old new a s address size more lies =
    rw (more.owner.layout, more.owner.mutator, more.half)
    (⊎_elim
    (λ (half : LiesInHalf old.layout old.mutator old.half old.used address size).
    inl (record { from = half.from; to = omega (arith, half.to, more.used) }))
    (λ (cell : LiesInCell old.layout old.mutator old.pages address size).
    inr (record { offset = cell.offset; at = cell.at; used = more.stays (class_of size) cell.offset cell.used }))
    lies)

-- ---- all lie

-- where each extent lies where it lay, each placed object does
pub all_lie-where : (mutators : ℕ) (old new : ℕ → Bay) (placement : Placement) (graph : Graph)
    → ((u address size : ℕ) → u < mutators → LiesIn (old u) address size → LiesIn (new u) address size)
    → AllLie mutators old placement graph → AllLie mutators new placement graph
all_lie-where mutators old new placement graph stays lie = record {
  there = lie.there;
  home = lie.home;
  lying = λ number address at.
      stays (home_of (object_at graph number).maker) address (object_size (object_at graph number)) (lie.home number address at)
      (lie.lying number address at);
}

-- a mutator's bay changes, and its extents are as before
pub all_lie-bay : (mutators : ℕ) (old new : ℕ → Bay) (t : ℕ) (bay : Bay) (placement : Placement) (graph : Graph)
    → ChangesBay old new t bay → (t < mutators → HasSameExtents (old t) bay) → AllLie mutators old placement graph
    → AllLie mutators new placement graph
all_lie-bay mutators old new t bay placement graph changes same =
    all_lie-where mutators old new placement graph
    (each-changed (λ u each. (address size : ℕ) → u < mutators → LiesIn (old u) address size → LiesIn each address size) old new t bay
    changes
    (λ address size there lies. lies-same (old t) bay address size (same there) lies)
    (λ u differs address size there lies. lies))

-- all bays are as before
pub all_lie-same : (mutators : ℕ) (old new : ℕ → Bay) (placement : Placement) (graph : Graph) → ((u : ℕ) → new u ≡ old u)
    → AllLie mutators old placement graph → AllLie mutators new placement graph
all_lie-same mutators old new placement graph same =
    all_lie-where mutators old new placement graph
    (λ u address size there lies. subst (λ each. LiesIn each address size) (sym (same u)) lies)

-- the graph changes, and keeps the makers and the sizes
pub all_lie-graph : (mutators : ℕ) (bay : ℕ → Bay) (placement : Placement) (old new : Graph) → KeepsSizes old new
    → AllLie mutators bay placement old → AllLie mutators bay placement new
all_lie-graph mutators bay placement old new keeps lie = record {
  there = λ number address at. omega (arith, keeps.count, lie.there number address at);
  home = λ number address at. rw (keeps.maker number) (lie.home number address at);
  lying = λ number address at. rw (keeps.maker number, keeps.size number) (lie.lying number address at);
}

-- one more object lies in its maker's bay, and the others lie where they lay
all_lie-push : (mutators : ℕ) (old new : ℕ → Bay) (placement : Placement) (graph : Graph) (object : Object) (address : ℕ)
    → ((u a s : ℕ) → u < mutators → LiesIn (old u) a s → LiesIn (new u) a s) → LiesAtHome mutators new object address
    → AllLie mutators old placement graph → AllLie mutators new (with_place placement (length graph) address) (graph ++ object ∷ [])
all_lie-push mutators old new placement graph object address stays home lie =
    let after = with_place placement (length graph) address in
    let grown = graph ++ object ∷ [] in
    let still = all_lie-where mutators old new placement graph stays lie in
    let each : (number place : ℕ) → after number ≡ Some place
    → (number < length grown) × LiesAtHome mutators new (object_at grown number) place =
    λ number place at. elim (with_place-from placement (length graph) address number place at) [
      | inl here ↦
          let last : object_at grown number ≡ object = ap (object_at grown) here.0 ∙ push-last graph object in (
            omega (arith, here.0, length_push graph object),
            rw (last, here.1) home,
          )
      | inr before ↦
          let there : number < length graph = lie.there number place before.1 in (
            omega (arith, there, length_push graph object),
            rw (push-before graph object number there) (lies-at_home mutators new placement graph number place still before.1),
          )
    ] in
    record {
      there = λ number place at. (each number place at).0;
      home = λ number place at. (each number place at).1.there;
      lying = λ number place at. (each number place at).1.lies;
    }

-- a mutator makes an object where its bay has one more extent
pub all_lie-new : (types : List Shape) (world : World) (mutators : ℕ) (old new : ℕ → Bay) (t ty : ℕ) (bay : Bay) (placement : Placement)
    (address size : ℕ) → ChangesBay old new t bay → HasOneMoreExtent (old t) bay address size → t < mutators
    → size ≡ size_of (shape_at types ty) → AllLie mutators old placement world.graph
    → AllLie mutators new (with_place placement (length world.graph) address)
    (with_object world (fresh_object ty (Some t) (shape_at types ty))).graph
all_lie-new types world mutators old new t ty bay placement address size changes more there size_is =
    let object = fresh_object ty (Some t) (shape_at types ty) in
    let stays =
    each-changed (λ u each. (a s : ℕ) → u < mutators → LiesIn (old u) a s → LiesIn each a s) old new t bay changes
    (λ a s there lies. lies-more (old t) bay address size a s more lies)
    (λ u differs a s there lies. lies) in
    let same : object_size object ≡ size = fresh_object-size ty (Some t) (shape_at types ty) ∙ sym size_is in
    let lies : LiesIn (new t) address (object_size object) = rw (changes.here, same) more.lies in
    all_lie-push mutators old new placement world.graph object address stays (record { there = there; lies = lies })

-- ---- extents are apart

-- the sizes are as before
pub apart-graph : (placement : Placement) (old new : Graph)
    → ((number : ℕ) → object_size (object_at new number) ≡ object_size (object_at old number)) → AreApart placement old
    → AreApart placement new
apart-graph placement old new sizes apart =
    let before : (number a : ℕ) → IsWordOf placement new number a → IsWordOf placement old number a =
    λ number a word. record { address = word.address; at = word.at; from = word.from; to = rw (sizes number) at word.to } in
    λ a i j one other. apart a i j (before i a one) (before j a other)

-- the address is that of a word of the new object
record IsWordOfNew (graph : Graph) (address size number a : ℕ) : Type 0 where
  number_is : number ≡ length graph
  from : address ≤ a
  to : a < address + size

-- a word of an object is one of the new one's, or it was one before
word-from : (placement : Placement) (graph : Graph) (object : Object) (address number a : ℕ)
    → ((other place : ℕ) → placement other ≡ Some place → other < length graph)
    → IsWordOf (with_place placement (length graph) address) (graph ++ object ∷ []) number a
    → IsWordOfNew graph address (object_size object) number a ⊎ IsWordOf placement graph number a
word-from placement graph object address number a there word =
    let grown = graph ++ object ∷ [] in
    elim (with_place-from placement (length graph) address number word.address word.at) [
      | inl here ↦
          let last : object_at grown number ≡ object = ap (object_at grown) here.0 ∙ push-last graph object in
          let size : object_size (object_at grown number) ≡ object_size object = ap object_size last in
          inl (record { number_is = here.0; from = omega (arith, here.1, word.from); to = omega (arith, here.1, size, word.to) })
      | inr before ↦
          let same = push-before graph object number (there number word.address before.1) in
          let size : object_size (object_at grown number) ≡ object_size (object_at graph number) = ap object_size same in
          inr (record { address = word.address; at = before.1; from = word.from; to = omega (arith, size, word.to) })
    ]

-- one more object that has no word of the others
apart-push : (placement : Placement) (graph : Graph) (object : Object) (address : ℕ)
    → ((other place : ℕ) → placement other ≡ Some place → other < length graph)
    → ((number a : ℕ) → IsWordOf placement graph number a → (a < address) ⊎ (address + object_size object ≤ a)) → AreApart placement graph
    → AreApart (with_place placement (length graph) address) (graph ++ object ∷ [])
apart-push placement graph object address there fresh apart a i j one other =
    let size = object_size object in
    let clash : (n m : ℕ) → IsWordOfNew graph address size n a → IsWordOf placement graph m a → ⊥ =
    λ n m new old. ⊎_elim (λ before. omega (arith, before, new.from)) (λ past. omega (arith, past, new.to)) (fresh m a old) in
    elim (word-from placement graph object address i a there one) [
      | inl i_new ↦ elim (word-from placement graph object address j a there other) [
        | inl j_new ↦ i_new.number_is ∙ sym j_new.number_is
        | inr j_old ↦ absurd (clash i j i_new j_old)
      ]
      | inr i_old ↦ elim (word-from placement graph object address j a there other) [
        | inl j_new ↦ absurd (clash j i j_new i_old)
        | inr j_old ↦ apart a i j i_old j_old
      ]
    ]

-- a new object of a type at an extent that is apart from all placed words
pub apart-new : (types : List Shape) (world : World) (mutators : ℕ) (bay : ℕ → Bay) (t ty : ℕ) (placement : Placement) (address size : ℕ)
    → AllLie mutators bay placement world.graph
    → ((number a : ℕ) → IsWordOf placement world.graph number a → (a < address) ⊎ (address + size ≤ a))
    → size ≡ size_of (shape_at types ty) → AreApart placement world.graph
    → AreApart (with_place placement (length world.graph) address) (with_object world (fresh_object ty (Some t) (shape_at types ty))).graph
apart-new types world mutators bay t ty placement address size lie fresh size_is =
    let object = fresh_object ty (Some t) (shape_at types ty) in
    let same : object_size object ≡ size = fresh_object-size ty (Some t) (shape_at types ty) ∙ sym size_is in
    apart-push placement world.graph object address lie.there (λ number a word. rw same (fresh number a word))

-- ---- each used cell holds an object

-- a cell holds a placed object, or is being filled
abbrev pub IsTaken : Placement → (ℕ → Bool) → ℕ → Type 0
IsTaken placement filling a = HoldsPlaced placement a ⊎ (filling a ≡ true)

-- the used cells of a bay whose extents are as before are taken as before
same-cells : (old new : Bay) (placement : Placement) (filling : ℕ → Bool) → HasSameExtents old new
    → ((offset : ℕ) → IsUsed old.pages offset → IsTaken placement filling (cell_address old.layout old.mutator offset))
    → (offset : ℕ) → IsUsed new.pages offset → IsTaken placement filling (cell_address new.layout new.mutator offset)
same-cells old new placement filling same hold offset used =
    let before : IsUsed old.pages offset = rw same.pages at used in
    rw (same.owner.layout, same.owner.mutator) (hold offset before)

-- a mutator's bay changes, and its extents are as before
pub cells-bay : (mutators : ℕ) (old new : ℕ → Bay) (t : ℕ) (bay : Bay) (placement : Placement) (filling : ℕ → Bool)
    → ChangesBay old new t bay → (t < mutators → HasSameExtents (old t) bay) → EachCellHolds mutators old placement filling
    → EachCellHolds mutators new placement filling
cells-bay mutators old new t bay placement filling changes same hold u offset =
    each-changed
    (λ m each. (at : ℕ) → m < mutators → IsUsed each.pages at → IsTaken placement filling (cell_address each.layout each.mutator at))
    old new t bay changes
    (λ at there used.
    same-cells (old t) bay placement filling (same there) (λ other was. hold t other there was) at used)
    (λ m differs at. hold m at) u offset

-- all bays are as before
pub cells-same : (mutators : ℕ) (old new : ℕ → Bay) (placement : Placement) (filling : ℕ → Bool) → ((u : ℕ) → new u ≡ old u)
    → EachCellHolds mutators old placement filling → EachCellHolds mutators new placement filling
cells-same mutators old new placement filling same hold u offset there =
    subst (λ (each : Bay). IsUsed each.pages offset → IsTaken placement filling (cell_address each.layout each.mutator offset))
    (sym (same u)) (hold u offset there)

-- an address that holds a placed object holds it also where one more is placed
pub holds-more : (placement : Placement) (number address a : ℕ) → ((place : ℕ) → placement number ≡ Some place → ⊥)
    → HoldsPlaced placement a → HoldsPlaced (with_place placement number address) a
holds-more placement number address a unplaced holds =
    let differs : holds.number ≢ number = λ same. unplaced a (subst (λ n. placement n ≡ Some a) same holds.at) in
    record { number = holds.number; at = with_place-other placement number address holds.number differs ∙ holds.at }

-- a mutator's bay has one more extent, and the new object is placed there
pub cells-new : (mutators : ℕ) (old new : ℕ → Bay) (t : ℕ) (bay : Bay) (placement : Placement) (graph : Graph) (filling : ℕ → Bool)
    (address size : ℕ) → ChangesBay old new t bay → HasOneMoreExtent (old t) bay address size → AllLie mutators old placement graph
    → EachCellHolds mutators old placement filling → EachCellHolds mutators new (with_place placement (length graph) address) filling
cells-new mutators old new t bay placement graph filling address size changes more lie hold u offset =
    let after = with_place placement (length graph) address in
    let unplaced : (place : ℕ) → placement (length graph) ≡ Some place → ⊥ = λ place at. omega (arith, lie.there (length graph) place at) in
    let still : (a : ℕ) → IsTaken placement filling a → IsTaken after filling a =
    λ a. ⊎_elim (λ holds. inl (holds-more placement (length graph) address a unplaced holds)) (λ fills. inr fills) in
    each-changed
    (λ m each. (at : ℕ) → m < mutators → IsUsed each.pages at → IsTaken after filling (cell_address each.layout each.mutator at))
    old new t bay changes
    (λ at there used. elim (more.more at used) [
      | inl was ↦ rw (more.owner.layout, more.owner.mutator) (still (cell_address (old t).layout (old t).mutator at) (hold t at there was))
      | inr here ↦ rw here (inl (record { number = length graph; at = with_place-same placement (length graph) address }))
    ])
    (λ m differs at there used. still (cell_address (old m).layout (old m).mutator at) (hold m at there used)) u offset

-- ---- the common object

-- the common object lies where it lay where one more object is placed
pub common-new : (layout : Layout) (placement : Placement) (number address : ℕ) → 0 < number → CommonLies layout placement
    → CommonLies layout (with_place placement number address)
common-new layout placement number address some lies =
    let differs : 0 ≢ number = λ same. omega (arith, same, some) in with_place-other placement number address 0 differs ∙ lies

-- ---- what a step does to a bay's extents

-- other registers leave them as they are
pub same-register : (bay : Bay) (registers : List ℕ) → IsBay (record bay { registers = registers })
    → HasSameExtents bay (record bay { registers = registers })
same-register bay registers is =
    record { owner = record { bay = is; layout = refl; mutator = refl }; half = refl; used = refl; pages = refl }

-- what leaves them as they are twice leaves them
pub same-trans : (old mid new : Bay) → HasSameExtents old mid → HasSameExtents mid new → HasSameExtents old new
same-trans old mid new first second = record {
  owner = record {
    bay = second.owner.bay;
    layout = second.owner.layout ∙ first.owner.layout;
    mutator = second.owner.mutator ∙ first.owner.mutator;
  };
  half = second.half ∙ first.half;
  used = second.used ∙ first.used;
  pages = second.pages ∙ first.pages;
}

-- one more extent, and then the same ones
pub more-then_same : (old mid new : Bay) (address size : ℕ) → HasOneMoreExtent old mid address size → HasSameExtents mid new
    → HasOneMoreExtent old new address size
more-then_same old mid new address size more same = record {
  owner = record {
    bay = same.owner.bay;
    layout = same.owner.layout ∙ more.owner.layout;
    mutator = same.owner.mutator ∙ more.owner.mutator;
  };
  half = same.half ∙ more.half;
  used = omega (arith, more.used, same.used);
  stays = λ class offset used. rw same.pages (more.stays class offset used);
  more = λ offset used.
      let was : IsUsed mid.pages offset = rw same.pages at used in rw (same.owner.layout, same.owner.mutator) (more.more offset was);
  lies = lies-same mid new address size same more.lies;
}

-- the next words of the current half are one more extent
pub more-bump : (bay : Bay) (size address : ℕ) → IsBay (record bay { used = bay.used + size })
    → Some address ≡ next_in_half bay size → HasOneMoreExtent bay (record bay { used = bay.used + size }) address size
more-bump bay size address is next =
    let start : address_of bay.layout bay.mutator (Half bay.half bay.used) ≡ address =
    (cond_some (nat_le (bay.used + size) bay.layout.nursery) (address_of bay.layout bay.mutator (Half bay.half bay.used)) address
    (sym next)).1 in
    record {
      owner = record { bay = is; layout = refl; mutator = refl };
      half = refl;
      used = omega arith;
      stays = λ class offset used. used;
      more = λ offset used. inl used;
      lies = inl (record { from = omega (arith, start); to = omega (arith, start) });
    }

-- what a map over an option gives comes from what is there
given-from : (f : ℕ → ℕ) (there : Option ℕ) (a : ℕ) → Some a ≡ option_map f there → (x : ℕ) × (there ≡ Some x) × (f x ≡ a)
given-from f None a given = absurd (none-some a (sym given))
given-from f (Some x) a given = let same : Some a ≡ Some (f x) = given in (x, refl, cc same)

-- the next cell of the size's class, where it is taken, has so many words
pub cell-taken : (old new : Bay) (size address : ℕ) → Some address ≡ next_in_cells old size
    → ((offset : ℕ) → next_cell old.pages (class_of size) ≡ Some offset → TakesCell old.pages new.pages (class_of size) offset)
    → new ≡ record old { pages = new.pages; given = new.given } → LiesInCell new.layout new.mutator new.pages address size
cell-taken old new size address given takes rest =
    let next = given-from (cell_address old.layout old.mutator) (next_cell old.pages (class_of size)) address given in
    let layout : new.layout ≡ old.layout = ap (λ (bay : Bay). bay.layout) rest in
    let mutator : new.mutator ≡ old.mutator = ap (λ (bay : Bay). bay.mutator) rest in
    record { offset = next.0; at = rw (layout, mutator) next.2; used = (takes next.0 next.1).used }

-- so it is one more extent
pub more-cell : (old new : Bay) (size address : ℕ) → Some address ≡ next_in_cells old size
    → ((offset : ℕ) → next_cell old.pages (class_of size) ≡ Some offset → TakesCell old.pages new.pages (class_of size) offset)
    → new ≡ record old { pages = new.pages; given = new.given } → IsBay new → HasOneMoreExtent old new address size
more-cell old new size address given takes rest is =
    let next = given-from (cell_address old.layout old.mutator) (next_cell old.pages (class_of size)) address given in
    let offset = next.0 in
    let taken = takes offset next.1 in
    let layout : new.layout ≡ old.layout = ap (λ (bay : Bay). bay.layout) rest in
    let mutator : new.mutator ≡ old.mutator = ap (λ (bay : Bay). bay.mutator) rest in
    let at : cell_address new.layout new.mutator offset ≡ address = rw (layout, mutator) next.2 in
    record {
      owner = record { bay = is; layout = layout; mutator = mutator };
      half = ap (λ (bay : Bay). bay.half) rest;
      used = omega (arith, ap (λ (bay : Bay). bay.used) rest);
      stays = λ class other used. elim (cases_eq other offset) [
        | inl same ↦ absurd (taken.unused (subst (IsUsed old.pages) same (class, used)))
        | inr differs ↦ (taken.others class other differs).1 used
      ];
      more = λ other used. elim (cases_eq other offset) [
        | inl same ↦ inr (rw same at)
        | inr differs ↦ inl (used.0, (taken.others used.0 other differs).0 used.1)
      ];
      lies = inr (cell-taken old new size address given takes rest);
    }
