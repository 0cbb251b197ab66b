-- Where objects lie that move: those that lay in halves lie in the halves that are left, and their copies elsewhere.
use Rattle.std.proofs.Common.{◌≡◌, ◌≢◌, ◌∙◌, ◌⊎◌, inl, inr, ⊎_elim, ℕ, zero, suc, ◌+◌, ◌-◌, ◌<◌, ◌≤◌, true, false, not, Option, Some, None, refl, ap, sym, subst, is_some, if◌then◌else◌, arith}
use Rattle.std.proofs.lemmas.Bool.{both_ways, cases_Bool, cases_lt, false≢true, not-false, not-true, not_from_false}
use Rattle.std.proofs.lemmas.Option.{none-some}
use Rattle.std.specs.Option.{option_map_or}
use Rattle.gc_bay.specs.Bay.{Bay, IsBay}
use Rattle.gc_layout.specs.Places.{Layout, address_of}
use Rattle.gc_layout.specs.Shape.{forwarding_address}
use Rattle.gc_layout.specs.declared.places.Part.TheVariants.{Half, Page as InPage}
use Rattle.gc_model.specs.Graph.{object_at, object_size}
use Rattle.gc_model.specs.World.{World}
use Rattle.gc_placement.specs.Bays.{AreBays}
use Rattle.gc_placement.specs.Extents.{AllLie, IsInAPage, LiesIn, LiesInCell, LiesInHalf, home_of}
use Rattle.gc_placement.specs.Flipped.{AreFlipped}
use Rattle.gc_placement.specs.Memory.{Memory}
use Rattle.gc_placement.specs.Rest.{IsAtRest}
use Rattle.gc_placement.specs.UnderWay.{all_begun}
use Rattle.gc_placement.specs.Moves.{KeepsPlaced, not_kept}
use Rattle.gc_placement.specs.Placement.{IsPlaced, IsWordOf, Placement}
use Rattle.gc_placement.specs.Sums.{is_in_page, is_young}
use Rattle.gc_placement.proofs.Copied.{IsCopied}
use Rattle.gc_placement.proofs.Extents.{cell-in_page, cell-in_region, fresh-apart, half-in_region, home-in_region, lies-at_home, lies-in_region}
use Rattle.gc_placement.proofs.Regions.{regions_apart}
use Rattle.gc_placement.proofs.Sums.{is_in_page-false, is_in_page-from, is_in_page-true}

-- ---- which objects lie in halves

-- whether a placed object is young is whether its address lies in no page
pub young-test : (layout : Layout) (placement : Placement) (number address : ℕ) → placement number ≡ Some address
    → is_young layout placement number ≡ not (is_in_page layout address)
young-test layout placement number address at =
    ap (λ (place : Option ℕ). option_map_or (λ each. not (is_in_page layout each)) place false) at

-- an object that isn't placed isn't young
pub young-unplaced : (layout : Layout) (placement : Placement) (number : ℕ) → placement number ≡ None
    → is_young layout placement number ≡ false
young-unplaced layout placement number at =
    ap (λ (place : Option ℕ). option_map_or (λ each. not (is_in_page layout each)) place false) at

-- a young object lies in no page
pub young-outside : (layout : Layout) (placement : Placement) (number address : ℕ) → placement number ≡ Some address
    → is_young layout placement number ≡ true → ¬ IsInAPage layout address
young-outside layout placement number address at young page =
    both_ways (is_in_page layout address)
    (not-true (is_in_page layout address) (sym (young-test layout placement number address at) ∙ young))
    (is_in_page-true layout address page)

-- a placed object that lies in no page is young
pub outside-young : (layout : Layout) (placement : Placement) (number address : ℕ) → placement number ≡ Some address
    → ¬ IsInAPage layout address → is_young layout placement number ≡ true
outside-young layout placement number address at outside =
    young-test layout placement number address at
    ∙ not_from_false (is_in_page layout address) (is_in_page-false layout address outside)

-- one that lies in a page isn't
pub page-old : (layout : Layout) (placement : Placement) (number address : ℕ) → placement number ≡ Some address
    → IsInAPage layout address → is_young layout placement number ≡ false
page-old layout placement number address at page =
    young-test layout placement number address at ∙ ap not (is_in_page-true layout address page)

-- a placed object that isn't young lies in a page
pub old-page : (layout : Layout) (placement : Placement) (number address : ℕ) → placement number ≡ Some address
    → is_young layout placement number ≡ false → IsInAPage layout address
old-page layout placement number address at aged =
    is_in_page-from layout address
    (not-false (is_in_page layout address) (sym (young-test layout placement number address at) ∙ aged))

-- what is in a half is somewhere
young-place : (layout : Layout) (place : Option ℕ) → option_map_or (λ each. not (is_in_page layout each)) place false ≡ true
    → (address : ℕ) × (place ≡ Some address)
young-place layout None is = absurd (false≢true is)
young-place layout (Some address) is = (address, refl)

-- a young object is placed
pub young-placed : (layout : Layout) (placement : Placement) (number : ℕ) → is_young layout placement number ≡ true
    → IsPlaced placement number
young-placed layout placement number young =
    let place = young-place layout (placement number) young in record { address = place.0; at = place.1 }

-- an object that has the same place in another placement is as young there
pub young-same : (layout : Layout) (one other : Placement) (number : ℕ) → one number ≡ other number
    → is_young layout one number ≡ is_young layout other number
young-same layout one other number same = ap (λ (place : Option ℕ). option_map_or (λ each. not (is_in_page layout each)) place false) same

-- an object that is young after was young before
pub young-before : (layout : Layout) (before after : Placement) (number : ℕ) → KeepsPlaced layout before after
    → is_young layout after number ≡ true → is_young layout before number ≡ true
young-before layout before after number keeps young =
    let was = keeps.only number (young-placed layout after number young) in
    outside-young layout before number was.address was.at (λ page.
    false≢true (sym (page-old layout after number was.address (keeps.old number was.address was.at page) page) ∙ young))

-- ---- the halves that are left

-- the two halves of a mutator have no word in common
halves-apart : (layout : Layout) (m half used other a : ℕ) → half < 2 → used ≤ layout.nursery → other ≤ layout.nursery
    → address_of layout m (Half half 0) ≤ a → a < address_of layout m (Half half used)
    → address_of layout m (Half (1 - half) 0) ≤ a → a < address_of layout m (Half (1 - half) other) → ⊥
halves-apart layout m zero used other a two within fits from to begins ends = omega arith
halves-apart layout m (suc zero) used other a two within fits from to begins ends = omega arith
halves-apart layout m (suc (suc half)) used other a two within fits from to begins ends = omega arith

-- a young object lies in the used part of the half that was the current one of its maker before the collection
pub young-left : (old : Memory) (before : Placement) (world : World) (i a : ℕ) → IsAtRest old before world → before i ≡ Some a
    → is_young old.layout before i ≡ true
    → (home_of (object_at world.graph i).maker < old.layout.mutators)
    × LiesInHalf old.layout (home_of (object_at world.graph i).maker) (old.bay (home_of (object_at world.graph i).maker)).half
    (old.bay (home_of (object_at world.graph i).maker)).used a (object_size (object_at world.graph i))
young-left old before world i a rest at young =
    let t = home_of (object_at world.graph i).maker in
    let size = object_size (object_at world.graph i) in
    let own = old.bay t in
    let there : t < old.layout.mutators = rest.shown.lying.home i a at in
    let own_layout : own.layout ≡ old.layout = rest.shown.bays.layout_is t there in
    let own_mutator : own.mutator ≡ t = rest.shown.bays.mutator_is t there in (
      there,
      ⊎_elim
          (λ (half : LiesInHalf own.layout own.mutator own.half own.used a size). rw (own_layout, own_mutator) at half)
          (λ (cell : LiesInCell own.layout own.mutator own.pages a size).
          let page = cell-in_page own.layout own.mutator own.pages a size (rest.shown.bays.each t there).page_count cell in
          absurd (young-outside old.layout before i a at young (subst (λ layout. IsInAPage layout a) own_layout page)))
          (rest.shown.lying.lying i a at),
    )

-- a bay is a mutator's, with the other half as the current one than before the collection
pub record IsFlippedBay (old : Memory) (t : ℕ) (own : Bay) : Type 0 where
  pub there : t < old.layout.mutators
  pub is : IsBay own
  pub layout : own.layout ≡ old.layout
  pub mutator : own.mutator ≡ t
  pub half : own.half ≡ 1 - (old.bay t).half

-- as the bays are while a minor collection is under way
pub flipped-bay : (old : Memory) (bay : ℕ → Bay) (t : ℕ) → AreBays old.layout bay
    → AreFlipped old.layout.mutators all_begun old.bay bay → t < old.layout.mutators → IsFlippedBay old t (bay t)
flipped-bay old bay t are flipped there = record {
  there = there;
  is = are.each t there;
  layout = are.layout_is t there;
  mutator = are.mutator_is t there;
  half = flipped t there;
}

-- what lies in such a bay has no word of a young object at its place before
pub left-apart : (old : Memory) (before : Placement) (world : World) (t : ℕ) (own : Bay) (address size i a : ℕ)
    → IsAtRest old before world → IsFlippedBay old t own → LiesIn own address size → address ≤ a → a < address + size
    → is_young old.layout before i ≡ true → IsWordOf before world.graph i a → ⊥
left-apart old before world t own address size i a rest flipped lies from to young word =
    let u = home_of (object_at world.graph i).maker in
    let left = young-left old before world i word.address rest word.at young in
    let was = old.bay u in
    let was_bay : IsBay was = rest.shown.bays.each u left.0 in
    let was_used : was.used ≤ old.layout.nursery =
    subst (λ layout. was.used ≤ layout.nursery) (rest.shown.bays.layout_is u left.0) was_bay.used in
    let behind = half-in_region old.layout u was.half was.used word.address (object_size (object_at world.graph i)) was_bay.half
    was_used left.1 in
    let home = home-in_region old.layout old.bay (object_at world.graph i) word.address rest.shown.bays
    (lies-at_home old.layout.mutators old.bay before world.graph i word.address rest.shown.lying word.at) in
    let region = rw (flipped.layout, flipped.mutator) at (lies-in_region own address size flipped.is lies) in
    let same : u ≡ t =
    regions_apart old.layout u t a (omega (arith, home.0, word.from)) (omega (arith, home.1, word.to)) (omega (arith, region.0, from))
    (omega (arith, region.1, to)) in
    ⊎_elim
    (λ (half : LiesInHalf own.layout own.mutator own.half own.used address size).
    let own_used : own.used ≤ old.layout.nursery = subst (λ layout. own.used ≤ layout.nursery) flipped.layout flipped.is.used in
    let here : LiesInHalf old.layout u (1 - was.half) own.used address size =
    rw same (subst (λ each. LiesInHalf old.layout t each own.used address size) flipped.half
    (rw (flipped.layout, flipped.mutator) at half)) in
    halves-apart old.layout u was.half was.used own.used a was_bay.half was_used own_used (omega (arith, left.1.from, word.from))
    (omega (arith, left.1.to, word.to)) (omega (arith, here.from, from)) (omega (arith, here.to, to)))
    (λ (cell : LiesInCell own.layout own.mutator own.pages address size).
    let inside = rw (flipped.layout, flipped.mutator) at
    (cell-in_region own.layout own.mutator own.pages address size flipped.is.page_count cell) in
    let pages : address_of old.layout u (InPage 0 0) ≤ address = rw same inside.0 in
    omega (arith, pages, behind.1, from, word.to))
    lies

-- ---- the copies

-- no word is one of a young object at its place before and one of an object that is kept, at its place after
pub moves-apart : (old : Memory) (before : Placement) (world : World) (bay : ℕ → Bay) (after : Placement) → IsAtRest old before world
    → AreBays old.layout bay → AreFlipped old.layout.mutators all_begun old.bay bay → AllLie old.layout.mutators bay after world.graph
    → KeepsPlaced old.layout before after → (i j a : ℕ) → is_young old.layout before i ≡ true
    → IsWordOf before world.graph i a → IsWordOf after world.graph j a → ⊥
moves-apart old before world bay after rest are flipped lie keeps i j a young word other =
    let object = object_at world.graph j in
    let t = home_of object.maker in
    left-apart old before world t (bay t) other.address (object_size object) i a rest
    (flipped-bay old bay t are flipped (lie.home j other.address other.at)) (lie.lying j other.address other.at) other.from other.to young
    word

-- a young object that is kept is placed elsewhere than before
pub moved-elsewhere : (old : Memory) (before : Placement) (world : World) (bay : ℕ → Bay) (after : Placement) → IsAtRest old before world
    → AreBays old.layout bay → AreFlipped old.layout.mutators all_begun old.bay bay → AllLie old.layout.mutators bay after world.graph
    → KeepsPlaced old.layout before after → (i a c : ℕ) → before i ≡ Some a → is_young old.layout before i ≡ true
    → after i ≡ Some c → c ≢ a
moved-elsewhere old before world bay after rest are flipped lie keeps i a c at young moved same =
    moves-apart old before world bay after rest are flipped lie keeps i i a young
    (record { address = a; at = at; from = omega arith; to = omega arith })
    (record { address = c; at = moved; from = omega (arith, same); to = omega (arith, same) })

-- an object that isn't kept was young
pub unkept-young : (layout : Layout) (before after : Placement) (number address : ℕ)
    → KeepsPlaced layout before after → before number ≡ Some address → after number ≡ None
    → is_young layout before number ≡ true
unkept-young layout before after number address keeps at unkept =
    outside-young layout before number address at (λ page. none-some address (sym unkept ∙ keeps.old number address at page))

-- what is there where a test of another place fails is there, and that place is none
chosen-from : (kept place : Option ℕ) (address : ℕ) → (if is_some kept then None else place) ≡ Some address
    → (kept ≡ None) × (place ≡ Some address)
chosen-from None place address at = (refl, at)
chosen-from (Some copy) place address at = absurd (none-some address at)

-- an object that has a place as one that isn't kept isn't kept, and had that place before
pub not_kept-from : (before after : Placement) (number address : ℕ) → not_kept before after number ≡ Some address
    → (after number ≡ None) × (before number ≡ Some address)
not_kept-from before after number address at = chosen-from (after number) (before number) address at

-- so it was young
pub not_kept-young : (layout : Layout) (before after : Placement) (number address : ℕ)
    → KeepsPlaced layout before after → not_kept before after number ≡ Some address
    → is_young layout before number ≡ true
not_kept-young layout before after number address keeps at =
    let from = not_kept-from before after number address at in
    unkept-young layout before after number address keeps from.1 from.0

-- no word of the copy is one of an object that is kept
pub copy-apart_kept : {old : Memory} {before : Placement} {world : World} {bay new : ℕ → Bay} {after : Placement}
    {number address copy size : ℕ} {own : Bay} → IsAtRest old before world
    → IsCopied old before world bay new after number address copy size own → AreBays old.layout bay
    → AllLie old.layout.mutators bay after world.graph → (j a : ℕ) → copy ≤ a → a < copy + size → IsWordOf after world.graph j a → ⊥
copy-apart_kept {old} {before} {world} {bay} {new} {after} {number} {address} {copy} {size} {own} rest copied are lie j a from to word =
    let t = home_of (object_at world.graph number).maker in
    ⊎_elim (λ below. omega (arith, below, from)) (λ behind. omega (arith, behind, to))
    (fresh-apart old.layout bay after world.graph t copy size are lie (rest.shown.lying.home number address copied.at) copied.fresh j a
    word)

-- nor one of an object that was young, at its place before
pub copy-apart_left : {old : Memory} {before : Placement} {world : World} {bay new : ℕ → Bay} {after : Placement}
    {number address copy size : ℕ} {own : Bay} → IsAtRest old before world
    → IsCopied old before world bay new after number address copy size own → AreBays old.layout bay
    → AreFlipped old.layout.mutators all_begun old.bay bay → (i a : ℕ) → copy ≤ a → a < copy + size
    → is_young old.layout before i ≡ true → IsWordOf before world.graph i a → ⊥
copy-apart_left {old} {before} {world} {bay} {new} {after} {number} {address} {copy} {size} {own} rest copied are flipped i a from to young
    word =
    let t = home_of (object_at world.graph number).maker in
    let there : t < old.layout.mutators = rest.shown.lying.home number address copied.at in
    left-apart old before world t own copy size i a rest (record {
      there = there;
      is = copied.more.owner.bay;
      layout = copied.more.owner.layout ∙ are.layout_is t there;
      mutator = copied.more.owner.mutator ∙ are.mutator_is t there;
      half = copied.more.half ∙ flipped t there;
    }) copied.more.lies from to young word

-- so not one of an object that isn't kept, at its place before
pub copy-apart_unkept : {old : Memory} {before : Placement} {world : World} {bay new : ℕ → Bay} {after : Placement}
    {number address copy size : ℕ} {own : Bay} → IsAtRest old before world
    → IsCopied old before world bay new after number address copy size own → AreBays old.layout bay
    → AreFlipped old.layout.mutators all_begun old.bay bay → KeepsPlaced old.layout before after → (i a : ℕ) → copy ≤ a
    → a < copy + size → IsWordOf (not_kept before after) world.graph i a → ⊥
copy-apart_unkept {old} {before} {world} {bay} {new} {after} rest copied are flipped keeps i a from to word =
    let was = not_kept-from before after i word.address word.at in
    copy-apart_left rest copied are flipped i a from to (not_kept-young old.layout before after i word.address keeps word.at)
    (record { address = word.address; at = was.1; from = word.from; to = word.to })

-- nor one of any object at its place before
pub copy-apart_before : {old : Memory} {before : Placement} {world : World} {bay new : ℕ → Bay} {after : Placement}
    {number address copy size : ℕ} {own : Bay} → IsAtRest old before world
    → IsCopied old before world bay new after number address copy size own → AreBays old.layout bay
    → AreFlipped old.layout.mutators all_begun old.bay bay → AllLie old.layout.mutators bay after world.graph
    → KeepsPlaced old.layout before after → (i a : ℕ) → copy ≤ a → a < copy + size → IsWordOf before world.graph i a → ⊥
copy-apart_before {old} {before} {world} {bay} {new} {after} rest copied are flipped lie keeps i a from to word =
    elim (cases_Bool (is_young old.layout before i)) [
      | inl young ↦ copy-apart_left rest copied are flipped i a from to young word
      | inr aged ↦
          let page = old-page old.layout before i word.address word.at aged in
          copy-apart_kept rest copied are lie i a from to
          (record { address = word.address; at = keeps.old i word.address word.at page; from = word.from; to = word.to })
    ]

-- a word that isn't one of so many lies before or behind them
clear-from : (start size a : ℕ) → (start ≤ a → a < start + size → ⊥) → (a < start) ⊎ (start + size ≤ a)
clear-from start size a outside =
    elim (cases_lt a start) [
      | inl below ↦ inl below
      | inr from ↦ elim (cases_lt a (start + size)) [ inl to ↦ absurd (outside from to) | inr behind ↦ inr behind ]
    ]

-- so the words of the objects at their places before lie before the copy or behind it
pub copy-clear_before : {old : Memory} {before : Placement} {world : World} {bay new : ℕ → Bay} {after : Placement}
    {number address copy size : ℕ} {own : Bay} → IsAtRest old before world
    → IsCopied old before world bay new after number address copy size own → AreBays old.layout bay
    → AreFlipped old.layout.mutators all_begun old.bay bay → AllLie old.layout.mutators bay after world.graph
    → KeepsPlaced old.layout before after → (i a : ℕ) → IsWordOf before world.graph i a
    → (a < copy) ⊎ (copy + size ≤ a)
copy-clear_before {old} {before} {world} {bay} {new} {after} {number} {address} {copy} {size} rest copied are flipped lie keeps i a word =
    clear-from copy size a (λ from to. copy-apart_before rest copied are flipped lie keeps i a from to word)

-- and those of the objects that are kept
pub copy-clear_kept : {old : Memory} {before : Placement} {world : World} {bay new : ℕ → Bay} {after : Placement}
    {number address copy size : ℕ} {own : Bay} → IsAtRest old before world
    → IsCopied old before world bay new after number address copy size own → AreBays old.layout bay
    → AllLie old.layout.mutators bay after world.graph → (j a : ℕ) → IsWordOf after world.graph j a → (a < copy) ⊎ (copy + size ≤ a)
copy-clear_kept {old} {before} {world} {bay} {new} {after} {number} {address} {copy} {size} rest copied are lie j a word =
    clear-from copy size a (λ from to. copy-apart_kept rest copied are lie j a from to word)

-- and none of them is the forwarding word of the copied object
pub forwarding-apart : {old : Memory} {before : Placement} {world : World} {bay new : ℕ → Bay} {after : Placement}
    {number address copy size : ℕ} {own : Bay} → IsAtRest old before world
    → IsCopied old before world bay new after number address copy size own → AreBays old.layout bay
    → AreFlipped old.layout.mutators all_begun old.bay bay → AllLie old.layout.mutators bay after world.graph
    → KeepsPlaced old.layout before after → (j a : ℕ) → IsWordOf after world.graph j a → a ≢ forwarding_address address
forwarding-apart {old} {before} {world} {bay} {new} {after} {number} {address} rest copied are flipped lie keeps j a word same =
    moves-apart old before world bay after rest are flipped lie keeps number j a copied.young
    (record { address = address; at = copied.at; from = omega (arith, same); to = omega (arith, same) }) word
