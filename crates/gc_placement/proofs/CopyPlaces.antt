-- An object is copied: what this leaves of the bays and of the placement after.
use Rattle.std.proofs.Common.{◌≡◌, ◌≢◌, ◌∙◌, ◌⊎◌, inl, inr, ⊎_elim, ℕ, ◌+◌, ◌-◌, ◌<◌, ◌≤◌, Bool, true, false, List, length, Option, Some, None, refl, ap, sym, subst, slice_index, arith}
use Rattle.std.proofs.lemmas.Bool.{false≢true}
use Rattle.std.proofs.lemmas.Option.{none-some}
use Rattle.gc_bay.specs.Bay.{Bay}
use Rattle.gc_gen2.specs.Cells.{IsUsed, IsUsedCell}
use Rattle.gc_layout.specs.Places.{cell_address}
use Rattle.gc_model.specs.Graph.{Graph, object_at, object_size}
use Rattle.gc_model.specs.Reach.{Tracing, is_reached}
use Rattle.gc_model.specs.World.{World, named_by, slot_at}
use Rattle.gc_placement.specs.Bays.{AreBays}
use Rattle.gc_placement.specs.Extents.{AllLie, AreApart, EachCellHolds, LiesIn, home_of}
use Rattle.gc_placement.specs.Flipped.{AreFlipped, CellsStay}
use Rattle.gc_placement.specs.Holders.{CoversDone, Done, HaveMovingRegisters, OnlyKeptAreDone}
use Rattle.gc_placement.specs.Memory.{Memory}
use Rattle.gc_placement.specs.Rest.{IsAtRest}
use Rattle.gc_placement.specs.UnderWay.{all_begun}
use Rattle.gc_placement.specs.Moves.{KeepsPlaced, YoungAreReached, name_before_or_after}
use Rattle.gc_placement.specs.Placement.{IsNamePlaced, IsPlaced, IsWordOf, Placement, with_place}
use Rattle.gc_placement.proofs.Bays.{are_bays-changed, each-changed}
use Rattle.gc_placement.proofs.Copied.{IsCopied}
use Rattle.gc_placement.proofs.Extents.{IsTaken, LiesAtHome, all_lie-where, holds-more, lies-at_home, lies-more}
use Rattle.gc_placement.proofs.MovePlaces.{copy-apart_kept, young-outside}
use Rattle.gc_placement.proofs.Names.{name_placed-with_place}
use Rattle.gc_placement.proofs.Placement.{name_address-with_place, with_place-from, with_place-other, with_place-same}

-- ---- the placement

-- an object that has a place after the copy is the copied one, or it was kept there before
pub kept-from : (after : Placement) (number copy each : ℕ) → IsPlaced (with_place after number copy) each
    → (each ≡ number) ⊎ IsPlaced after each
kept-from after number copy each placed = elim (with_place-from after number copy each placed.address placed.at) [
  | inl here ↦ inl here.0
  | inr before ↦ inr (record { address = placed.address; at = before.1 })
]

-- one that has none isn't the copied one, and had none
pub unkept-from : (after : Placement) (number copy each : ℕ) → with_place after number copy each ≡ None
    → (each ≢ number) × (after each ≡ None)
unkept-from after number copy each none =
    let differs : each ≢ number = λ same.
    none-some copy (sym none ∙ ap (with_place after number copy) same ∙ with_place-same after number copy) in
    (differs, sym (with_place-other after number copy each differs) ∙ none)

-- what isn't kept has no place
no_place : (after : Placement) (number a : ℕ) → after number ≡ None → after number ≢ Some a
no_place after number a none some = none-some a (sym none ∙ some)

-- what is named has the same address where an object is copied that wasn't kept
pub same_name-copied : (before after : Placement) (number copy : ℕ) (done : Bool) (name : Option ℕ) → after number ≡ None
    → (done ≡ true → IsNamePlaced after name)
    → name_before_or_after before (with_place after number copy) done name ≡ name_before_or_after before after done name
same_name-copied before after number copy true name unkept placed =
    name_address-with_place after number copy name (placed refl) (λ a. no_place after number a unkept)
same_name-copied before after number copy false name unkept placed = refl

-- what was placed is kept, and what lies in a page stays where it is
pub keeps-copied : {old : Memory} {before : Placement} {world : World} {bay new : ℕ → Bay} {after : Placement}
    {number address copy size : ℕ} {own : Bay} → IsCopied old before world bay new after number address copy size own
    → KeepsPlaced old.layout before after → KeepsPlaced old.layout before (with_place after number copy)
keeps-copied {old} {before} {world} {bay} {new} {after} {number} {address} {copy} copied keeps = record {
  only = λ each placed. elim (kept-from after number copy each placed) [
    | inl same ↦ record { address = address; at = ap before same ∙ copied.at }
    | inr kept ↦ keeps.only each kept
  ];
  old = λ each place at page.
      with_place-other after number copy each (λ same.
      young-outside old.layout before number place (ap before (sym same) ∙ at) copied.young page)
      ∙ keeps.old each place at page;
}

-- the copied object was reached
pub reached-copied : {old : Memory} {before : Placement} {world : World} {bay new : ℕ → Bay} {after : Placement}
    {number address copy size : ℕ} {own : Bay} (tracing : Tracing)
    → IsCopied old before world bay new after number address copy size own → is_reached tracing number ≡ true
    → YoungAreReached tracing old.layout before after → YoungAreReached tracing old.layout before (with_place after number copy)
reached-copied {old} {before} {world} {bay} {new} {after} {number} {address} {copy} tracing copied reached kept each young placed =
    elim (kept-from after number copy each placed) [
      | inl same ↦ subst (λ n. is_reached tracing n ≡ true) (sym same) reached
      | inr before ↦ kept each young before
    ]

-- no slot of the copied object is done
pub only_kept-copied : {old : Memory} {before : Placement} {world : World} {bay new : ℕ → Bay} {after : Placement}
    {number address copy size : ℕ} {own : Bay} → IsCopied old before world bay new after number address copy size own
    → (slots : ℕ → ℕ → Bool) → OnlyKeptAreDone after slots → OnlyKeptAreDone (with_place after number copy) slots
only_kept-copied {old} {before} {world} {bay} {new} {after} {number} {address} {copy} copied slots only each place none =
    only each place (unkept-from after number copy each none).1

-- what is named where it is done stays kept
pub covers_done-copied : {old : Memory} {before : Placement} {world : World} {bay new : ℕ → Bay} {after : Placement}
    {number address copy size : ℕ} {own : Bay} → IsCopied old before world bay new after number address copy size own
    → (done : Done) → OnlyKeptAreDone after done.slots → CoversDone after done world
    → CoversDone (with_place after number copy) done world
covers_done-copied {old} {before} {world} {bay} {new} {after} {number} {address} {copy} copied done only covers = record {
  registers = λ t reg is. name_placed-with_place after number copy (named_by world t reg) (covers.registers t reg is);
  slots = λ each place placed is. elim (kept-from after number copy each placed) [
    | inl same ↦ absurd (false≢true (sym (only each place (ap after same ∙ copied.unkept)) ∙ is))
    | inr kept ↦ name_placed-with_place after number copy (slot_at world each place) (covers.slots each place kept is)
  ];
}

-- ---- the bays

-- the bays are bays
pub are_bays-copied : {old : Memory} {before : Placement} {world : World} {bay new : ℕ → Bay} {after : Placement}
    {number address copy size : ℕ} {own : Bay} → IsCopied old before world bay new after number address copy size own
    → AreBays old.layout bay → AreBays old.layout new
are_bays-copied {old} {before} {world} {bay} {new} {after} {number} {address} {copy} {size} {own} copied are =
    are_bays-changed old.layout bay new (home_of (object_at world.graph number).maker) own are copied.changed
    (λ _. copied.more.owner)

-- their halves are as before
pub flipped-copied : {old : Memory} {before : Placement} {world : World} {bay new : ℕ → Bay} {after : Placement}
    {number address copy size : ℕ} {own : Bay} → IsCopied old before world bay new after number address copy size own
    → AreFlipped old.layout.mutators all_begun old.bay bay → AreFlipped old.layout.mutators all_begun old.bay new
flipped-copied {old} {before} {world} {bay} {new} {after} {number} {address} {copy} {size} {own} copied flipped =
    let t = home_of (object_at world.graph number).maker in
    each-changed (λ u each. u < old.layout.mutators → each.half ≡ 1 - (old.bay u).half) bay new t own copied.changed
    (λ there. copied.more.half ∙ flipped t there) (λ u differs there. flipped u there)

-- used cells stay used
pub cells_stay-copied : {old : Memory} {before : Placement} {world : World} {bay new : ℕ → Bay} {after : Placement}
    {number address copy size : ℕ} {own : Bay} → IsCopied old before world bay new after number address copy size own
    → CellsStay old.layout.mutators old.bay bay → CellsStay old.layout.mutators old.bay new
cells_stay-copied {old} {before} {world} {bay} {new} {after} {number} {address} {copy} {size} {own} copied stay u class offset =
    let t = home_of (object_at world.graph number).maker in
    each-changed (λ m each. m < old.layout.mutators → IsUsedCell (old.bay m).pages class offset → IsUsedCell each.pages class offset) bay
    new t own copied.changed (λ there used. copied.more.stays class offset (stay t class offset there used))
    (λ m differs. stay m class offset) u

-- the registers are as before, and name what is kept
pub moving_registers-copied : {old : Memory} {before : Placement} {world : World} {bay new : ℕ → Bay} {after : Placement}
    {number address copy size : ℕ} {own : Bay} → IsCopied old before world bay new after number address copy size own
    → (done : Done) → CoversDone after done world
    → HaveMovingRegisters old.layout.mutators bay before after done.registers world
    → HaveMovingRegisters old.layout.mutators new before (with_place after number copy) done.registers world
moving_registers-copied {old} {before} {world} {bay} {new} {after} {number} {address} {copy} {size} {own} copied done covers have u reg
    there =
    let t = home_of (object_at world.graph number).maker in
    let same : (new u).registers ≡ (bay u).registers =
    each-changed (λ m each. each.registers ≡ (bay m).registers) bay new t own copied.changed copied.registers (λ m differs. refl) u in
    ap (λ (registers : List ℕ). slice_index registers reg) same
    ∙ have u reg there
    ∙ sym (same_name-copied before after number copy (done.registers u reg) (named_by world u reg) copied.unkept (covers.registers u reg))

-- ---- the extents

-- the copy lies in its maker's bay, and the others lie where they lay
pub all_lie-copied : {old : Memory} {before : Placement} {world : World} {bay new : ℕ → Bay} {after : Placement}
    {number address copy size : ℕ} {own : Bay} → IsAtRest old before world
    → IsCopied old before world bay new after number address copy size own → AllLie old.layout.mutators bay after world.graph
    → AllLie old.layout.mutators new (with_place after number copy) world.graph
all_lie-copied {old} {before} {world} {bay} {new} {after} {number} {address} {copy} {size} {own} rest copied lie =
    let graph = world.graph in
    let t = home_of (object_at graph number).maker in
    let stays =
    each-changed (λ u each. (a s : ℕ) → u < old.layout.mutators → LiesIn (bay u) a s → LiesIn each a s) bay new t own copied.changed
    (λ a s there lies. lies-more (bay t) own copy size a s copied.more lies)
    (λ u differs a s there lies. lies) in
    let still = all_lie-where old.layout.mutators bay new after graph stays lie in
    let here : LiesIn (new t) copy (object_size (object_at graph number)) =
    rw (copied.changed.here, sym copied.size_is) copied.more.lies in
    let each : (i place : ℕ) → with_place after number copy i ≡ Some place
    → (i < length graph) × LiesAtHome old.layout.mutators new (object_at graph i) place =
    λ i place at. elim (with_place-from after number copy i place at) [
      | inl same ↦
          rw (same.0, same.1) (
            rest.shown.lying.there number address copied.at,
            record { there = rest.shown.lying.home number address copied.at; lies = here },
          )
      | inr before ↦ (lie.there i place before.1, lies-at_home old.layout.mutators new after graph i place still before.1)
    ] in
    record {
      there = λ i place at. (each i place at).0;
      home = λ i place at. (each i place at).1.there;
      lying = λ i place at. (each i place at).1.lies;
    }

-- the address is that of a word of the copy
record IsWordOfCopy (number copy size i a : ℕ) : Type 0 where
  number_is : i ≡ number
  from : copy ≤ a
  to : a < copy + size

-- a word of an object that is kept is one of the copy's, or it was one before
word-copied : (after : Placement) (graph : Graph) (number copy i a : ℕ) → IsWordOf (with_place after number copy) graph i a
    → IsWordOfCopy number copy (object_size (object_at graph number)) i a ⊎ IsWordOf after graph i a
word-copied after graph number copy i a word = elim (with_place-from after number copy i word.address word.at) [
  | inl here ↦
      let size : object_size (object_at graph i) ≡ object_size (object_at graph number) =
      ap (λ n. object_size (object_at graph n)) here.0 in
      inl (record { number_is = here.0; from = omega (arith, here.1, word.from); to = omega (arith, here.1, size, word.to) })
  | inr before ↦ inr (record { address = word.address; at = before.1; from = word.from; to = word.to })
]

-- the objects that are kept are apart
pub apart-copied : {old : Memory} {before : Placement} {world : World} {bay new : ℕ → Bay} {after : Placement}
    {number address copy size : ℕ} {own : Bay} → IsAtRest old before world
    → IsCopied old before world bay new after number address copy size own → AreBays old.layout bay
    → AllLie old.layout.mutators bay after world.graph → AreApart after world.graph
    → AreApart (with_place after number copy) world.graph
apart-copied {old} {before} {world} {bay} {new} {after} {number} {address} {copy} {size} {own} rest copied are lie apart a i j one other =
    let graph = world.graph in
    let size_is = copied.size_is in
    let clash : (n m : ℕ) → IsWordOfCopy number copy (object_size (object_at graph number)) n a → IsWordOf after graph m a → ⊥ =
    λ n m new old. copy-apart_kept rest copied are lie m a new.from (omega (arith, size_is, new.to)) old in
    elim (word-copied after graph number copy i a one) [
      | inl i_new ↦ elim (word-copied after graph number copy j a other) [
        | inl j_new ↦ i_new.number_is ∙ sym j_new.number_is
        | inr j_old ↦ absurd (clash i j i_new j_old)
      ]
      | inr i_old ↦ elim (word-copied after graph number copy j a other) [
        | inl j_new ↦ absurd (clash j i j_new i_old)
        | inr j_old ↦ apart a i j i_old j_old
      ]
    ]

-- each used cell holds an object that is kept
pub cells-copied : {old : Memory} {before : Placement} {world : World} {bay new : ℕ → Bay} {after : Placement}
    {number address copy size : ℕ} {own : Bay} → IsCopied old before world bay new after number address copy size own
    → (filling : ℕ → Bool) → EachCellHolds old.layout.mutators bay after filling
    → EachCellHolds old.layout.mutators new (with_place after number copy) filling
cells-copied {old} {before} {world} {bay} {new} {after} {number} {address} {copy} {size} {own} copied filling hold u offset =
    let t = home_of (object_at world.graph number).maker in
    let grown = with_place after number copy in
    let still : (a : ℕ) → IsTaken after filling a → IsTaken grown filling a =
    λ a. ⊎_elim (λ holds. inl (holds-more after number copy a (λ place at. no_place after number place copied.unkept at) holds))
    (λ fills. inr fills) in
    each-changed
    (λ m each. (at : ℕ) → m < old.layout.mutators → IsUsed each.pages at
    → IsTaken grown filling (cell_address each.layout each.mutator at))
    bay new t own copied.changed
    (λ at there used. elim (copied.more.more at used) [
      | inl was ↦
          rw (copied.more.owner.layout, copied.more.owner.mutator)
          (still (cell_address (bay t).layout (bay t).mutator at) (hold t at there was))
      | inr here ↦ rw here (inl (record { number = number; at = with_place-same after number copy }))
    ])
    (λ m differs at there used. still (cell_address (bay m).layout (bay m).mutator at) (hold m at there used)) u offset
