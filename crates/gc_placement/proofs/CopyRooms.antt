-- The rooms of the lists where an object is copied: its maker's lists don't have the copy, and have room for it.
use Rattle.std.proofs.Common.{◌≡◌, ◌≢◌, ◌∙◌, ℕ, ◌<◌, length, Contains, Some, false, refl, ap, sym, subst, arith, slice_index}
use Rattle.std.proofs.lemmas.Option.{none-some}
use Rattle.gc_bay.specs.Bay.{Bay}
use Rattle.gc_bay.specs.Room.{grey_room, remembered_room}
use Rattle.gc_model.specs.Graph.{object_at}
use Rattle.gc_model.specs.World.{World}
use Rattle.gc_model.specs.declared.entry.RunKind.{RunKind}
use Rattle.gc_placement.specs.Extents.{HoldsOwn, IsInAPage, home_of}
use Rattle.gc_placement.specs.Holders.{Done, IsGreyAt}
use Rattle.gc_placement.specs.Memory.{Memory}
use Rattle.gc_placement.specs.Rest.{IsAtRest}
use Rattle.gc_placement.specs.UnderWay.{IsCollectionUnderWay}
use Rattle.gc_placement.specs.Placement.{Placement, with_place}
use Rattle.gc_placement.specs.Remembered.{IsListed, IsOnAList}
use Rattle.gc_placement.proofs.Bays.{each-changed}
use Rattle.gc_placement.proofs.Copied.{IsCopied}
use Rattle.gc_placement.proofs.Copy.{copies-apart}
use Rattle.gc_placement.proofs.CopyLists.{lists-copied, may_grow-remembered}
use Rattle.gc_placement.proofs.CopyPlaces.{all_lie-copied, apart-copied, are_bays-copied}
use Rattle.gc_placement.proofs.CopyWords.{copy-unplaced}
use Rattle.gc_placement.proofs.Placement.{with_place-other, with_place-same}
use Rattle.gc_placement.proofs.Remembered.{unplaced-on_no_list}
use Rattle.gc_placement.proofs.Rooms.{absent-by_place, grey-room, list-room}

-- no object that is kept stands where the copy does
pub copy-new : {kind : RunKind} {old : Memory} {before : Placement} {world : World} {word : ℕ → ℕ} {bay new : ℕ → Bay}
    {after : Placement} {done : Done}
    {waiting : ℕ → ℕ → Type 0} {number address copy size : ℕ} {own : Bay} → IsAtRest old before world
    → IsCollectionUnderWay kind old before world word bay after done waiting
    → IsCopied old before world bay new after number address copy size own → (each : ℕ) → after each ≢ Some copy
copy-new {kind} {old} {before} {world} {word} {bay} {new} {after} {done} {waiting} {number} {address} {copy} {size} rest under copied =
    copy-unplaced before after world.graph address copy size
    (copies-apart rest copied under.bays under.flipped under.lying under.keeps) (omega (arith, copied.size_is))

-- an object of a mutator's that is kept is one where the copy is kept too
holds-copied : {old : Memory} {before : Placement} {world : World} {bay new : ℕ → Bay} {after : Placement}
    {number address copy size : ℕ} {own : Bay} → IsCopied old before world bay new after number address copy size own
    → (t a : ℕ) → HoldsOwn after world.graph t a → HoldsOwn (with_place after number copy) world.graph t a
holds-copied {old} {before} {world} {bay} {new} {after} {number} {address} {copy} copied t a holds =
    let differs : holds.number ≢ number = λ same. none-some a (sym copied.unkept ∙ ap after (sym same) ∙ holds.at) in
    record { number = holds.number; at = with_place-other after number copy holds.number differs ∙ holds.at; home = holds.home }

-- the grey list
pub grey_room-copied : {kind : RunKind} {old : Memory} {before : Placement} {world : World} {word : ℕ → ℕ} {bay new : ℕ → Bay}
    {after : Placement}
    {done : Done} {waiting : ℕ → ℕ → Type 0} {number address copy size : ℕ} {own : Bay} → IsAtRest old before world
    → IsCollectionUnderWay kind old before world word bay after done waiting
    → IsCopied old before world bay new after number address copy size own
    → (length (bay (home_of (object_at world.graph number).maker)).grey < grey_room old.layout)
    × ¬ Contains (bay (home_of (object_at world.graph number).maker)).grey copy
grey_room-copied {kind} {old} {before} {world} {word} {bay} {new} {after} {done} {waiting} {number} {address} {copy} {size} {own} rest under
    copied =
    let graph = world.graph in
    let t = home_of (object_at graph number).maker in
    let there : t < old.layout.mutators = rest.shown.lying.home number address copied.at in
    let unplaced = copy-new rest under copied in
    let listed : (i : ℕ) → i < length (bay t).grey → IsGreyAt old.layout.mutators bay (slice_index (bay t).grey i) t i =
    λ i within. record { mutator = there; within = within; at = refl } in
    let absent : ¬ Contains (bay t).grey copy = absent-by_place (bay t).grey copy (λ i within is.
    let held = under.grey.kept (slice_index (bay t).grey i) t i (listed i within) in
    unplaced held.number (held.at ∙ ap Some is)) in (
      grey-room old.layout new (with_place after number copy) graph t copy (bay t).grey (are_bays-copied copied under.bays)
          (all_lie-copied rest copied under.lying) (apart-copied rest copied under.bays under.lying under.apart) there
          (λ i within.
          let held = under.grey.kept (slice_index (bay t).grey i) t i (listed i within) in
          holds-copied copied t (slice_index (bay t).grey i) (record { number = held.number; at = held.at; home = held.own }))
          (λ i j i_within j_within same.
          (under.grey.once (slice_index (bay t).grey i) t t i j (listed i i_within)
          (record { mutator = there; within = j_within; at = sym same })).1)
          (record { number = number; at = with_place-same after number copy; home = refl }) absent,
      absent,
    )

-- and the remembered list, for a copy in a page
pub list_room-copied : {kind : RunKind} {old : Memory} {before : Placement} {world : World} {word : ℕ → ℕ} {bay new : ℕ → Bay}
    {after : Placement}
    {done : Done} {waiting : ℕ → ℕ → Type 0} {number address copy size : ℕ} {own : Bay} → IsAtRest old before world
    → IsCollectionUnderWay kind old before world word bay after done waiting
    → IsCopied old before world bay new after number address copy size own
    → own.remembered ≡ (bay (home_of (object_at world.graph number).maker)).remembered → IsInAPage old.layout copy
    → (length (bay (home_of (object_at world.graph number).maker)).remembered < remembered_room old.layout)
    × ¬ Contains (bay (home_of (object_at world.graph number).maker)).remembered copy
list_room-copied {kind} {old} {before} {world} {word} {bay} {new} {after} {done} {waiting} {number} {address} {copy} {size} {own} rest under
    copied lists page =
    let graph = world.graph in
    let t = home_of (object_at graph number).maker in
    let mutators = old.layout.mutators in
    let there : t < mutators = rest.shown.lying.home number address copied.at in
    let unplaced = copy-new rest under copied in
    let same : (u : ℕ) → (new u).remembered ≡ (bay u).remembered =
    each-changed (λ u each. each.remembered ≡ (bay u).remembered) bay new t own copied.changed lists (λ u differs. refl) in
    let absent : ¬ IsOnAList mutators new copy = λ on.
    let listed : IsListed mutators bay copy on.mutator on.index = record {
      mutator = on.listed.mutator;
      within = omega (arith, on.listed.within, ap length (same on.mutator));
      at = ap (λ list. slice_index list on.index) (sym (same on.mutator)) ∙ on.listed.at;
    } in
    unplaced-on_no_list old.layout mutators bay after copy under.lists unplaced
    (record { mutator = on.mutator; index = on.index; listed = listed }) in
    let grown = lists-copied old.layout mutators bay new after number copy t false under.lists
    (may_grow-remembered mutators bay new t own false copy there copied.changed lists) (λ is. page) unplaced copied.unkept in
    let room = list-room old.layout new (with_place after number copy) graph number copy t grown (are_bays-copied copied under.bays)
    (all_lie-copied rest copied under.lying) (with_place-same after number copy) page absent there in
    subst (λ list. (length list < remembered_room old.layout) × ¬ Contains list copy) (same t) room
