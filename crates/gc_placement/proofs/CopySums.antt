-- An object is copied: how many words of the halves the copies have, and that it fits.
use Rattle.std.proofs.Common.{eq-eqb, ◌≡◌, ◌≢◌, ◌∙◌, inl, inr, ℕ, ◌+◌, ◌<◌, ◌≤◌, ◌&&◌, Bool, true, false, length, Some, None, refl, ap, sym, subst, arith}
use Rattle.std.proofs.lemmas.Bool.{and_from, and_left, and_parts, and_right, cases_eq, eqb-true, ne_eqb}
use Rattle.gc_bay.specs.Bay.{Bay}
use Rattle.gc_layout.specs.Places.{Layout}
use Rattle.gc_model.specs.Graph.{Graph, Object, object_at, object_size}
use Rattle.gc_model.specs.World.{World}
use Rattle.gc_placement.specs.Extents.{IsInAPage, home_of, is_home}
use Rattle.gc_placement.specs.Flipped.{HoldCopies}
use Rattle.gc_placement.specs.Memory.{Memory}
use Rattle.gc_placement.specs.Rest.{IsAtRest}
use Rattle.gc_placement.specs.UnderWay.{all_begun}
use Rattle.gc_placement.specs.Moves.{KeepsPlaced}
use Rattle.gc_placement.specs.Placement.{Placement, with_place}
use Rattle.gc_placement.specs.Sums.{is_young, young_words}
use Rattle.gc_placement.proofs.Bays.{each-changed}
use Rattle.gc_placement.proofs.Copied.{IsCopied}
use Rattle.gc_placement.proofs.MovePlaces.{outside-young, page-old, young-before, young-outside, young-same, young-unplaced}
use Rattle.gc_placement.proofs.Placement.{with_place-other, with_place-same}
use Rattle.gc_placement.proofs.Sums.{words-fewer, words-one_more, words-same, young-fits}

-- what lies in a mutator's region lies in no other one
home-once : (t u : ℕ) (object : Object) → is_home t object ≡ true → u ≢ t → is_home u object ≡ false
home-once t u object is differs = ne_eqb (home_of object.maker) u (λ same. differs (sym same ∙ eqb-true (home_of object.maker) t is))

-- where an object that had no place is given one in a half, the words of its maker's copies there rise by its size
pub young_words-more : (layout : Layout) (after : Placement) (graph : Graph) (number copy t : ℕ) → number < length graph
    → after number ≡ None → ¬ IsInAPage layout copy → is_home t (object_at graph number) ≡ true
    → young_words layout (with_place after number copy) graph t
    ≡ young_words layout after graph t + object_size (object_at graph number)
young_words-more layout after graph number copy t there unkept outside made =
    let grown = with_place after number copy in
    let young = outside-young layout grown number copy (with_place-same after number copy) outside in
    words-one_more (λ n. is_young layout after n && is_home t (object_at graph n))
    (λ n. is_young layout grown n && is_home t (object_at graph n)) graph number there
    (and_left (is_young layout after number) (is_home t (object_at graph number)) (young-unplaced layout after number unkept))
    (and_from (is_young layout grown number) (is_home t (object_at graph number)) young made)
    (λ n differs.
    ap (λ (test : Bool). test && is_home t (object_at graph n))
    (young-same layout grown after n (with_place-other after number copy n differs)))

-- and where it is another's, or is given a place in a page, they stay
pub young_words-same : (layout : Layout) (after : Placement) (graph : Graph) (number copy u : ℕ) → after number ≡ None
    → is_young layout (with_place after number copy) number && is_home u (object_at graph number) ≡ false
    → young_words layout (with_place after number copy) graph u ≡ young_words layout after graph u
young_words-same layout after graph number copy u unkept none =
    let grown = with_place after number copy in
    let now : ℕ → Bool = λ n. is_young layout grown n && is_home u (object_at graph n) in
    let was : ℕ → Bool = λ n. is_young layout after n && is_home u (object_at graph n) in
    words-same was now graph (λ n there. elim (cases_eq n number) as (λ _. now n ≡ was n) [
      | inl same ↦
          ap now same
          ∙ none
          ∙ sym (ap was same
          ∙ and_left (is_young layout after number) (is_home u (object_at graph number)) (young-unplaced layout after number unkept))
      | inr differs ↦
          ap (λ (test : Bool). test && is_home u (object_at graph n))
          (young-same layout grown after n (with_place-other after number copy n differs))
    ])

-- the copy goes into the current half: of the half of its maker so many words more are used
pub copies-in_half : {old : Memory} {before : Placement} {world : World} {bay new : ℕ → Bay} {after : Placement}
    {number address copy size : ℕ} {own : Bay} → IsAtRest old before world
    → IsCopied old before world bay new after number address copy size own
    → own.used ≡ (bay (home_of (object_at world.graph number).maker)).used + size → ¬ IsInAPage old.layout copy
    → HoldCopies old.layout old.layout.mutators all_begun bay after world.graph
    → HoldCopies old.layout old.layout.mutators all_begun new (with_place after number copy) world.graph
copies-in_half {old} {before} {world} {bay} {new} {after} {number} {address} {copy} {size} {own} rest copied used outside hold u there
    begun =
    let graph = world.graph in
    let t = home_of (object_at graph number).maker in
    let made : is_home t (object_at graph number) ≡ true = eq-eqb t t refl in
    let grown = with_place after number copy in
    each-changed (λ m each. m < old.layout.mutators → each.used ≡ young_words old.layout grown graph m) bay new t own copied.changed
    (λ there.
    omega (
      arith,
      used,
      hold t there begun,
      copied.size_is,
      young_words-more old.layout after graph number copy t (rest.shown.lying.there number address copied.at) copied.unkept outside made,
    ))
    (λ m differs there.
    hold m there begun
    ∙ sym (young_words-same old.layout after graph number copy m copied.unkept
    (and_right (is_young old.layout grown number) (is_home m (object_at graph number))
    (home-once t m (object_at graph number) made differs))))
    u there

-- the copy goes into a page: as many words of each half are used as before
pub copies-in_page : {old : Memory} {before : Placement} {world : World} {bay new : ℕ → Bay} {after : Placement}
    {number address copy size : ℕ} {own : Bay} → IsCopied old before world bay new after number address copy size own
    → own.used ≡ (bay (home_of (object_at world.graph number).maker)).used → IsInAPage old.layout copy
    → HoldCopies old.layout old.layout.mutators all_begun bay after world.graph
    → HoldCopies old.layout old.layout.mutators all_begun new (with_place after number copy) world.graph
copies-in_page {old} {before} {world} {bay} {new} {after} {number} {address} {copy} {size} {own} copied used page hold u there begun =
    let graph = world.graph in
    let t = home_of (object_at graph number).maker in
    let grown = with_place after number copy in
    let aged = page-old old.layout grown number copy (with_place-same after number copy) page in
    let same : (m : ℕ) → young_words old.layout grown graph m ≡ young_words old.layout after graph m =
    λ m. young_words-same old.layout after graph number copy m copied.unkept
    (and_left (is_young old.layout grown number) (is_home m (object_at graph number)) aged) in
    each-changed (λ m each. m < old.layout.mutators → each.used ≡ young_words old.layout grown graph m) bay new t own copied.changed
    (λ there. used ∙ hold t there begun ∙ sym (same t)) (λ m differs there. hold m there begun ∙ sym (same m)) u there

-- an object that was young and isn't kept so far fits into the current half: of it and of the copies there are no more words
-- than were used of the half before
pub copy-fits : (old : Memory) (before : Placement) (world : World) (bay : ℕ → Bay) (after : Placement) (number address t : ℕ)
    → IsAtRest old before world → KeepsPlaced old.layout before after
    → HoldCopies old.layout old.layout.mutators all_begun bay after world.graph → before number ≡ Some address
    → is_young old.layout before number ≡ true → after number ≡ None → t < old.layout.mutators
    → is_home t (object_at world.graph number) ≡ true
    → ((bay t).used + object_size (object_at world.graph number) ≤ (old.bay t).used)
    × ((bay t).used + object_size (object_at world.graph number) ≤ old.layout.nursery)
copy-fits old before world bay after number address t rest keeps hold at young unkept there made =
    let graph = world.graph in
    let size = object_size (object_at graph number) in
    let shown = rest.shown in
    let back = with_place after number address in
    let more = young_words-more old.layout after graph number address t (shown.lying.there number address at) unkept
    (young-outside old.layout before number address at young) made in
    let was_young : (n : ℕ) → is_young old.layout back n ≡ true → is_young old.layout before n ≡ true = λ n is.
    elim (cases_eq n number) [
      | inl same ↦ ap (is_young old.layout before) same ∙ young
      | inr differs ↦
          young-before old.layout before after n keeps
          (sym (young-same old.layout back after n (with_place-other after number address n differs)) ∙ is)
    ] in
    let fewer : young_words old.layout back graph t ≤ young_words old.layout before graph t =
    words-fewer (λ n. is_young old.layout back n && is_home t (object_at graph n))
    (λ n. is_young old.layout before n && is_home t (object_at graph n)) graph (λ n has.
    let parts = and_parts (is_young old.layout back n) (is_home t (object_at graph n)) has in
    and_from (is_young old.layout before n) (is_home t (object_at graph n)) (was_young n parts.0) parts.1) in
    let fits : (bay t).used + size ≤ (old.bay t).used =
    omega (
      arith,
      hold t there refl,
      more,
      fewer,
      young-fits old.layout old.bay before graph shown.bays shown.lying shown.apart t there,
    ) in
    let within : (old.bay t).used ≤ old.layout.nursery =
    subst (λ layout. (old.bay t).used ≤ layout.nursery) (shown.bays.layout_is t there) (shown.bays.each t there).used in
    (fits, omega (arith, fits, within))
