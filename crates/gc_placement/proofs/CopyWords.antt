-- The copy of an object: how objects stand in the words then, and what headers say.
use Rattle.std.proofs.Common.{◌≡◌, ◌≢◌, ◌⊎◌, ◌∙◌, ◌↔◌, ℕ, ◌+◌, ◌<◌, ◌≤◌, Bool, true, false, Option, None, Some, inl, inr, refl, ap, sym, subst, arith, slice_index_or, length}
use Rattle.std.proofs.lemmas.Option.{none-some, same_Some}
use Rattle.std.specs.Prelude.{is_some, if◌then◌else◌}
use Rattle.gc_layout.specs.declared.head.Head.{Head}
use Rattle.gc_layout.specs.declared.shape.TypeNo.{TypeNo}
use Rattle.gc_layout.specs.Head.{head_word}
use Rattle.gc_layout.specs.Places.{Layout}
use Rattle.gc_layout.specs.Shape.{forwarding_address}
use Rattle.gc_model.specs.Graph.{Graph, object_at, object_size}
use Rattle.gc_model.specs.World.{World, slot_at}
use Rattle.gc_model.specs.declared.entry.RunKind.{RunKind}
use Rattle.gc_placement.specs.Changes.{CopiesObject}
use Rattle.gc_placement.specs.Extents.{AreApart, AreOldInPages, IsInAPage}
use Rattle.gc_placement.specs.Headers.{IsHeader, head_of, promoted_head, survivor_head}
use Rattle.gc_placement.specs.Holders.{CoversDone, Done, OnlyKeptAreDone}
use Rattle.gc_placement.specs.Moves.{AreForwarded, HeadersStay, SaysTheSame, StandMoving, by_done, name_before_or_after, not_kept}
use Rattle.gc_placement.specs.Objects.{AllStand, StandsAt, by_place}
use Rattle.gc_placement.specs.Placement.{IsWordOf, Placement, with_place}
use Rattle.gc_placement.proofs.CopyPlaces.{same_name-copied}
use Rattle.gc_placement.proofs.Headers.{head_of-head_word}
use Rattle.gc_placement.proofs.MovePlaces.{not_kept-from}
use Rattle.gc_placement.proofs.Objects.{stands-frame, stands-renamed}
use Rattle.gc_placement.proofs.OldInPages.{old-frame}
use Rattle.gc_placement.proofs.Placement.{with_place-from, with_place-other, with_place-same}

-- ---- which words a copy changes

-- no word of a placed object is among so many words
abbrev pub IsClearOf : Placement → Graph → ℕ → ℕ → Type 0
IsClearOf placement graph start size = (number a : ℕ) → IsWordOf placement graph number a → (a < start) ⊎ (start + size ≤ a)

-- the words of a copy are words of no object that was placed before or is kept, and the forwarding word of its object is a
-- word of no object that is kept
pub record CopiesApart (before after : Placement) (graph : Graph) (address copy size : ℕ) : Type 0 where
  pub placed : IsClearOf before graph copy size
  pub kept : IsClearOf after graph copy size
  pub forwarding : (number a : ℕ) → IsWordOf after graph number a → a ≢ forwarding_address address

-- so the words of the objects that are kept are as before
pub kept-words : (word other : ℕ → ℕ) (before after : Placement) (graph : Graph) (address copy size header : ℕ)
    → CopiesObject word other address copy size header → CopiesApart before after graph address copy size
    → (number a : ℕ) → IsWordOf after graph number a → other a ≡ word a
kept-words word other before after graph address copy size header copies apart number a is =
    copies.elsewhere a (apart.forwarding number a is) (apart.kept number a is)

-- an address with an object is its first word
first-word : (placement : Placement) (graph : Graph) (number address : ℕ) → placement number ≡ Some address
    → IsWordOf placement graph number address
first-word placement graph number address at = record { address = address; at = at; from = omega arith; to = omega arith }

-- and the forwarding word is its second one
second-word : (placement : Placement) (graph : Graph) (number address a : ℕ) → placement number ≡ Some address
    → a ≡ forwarding_address address → IsWordOf placement graph number a
second-word placement graph number address a at is =
    record { address = address; at = at; from = omega (arith, is); to = omega (arith, is) }

-- so the headers of the objects that are kept are as before
pub kept-headers : (word other : ℕ → ℕ) (before after : Placement) (graph : Graph) (address copy size header : ℕ)
    → CopiesObject word other address copy size header → CopiesApart before after graph address copy size
    → (number a : ℕ) → after number ≡ Some a → other a ≡ word a
kept-headers word other before after graph address copy size header copies apart number a at =
    kept-words word other before after graph address copy size header copies apart number a (first-word after graph number a at)

-- no object that is kept stands where the copy does
pub copy-unplaced : (before after : Placement) (graph : Graph) (address copy size : ℕ)
    → CopiesApart before after graph address copy size → 1 ≤ size → (number : ℕ) → after number ≢ Some copy
copy-unplaced before after graph address copy size apart some number at =
    elim (apart.kept number copy (first-word after graph number copy at)) [
      | inl less ↦ omega (arith, less)
      | inr past ↦ omega (arith, past, some)
    ]

-- of the objects that were placed before, the words of all others are as before
others-words : (word other : ℕ → ℕ) (before after : Placement) (graph : Graph) (number address copy size header : ℕ)
    → CopiesObject word other address copy size header → CopiesApart before after graph address copy size → AreApart before graph
    → before number ≡ Some address → (each a : ℕ) → each ≢ number → IsWordOf before graph each a → other a ≡ word a
others-words word other before after graph number address copy size header copies apart before_apart at each a differs is =
    copies.elsewhere a
    (λ meet. differs (before_apart a each number is (second-word before graph number address a at meet)))
    (apart.placed each a is)

-- and all their headers
before-headers : (word other : ℕ → ℕ) (before after : Placement) (graph : Graph) (number address copy size header : ℕ)
    → CopiesObject word other address copy size header → CopiesApart before after graph address copy size → AreApart before graph
    → before number ≡ Some address → (each a : ℕ) → before each ≡ Some a → other a ≡ word a
before-headers word other before after graph number address copy size header copies apart before_apart at each a each_at =
    let is = first-word before graph each a each_at in
    copies.elsewhere a
    (λ meet.
    let same : each ≡ number = before_apart a each number is (second-word before graph number address a at meet) in
    let one : Some a ≡ Some address = sym each_at ∙ ap before same ∙ at in
    let here : a ≡ address = cc in
    omega (arith, here, meet))
    (apart.placed each a is)

-- ---- how objects stand

-- what was placed and isn't kept so far has that place as an object that isn't kept
pub not_kept-at : (before after : Placement) (number address : ℕ) → after number ≡ None → before number ≡ Some address
    → not_kept before after number ≡ Some address
not_kept-at before after number address none at =
    ap (λ (place : Option ℕ). if is_some place then None else before number) none ∙ at

-- the copy stands as its object did: none of its slots is done
copy-stands : (word other : ℕ → ℕ) (before after : Placement) (done : ℕ → ℕ → Bool) (graph : Graph)
    (number address copy size header : ℕ) → CopiesObject word other address copy size header
    → size ≡ object_size (object_at graph number) → IsHeader header (object_at graph number).ty
    → StandsAt word address (by_place before) number (object_at graph number) → ((place : ℕ) → done number place ≡ false)
    → StandsAt other copy (by_done before after done) number (object_at graph number)
copy-stands word other before after done graph number address copy size header copies size_is is stands undone =
    let object = object_at graph number in
    record {
      header = rw copies.header_is is;
      forwarding = copies.unforwarded;
      slots = λ place below.
          let name : Option ℕ = slice_index_or object.slots place None in
          ap other (omega arith)
          ∙ copies.fields (2 + place) (omega arith) (omega (arith, size_is, below))
          ∙ ap word (omega arith)
          ∙ stands.slots place below
          ∙ sym (ap (λ (is_done : Bool). name_before_or_after before after is_done name) (undone place));
      numbers = λ place below.
          ap other (omega arith)
          ∙ copies.fields (2 + length object.slots + place) (omega arith) (omega (arith, size_is, below))
          ∙ ap word (omega arith)
          ∙ stands.numbers place below;
    }

-- the objects that are kept stand, and the copy
kept-copied : (word other : ℕ → ℕ) (before after : Placement) (done : Done) (world : World) (number address copy size header : ℕ)
    → StandMoving word before after done.slots world.graph → CopiesObject word other address copy size header
    → CopiesApart before after world.graph address copy size → CoversDone after done world → OnlyKeptAreDone after done.slots
    → before number ≡ Some address → after number ≡ None → size ≡ object_size (object_at world.graph number)
    → IsHeader header (object_at world.graph number).ty
    → AllStand other (with_place after number copy) (by_done before (with_place after number copy) done.slots) world.graph
kept-copied word other before after done world number address copy size header standing copies apart covers only at unkept size_is is
    each a each_at =
    let graph = world.graph in
    let later = with_place after number copy in
    elim (with_place-from after number copy each a each_at)
    as (λ _. StandsAt other a (by_done before later done.slots) each (object_at graph each)) [
      | inl here ↦
          let stands = standing.others number address (not_kept-at before after number address unkept at) in
          rw (here.0, here.1)
          (copy-stands word other before later done.slots graph number address copy size header copies size_is is stands
          (λ place. only number place unkept))
      | inr there ↦
          let kept = stands-frame word other a (by_done before after done.slots) each (object_at graph each)
          (standing.kept each a there.1)
          (λ w from to.
          kept-words word other before after graph address copy size header copies apart each w
          (record { address = a; at = there.1; from = from; to = to })) in
          stands-renamed other a (by_done before after done.slots) (by_done before later done.slots) each (object_at graph each) kept
          (λ place _.
          same_name-copied before after number copy (done.slots each place) (slot_at world each place) unkept
          (covers.slots each place (record { address = a; at = there.1 })))
    ]

-- the others that aren't kept stand where they stood
others-copied : (word other : ℕ → ℕ) (before after : Placement) (graph : Graph) (number address copy size header : ℕ)
    → AllStand word (not_kept before after) (by_place before) graph → CopiesObject word other address copy size header
    → CopiesApart before after graph address copy size → AreApart before graph → before number ≡ Some address
    → AllStand other (not_kept before (with_place after number copy)) (by_place before) graph
others-copied word other before after graph number address copy size header standing copies apart before_apart at each a each_at =
    let later = with_place after number copy in
    let is = not_kept-from before later each a each_at in
    let differs : each ≢ number = λ same.
    none-some copy (sym is.0 ∙ ap later same ∙ with_place-same after number copy) in
    let unkept : after each ≡ None = sym (with_place-other after number copy each differs) ∙ is.0 in
    stands-frame word other a (by_place before) each (object_at graph each)
    (standing each a (not_kept-at before after each a unkept is.1))
    (λ w from to.
    others-words word other before after graph number address copy size header copies apart before_apart at each w differs
    (record { address = a; at = is.1; from = from; to = to }))

-- where an object stood that moved, its forwarding word is the address of its copy
forwarded-copied : (word other : ℕ → ℕ) (before after : Placement) (graph : Graph) (number address copy size header : ℕ)
    → AreForwarded word before after → CopiesObject word other address copy size header
    → CopiesApart before after graph address copy size → AreApart before graph → before number ≡ Some address
    → AreForwarded other before (with_place after number copy)
forwarded-copied word other before after graph number address copy size header forwarded copies apart before_apart at each a c each_at
    later_at moved =
    elim (with_place-from after number copy each c later_at) [
      | inl here ↦
          let same : a ≡ address = same_Some a address (sym each_at ∙ ap before here.0 ∙ at) in
          ap (λ w. other (forwarding_address w)) same ∙ copies.forwarded ∙ sym here.1
      | inr there ↦
          others-words word other before after graph number address copy size header copies apart before_apart at each
          (forwarding_address a) there.0 (second-word before graph each a (forwarding_address a) each_at refl)
          ∙ forwarded each a c each_at there.1 moved
    ]

-- so objects stand while they move, and the copy is kept
pub standing-copied : (word other : ℕ → ℕ) (before after : Placement) (done : Done) (world : World)
    (number address copy size header : ℕ) → StandMoving word before after done.slots world.graph
    → CopiesObject word other address copy size header → CopiesApart before after world.graph address copy size
    → AreApart before world.graph → CoversDone after done world → OnlyKeptAreDone after done.slots → before number ≡ Some address
    → after number ≡ None → size ≡ object_size (object_at world.graph number) → IsHeader header (object_at world.graph number).ty
    → StandMoving other before (with_place after number copy) done.slots world.graph
standing-copied word other before after done world number address copy size header standing copies apart before_apart covers only at
    unkept size_is is = record {
      kept = kept-copied word other before after done world number address copy size header standing copies apart covers only at unkept
          size_is is;
      others = others-copied word other before after world.graph number address copy size header standing.others copies apart before_apart
          at;
      forwarded = forwarded-copied word other before after world.graph number address copy size header standing.forwarded copies apart
          before_apart at;
    }

-- ---- what headers say

-- the word of a head with the type of an object's header is a header of that type
pub IsHeader-copied : (word ty : ℕ) (head : Head) → IsHeader word ty → head.ty ≡ (head_of word).ty → IsHeader (head_word head) ty
IsHeader-copied word ty head is same =
    let below : head.ty.0 < 256 = omega (arith, ap (λ (kind : TypeNo). kind.0) same) in
    let read = head_of-head_word head below in
    record {
      header = ap head_word read;
      type_is = ap (λ (each : Head). each.ty.0) read ∙ ap (λ (kind : TypeNo). kind.0) same ∙ is.type_is;
    }

-- the header of a survivor is one of its object's type
pub IsHeader-survivor : (word ty : ℕ) → IsHeader word ty → IsHeader (head_word (survivor_head word)) ty
IsHeader-survivor word ty is = IsHeader-copied word ty (survivor_head word) is refl

-- so is that of an object that is promoted
pub IsHeader-promoted : (kind : RunKind) (word ty : ℕ) → IsHeader word ty → IsHeader (head_word (promoted_head kind word)) ty
IsHeader-promoted kind word ty is = IsHeader-copied word ty (promoted_head kind word) is refl

-- the header of a survivor is read back
pub head_of-survivor : (word : ℕ) → head_of (head_word (survivor_head word)) ≡ survivor_head word
head_of-survivor word = head_of-head_word (survivor_head word) (omega arith)

-- so is that of an object that is promoted
pub head_of-promoted : (kind : RunKind) (word : ℕ) → head_of (head_word (promoted_head kind word)) ≡ promoted_head kind word
head_of-promoted kind word = head_of-head_word (promoted_head kind word) (omega arith)

-- the headers of the objects that were placed before say the same
pub headers-copied : (old word other : ℕ → ℕ) (before after : Placement) (graph : Graph) (number address copy size header : ℕ)
    → HeadersStay old word before → CopiesObject word other address copy size header
    → CopiesApart before after graph address copy size → AreApart before graph → before number ≡ Some address
    → HeadersStay old other before
headers-copied old word other before after graph number address copy size header stay copies apart before_apart at each a each_at =
    subst (SaysTheSame (old a))
    (sym (before-headers word other before after graph number address copy size header copies apart before_apart at each a each_at))
    (stay each a each_at)

-- an object is old exactly where it lies in a page, where the copy is
pub old_in_pages-copied : (word other : ℕ → ℕ) (layout : Layout) (before after : Placement) (graph : Graph)
    (number address copy size header : ℕ) → AreOldInPages word layout after → CopiesObject word other address copy size header
    → CopiesApart before after graph address copy size → ((head_of header).old ≡ true) ↔ IsInAPage layout copy
    → AreOldInPages other layout (with_place after number copy)
old_in_pages-copied word other layout before after graph number address copy size header are copies apart right each a each_at =
    let Right : ℕ → ℕ → Type 0 = λ w b. ((head_of w).old ≡ true) ↔ IsInAPage layout b in
    elim (with_place-from after number copy each a each_at) as (λ _. Right (other a) a) [
      | inl here ↦
          subst (λ b. Right (other b) b) (sym here.1) (subst (λ w. Right w copy) (sym copies.header_is) right)
      | inr there ↦
          old-frame word other layout after are
          (kept-headers word other before after graph address copy size header copies apart) each a there.1
    ]
