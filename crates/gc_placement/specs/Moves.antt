-- Objects that move: where they were placed before, and where those are placed that are kept so far.
use Rattle.std.specs.Prelude.{◌≡◌, ◌≢◌, ℕ, Bool, true, Option, None, Some, is_some, if◌then◌else◌}
use Rattle.gc_layout.specs.Head.{head_word}
use Rattle.gc_layout.specs.Places.{Layout}
use Rattle.gc_layout.specs.Shape.{forwarding_address}
use Rattle.gc_model.specs.Graph.{Graph}
use Rattle.gc_model.specs.Reach.{Tracing, is_reached}
use Rattle.gc_placement.specs.Extents.{IsInAPage}
use Rattle.gc_placement.specs.Headers.{head_of}
use Rattle.gc_placement.specs.Objects.{AllStand, Naming, by_place}
use Rattle.gc_placement.specs.Placement.{IsPlaced, Placement, name_address}
use Rattle.gc_placement.specs.Sums.{is_young}

-- the objects that are kept so far were placed before, and what lay in a page stays where it is
pub record KeepsPlaced (layout : Layout) (before after : Placement) : Type 0 where
  pub only : (number : ℕ) → IsPlaced after number → IsPlaced before number
  pub old : (number address : ℕ) → before number ≡ Some address → IsInAPage layout address → after number ≡ Some address

-- an object that isn't kept so far, where it was placed before
abbrev pub not_kept : Placement → Placement → Placement
not_kept before after number = if is_some (after number) then None else before number

-- the address of what is named, before it is kept and moved or after it
abbrev pub name_before_or_after : Placement → Placement → Bool → Option ℕ → ℕ
name_before_or_after before after done name = name_address (if done then after else before) name

-- a slot holds the address after where it is done, and else the one before
abbrev pub by_done : Placement → Placement → (ℕ → ℕ → Bool) → Naming
by_done before after done number place name = name_before_or_after before after (done number place) name

-- the forwarding word of an object that moved is the address of its copy
abbrev pub AreForwarded : (ℕ → ℕ) → Placement → Placement → Type 0
AreForwarded word before after =
    (number address copy : ℕ) → before number ≡ Some address → after number ≡ Some copy → copy ≢ address
    → word (forwarding_address address) ≡ copy

-- the objects that are kept stand at their address after, with slots that are done or not; those that aren't stand where
-- they stood; and where an object stood that moved, its forwarding word is the address after
pub record StandMoving (word : ℕ → ℕ) (before after : Placement) (done : ℕ → ℕ → Bool) (graph : Graph) : Type 0 where
  pub kept : AllStand word after (by_done before after done) graph
  pub others : AllStand word (not_kept before after) (by_place before) graph
  pub forwarded : AreForwarded word before after

-- a word that was a header's is one, and says the same beside the bits remembered and marked, which a collection can change
pub record SaysTheSame (old new : ℕ) : Type 0 where
  pub header : head_word (head_of old) ≡ old → head_word (head_of new) ≡ new
  pub type_is : (head_of new).ty ≡ (head_of old).ty
  pub old_is : (head_of new).old ≡ (head_of old).old
  pub seen_is : (head_of new).seen ≡ (head_of old).seen

-- each header of an object that was placed before says the same
abbrev pub HeadersStay : (ℕ → ℕ) → (ℕ → ℕ) → Placement → Type 0
HeadersStay old new before = (number address : ℕ) → before number ≡ Some address → SaysTheSame (old address) (new address)

-- what lay in a half and is kept was reached by the collection
abbrev pub YoungAreReached : Tracing → Layout → Placement → Placement → Type 0
YoungAreReached tracing layout before after =
    (number : ℕ) → is_young layout before number ≡ true → IsPlaced after number → is_reached tracing number ≡ true

-- the objects that are placed in pages alone
abbrev pub old_part : Layout → Placement → Placement
old_part layout before number = if is_young layout before number then None else before number
