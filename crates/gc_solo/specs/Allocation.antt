-- What a New does to a heap.
use Rattle.std.specs.Prelude.{◌≡◌, ℕ, ◌+◌, ◌<◌, ◌≤◌, length, Bool, true, false, nat_le}
use Rattle.gc_layout.specs.Shape.{size_of}
use Rattle.gc_model.specs.declared.entry.RunKind.{RunKind}
use Rattle.gc_model.specs.declared.entry.RunReport.{RunReport}
use Rattle.gc_model.specs.declared.reply.Reply.{Reply}
use Rattle.gc_model.specs.declared.reply.Reply.TheVariants.{Done, Full}
use Rattle.gc_model.specs.Answer.{shape_at, with_new}
use Rattle.gc_model.specs.World.{World}
use Rattle.gc_placement.specs.Placement.{IsPlaced, Placement}
use Rattle.gc_placement.specs.Promotion.{HasNoCell}
use Rattle.gc_solo.specs.Collecting.{KeepsMore}
use Rattle.gc_solo.specs.Kept.{Kept, ShowsBy, Stays, bay_at}
use Rattle.gc_solo.specs.Runs.{HasRun, first_kind}

-- the words of a type's object
abbrev pub type_size : Kept → ℕ → ℕ
type_size kept ty = size_of (shape_at kept.types ty)

-- an object was made, without a collection: it has a place, and what was placed is placed where it was
pub record HasMade (old new : Kept) (placement : Placement) (world : World) (t into ty : ℕ) : Type 0 where
  pub same : Stays old new
  pub after : Placement
  pub shown : ShowsBy new after (with_new old.types world t into ty)
  pub more : KeepsMore placement after
  pub placed : IsPlaced after (length world.graph)

-- a mutator has no place for an object of so many words: neither the current half nor the cells of its class have room, and
-- each page has a class
pub record HasNoPlace (kept : Kept) (t size : ℕ) : Type 0 where
  pub half : kept.layout.nursery < (bay_at kept.bays t).used + size
  pub cells : HasNoCell (bay_at kept.bays t) size

-- the object was made, or there is no place for it and nothing changed
abbrev pub IsMadeOrFull : Kept → Kept → Placement → World → ℕ → ℕ → ℕ → Reply → Type 0
IsMadeOrFull old new placement world t into ty Done = HasMade old new placement world t into ty
IsMadeOrFull old new placement world t into ty Full = (new ≡ old) × HasNoPlace old t (type_size old ty)
IsMadeOrFull old new placement world t into ty reply = ⊥

-- whether an object of a type fits what is left of a mutator's current half
abbrev pub fits_half : Kept → ℕ → ℕ → Bool
fits_half kept t ty = nat_le ((bay_at kept.bays t).used + type_size kept ty) kept.layout.nursery

-- a full collection was made, and on the heap that it left the object was made, or there is no place for it
pub record HasMadeBehindFull (old new : Kept) (placement : Placement) (world : World) (t into ty : ℕ) (reply : Reply) : Type 0 where
  pub mid : Kept
  pub after : Placement
  pub report : RunReport
  pub run : HasRun RunKind.Full old mid placement after world report
  pub made : IsMadeOrFull mid new after world t into ty reply

-- behind a minor collection the object was made in the half, where it fits that; and else a full one was made
abbrev pub IsMadeBehindMinor : Bool → Kept → Kept → Placement → World → ℕ → ℕ → ℕ → Reply → Type 0
IsMadeBehindMinor true old new placement world t into ty reply = (reply ≡ Done) × HasMade old new placement world t into ty
IsMadeBehindMinor false old new placement world t into ty reply = HasMadeBehindFull old new placement world t into ty reply

-- a minor collection was made, and on the heap that it left the object
pub record HasMadeBehindMinor (old new : Kept) (placement : Placement) (world : World) (t into ty : ℕ) (reply : Reply) : Type 0 where
  pub mid : Kept
  pub after : Placement
  pub report : RunReport
  pub run : HasRun RunKind.Minor old mid placement after world report
  pub made : IsMadeBehindMinor (fits_half mid t ty) mid new after world t into ty reply

-- the object was made behind a collection, which is full where it is due
abbrev pub IsMadeBehind : RunKind → Kept → Kept → Placement → World → ℕ → ℕ → ℕ → Reply → Type 0
IsMadeBehind RunKind.Minor old new placement world t into ty reply = HasMadeBehindMinor old new placement world t into ty reply
IsMadeBehind RunKind.Full old new placement world t into ty reply = HasMadeBehindFull old new placement world t into ty reply

-- what a New did, by whether the object fits the half: made it there, or behind a collection
abbrev pub IsAllocatedWhere : Bool → Kept → Kept → Placement → World → ℕ → ℕ → ℕ → Reply → Type 0
IsAllocatedWhere true old new placement world t into ty reply = (reply ≡ Done) × HasMade old new placement world t into ty
IsAllocatedWhere false old new placement world t into ty reply = IsMadeBehind (first_kind old) old new placement world t into ty reply

abbrev pub IsAllocated : Kept → Kept → Placement → World → ℕ → ℕ → ℕ → Reply → Type 0
IsAllocated old new placement world t into ty reply = IsAllocatedWhere (fits_half old t ty) old new placement world t into ty reply
