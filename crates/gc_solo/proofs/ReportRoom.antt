-- The room for reports over a call: each report that it brought takes one place, and it brings no more than it may.
use Rattle.std.proofs.Common.{◌≡◌, ℕ, suc, ◌+◌, ◌≤◌, Bool, true, false, Option, None, Some, [], ◌∷◌, length, length-append, refl, ap, arith, slice_index_or}
use Rattle.gc_model.specs.declared.call.Call.{Call}
use Rattle.gc_model.specs.declared.call.Call.TheVariants.{Collect, New}
use Rattle.gc_model.specs.declared.entry.RunKind.{RunKind}
use Rattle.gc_model.specs.declared.entry.RunReport.{RunReport}
use Rattle.gc_model.specs.declared.reply.Reply.{Reply}
use Rattle.gc_model.specs.declared.reply.Reply.TheVariants.{Done, Full}
use Rattle.gc_model.specs.Answer.{blocked_refusal}
use Rattle.gc_model.specs.History.{allowance_of}
use Rattle.gc_model.specs.World.{World}
use Rattle.gc_placement.specs.Placement.{Placement}
use Rattle.gc_solo.specs.Allocation.{HasMadeBehindFull, IsAllocatedWhere, IsMadeBehind, IsMadeBehindMinor, IsMadeOrFull, fits_half}
use Rattle.gc_solo.specs.Kept.{Kept, Stays}
use Rattle.gc_solo.specs.Made.{IsCallMade, IsEffect, IsEffectUnlessRefused}
use Rattle.gc_solo.specs.Runs.{HasRun, first_kind}

-- reports and room have as many places together as before, and at most so many more of them are taken
pub record KeepsPlaces (most : ℕ) (old new : Kept) : Type 0 where
  pub places : length new.reports + new.room ≡ length old.reports + old.room
  pub room : old.room ≤ new.room + most

-- nothing is taken where the reports stay
places-stay : (most : ℕ) (old new : Kept) → Stays old new → KeepsPlaces most old new
places-stay most old new stays =
    let count : length new.reports ≡ length old.reports = ap (λ reports. length reports) stays.reports in
    record { places = omega (arith, count, stays.room); room = omega (arith, stays.room) }

-- nor where nothing changes
places-same : (most : ℕ) (old new : Kept) → new ≡ old → KeepsPlaces most old new
places-same most old new same =
    let count : length new.reports ≡ length old.reports = ap (λ (kept : Kept). length kept.reports) same in
    let room : new.room ≡ old.room = ap (λ (kept : Kept). kept.room) same in
    record { places = omega (arith, count, room); room = omega (arith, room) }

-- a collection takes one
places-run : (most : ℕ) (old mid new : Kept) (kind : RunKind) (before after : Placement) (world : World) (report : RunReport)
    → HasRun kind old mid before after world report → KeepsPlaces most mid new → KeepsPlaces (suc most) old new
places-run most old mid new kind before after world report run kept =
    let count : length mid.reports ≡ length old.reports + 1 =
    omega (arith, ap (λ reports. length reports) run.reports, length-append old.reports (report ∷ [])) in
    record { places = omega (arith, kept.places, count, run.room); room = omega (arith, kept.room, run.room) }

-- fewer than may be taken
places-within : (most : ℕ) (old new : Kept) → KeepsPlaces most old new → KeepsPlaces (suc most) old new
places-within most old new kept = record { places = kept.places; room = omega (arith, kept.room) }

-- ---- a New

-- behind its last collection
places-either : (old new : Kept) (placement : Placement) (world : World) (t into ty : ℕ) (reply : Reply)
    → IsMadeOrFull old new placement world t into ty reply → KeepsPlaces 0 old new
places-either old new placement world t into ty Done made = places-stay 0 old new made.same
places-either old new placement world t into ty Full made = places-same 0 old new made.0
places-either old new placement world t into ty reply made = absurd made

-- a full collection is its last
places-behind_full : (old new : Kept) (placement : Placement) (world : World) (t into ty : ℕ) (reply : Reply)
    → HasMadeBehindFull old new placement world t into ty reply → KeepsPlaces 1 old new
places-behind_full old new placement world t into ty reply behind =
    places-run 0 old behind.mid new RunKind.Full placement behind.after world behind.report behind.run
    (places-either behind.mid new behind.after world t into ty reply behind.made)

-- behind a minor one, by whether the object fits the half then
places-behind_fit : (old new : Kept) (placement : Placement) (world : World) (t into ty : ℕ) (reply : Reply) (fits : Bool)
    → IsMadeBehindMinor fits old new placement world t into ty reply → KeepsPlaces 1 old new
places-behind_fit old new placement world t into ty reply true made = places-stay 1 old new made.1.same
places-behind_fit old new placement world t into ty reply false made = places-behind_full old new placement world t into ty reply made

-- by the kind of its first
places-behind_first : (old new : Kept) (placement : Placement) (world : World) (t into ty : ℕ) (reply : Reply) (kind : RunKind)
    → IsMadeBehind kind old new placement world t into ty reply → KeepsPlaces 2 old new
places-behind_first old new placement world t into ty reply RunKind.Minor behind =
    places-run 1 old behind.mid new RunKind.Minor placement behind.after world behind.report behind.run
    (places-behind_fit behind.mid new behind.after world t into ty reply (fits_half behind.mid t ty) behind.made)
places-behind_first old new placement world t into ty reply RunKind.Full behind =
    places-within 1 old new (places-behind_full old new placement world t into ty reply behind)

-- by whether the object fits the half
places-where : (old new : Kept) (placement : Placement) (world : World) (t into ty : ℕ) (reply : Reply) (fits : Bool)
    → IsAllocatedWhere fits old new placement world t into ty reply → KeepsPlaces 2 old new
places-where old new placement world t into ty reply true made = places-stay 2 old new made.1.same
places-where old new placement world t into ty reply false made =
    places-behind_first old new placement world t into ty reply (first_kind old) made

-- ---- any call

-- by the call, where nothing refuses it
places-effect : (old new : Kept) (placement : Placement) (world : World) (t : ℕ) (call : Call) (reply : Reply)
    → IsEffect old new placement world t call reply → KeepsPlaces (allowance_of call) old new
places-effect old new placement world t (New into ty) reply made =
    places-where old new placement world t into ty.0 reply (fits_half old t ty.0) made
places-effect old new placement world t Collect reply made =
    places-run 0 old new new RunKind.Full placement made.after world made.report made.run
    (places-same 0 new new refl)
places-effect old new placement world t call reply made = places-stay 0 old new made.0

-- by the refusal
places-by_refusal : (old new : Kept) (placement : Placement) (world : World) (t : ℕ) (call : Call) (reply : Reply)
    (refusal : Option Reply) → IsEffectUnlessRefused old new placement world t call reply refusal
    → KeepsPlaces (allowance_of call) old new
places-by_refusal old new placement world t call reply None made = places-effect old new placement world t call reply made
places-by_refusal old new placement world t call reply (Some refusal) made = places-same (allowance_of call) old new made.1

-- a call takes no more places than it may bring collections
pub places-called : (old new : Kept) (placement : Placement) (world : World) (t : ℕ) (call : Call) (reply : Reply)
    → IsCallMade old new placement world t call reply → KeepsPlaces (allowance_of call) old new
places-called old new placement world t call reply made =
    places-by_refusal old new placement world t call reply (blocked_refusal (slice_index_or old.blocked t false) call) made
