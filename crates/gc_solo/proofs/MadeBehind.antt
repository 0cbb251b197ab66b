-- A New behind the collections that it brought.
use Rattle.std.proofs.Common.{◌≡◌, ◌+◌, ◌<◌, ◌≤◌, ℕ, List, false, true, arith, subst, sym}
use Rattle.std.proofs.lemmas.Bool.{le-leb, lt-leb}
use Rattle.gc_layout.specs.declared.shape.Shape.{Shape}
use Rattle.gc_model.specs.declared.entry.RunKind.{RunKind}
use Rattle.gc_model.specs.declared.entry.RunReport.{RunReport}
use Rattle.gc_model.specs.Laws.{IsWellTyped}
use Rattle.gc_model.specs.World.{World}
use Rattle.gc_placement.specs.Placement.{Placement}
use Rattle.gc_solo.specs.Allocation.{fits_half, type_size}
use Rattle.gc_solo.specs.Kept.{Kept, bay_at}
use Rattle.gc_solo.specs.Runs.{HasRun}
use Rattle.gc_solo.specs.Stands.{IsReadyFor}

-- what is ready for a mutator is so for mutator 0
pub ready-first : (kept : Kept) (placement : Placement) (world : World) (t : ℕ) → IsReadyFor kept placement world t
    → IsReadyFor kept placement world 0
ready-first kept placement world t ready =
    record { shows = ready.shows; sound = ready.sound; typed = ready.typed; mutator = omega (arith, ready.mutator) }

-- after a collection the heap is ready for each mutator for which it was
pub ready-run : (old new : Kept) (kind : RunKind) (before after : Placement) (world : World) (report : RunReport) (t : ℕ)
    → IsReadyFor old before world t → HasRun kind old new before after world report → IsReadyFor new after world t
ready-run old new kind before after world report t ready run = record {
  shows = run.shown;
  sound = ready.sound;
  typed = subst (λ (each : List Shape). IsWellTyped each world) (sym run.same.types) ready.typed;
  mutator = ready.mutator;
}

-- ---- whether an object fits the half

-- it does
pub half-fits : (kept : Kept) (t ty : ℕ) → (bay_at kept.bays t).used + type_size kept ty ≤ kept.layout.nursery
    → fits_half kept t ty ≡ true
half-fits kept t ty within = le-leb ((bay_at kept.bays t).used + type_size kept ty) kept.layout.nursery within

-- it doesn't
pub half-full : (kept : Kept) (t ty : ℕ) → kept.layout.nursery < (bay_at kept.bays t).used + type_size kept ty
    → fits_half kept t ty ≡ false
half-full kept t ty above = lt-leb ((bay_at kept.bays t).used + type_size kept ty) kept.layout.nursery above
