-- A collection that was made and reported.
use Rattle.std.proofs.Common.{◌≡◌, ◌+◌, ◌<◌, ◌≤◌, ◌++◌, ◌∷◌, ℕ, Bool, false, true, List, [], refl, ap, arith}
use Rattle.gc_model.specs.declared.entry.RunKind.{RunKind}
use Rattle.gc_model.specs.declared.entry.RunReport.{RunReport}
use Rattle.gc_model.specs.World.{World}
use Rattle.gc_placement.specs.Placement.{Placement}
use Rattle.gc_solo.specs.Collecting.{HasCollected, IsReportOf}
use Rattle.gc_solo.specs.Kept.{IsSameHeap, Kept, bay_at}
use Rattle.gc_solo.specs.Runs.{HasRun, due_after, given_pages, is_due}

-- a collection of a kind was made, and isn't reported so far
pub record IsRun (kind : RunKind) (old new : Kept) (placement : Placement) (world : World) (report : RunReport) : Type 0 where
  pub same : IsSameHeap old new
  pub collected : HasCollected kind old new placement world
  pub report_is : IsReportOf kind world report
  pub given : kind ≡ RunKind.Full → given_pages new ≡ 0

-- what is due after it: for a full one nothing is
pub due-known : (kind : RunKind) (kept : Kept) (due : Bool) → (kind ≡ RunKind.Minor → due ≡ is_due kept)
    → (kind ≡ RunKind.Full → due ≡ false) → due ≡ due_after kind kept
due-known RunKind.Minor kept due minor full = minor refl
due-known RunKind.Full kept due minor full = full refl

-- so it is what is due where its report stands behind the others
due-same : (kind : RunKind) (kept : Kept) (reports : List RunReport) (room : ℕ) (due : Bool) → due ≡ due_after kind kept
    → due ≡ due_after kind (record kept { reports = reports; room = room; due = due })
due-same RunKind.Minor kept reports room due is = is
due-same RunKind.Full kept reports room due is = is

-- and it was made and reported
pub run-reported : (kind : RunKind) (old new : Kept) (reports : List RunReport) (room : ℕ) (due : Bool) (placement : Placement)
    (world : World) (report : RunReport) → (run : IsRun kind old new placement world report) → reports ≡ old.reports ++ report ∷ []
    → room + 1 ≡ old.room → due ≡ due_after kind new
    → HasRun kind old (record new { reports = reports; room = room; due = due }) placement run.collected.after world report
run-reported kind old new reports room due placement world report run reports_are room_is due_is =
    let shown = run.collected.shown in
    let collected = run.collected.collected in
    record {
      same = record { types = run.same.types; layout = run.same.layout };
      shown = record {
        rest = shown.rest;
        words = shown.words;
        bays = shown.bays;
        eight = shown.eight;
        blocked = shown.blocked;
      };
      collected = record { collection = collected.collection; exact = collected.exact };
      report_is = run.report_is;
      reports = reports_are;
      room = room_is;
      due = due-same kind new reports room due due_is;
      given = run.given;
    }
