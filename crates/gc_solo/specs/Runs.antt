-- A collection that was made and reported, and which one comes next.
use Rattle.std.specs.Prelude.{◌≡◌, ℕ, ◌+◌, ◌*◌, ◌<◌, List, [], ◌∷◌, ◌++◌, Bool, false, nat_le, sum_by, if◌then◌else◌}
use Rattle.gc_model.specs.declared.entry.RunKind.{RunKind}
use Rattle.gc_model.specs.declared.entry.RunReport.{RunReport}
use Rattle.gc_model.specs.World.{World}
use Rattle.gc_placement.specs.Placement.{Placement}
use Rattle.gc_solo.specs.Collecting.{HasCollectedTo, IsReportOf}
use Rattle.gc_solo.specs.Kept.{IsSameHeap, Kept, ShowsBy}

-- how many pages of all mutators were given a class since the last full collection, or since the heap was made
abbrev pub given_pages : Kept → ℕ
given_pages kept = sum_by (λ bay. bay.given) kept.bays

-- whether a full collection is due: four times the pages that were given are at least all pages
abbrev pub is_due : Kept → Bool
is_due kept = nat_le (kept.layout.mutators * kept.layout.pages) (4 * given_pages kept)

-- what a collection of a kind leaves of that at its end: a full one was what was due
abbrev pub due_after : RunKind → Kept → Bool
due_after RunKind.Minor kept = is_due kept
due_after RunKind.Full kept = false

-- a collection of a kind was made, and its report stands behind the others
pub record HasRun (kind : RunKind) (old new : Kept) (before after : Placement) (world : World) (report : RunReport) : Type 0 where
  pub same : IsSameHeap old new
  pub shown : ShowsBy new after world
  pub collected : HasCollectedTo kind old new before after world
  pub report_is : IsReportOf kind world report
  pub reports : new.reports ≡ old.reports ++ report ∷ []
  pub room : new.room + 1 ≡ old.room
  pub due : new.due ≡ due_after kind new
  pub given : kind ≡ RunKind.Full → given_pages new ≡ 0

-- the kind of the first collection that a New brings
abbrev pub first_kind : Kept → RunKind
first_kind kept = if kept.due then RunKind.Full else RunKind.Minor
