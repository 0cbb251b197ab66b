-- A heap that stands for a history.
use Rattle.std.proofs.Common.{◌≡◌, ℕ, ◌<◌, [], arith}
use Rattle.gc_model.specs.History.{History, world_after}
use Rattle.gc_model.specs.World.{first_world}
use Rattle.gc_model.proofs.EveryStep.{history-sound, history-typed}
use Rattle.gc_model.proofs.Histories.{legal-fit, legal-none}
use Rattle.gc_placement.specs.Placement.{Placement}
use Rattle.gc_solo.specs.Kept.{Kept, ShowsBy}
use Rattle.gc_solo.specs.Stands.{IsReadyFor, StandsFor, configuration_of}

-- what shows the first world, with no reports, stands for the empty history
pub stands-none : (kept : Kept) (placement : Placement) → ShowsBy kept placement (first_world kept.layout.mutators)
    → kept.reports ≡ [] → StandsFor kept []
stands-none kept placement shown none =
    record { legal = legal-none (configuration_of kept); placement = placement; shown = shown; reports = none }

-- what stands for a history is ready for the call of each mutator
pub stands-ready : (kept : Kept) (history : History) (t : ℕ) → (stands : StandsFor kept history) → t < kept.layout.mutators
    → IsReadyFor kept stands.placement (world_after (configuration_of kept) history) t
stands-ready kept history t stands below =
    let heap = configuration_of kept in
    record {
      shows = stands.shown;
      sound = history-sound heap history;
      typed = history-typed heap history stands.shown.rest.shown.are_types (legal-fit heap history stands.legal);
      mutator = omega (arith, below, stands.shown.rest.shown.mutators);
    }
