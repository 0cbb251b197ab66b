-- The heap was at rest, and stands for its history and the collection.
use Rattle.std.proofs.Common.{◌≡◌, ◌<◌, ◌≤◌, ◌++◌, ◌∷◌, ℕ, [], subst, arith}
use Rattle.gc_model.specs.declared.entry.Entry.TheVariants.{Run}
use Rattle.gc_model.specs.declared.entry.RunKind.{RunKind}
use Rattle.gc_model.specs.declared.entry.RunReport.{RunReport}
use Rattle.gc_model.specs.History.{History, world_after}
use Rattle.gc_solo.specs.Collecting.{IsReportOf}
use Rattle.gc_solo.specs.Kept.{Kept, kept_of}
use Rattle.gc_solo.specs.Runs.{HasRun}
use Rattle.gc_solo.specs.Stands.{IsReadyFor, StandsFor, configuration_of}
use Rattle.gc_solo.proofs.Called.{stands-run}
use Rattle.gc_solo.proofs.Standing.{stands-ready}
use Rattle.gc_solo.proofs.solo.Solo.collect.Goals as goal

-- what stands for a history is ready for its first mutator, since there is one
ready-first : (kept : Kept) (history : History) → (stands : StandsFor kept history)
    → IsReadyFor kept stands.placement (world_after (configuration_of kept) history) 0
ready-first kept history stands =
    let some = stands.shown.rest.shown.bays.limits.some_mutator in
    stands-ready kept history 0 stands (omega (arith, some))

pub collect-requires-clause-ready : goal.collect-requires-clause-ready
collect-requires-clause-ready c =
    let kept = kept_of c.self.inside.heap in
    let held = c.self.invariant in
    record {
      placement = held.stands.placement;
      world = world_after (configuration_of kept) held.history;
      ready = ready-first kept held.history held.stands;
    }

-- what is promised of a heap that holds this
abbrev IsPromised : RunKind → Kept → Kept → RunReport → Type 0
IsPromised kind old new report =
    (history : History) → (before : StandsFor old history)
    → (after : StandsFor new (history ++ Run report ∷ []))
    × HasRun kind old new before.placement after.placement (world_after (configuration_of old) history) report

-- it is kept
promised : (c : goal.After-collect)
    → IsPromised c.args.kind (kept_of c.self.inside.heap) (kept_of c.collect.new.self) c.collect.result
promised c history before =
    let kept = kept_of c.self.inside.heap in
    let run = c.collect.ensures.run before.placement (world_after (configuration_of kept) history) (ready-first kept history before) in
    stands-run kept (kept_of c.collect.new.self) history c.args.kind run.0 c.collect.result before run.1

pub invariant_of-self : goal.invariant_of-self
invariant_of-self c =
    let held = c.self.invariant in
    record { history = held.history ++ Run c.collect.result ∷ []; stands = (promised c held.history held.stands).0 }

pub returns-clause-stands : goal.returns-clause-stands
returns-clause-stands c =
    subst (λ (each : Kept). IsPromised c.args.kind each (kept_of c.collect.new.self) c.collect.result) c.self.view_is (promised c)

pub returns-clause-report : goal.returns-clause-report
returns-clause-report c =
    let IsReported : Kept → Type 0 =
    λ kept.
    (history : History) → StandsFor kept history
    → IsReportOf c.args.kind (world_after (configuration_of kept) history) c.collect.result in
    let held : IsReported (kept_of c.self.inside.heap) = λ history before. (promised c history before).1.report_is in
    subst IsReported c.self.view_is held
