-- What it means that a heap of one thread stands for a history.
use Rattle.std.specs.Prelude.{◌≡◌, ℕ, ◌<◌, ◌≤◌, List, [], ◌∷◌, ◌++◌, length, map}
use Rattle.gc_model.specs.declared.call.Call.{Call}
use Rattle.gc_model.specs.declared.entry.Entry.TheVariants.{Made, Run}
use Rattle.gc_model.specs.declared.entry.RunReport.{RunReport}
use Rattle.gc_model.specs.declared.reply.Reply.{Reply}
use Rattle.gc_model.specs.Answer.{Answer}
use Rattle.gc_model.specs.History.{Configuration, History, allowance_of, world_after}
use Rattle.gc_model.specs.Laws.{IsSound, IsWellTyped}
use Rattle.gc_model.specs.Legal.{IsLegal}
use Rattle.gc_model.specs.World.{World}
use Rattle.gc_placement.specs.Placement.{Placement}
use Rattle.gc_solo.specs.Kept.{Kept, ShowsBy}
use Rattle.gc_solo.specs.Reports.{reports_of}

-- the heap that was asked for
abbrev pub configuration_of : Kept → Configuration
configuration_of kept =
    record { types = kept.types; mutators = kept.layout.mutators; nursery = kept.layout.nursery; pages = kept.layout.pages }

-- the history is legal, the heap shows the world after it, and its reports are those of the history
pub record StandsFor (kept : Kept) (history : History) : Type 0 where
  pub legal : IsLegal (configuration_of kept) history
  pub placement : Placement
  pub shown : ShowsBy kept placement (world_after (configuration_of kept) history)
  pub reports : kept.reports ≡ reports_of history

-- the heap stands for some history
pub record Stands (kept : Kept) : Type 0 where
  pub history : History
  pub stands : StandsFor kept history

-- the heap shows a world in which each name is an object's and each object has its type's counts, and in which this
-- mutator is one
pub record IsReadyFor (kept : Kept) (placement : Placement) (world : World) (t : ℕ) : Type 0 where
  pub shows : ShowsBy kept placement world
  pub sound : IsSound world
  pub typed : IsWellTyped kept.types world
  pub mutator : t < length world.mutators

-- the heap is ready for a mutator's call, in some world
pub record IsReadyIn (kept : Kept) (t : ℕ) : Type 0 where
  pub placement : Placement
  pub world : World
  pub ready : IsReadyFor kept placement world t

-- the reply is that of an answer, and the heap shows its world
pub record IsAnswered (kept : Kept) (reply : Reply) (answer : Answer) : Type 0 where
  pub reply_is : answer.reply ≡ reply
  pub placement : Placement
  pub shown : ShowsBy kept placement answer.world

-- a heap that stood for a history stands for that one, the collections that a call brought, no more than it may, and the call with
-- its reply
pub record HasCalled (old new : Kept) (history : History) (t : ℕ) (call : Call) (reply : Reply) : Type 0 where
  pub runs : List RunReport
  pub allowed : length runs ≤ allowance_of call
  pub reports : new.reports ≡ old.reports ++ runs
  pub stands : StandsFor new (history ++ (map Run runs ++ Made t call reply ∷ []))
