-- Calls that were made on a heap: of each there is the heap before it and the heap after it.
use Rattle.std.specs.Prelude.{ℕ}
use Rattle.gc_model.specs.declared.call.Call.{Call}
use Rattle.gc_model.specs.declared.reply.Reply.{Reply}
use Rattle.gc_model.specs.History.{History, world_after}
use Rattle.gc_solo.specs.Kept.{Kept}
use Rattle.gc_solo.specs.Made.{IsCallMade}
use Rattle.gc_solo.specs.Stands.{HasCalled, StandsFor, configuration_of}

-- a heap that stood for a history became another by one call: the other stands for the history, the collections that the call
-- brought, and the call with its reply; and these are the collections that the call was to bring
pub record IsCalled (old new : Kept) (history : History) (t : ℕ) (call : Call) (reply : Reply) : Type 0 where
  pub before : StandsFor old history
  pub called : HasCalled old new history t call reply
  pub made : IsCallMade old new before.placement (world_after (configuration_of old) history) t call reply
