-- What a call did to a heap.
use Rattle.std.specs.Prelude.{◌≡◌, ℕ, Bool, true, false, Option, None, Some, slice_index_or}
use Rattle.gc_model.specs.declared.call.Call.{Call}
use Rattle.gc_model.specs.declared.call.Call.TheVariants.{New, Collect}
use Rattle.gc_model.specs.declared.entry.RunKind.{RunKind}
use Rattle.gc_model.specs.declared.entry.RunReport.{RunReport}
use Rattle.gc_model.specs.declared.reply.Reply.{Reply}
use Rattle.gc_model.specs.declared.reply.Reply.TheVariants.{Done}
use Rattle.gc_model.specs.Answer.{Answer, blocked_refusal, effect, keeps}
use Rattle.gc_model.specs.World.{World}
use Rattle.gc_placement.specs.Placement.{Placement}
use Rattle.gc_solo.specs.Allocation.{IsAllocated}
use Rattle.gc_solo.specs.Kept.{Kept, Stays}
use Rattle.gc_solo.specs.Runs.{HasRun}
use Rattle.gc_solo.specs.Stands.{IsAnswered}

-- a full collection was made, and no more
pub record HasCollectedFull (old new : Kept) (placement : Placement) (world : World) (reply : Reply) : Type 0 where
  pub done : reply ≡ Done
  pub after : Placement
  pub report : RunReport
  pub run : HasRun RunKind.Full old new placement after world report

-- a call did what it does on the graph; a New may have brought collections before, and a Collect brought a full one
abbrev pub IsEffect : Kept → Kept → Placement → World → ℕ → Call → Reply → Type 0
IsEffect old new placement world t (New into ty) reply = IsAllocated old new placement world t into ty.0 reply
IsEffect old new placement world t Collect reply = HasCollectedFull old new placement world reply
IsEffect old new placement world t call reply = Stays old new × IsAnswered new reply (effect old.types world t true call)

-- so it did where nothing refused it, and else nothing
abbrev pub IsEffectUnlessRefused : Kept → Kept → Placement → World → ℕ → Call → Reply → Option Reply → Type 0
IsEffectUnlessRefused old new placement world t call reply None = IsEffect old new placement world t call reply
IsEffectUnlessRefused old new placement world t call reply (Some refusal) = (reply ≡ refusal) × (new ≡ old)

-- what a call did, by whether its mutator was blocked
abbrev pub IsCallMade : Kept → Kept → Placement → World → ℕ → Call → Reply → Type 0
IsCallMade old new placement world t call reply =
    IsEffectUnlessRefused old new placement world t call reply (blocked_refusal (slice_index_or old.blocked t false) call)
