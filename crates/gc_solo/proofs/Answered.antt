-- What answers a call.
use Rattle.std.proofs.Common.{◌≡◌, refl, subst, sym}
use Rattle.gc_model.specs.declared.reply.Reply.{Reply}
use Rattle.gc_model.specs.Answer.{Answer, keeps}
use Rattle.gc_model.specs.World.{World}
use Rattle.gc_placement.specs.Placement.{Placement}
use Rattle.gc_solo.specs.Kept.{Kept, ShowsBy}
use Rattle.gc_solo.specs.Stands.{IsAnswered}

-- a reply that changes nothing leaves the world shown
pub answered-same : (kept : Kept) (placement : Placement) (world : World) (reply : Reply) → ShowsBy kept placement world
    → IsAnswered kept reply (keeps world reply)
answered-same kept placement world reply shown = record { reply_is = refl; placement = placement; shown = shown }

-- what gives an answer gives one that is equal to it
pub answered-as : (kept : Kept) (reply : Reply) (answer other : Answer) → answer ≡ other → IsAnswered kept reply other
    → IsAnswered kept reply answer
answered-as kept reply answer other same given = subst (IsAnswered kept reply) (sym same) given
