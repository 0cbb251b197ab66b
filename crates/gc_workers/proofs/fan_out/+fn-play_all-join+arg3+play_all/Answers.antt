use denote.Param.Send.{sendable}
use Rattle.std.proofs.Common.{rules}
use Rattle.gc_locked.proofs.Sent.{locked_sync, pass_send}
use Rattle.gc_workers.proofs.fan_out.+fn-play_all-join+arg3+play_all.Goals as goal

-- what the worker takes with it may go to another thread
pub join-pass-requires-send-F : goal.join-pass-requires-send-F
join-pass-requires-send-F g t c κs within =
    let locked = locked_sync in let pass = pass_send in search (sendable, rules) depth 40

-- and so may the pass that it gives back
pub join-pass-requires-send-A : goal.join-pass-requires-send-A
join-pass-requires-send-A g t c κs within = let pass = pass_send in search sendable depth 20
