-- A pass may go to another thread, and a locked heap may be seen by several. Each type comes after those of its fields.
use denote.Param.Send.{IsSend, IsSync, sendable}
use Rattle.std.proofs.Crossing.{crosses}
use Rattle.atomic_table.proofs.send_lease.SendLease.TheSendSync as lease
use Rattle.atomic_table.proofs.shared.Seat.TheSendSync as seat
use Rattle.atomic_table.proofs.shared.Shared.TheSendSync as shared
use Rattle.gc_model.specs.contracts.call.Call as Call
use Rattle.gc_model.specs.contracts.reply.Reply as Reply
use Rattle.gc_solo.specs.contracts.heap.Heap as Heap
use Rattle.gc_solo.specs.contracts.solo.Solo as Solo
use Rattle.gc_locked.specs.contracts.guarded.Guarded as Guarded
use Rattle.gc_locked.specs.contracts.locked.Locked as Locked
use Rattle.gc_locked.specs.contracts.pass.Pass as Pass
use Rattle.gc_locked.specs.contracts.setup.Setup as Setup

reply_send : IsSend Reply.the_field.row
reply_send = search sendable depth 40 fits 5000

heap_send : IsSend Heap.the_field.row
heap_send = search (sendable, crosses) depth 40 fits 5000

solo_send : IsSend Solo.the_field.row
solo_send = let heap = heap_send in search sendable depth 20

setup_send : IsSend Setup.the_field.row
setup_send = search (sendable, crosses) depth 20

guarded_send : IsSend Guarded.the_field.row
guarded_send = let solo = solo_send in let reply = reply_send in let setup = setup_send in search (sendable, crosses) depth 20

pub pass_send : IsSend Pass.the_field.row
pass_send = let guarded = guarded_send in search (sendable, seat.the_send) depth 20

call_sync : IsSync Call.the_field.row
call_sync = search sendable depth 20 fits 5000

pub locked_sync : IsSync Locked.the_field.row
locked_sync = let guarded = guarded_send in let call = call_sync in search
    (sendable, crosses, lease.the_sync, shared.the_sync) depth 40 fits 5000
