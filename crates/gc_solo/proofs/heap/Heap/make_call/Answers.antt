use Rattle.std.proofs.Common.{◌≤◌, refl, ap, arith}
use Rattle.gc_model.specs.History.{allowance_of}
use Rattle.gc_solo.specs.Kept.{kept_of}
use Rattle.gc_solo.proofs.MadeBehind.{ready-first}
use Rattle.gc_solo.proofs.heap.Heap.make_call.Goals as goal

-- a New may bring two collections
pub make_object-requires-clause-room : goal.make_object-requires-clause-room
make_object-requires-clause-room c = omega (arith, c.requires.room, ap allowance_of c.in-New.is)

-- a safepoint changes nothing
pub returns-in-Safepoint-clause-made : goal.returns-in-Safepoint-clause-made
returns-in-Safepoint-clause-made c placement world ready =
    rw c.in-Safepoint.is (
      record { types = refl; layout = refl; reports = refl; room = refl; due = refl },
      record { reply_is = refl; placement = placement; shown = ready.shows },
    )

-- a full collection was made
pub returns-in-Collect-clause-made : goal.returns-in-Collect-clause-made
returns-in-Collect-clause-made c placement world ready =
    let run =
    c.collect.ensures.run placement world (ready-first (kept_of c.args.self.now) placement world c.args.t ready) in
    rw c.in-Collect.is (record { done = refl; after = run.0; report = c.collect.result; run = run.1 })
