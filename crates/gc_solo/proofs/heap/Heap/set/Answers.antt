use Rattle.std.proofs.Common.{refl, ap}
use Rattle.gc_solo.specs.Kept.{kept_of}
use Rattle.gc_solo.proofs.Answered.{answered-same}
use Rattle.gc_solo.proofs.Fields.{number-inside, shown-number}
use Rattle.gc_solo.proofs.heap.Heap.set.Goals as goal

pub store-requires : goal.store-requires
store-requires c =
    let some = c.requires.ready in
    let found = c.in-Ok.ensures.address some.placement some.world some.ready in
    number-inside (kept_of c.args.self.now) some.placement some.world found.object c.args.place c.in-Ok.address some.ready.shows
    found.number

pub returns-in-Ok-clause-answered : goal.returns-in-Ok-clause-answered
returns-in-Ok-clause-answered c placement world ready =
    let found = c.in-Ok.ensures.address placement world ready in
    let stored = shown-number (kept_of c.args.self.now) (kept_of c.store.new.self) placement world found.object c.args.place
    c.in-Ok.address c.args.number ready.shows (ap kept_of c.store.ensures.rest) c.store.ensures.count c.store.ensures.stored
    found.number in
    rw found.owner (record { reply_is = refl; placement = placement; shown = stored })

pub returns-in-Err-clause-answered : goal.returns-in-Err-clause-answered
returns-in-Err-clause-answered c placement world ready =
    rw (c.in-Err.ensures.refused placement world ready) (answered-same (kept_of c.args.self.now) placement world _ ready.shows)
