use Rattle.std.proofs.Common.{◌∙◌}
use Rattle.gc_solo.specs.Kept.{kept_of}
use Rattle.gc_solo.proofs.Answered.{answered-same}
use Rattle.gc_solo.proofs.Fields.{number-inside, number-word}
use Rattle.gc_solo.proofs.heap.Heap.ask.Goals as goal

pub word-requires : goal.word-requires
word-requires c =
    let some = c.requires.ready in
    let found = c.in-Ok.ensures.address some.placement some.world some.ready in
    number-inside (kept_of c.args.self.now) some.placement some.world found.object c.args.place c.in-Ok.address some.ready.shows
    found.number

pub returns-in-Ok : goal.returns-in-Ok
returns-in-Ok c placement world ready =
    let kept = kept_of c.args.self.now in
    let found = c.in-Ok.ensures.address placement world ready in
    let word = c.word.ensures
    ∙ number-word kept placement world found.object c.args.place c.in-Ok.address ready.shows found.number in
    rw (found.owner, ← word) (answered-same kept placement world _ ready.shows)

pub returns-in-Err : goal.returns-in-Err
returns-in-Err c placement world ready =
    rw (c.in-Err.ensures.refused placement world ready) (answered-same (kept_of c.args.self.now) placement world _ ready.shows)
