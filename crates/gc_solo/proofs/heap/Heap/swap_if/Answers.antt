use Rattle.std.proofs.Common.{◌∙◌, ap, refl, sym}
use Rattle.gc_model.specs.Answer.{swaps}
use Rattle.gc_solo.specs.Kept.{kept_of}
use Rattle.gc_solo.proofs.Answered.{answered-as, answered-same}
use Rattle.gc_solo.proofs.Fields.{is-swapped, not-swapped, number-inside, number-word, shown-number}
use Rattle.gc_solo.proofs.heap.Heap.swap_if.Goals as goal

pub word-there-requires : goal.word-there-requires
word-there-requires c =
    let some = c.requires.ready in
    let found = c.in-Ok.ensures.address some.placement some.world some.ready in
    number-inside (kept_of c.args.self.now) some.placement some.world found.object c.args.place c.in-Ok.address some.ready.shows
    found.number

pub store-requires : goal.store-requires
store-requires c =
    let some = c.requires.ready in
    let found = c.in-Ok.ensures.address some.placement some.world some.ready in
    number-inside (kept_of c.args.self.now) some.placement some.world found.object c.args.place c.in-Ok.address some.ready.shows
    found.number

pub returns-then-there-expected-clause-answered : goal.returns-then-there-expected-clause-answered
returns-then-there-expected-clause-answered c placement world ready =
    let kept = kept_of c.args.self.now in
    let found = c.in-Ok.ensures.address placement world ready in
    let word = c.word-there.ensures
    ∙ number-word kept placement world found.object c.args.place c.in-Ok.address ready.shows found.number in
    let is = ap (swaps world found.object c.args.place c.args.expected c.args.replacement) (sym word)
    ∙ not-swapped world found.object c.args.place c.args.expected c.args.replacement c.word-there.result c.if-there-expected.true in
    rw found.owner (answered-as kept _ _ _ is (answered-same kept placement world _ ready.shows))

pub returns-else-there-expected-clause-answered : goal.returns-else-there-expected-clause-answered
returns-else-there-expected-clause-answered c placement world ready =
    let kept = kept_of c.args.self.now in
    let found = c.in-Ok.ensures.address placement world ready in
    let word = c.word-there.ensures
    ∙ number-word kept placement world found.object c.args.place c.in-Ok.address ready.shows found.number in
    let is = is-swapped world found.object c.args.place c.args.expected c.args.replacement _ (sym word ∙ c.if-there-expected.false) in
    let stored = shown-number kept (kept_of c.store.new.self) placement world found.object c.args.place c.in-Ok.address
    c.args.replacement ready.shows (ap kept_of c.store.ensures.rest) c.store.ensures.count c.store.ensures.stored found.number in
    rw found.owner
    (answered-as (kept_of c.store.new.self) _ _ _ is (record { reply_is = refl; placement = placement; shown = stored }))

pub returns-in-Err-clause-answered : goal.returns-in-Err-clause-answered
returns-in-Err-clause-answered c placement world ready =
    rw (c.in-Err.ensures.refused placement world ready) (answered-same (kept_of c.args.self.now) placement world _ ready.shows)
