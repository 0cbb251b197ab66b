use Rattle.std.proofs.Common.{◌≡◌, ◌∙◌, ◌<◌, ap, arith, false, length}
use Rattle.std.specs.List.{swap_remove}
use Rattle.gc_bay.specs.Bay.{Bay}
use Rattle.gc_layout.specs.declared.head.Head.{Head}
use Rattle.gc_layout.specs.Head.{head_word}
use Rattle.gc_model.specs.Graph.{object_at}
use Rattle.gc_solo.specs.Kept.{Kept, bay_at, kept_of}
use Rattle.gc_solo.proofs.Resting.{resting-header}
use Rattle.gc_solo.proofs.Tidying.{bay-read_at, traced-bay, traced-forgets, traced-resting, traced-small}
use Rattle.gc_solo.proofs.heap.Heap.forget.Goals as goal

pub head-head-requires-clause-header : goal.head-head-requires-clause-header
head-head-requires-clause-header c =
    let some = c.requires.traced in
    let kept = kept_of c.args.self.now in (
      (object_at some.0.world.graph some.2).ty,
      resting-header kept some.1 some.0.world some.2 c.args.address (traced-resting kept some.0 some.1 some.3) some.4,
    )

pub head-head-requires-clause-there : goal.head-head-requires-clause-there
head-head-requires-clause-there c =
    let some = c.requires.traced in
    (traced-small (kept_of c.args.self.now) some.0 some.1 some.2 c.args.address some.3 some.4).1

pub returns-clause-traced : goal.returns-clause-traced
returns-clause-traced c start after number traced at none =
    let kept = kept_of c.args.self.now in
    let stored = kept_of c.store.new.self in
    let t = c.args.t in
    let index = c.args.index in
    let address = c.args.address in
    let bay = c.drop_remembered.new.self in
    let listed = c.requires.traced.5 in
    let same : stored ≡ record kept { words = stored.words } = ap kept_of c.store.ensures.rest in
    let there : t < length stored.bays =
    omega (arith, ap (λ (each : Kept). length each.bays) same, traced-bay kept start after t traced listed.mutator) in
    let read : c.index_mut.result.now ≡ bay_at kept.bays t =
    bay-read_at stored.bays t c.from.result c.index_mut.result.now there c.from.ensures c.index_mut.ensures.value
    ∙ ap (λ (each : Kept). bay_at each.bays t) same in
    rw c.from.ensures (traced-forgets kept stored start after t index number address c.word.result bay traced same c.store.ensures.count
    c.store.ensures.stored (c.word.ensures ∙ ap (λ (head : Head). head_word (record head { remembered = false })) c.head-head.ensures)
    (c.drop_remembered.ensures.list
    ∙ ap (λ (each : Bay). record each { remembered = swap_remove each.remembered index 0 }) read) c.drop_remembered.ensures.bay listed at
    none)
