use Rattle.std.proofs.Common.{◌∙◌, ap, arith, inl, inr, refl, sym}
use Rattle.std.proofs.lemmas.Bool.{not-false, not-true}
use Rattle.gc_layout.specs.declared.head.Head.{Head}
use Rattle.gc_model.specs.Graph.{object_at}
use Rattle.gc_solo.specs.Kept.{kept_of}
use Rattle.gc_solo.proofs.Resting.{resting-header, resting-slot_inside, resting-typed}
use Rattle.gc_solo.proofs.Tidying.{none-at_all, read-header, read-none, read-young, slot-read, traced-resting, traced-small}
use Rattle.gc_solo.proofs.heap.Heap.names_young.Goals as goal
use Rattle.gc_solo.proofs.heap.Heap.names_young.Goals.{else-named-ne0-via-then-named-ne0+else-not-head, else-named-ne0-via-else-named-ne0}

pub shape_of-requires-clause-header : goal.shape_of-requires-clause-header
shape_of-requires-clause-header c =
    let some = c.requires.traced in
    let kept = kept_of c.args.self.now in
    let resting = traced-resting kept some.0 some.1 some.3 in (
      (object_at some.0.world.graph some.2).ty,
      resting-header kept some.1 some.0.world some.2 c.args.address resting some.4,
      (resting-typed kept some.1 some.0.world some.2 c.args.address resting some.4).known,
    )

pub shape_of-requires-clause-there : goal.shape_of-requires-clause-there
shape_of-requires-clause-there c =
    let some = c.requires.traced in
    (traced-small (kept_of c.args.self.now) some.0 some.1 some.2 c.args.address some.3 some.4).1

pub overflow_add-first : goal.overflow_add-first
overflow_add-first c =
    let some = c.requires.traced in
    omega (arith, (traced-small (kept_of c.args.self.now) some.0 some.1 some.2 c.args.address some.3 some.4).2)

pub overflow_add-first-in-loop-place : goal.overflow_add-first-in-loop-place
overflow_add-first-in-loop-place c =
    let some = c.requires.traced in
    omega (
      arith,
      (traced-small (kept_of c.args.self.now) some.0 some.1 some.2 c.args.address some.3 some.4).2,
      c.loop-place-test.true,
      c.from-place-end.ensures,
    )

pub word-named-requires : goal.word-named-requires
word-named-requires c =
    let some = c.requires.traced in
    let kept = kept_of c.args.self.now in
    let place = c.loop-place.place in
    let read = slot-read kept some.0 some.1 some.2 c.args.address place _ c.shape_of.result some.3 some.4 c.shape_of.ensures
    (omega (arith, c.from-place-end.ensures, c.loop-place-test.true)) refl in
    resting-slot_inside kept some.1 some.0.world some.2 c.args.address place read.resting some.4 read.within

pub head-requires-clause-header : goal.head-requires-clause-header
head-requires-clause-header c =
    let some = c.requires.traced in
    let kept = kept_of c.args.self.now in
    let place = c.loop-place.place in
    let held = c.word-named.result in
    let read = slot-read kept some.0 some.1 some.2 c.args.address place held c.shape_of.result some.3 some.4 c.shape_of.ensures
    (omega (arith, c.from-place-end.ensures, c.loop-place-test.true)) c.word-named.ensures in
    (read-header kept some.0 some.1 some.2 c.args.address place held read c.if-named-ne0.true).0

pub head-requires-clause-there : goal.head-requires-clause-there
head-requires-clause-there c =
    let some = c.requires.traced in
    let kept = kept_of c.args.self.now in
    let place = c.loop-place.place in
    let held = c.word-named.result in
    let read = slot-read kept some.0 some.1 some.2 c.args.address place held c.shape_of.result some.3 some.4 c.shape_of.ensures
    (omega (arith, c.from-place-end.ensures, c.loop-place-test.true)) c.word-named.ensures in
    (read-header kept some.0 some.1 some.2 c.args.address place held read c.if-named-ne0.true).1

pub returns-then-not-head-clause-young : goal.returns-then-not-head-clause-young
returns-then-not-head-clause-young c start after number traced at page _ =
    let kept = kept_of c.args.self.now in
    let place = c.loop-place.place in
    let held = c.word-named.result in
    let read = slot-read kept start after number c.args.address place held c.shape_of.result traced at c.shape_of.ensures
    (omega (arith, c.from-place-end.ensures, c.loop-place-test.true)) c.word-named.ensures in
    read-young kept start after number c.args.address place held read page c.if-named-ne0.true
    (ap (λ (head : Head). head.old) (sym c.head.ensures) ∙ not-true c.head.result.old c.if-not-head.true)

pub loop-place-preserved : goal.loop-place-preserved
loop-place-preserved c start after number traced at =
    let kept = kept_of c.args.self.now in
    let place = c.loop-place.place in
    let held = c.word-named.result in
    let read = slot-read kept start after number c.args.address place held c.shape_of.result traced at c.shape_of.ensures
    (omega (arith, c.from-place-end.ensures, c.loop-place-test.true)) c.word-named.ensures in
    read-none kept start after number c.args.address place held read (c.loop-place.invariant start after number traced at)
    (elim c.else-named-ne0.branch [
      | else-named-ne0-via-then-named-ne0+else-not-head w ↦
          inr (ap (λ (head : Head). head.old) (sym w.head.ensures) ∙ not-false w.head.result.old w.if-not-head.false)
      | else-named-ne0-via-else-named-ne0 w ↦ inl w.if-named-ne0.false
    ])

pub returns-clause-none : goal.returns-clause-none
returns-clause-none c start after number place traced at _ =
    none-at_all (kept_of c.args.self.now) start after number c.args.address c.loop-place.place place c.shape_of.result traced at
    c.shape_of.ensures (omega (arith, c.from-place-end.ensures, c.loop-place-test.false))
    (c.loop-place.invariant start after number traced at)
