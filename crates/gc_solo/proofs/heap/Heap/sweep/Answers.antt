use Rattle.std.proofs.Common.{◌≡◌, ◌∙◌, ◌*◌, ◌<◌, ℕ, ap, arith}
use Rattle.std.specs.Vec.{with_item}
use Rattle.gc_bay.specs.Bay.{Bay}
use Rattle.gc_solo.specs.Kept.{bay_at, kept_of}
use Rattle.gc_solo.specs.declared.heap.Heap.{Heap}
use Rattle.gc_solo.proofs.Sweeping.{found-first, given-reset, mutator-looked_at, swept-bay, swept-ends, swept-first, swept-read, swept-reset}
use Rattle.gc_solo.proofs.heap.Heap.sweep.Goals as goal

-- how many mutators a heap has
abbrev mutators : Heap → ℕ
mutators heap = heap.places.mutators

-- so many pages
abbrev pages : Heap → ℕ
pages heap = heap.places.pages

pub sweep_page-requires-clause-swept : goal.sweep_page-requires-clause-swept
sweep_page-requires-clause-swept c =
    let some = c.requires.traced in
    let first = swept-first (kept_of c.args.self.now) some.0 some.1 in
    record {
      start = some.0;
      after = found-first (kept_of c.args.self.now) some.0 some.1;
      swept = c.loop-page.invariant.swept some.0 (found-first (kept_of c.args.self.now) some.0 some.1) first;
    }

pub loop-page-preserved : goal.loop-page-preserved
loop-page-preserved c =
    let known = c.loop-page.invariant in
    let looked = c.sweep_page.ensures in
    record {
      swept = λ start after first. looked.swept start after (known.swept start after first);
      given = λ u below. looked.given u ∙ known.given u below;
      rest = looked.rest
          ∙ ap (λ (heap : Heap). record heap { words = c.sweep_page.new.self.words; bays = c.sweep_page.new.self.bays }) known.rest;
    }

pub index_mut-requires : goal.index_mut-requires
index_mut-requires c =
    let some = c.requires.traced in
    let kept = kept_of c.loop-page.self in
    let known = c.loop-page.invariant in
    let after = found-first (kept_of c.args.self.now) some.0 some.1 in
    let swept = known.swept some.0 after (swept-first (kept_of c.args.self.now) some.0 some.1) in
    let there : c.loop-t.t < kept.layout.mutators =
    omega (arith, c.loop-t-test.true, c.mutators-t-end.ensures.mutators, ap mutators known.rest) in
    omega (
      arith,
      swept-bay kept some.0 after c.loop-t.t (c.loop-page.page * 1024) c.loop-t.t swept there,
      c.loop-page.self.bays.ok.0,
      c.from.ensures,
    )

pub loop-t-preserved : goal.loop-t-preserved
loop-t-preserved c =
    let kept = kept_of c.loop-page.self in
    let t = c.loop-t.t in
    let known = c.loop-page.invariant in
    let own = c.reset_given.new.self in
    let there : t < kept.layout.mutators =
    omega (arith, c.loop-t-test.true, c.mutators-t-end.ensures.mutators, ap mutators known.rest) in
    let page : c.loop-page.page ≡ kept.layout.pages =
    omega (
      arith,
      c.loop-page.auto.page-end,
      c.loop-page-test.false,
      c.pages-page-end.ensures.pages,
      ap pages known.rest,
      ap pages c.loop-t.invariant.rest,
    ) in
    let some = c.requires.traced in
    let first = found-first (kept_of c.args.self.now) some.0 some.1 in
    let held = known.swept some.0 first (swept-first (kept_of c.args.self.now) some.0 some.1) in
    let read : c.index_mut.result.now ≡ bay_at kept.bays t =
    swept-read kept some.0 first t (c.loop-page.page * 1024) t c.from.result c.index_mut.result.now held there c.from.ensures
    c.index_mut.ensures.value in
    let own_is : own ≡ record (bay_at kept.bays t) { given = 0 } =
    c.reset_given.ensures.given ∙ ap (λ (bay : Bay). record bay { given = 0 }) read in
    rw c.from.ensures (record {
      swept = λ start after begun.
          mutator-looked_at _ start after t c.loop-page.page
          (swept-reset kept start after t (c.loop-page.page * 1024) t own (known.swept start after begun) there own_is
          c.reset_given.ensures.bay) page;
      given = given-reset kept.bays t own (swept-bay kept some.0 first t (c.loop-page.page * 1024) t held there)
          (ap (λ (bay : Bay). bay.given) own_is) known.given;
      rest = ap (λ (heap : Heap). record heap { bays = with_item c.loop-page.self.bays t own }) known.rest;
    })

pub returns-clause-swept : goal.returns-clause-swept
returns-clause-swept c start all =
    let known = c.loop-t.invariant in
    let after = found-first (kept_of c.args.self.now) start all in (
      after,
      swept-ends (kept_of c.loop-t.self) start after c.loop-t.t 0
          (known.swept start after (swept-first (kept_of c.args.self.now) start all))
          (omega (arith, c.loop-t.auto.t-end, c.loop-t-test.false, c.mutators-t-end.ensures.mutators, ap mutators known.rest)),
    )
