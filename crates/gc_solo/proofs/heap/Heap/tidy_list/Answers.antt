use Rattle.std.proofs.Common.{◌∙◌, ap, arith, is_some}
use Rattle.gc_solo.specs.declared.heap.Heap.{Heap}
use Rattle.gc_solo.specs.Kept.{kept_of}
use Rattle.gc_solo.proofs.Tidying.{entry-none, entry-read, entry-small, listed-placed, tidy-forgets, tidy-stays}
use Rattle.gc_solo.proofs.heap.Heap.tidy_list.Goals as goal

pub names_young-requires : goal.names_young-requires
names_young-requires c =
    let some = c.requires.traced in
    let kept = kept_of c.loop-address.self in
    let index = c.loop-address.index in
    let traced = c.loop-address.invariant.traced some.start some.after some.traced in
    let listed = entry-read (kept_of c.args.self.now) kept some.start some.after c.args.t c.from.result index c.in-Some.address
    c.index.result.now c.remembered.result (ap kept_of c.loop-address.invariant.rest) traced c.requires.there c.from.ensures
    c.index.ensures c.remembered.ensures.address c.in-Some.is in
    let placed = listed-placed kept some.start some.after c.args.t index c.in-Some.address traced listed in
    record { traced = (some.start, some.after, placed.0.number, traced, placed.0.at) }

pub overflow_add-index : goal.overflow_add-index
overflow_add-index c =
    let some = c.requires.traced in
    let kept = kept_of c.loop-address.self in
    let index = c.loop-address.index in
    let traced = c.loop-address.invariant.traced some.start some.after some.traced in
    let listed = entry-read (kept_of c.args.self.now) kept some.start some.after c.args.t c.from.result index c.in-Some.address
    c.index.result.now c.remembered.result (ap kept_of c.loop-address.invariant.rest) traced c.requires.there c.from.ensures
    c.index.ensures c.remembered.ensures.address c.in-Some.is in
    omega (arith, entry-small kept some.start some.after c.args.t index c.in-Some.address traced listed)

pub loop-address-preserved-then-names_young : goal.loop-address-preserved-then-names_young
loop-address-preserved-then-names_young c =
    let kept = kept_of c.loop-address.self in
    let index = c.loop-address.index in
    let address = c.in-Some.address in record {
      traced = c.loop-address.invariant.traced;
      tidied = λ start after traced_first tidy_first.
          let traced = c.loop-address.invariant.traced start after traced_first in
          let listed = entry-read (kept_of c.args.self.now) kept start after c.args.t c.from.result index address
          c.index.result.now c.remembered.result (ap kept_of c.loop-address.invariant.rest) traced c.requires.there c.from.ensures
          c.index.ensures c.remembered.ensures.address c.in-Some.is in
          let placed = listed-placed kept start after c.args.t index address traced listed in
          tidy-stays kept start after c.args.t index address listed (c.loop-address.invariant.tidied start after traced_first tidy_first)
          (c.names_young.ensures.young start after placed.0.number traced placed.0.at placed.1 c.if-names_young.true);
      given = c.loop-address.invariant.given;
      rest = c.loop-address.invariant.rest;
    }

pub forget-requires : goal.forget-requires
forget-requires c =
    let some = c.requires.traced in
    let kept = kept_of c.loop-address.self in
    let index = c.loop-address.index in
    let traced = c.loop-address.invariant.traced some.start some.after some.traced in
    let listed = entry-read (kept_of c.args.self.now) kept some.start some.after c.args.t c.from.result index c.in-Some.address
    c.index.result.now c.remembered.result (ap kept_of c.loop-address.invariant.rest) traced c.requires.there c.from.ensures
    c.index.ensures c.remembered.ensures.address c.in-Some.is in
    let placed = listed-placed kept some.start some.after c.args.t index c.in-Some.address traced listed in
    let number = placed.0.number in
    record {
      traced = (
        some.start,
        some.after,
        number,
        traced,
        placed.0.at,
        listed,
        λ place.
            c.names_young.ensures.none some.start some.after number place traced placed.0.at c.if-names_young.false,
      );
    }

pub loop-address-preserved : goal.loop-address-preserved
loop-address-preserved c =
    let kept = kept_of c.loop-address.self in
    let forgotten = kept_of c.forget.new.self in
    let index = c.loop-address.index in
    let address = c.in-Some.address in record {
      traced = λ start after traced_first.
          let traced = c.loop-address.invariant.traced start after traced_first in
          let listed = entry-read (kept_of c.args.self.now) kept start after c.args.t c.from.result index address
          c.index.result.now c.remembered.result (ap kept_of c.loop-address.invariant.rest) traced c.requires.there c.from.ensures
          c.index.ensures c.remembered.ensures.address c.in-Some.is in
          let placed = listed-placed kept start after c.args.t index address traced listed in
          let number = placed.0.number in
          c.forget.ensures.traced start after number traced placed.0.at (λ place.
          c.names_young.ensures.none start after number place traced placed.0.at c.if-names_young.false);
      tidied = λ start after traced_first tidy_first.
          tidy-forgets kept forgotten start after c.args.t index (ap kept_of c.forget.ensures.rest) c.forget.ensures.dropped
          (c.loop-address.invariant.tidied start after traced_first tidy_first);
      given = λ u. c.forget.ensures.given u ∙ c.loop-address.invariant.given u;
      rest = c.forget.ensures.rest
          ∙ ap (λ (each : Heap). record each { words = c.forget.new.self.words; bays = c.forget.new.self.bays })
          c.loop-address.invariant.rest;
    }

pub returns-clause-tidied : goal.returns-clause-tidied
returns-clause-tidied c start after traced_first tidy_first =
    let kept = kept_of c.loop-address.self in
    let traced = c.loop-address.invariant.traced start after traced_first in
    entry-none (kept_of c.args.self.now) kept start after c.args.t c.from.result c.loop-address.index c.index.result.now
    (ap kept_of c.loop-address.invariant.rest) traced c.requires.there c.from.ensures c.index.ensures
    (c.remembered.ensures.none.0 (ap is_some c.in_default.is))
    (c.loop-address.invariant.tidied start after traced_first tidy_first)
