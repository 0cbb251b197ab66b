use Rattle.std.proofs.Common.{◌≡◌, ◌∙◌, ◌-◌, ◌++◌, ◌∷◌, [], List, ℕ, ap, length, length-append, arith}
use Rattle.std.specs.List.{range_with_len}
use Rattle.std.proofs.lemmas.List.FromFn.{length-range_with_len}
use Rattle.gc_locked.proofs.Order.{range-next}
use Rattle.gc_locked.proofs.guarded.append.Goals as goal

-- there is memory for each
pub push_reserved-requires : goal.push_reserved-requires
push_reserved-requires c =
    let so_far = ap length c.loop-place.invariant.places in
    let count = length-append c.args.order.now.items (range_with_len c.args.first (c.loop-place.place - c.args.first)) in
    let places = length-range_with_len c.args.first (c.loop-place.place - c.args.first) in
    omega (
      arith,
      so_far,
      count,
      places,
      c.requires.memory,
      c.loop-place.invariant.memory,
      c.loop-place-test.true,
      c.loop-place.auto.place,
      c.loop-place.auto.place-end,
      c.loop-place.order.ok,
    )

-- one more
pub loop-place-preserved : goal.loop-place-preserved
loop-place-preserved c = record {
  places =
      c.push_reserved.ensures.items ∙ ap (λ (front : List ℕ). front ++ c.loop-place.place ∷ []) c.loop-place.invariant.places
      ∙ range-next c.args.order.now.items c.args.first c.loop-place.place (omega (arith, c.loop-place.auto.place));
  memory = c.push_reserved.ensures.capacity ∙ c.loop-place.invariant.memory;
}

-- all
pub returns-clause-places : goal.returns-clause-places
returns-clause-places c =
    let all : c.loop-place.place - c.args.first ≡ c.args.behind - c.args.first =
    omega (arith, c.loop-place-test.false, c.loop-place.auto.place, c.loop-place.auto.place-end, c.requires.rise) in
    c.loop-place.invariant.places ∙ ap (λ (count : ℕ). c.args.order.now.items ++ range_with_len c.args.first count) all
