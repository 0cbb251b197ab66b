use Rattle.std.proofs.Common.{◌≡◌, ◌∙◌, Some, [], ◌∷◌, ap, length, length-append, map, slice_get, subst, sym, arith}
use Rattle.gc_locked.specs.Setup.{places_of}
use Rattle.gc_locked.proofs.Lists.{mapped-more}
use Rattle.gc_locked.proofs.plan.plans.Goals as goal

-- one plan more
pub loop-t-preserved : goal.loop-t-preserved
loop-t-preserved c =
    let lines = c.args.lines.now in
    let plans = c.loop-t.plans.items in
    let own = c.in_ok-plan.field-0 in
    let grown = c.in_ok-push.ensures.items in
    let count = c.loop-t.invariant.count in
    record {
      count = ap (λ each. length each) grown ∙ omega (arith, length-append plans (own ∷ []), count);
      plans = λ u below. subst (λ each. slice_get (map (λ plan. plan.items) each) u ≡ Some (places_of lines u)) (sym grown)
          (mapped-more (λ plan. plan.items) (places_of lines) plans own
          (λ n under. c.loop-t.invariant.plans n (omega (arith, under, count)))
          (c.in_ok-plan.ensures.plan ∙ ap (places_of lines) (sym count)) u (omega (arith, below, count)));
    }
