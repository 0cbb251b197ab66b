-- the place of one line more, and behind all of them that of End
use Rattle.std.proofs.Common.{◌∙◌, ◌++◌, ◌∷◌, [], List, ℕ, sym, ap, ap₂, arith}
use Rattle.std.proofs.Math.Numerals.{add-one}
use Rattle.std.proofs.lemmas.List.{take_all}
use Rattle.gc_model.specs.declared.call.Line.{Line}
use Rattle.gc_locked.specs.Setup.{places_in}
use Rattle.gc_locked.proofs.Lists.{read-here}
use Rattle.gc_locked.proofs.Places.{places-other, places-own}
use Rattle.gc_locked.proofs.plan.plan.Goals as goal
use Rattle.gc_locked.proofs.plan.plan.Goals.{then-lines-index+in_ok-push, else-lines-index}

pub loop-index-preserved : goal.loop-index-preserved
loop-index-preserved c =
    let lines = c.args.lines.now in
    let index = c.loop-index.index in
    let line = c.index-lines-index.result in
    let there = read-here lines index line c.loop-index-test.true c.index-lines-index.is in
    let own = ap (λ (each : Line). each.mutator) c.index-lines-index.is in
    elim c.if-lines-index.branch [
      | then-lines-index+in_ok-push w ↦
          rw (add-one index, w.places-is)
          (w.in_ok-push.ensures.items ∙ ap (λ (front : List ℕ). front ++ index ∷ []) c.loop-index.invariant
          ∙ sym (places-own lines index line c.args.t there (own ∙ w.if-lines-index.true)))
      | else-lines-index w ↦
          rw (add-one index, w.places-is)
          (c.loop-index.invariant ∙ sym (places-other lines index line c.args.t there (λ same. w.if-lines-index.false (sym own ∙ same))))
    ]

pub returns : goal.returns
returns c =
    let all = take_all c.loop-index.index c.args.lines.now (omega (arith, c.loop-index-test.false)) in
    record {
      plan =
          c.in_ok-push-2.ensures.items
          ∙ ap₂ (λ (front : List ℕ) (last : ℕ). front ++ last ∷ []) (c.loop-index.invariant ∙ ap (places_in c.args.t 0) all)
          (omega (arith, c.from.ensures));
    }
