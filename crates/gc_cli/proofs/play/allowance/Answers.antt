use Rattle.std.proofs.Common.{◌≡◌, ◌∙◌, ℕ, ◌≤◌, sym, length, sum_by, take, ap, arith}
use Rattle.std.proofs.Math.Numerals.{add-one}
use Rattle.std.proofs.lemmas.List.{take_all}
use Rattle.std.proofs.lemmas.Option.{same_Some}
use Rattle.std.proofs.lemmas.List.Sums.{sum_by_push}
use Rattle.gc_model.specs.declared.call.Line.{Line}
use Rattle.gc_model.specs.History.{allowance_of}
use Rattle.gc_cli.proofs.Lists.{slice_get-below, take-at}
use Rattle.gc_cli.proofs.play.allowance.Goals as goal

-- what a line may bring
abbrev weight : Line → ℕ
weight line = allowance_of line.call

pub overflow_add-sum : goal.overflow_add-sum
overflow_add-sum c =
    omega
    (arith, c.loop-index.invariant.most, c.allowance-sum.ensures.most, c.loop-index-test.true, c.count-index-end.ensures.most)

-- one more line
pub loop-index-preserved : goal.loop-index-preserved
loop-index-preserved c =
    let lines = c.args.script.now.lines in
    let index = c.loop-index.index in
    let next = slice_get-below lines index (omega (arith, c.loop-index-test.true, c.count-index-end.ensures.count)) in
    let same : next.0 ≡ c.unwrap-call.result = same_Some _ _ (sym next.1 ∙ sym c.line.ensures.line ∙ c.unwrap-call.ensures) in
    let own = c.allowance-sum.ensures.allowance ∙ sym (ap weight same) in
    let more = ap (sum_by weight) (take-at lines index next.0 next.1) ∙ sum_by_push weight (take index lines) next.0 in
    record {
      sum = rw (add-one index) (omega (arith, c.loop-index.invariant.sum, own, more));
      most = omega (arith, c.loop-index.invariant.most, c.allowance-sum.ensures.most);
    }

-- all lines
pub returns : goal.returns
returns c =
    let lines = c.args.script.now.lines in
    let past : length lines ≤ c.loop-index.index = omega (arith, c.loop-index-test.false, c.count-index-end.ensures.count) in
    c.loop-index.invariant.sum ∙ ap (sum_by weight) (take_all c.loop-index.index lines past)
