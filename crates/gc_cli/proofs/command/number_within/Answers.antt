use Rattle.std.proofs.Common.{◌≡◌, ◌⊎◌, inl, inr, sym, ap, ◌∙◌, None, Some, slice_get, arith}
use Rattle.std.specs.Result.{result_ok}
use Rattle.gc_cli.specs.Command.{within}
use Rattle.gc_cli.proofs.CommandLemmas.{then_some-below, then_some-from, number_within-empty, number_within-none, number_within-parsed}
use Rattle.gc_cli.proofs.command.number_within.Goals as goal
use Rattle.gc_cli.proofs.command.number_within.Goals.{then-first-eq43-via-then-first-eq43, then-first-eq43-via-else-first-eq43+then-first-eq48, then-least-number, else-least-number}

pub returns-in_err-first-clause-value : goal.returns-in_err-first-clause-value
returns-in_err-first-clause-value c =
    let empty : slice_get c.args.word.now 0 ≡ None = cc (c.in_err-first.ensures.value, c.as_bytes.ensures.value) in
    let is = number_within-empty c.args.least c.args.most c.args.word.now empty in
    cc (c.from_residual.ensures, is)

pub returns-then-first-eq43-clause-value : goal.returns-then-first-eq43-clause-value
returns-then-first-eq43-clause-value c =
    let first : slice_get c.args.word.now 0 ≡ Some c.in_ok-first.field-0.now = cc (c.in_ok-first.ensures.value, c.as_bytes.ensures.value) in
    let begins : (c.in_ok-first.field-0.now ≡ 43) ⊎ (c.in_ok-first.field-0.now ≡ 48) = elim c.then-first-eq43.branch [
      | then-first-eq43-via-then-first-eq43 w ↦ inl w.if-first-eq43.true
      | then-first-eq43-via-else-first-eq43+then-first-eq48 w ↦ inr w.if-first-eq48.true
    ] in
    sym (number_within-none c.args.least c.args.most c.args.word.now _ c.requires first begins)

pub returns-in_err-number-clause-value : goal.returns-in_err-number-clause-value
returns-in_err-number-clause-value c =
    let first : slice_get c.args.word.now 0 ≡ Some c.in_ok-first.field-0.now = cc (c.in_ok-first.ensures.value, c.as_bytes.ensures.value) in
    let is = number_within-parsed c.args.least c.args.most c.args.word.now _ c.parse.result (omega (arith, c.ranges.most.fits)) first
    c.if-first-eq43.false c.if-first-eq48.false c.parse.ensures.value.0 in
    let none : result_ok c.parse.result ≡ None = cc (c.ok.ensures.value, c.in_err-number.was) in
    c.from_residual-in_err-number.ensures ∙ sym (is ∙ ap (within c.args.least c.args.most) none)

pub returns-clause-value : goal.returns-clause-value
returns-clause-value c =
    let first : slice_get c.args.word.now 0 ≡ Some c.in_ok-first.field-0.now = cc (c.in_ok-first.ensures.value, c.as_bytes.ensures.value) in
    let is = number_within-parsed c.args.least c.args.most c.args.word.now _ c.parse.result (omega (arith, c.ranges.most.fits)) first
    c.if-first-eq43.false c.if-first-eq48.false c.parse.ensures.value.0 in
    let number : result_ok c.parse.result ≡ Some c.in_ok-number.number = cc (c.ok.ensures.value, c.in_ok-number.was) in
    let all = is ∙ ap (within c.args.least c.args.most) number in
    elim c.if-least-number.branch [
      | then-least-number w ↦
          let least = w.if-least-number.true in
          c.then_some.ensures ∙ then_some-from _ c.args.least c.args.most _ least w.then_some-is ∙ sym all
      | else-least-number w ↦
          let least = w.if-least-number.false in
          c.then_some.ensures ∙ then_some-below _ c.args.least c.args.most _ least w.then_some-is ∙ sym all
    ]
