use Rattle.std.proofs.Common.{sym, ◌∙◌, arith}
use Rattle.std.proofs.lemmas.Grind.{common_steps}
use Rattle.std.proofs.lemmas.Str.{digit_value_digit}
use Rattle.gc_script.proofs.NumberLemmas.{digits_value_after-next, none-too_large}
use Rattle.gc_script.proofs.words.value_of.Goals as goal

pub returns-in_err-tens : goal.returns-in_err-tens
returns-in_err-tens c =
    c.from_residual.ensures
    ∙ sym (none-too_large c.args.digits.now
    (omega (
      arith,
      c.in_err-tens.ensures,
      c.loop-byte.invariant.value,
      digits_value_after-next c.loop-byte.value
          c.args.digits.now c.loop-byte.byte-index c.loop-byte-test.true,
    )))

pub returns-in_err-value : goal.returns-in_err-value
returns-in_err-value c =
    c.from_residual-in_err-value.ensures
    ∙ sym (none-too_large c.args.digits.now
    (omega (
      arith,
      c.in_err-value.ensures,
      c.in_ok-tens.ensures,
      c.from.ensures,
      c.loop-byte.invariant.value,
      digits_value_after-next c.loop-byte.value c.args.digits.now c.loop-byte.byte-index c.loop-byte-test.true,
      digit_value_digit _ c.if-not-is_ascii_digit.ensures.cases,
    )))

pub returns : goal.returns
returns c = grind (arith, common_steps)
