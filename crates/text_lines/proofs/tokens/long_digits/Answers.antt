use Rattle.std.proofs.Common.{◌+◌, sym, ◌∙◌, arith}
use Rattle.text_lines.proofs.Numbers.{digit_more, digits_overflow, digits_read}
use Rattle.text_lines.proofs.tokens.long_digits.Goals as goal

pub returns-in_err-checked_mul : goal.returns-in_err-checked_mul
returns-in_err-checked_mul c =
    let digit = digit_more c.args.token.now c.loop-b.b-index _ c.loop-b-test.true (sym c.is_ascii_digit.ensures.value ∙ c.if-not-is_ascii_digit.false) in
    c.from_residual.ensures ∙ sym (digits_overflow c.args.token.now (c.loop-b.b-index + 1) (omega (arith, digit.more, digit.least, c.loop-b.invariant.value, c.in_err-checked_mul.ensures)))

pub returns-in_err-value : goal.returns-in_err-value
returns-in_err-value c =
    let digit = digit_more c.args.token.now c.loop-b.b-index _ c.loop-b-test.true (sym c.is_ascii_digit.ensures.value ∙ c.if-not-is_ascii_digit.false) in
    c.from_residual-in_err-value.ensures ∙ sym (digits_overflow c.args.token.now (c.loop-b.b-index + 1) (omega (arith, digit.more, digit.least, c.loop-b.invariant.value, c.in_ok-checked_mul.ensures, c.from.ensures, c.in_err-value.ensures)))

pub loop-b-preserved : goal.loop-b-preserved
loop-b-preserved c =
    let digit = digit_more c.args.token.now c.loop-b.b-index _ c.loop-b-test.true (sym c.is_ascii_digit.ensures.value ∙ c.if-not-is_ascii_digit.false) in
    record {
      digits = digit.all c.loop-b.invariant.digits;
      value = omega (arith, digit.more, digit.least, c.loop-b.invariant.value, c.in_ok-checked_mul.ensures, c.from.ensures, c.in_ok-value.ensures);
      small = omega (arith, c.in_ok-value.ensures);
    }

pub returns : goal.returns
returns c = digits_read c.args.token.now c.loop-b.b-index c.loop-b.value (omega (arith, c.loop-b-test.false)) c.loop-b.invariant.small c.loop-b.invariant.digits c.loop-b.invariant.value
