use Rattle.std.proofs.Common.{sym, ◌∙◌, take, arith}
use Rattle.text_lines.proofs.Numbers.{digit_more, digits_read, digits_told}
use Rattle.text_lines.proofs.tokens.digits.Goals as goal

pub returns : goal.returns
returns c =
    let front = digits_told (take 19 c.args.token.now) c.in-Some.front (sym c.in-Some.ensures) in
    let last = digit_more c.args.token.now 19 _ (omega (arith, c.if-token-lt20.false)) (sym c.is_ascii_digit.ensures.value ∙ c.if-not-is_ascii_digit.false) in
    let tens = c.in-Some-checked_mul.ensures in
    let sum = c.in-Some-checked_add.ensures in
    digits_read c.args.token.now 20 c.in-Some-checked_add.value (omega (arith, c.if-token-gt20.false)) (omega (arith, sum.0, sum.1)) (last.all front.0)
    (omega (arith, last.more, last.least, front.1, tens.1, sum.1, c.from.ensures))
