use Rattle.std.proofs.Common.{◌+◌, ◌*◌, ◌≤◌, sym, ◌∙◌, get_or, arith}
use Rattle.text_lines.proofs.Numbers.{digit_more, digit_next}
use Rattle.text_lines.proofs.TenPowers.{four_digits_more, one_digit_more, room_for_digit, room_for_four}
use Rattle.text_lines.proofs.tokens.short_digits.Goals as goal

pub overflow_mul-value : goal.overflow_mul-value
overflow_mul-value c = omega (arith, room_for_four c.fours.value c.fours.at c.fours.invariant.small (omega (arith, c.requires, c.fours-test.true)))

pub overflow_add-value-in-fours : goal.overflow_add-value-in-fours
overflow_add-value-in-fours c =
    let room = room_for_four c.fours.value c.fours.at c.fours.invariant.small (omega (arith, c.requires, c.fours-test.true)) in
    let front : c.from.result * 1000 + c.from-in-fours.result * 100 ≤ 9900 = omega (arith, c.from.ensures, c.from-in-fours.ensures, c.if-not-is_ascii_digit.ensures.cases, c.if-not-is_ascii_digit-2.ensures.cases) in
    let back : c.from-in-fours-2.result * 10 + c.from-in-fours-3.result ≤ 99 = omega (arith, c.from-in-fours-2.ensures, c.from-in-fours-3.ensures, c.if-not-is_ascii_digit-3.ensures.cases, c.if-not-is_ascii_digit-4.ensures.cases) in
    omega (arith, room, front, back)

pub fours-preserved : goal.fours-preserved
fours-preserved c =
    let token = c.args.token.now in
    let at = c.fours.at in
    let one = digit_next token at (at + 1) _ (omega arith) (omega (arith, c.fours-test.true)) (sym c.is_ascii_digit.ensures.value ∙ c.if-not-is_ascii_digit.false) in
    let two = digit_next token (at + 1) (at + 2) _ (omega arith) (omega (arith, c.fours-test.true)) (sym c.is_ascii_digit-in-fours.ensures.value ∙ c.if-not-is_ascii_digit-2.false) in
    let three = digit_next token (at + 2) (at + 3) _ (omega arith) (omega (arith, c.fours-test.true)) (sym c.is_ascii_digit-in-fours-2.ensures.value ∙ c.if-not-is_ascii_digit-3.false) in
    let four = digit_next token (at + 3) (at + 4) _ (omega arith) (omega (arith, c.fours-test.true)) (sym c.is_ascii_digit-in-fours-3.ensures.value ∙ c.if-not-is_ascii_digit-4.false) in
    let a = c.if-not-is_ascii_digit.ensures.cases in
    let b = c.if-not-is_ascii_digit-2.ensures.cases in
    let x = c.if-not-is_ascii_digit-3.ensures.cases in
    let y = c.if-not-is_ascii_digit-4.ensures.cases in
    let front : c.from.result * 1000 + c.from-in-fours.result * 100 ≤ 9900 = omega (arith, c.from.ensures, c.from-in-fours.ensures, a, b) in
    let back : c.from-in-fours-2.result * 10 + c.from-in-fours-3.result ≤ 99 = omega (arith, c.from-in-fours-2.ensures, c.from-in-fours-3.ensures, x, y) in
    record {
      within = omega (arith, c.fours-test.true);
      digits = four.1 (three.1 (two.1 (one.1 c.fours.invariant.digits)));
      value = omega (arith, one.0, two.0, three.0, four.0, c.fours.invariant.value, c.from.ensures, c.from-in-fours.ensures, c.from-in-fours-2.ensures, c.from-in-fours-3.ensures, a, b, x, y);
      small = four_digits_more c.fours.value _ at c.fours.invariant.small (omega (arith, front, back));
    }

pub overflow_mul-value-in-ones : goal.overflow_mul-value-in-ones
overflow_mul-value-in-ones c = omega (arith, room_for_digit c.ones.value c.ones.at c.ones.invariant.small (omega (arith, c.requires, c.ones-test.true)))

pub overflow_add-value-in-ones : goal.overflow_add-value-in-ones
overflow_add-value-in-ones c =
    let room = room_for_digit c.ones.value c.ones.at c.ones.invariant.small (omega (arith, c.requires, c.ones-test.true)) in
    omega (arith, room, c.from-in-ones.ensures, c.if-not-is_ascii_digit-5.ensures.cases)

pub ones-preserved : goal.ones-preserved
ones-preserved c =
    let digit = digit_more c.args.token.now c.ones.at _ c.ones-test.true (sym c.is_ascii_digit-in-ones.ensures.value ∙ c.if-not-is_ascii_digit-5.false) in
    record {
      within = omega (arith, c.ones-test.true);
      digits = digit.all c.ones.invariant.digits;
      value = omega (arith, digit.more, digit.least, c.ones.invariant.value, c.from-in-ones.ensures);
      small = one_digit_more c.ones.value (c.ones.value * 10 + c.from-in-ones.result) (get_or c.args.token.now c.ones.at 0) c.ones.at c.ones.invariant.small (omega (arith, c.from-in-ones.ensures, c.if-not-is_ascii_digit-5.ensures.cases)) (omega (arith, c.if-not-is_ascii_digit-5.ensures.cases));
    }
