use Rattle.std.proofs.Common.{◌≡◌, ◌/◌, ◌∙◌, arith, refl}
use Rattle.text_report.proofs.Digits.{ends, in_sixes}
use Rattle.text_report.proofs.piece.many_digits.Goals as goal

pub returns-clause-text : goal.returns-clause-text
returns-clause-text c =
    let n = c.args.number in
    let parts : n / 1000000000000 ≡ n / 1000000 / 1000000 = omega arith in
    let front = in_sixes (n / 1000000) _ _ _ _ (omega (arith, c.if-number-lt1000000000000.false)) (omega arith) parts c.twelve_digits-end.ensures.text c.six-end.ensures.text in
    in_sixes n _ _ _ _ (omega (arith, c.if-number-lt1000000000000.false)) (omega arith) refl front c.six.ensures.text

pub returns-clause-end : goal.returns-clause-end
returns-clause-end c =
    let six = c.six.ensures.end in
    let mid = c.six-end.ensures.end in
    let front = c.twelve_digits-end.ensures.end in
    let room = c.six.ensures.room ∙ c.six-end.ensures.room ∙ c.twelve_digits-end.ensures.room in
    ends _ _ _ _ c.args.number (omega (arith, c.requires)) (omega (arith, c.requires, six, mid, front, room)) (omega arith) (returns-clause-text c)
