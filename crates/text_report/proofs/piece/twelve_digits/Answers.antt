use Rattle.std.proofs.Common.{arith, refl}
use Rattle.text_report.proofs.Digits.{in_sixes}
use Rattle.text_report.proofs.piece.twelve_digits.Goals as goal

pub returns-clause-text : goal.returns-clause-text
returns-clause-text c = in_sixes c.args.number _ _ _ _ (omega (arith, c.if-number-lt1000000.false)) (omega arith) refl c.six_digits-end.ensures.text c.six.ensures.text
