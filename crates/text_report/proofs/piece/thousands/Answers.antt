use Rattle.std.proofs.Common.{arith}
use Rattle.text_report.proofs.Digits.{in_threes}
use Rattle.text_report.proofs.piece.thousands.Goals as goal

pub returns-clause-text : goal.returns-clause-text
returns-clause-text c = in_threes c.args.number _ _ _ c.requires.large (omega arith) c.hundreds-end.ensures.text c.three.ensures.text
