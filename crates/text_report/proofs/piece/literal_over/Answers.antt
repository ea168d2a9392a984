use Rattle.std.proofs.Common.{◌∙◌, ℕ, ap, arith, sym, take}
use Rattle.text_report.proofs.Digits.{over}
use Rattle.text_report.proofs.piece.literal_over.Goals as goal

pub returns-clause-text : goal.returns-clause-text
returns-clause-text c =
    over c.args.out.now c.literal.new.out c.args.text.now c.args.at c.args.stay (omega (arith, c.requires.room)) c.requires.stay
    (ap (λ (k : ℕ). take k c.literal.new.out) (sym c.literal.ensures.end) ∙ c.literal.ensures.text)
