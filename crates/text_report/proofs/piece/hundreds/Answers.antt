use Rattle.std.proofs.Common.{◌-◌, ◌≤◌, ℕ, arith}
use Rattle.text_report.proofs.Digits.{LEADS_at}
use Rattle.text_report.proofs.piece.hundreds.Goals as goal

pub overflow_sub-from : goal.overflow_sub-from
overflow_sub-from c = (LEADS_at c.args.number c.requires.small).0

few : (d : ℕ) → d ≤ 51 → d - 48 ≤ 3
few d h = omega (arith, h)

pub literal_over-requires-clause-stay : goal.literal_over-requires-clause-stay
literal_over-requires-clause-stay c = let least = few _ (LEADS_at c.args.number c.requires.small).1 in omega (arith, least)

pub returns-clause-end : goal.returns-clause-end
returns-clause-end c = let least = few _ (LEADS_at c.args.number c.requires.small).1 in omega (arith, c.literal_over.ensures.end, least)
