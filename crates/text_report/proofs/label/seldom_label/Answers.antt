use Rattle.text_report.proofs.label.seldom_label.Goals as goal

pub returns-in-Trap-clause-text : goal.returns-in-Trap-clause-text
returns-in-Trap-clause-text c = rw c.in-Trap.is (rw (c.into-in-Trap.ensures, c.number-in-Trap.ensures) at c.numbers.ensures.text)
