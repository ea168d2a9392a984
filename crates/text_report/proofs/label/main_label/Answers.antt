use Rattle.text_report.proofs.label.main_label.Goals as goal

pub returns-in-Finish-clause-text : goal.returns-in-Finish-clause-text
returns-in-Finish-clause-text c = rw c.in-Finish.is (rw c.into-in-Finish.ensures at c.numbers-in-Finish.ensures.text)

pub returns-in-FinishRefused-clause-text : goal.returns-in-FinishRefused-clause-text
returns-in-FinishRefused-clause-text c = rw c.in-FinishRefused.is c.refused-in-FinishRefused.ensures.text

pub returns-in-Answer-clause-text : goal.returns-in-Answer-clause-text
returns-in-Answer-clause-text c = rw c.in-Answer.is c.number-in-Answer.ensures.text
