use Rattle.std.specs.Prelude.{codes}
use Rattle.text_report.proofs.Lines.{does}
use Rattle.text_report.proofs.label.task_label.Goals as goal

pub returns-in-TaskCancel-clause-text : goal.returns-in-TaskCancel-clause-text
returns-in-TaskCancel-clause-text c = rw c.in-TaskCancel.is (does _ _ _ (codes " task_cancel") _ _ c.first.ensures c.thread_number-end.ensures.text c.literal.ensures.text)
