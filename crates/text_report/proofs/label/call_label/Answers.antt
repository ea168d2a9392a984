use Rattle.std.specs.Prelude.{codes}
use Rattle.text_report.proofs.Lines.{answers, answers_more, answers_two}
use Rattle.text_report.proofs.label.call_label.Goals as goal

pub returns-in-Calls-clause-text : goal.returns-in-Calls-clause-text
returns-in-Calls-clause-text c = rw c.in-Calls.is (answers _ _ _ (codes " calls thread ") _ _ _ _ c.first.ensures c.later.ensures c.thread_number-end.ensures.text c.number.ensures.text)

pub returns-in-Enters-clause-text : goal.returns-in-Enters-clause-text
returns-in-Enters-clause-text c = rw c.in-Enters.is (answers _ _ _ (codes " enters thread ") _ _ _ _ c.first.ensures c.later-in-Enters.ensures c.thread_number-end.ensures.text c.number-in-Enters.ensures.text)

pub returns-in-CallSync-clause-text : goal.returns-in-CallSync-clause-text
returns-in-CallSync-clause-text c = rw c.in-CallSync.is (answers _ _ _ (codes " call_sync ") _ _ _ _ c.first.ensures c.later-in-CallSync.ensures c.thread_number-end.ensures.text c.number-in-CallSync.ensures.text)

pub returns-in-CallSyncPolls-clause-text : goal.returns-in-CallSyncPolls-clause-text
returns-in-CallSyncPolls-clause-text c = rw c.in-CallSyncPolls.is (answers_two _ _ _ (codes " call_sync ") (codes " future ") _ _ _ _ _ _ c.first.ensures c.later-in-CallSyncPolls.ensures c.later-in-CallSyncPolls-2.ensures c.thread_number-end.ensures.text c.numbers.ensures.text)

pub returns-in-PausesPolls-clause-text : goal.returns-in-PausesPolls-clause-text
returns-in-PausesPolls-clause-text c = rw c.in-PausesPolls.is (answers_more _ _ _ (codes " pauses") (codes " future ") _ _ _ _ c.first.ensures c.later-in-PausesPolls.ensures c.thread_number-end.ensures.text c.number-in-PausesPolls.ensures.text)
