use Rattle.std.proofs.Common.{◌++◌, ◌∙◌, List, ℕ, ap, decimal, sym, take}
use Rattle.std.specs.Prelude.{codes}
use Rattle.machine_data.specs.Statuses.{status_code}
use Rattle.text_report.proofs.Lines.{answers, answers_two, does_more, subtask_given}
use Rattle.text_report.proofs.label.handle_label.Goals as goal

pub returns-in-Wait-clause-text : goal.returns-in-Wait-clause-text
returns-in-Wait-clause-text c =
    let rest = c.handed.ensures.text ∙ ap (λ (g : List ℕ). take c.thread_number-end.result c.thread_number-end.new.out ++ (codes " wait" ++ g)) (sym (subtask_given (decimal c.args.small) (decimal (status_code c.in-Wait.status)))) in
    rw c.in-Wait.is (does_more _ _ _ (codes " wait") _ _ _ c.listed.ensures c.thread_number-end.ensures.text rest)

pub returns-in-Poll-clause-text : goal.returns-in-Poll-clause-text
returns-in-Poll-clause-text c =
    let rest = c.handed-in-Poll.ensures.text ∙ ap (λ (g : List ℕ). take c.thread_number-end.result c.thread_number-end.new.out ++ (codes " poll" ++ g)) (sym (subtask_given (decimal c.args.small) (decimal (status_code c.in-Poll.status)))) in
    rw c.in-Poll.is (does_more _ _ _ (codes " poll") _ _ _ c.listed.ensures c.thread_number-end.ensures.text rest)

pub returns-in-CancelSync-clause-text : goal.returns-in-CancelSync-clause-text
returns-in-CancelSync-clause-text c = rw c.in-CancelSync.is (answers _ _ _ (codes " cancel_sync ") _ _ _ _ c.listed.ensures c.from-shown.ensures c.thread_number-end.ensures.text c.number-in-CancelSync.ensures.text)

pub returns-in-ThreadNew-clause-text : goal.returns-in-ThreadNew-clause-text
returns-in-ThreadNew-clause-text c = rw c.in-ThreadNew.is (answers_two _ _ _ (codes " thread_new ") (codes " thread ") _ _ _ _ _ _ c.listed.ensures c.from-shown.ensures c.listed-in-ThreadNew.ensures c.thread_number-end.ensures.text c.numbers-in-ThreadNew.ensures.text)

pub returns-in-ThreadIndex-clause-text : goal.returns-in-ThreadIndex-clause-text
returns-in-ThreadIndex-clause-text c = rw c.in-ThreadIndex.is (answers _ _ _ (codes " thread_index ") _ _ _ _ c.listed.ensures c.from-shown.ensures c.thread_number-end.ensures.text c.number-in-ThreadIndex.ensures.text)
