use Rattle.std.proofs.Common.{◌++◌, ◌∙◌, List, ℕ, ap, sym, take}
use Rattle.std.specs.Prelude.{codes}
use Rattle.text_report.proofs.Lines.{answers_more, cancelled_given, does_more, nothing_given}
use Rattle.text_report.proofs.label.set_label.Goals as goal

pub returns-in-WaitNothing-clause-text : goal.returns-in-WaitNothing-clause-text
returns-in-WaitNothing-clause-text c =
    let rest = c.literal-in-WaitNothing.ensures.text ∙ ap (λ (g : List ℕ). take c.thread_number-end.result c.thread_number-end.new.out ++ (codes " wait" ++ g)) (sym nothing_given) in
    rw c.in-WaitNothing.is (does_more _ _ _ (codes " wait") _ _ _ c.first.ensures c.thread_number-end.ensures.text rest)

pub returns-in-WaitCancelled-clause-text : goal.returns-in-WaitCancelled-clause-text
returns-in-WaitCancelled-clause-text c =
    let rest = c.literal-in-WaitCancelled.ensures.text ∙ ap (λ (g : List ℕ). take c.thread_number-end.result c.thread_number-end.new.out ++ (codes " wait" ++ g)) (sym cancelled_given) in
    rw c.in-WaitCancelled.is (does_more _ _ _ (codes " wait") _ _ _ c.first.ensures c.thread_number-end.ensures.text rest)

pub returns-in-PollNothing-clause-text : goal.returns-in-PollNothing-clause-text
returns-in-PollNothing-clause-text c =
    let rest = c.literal-in-PollNothing.ensures.text ∙ ap (λ (g : List ℕ). take c.thread_number-end.result c.thread_number-end.new.out ++ (codes " poll" ++ g)) (sym nothing_given) in
    rw c.in-PollNothing.is (does_more _ _ _ (codes " poll") _ _ _ c.first.ensures c.thread_number-end.ensures.text rest)

pub returns-in-PollCancelled-clause-text : goal.returns-in-PollCancelled-clause-text
returns-in-PollCancelled-clause-text c =
    let rest = c.literal-in-PollCancelled.ensures.text ∙ ap (λ (g : List ℕ). take c.thread_number-end.result c.thread_number-end.new.out ++ (codes " poll" ++ g)) (sym cancelled_given) in
    rw c.in-PollCancelled.is (does_more _ _ _ (codes " poll") _ _ _ c.first.ensures c.thread_number-end.ensures.text rest)

pub returns-in-JoinWakes-clause-text : goal.returns-in-JoinWakes-clause-text
returns-in-JoinWakes-clause-text c = rw c.in-JoinWakes.is (answers_more _ _ _ (codes " join") (codes " wakes ") _ _ _ _ c.first.ensures c.later-in-JoinWakes.ensures c.thread_number-end.ensures.text c.number.ensures.text)
