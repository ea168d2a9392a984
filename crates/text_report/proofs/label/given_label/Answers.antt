use Rattle.std.proofs.Common.{◌++◌, ◌∙◌, List, ℕ, ap, decimal, sym, take}
use Rattle.std.specs.Prelude.{codes}
use Rattle.machine_data.specs.Statuses.{status_code}
use Rattle.text_report.proofs.Lines.{subtask_given, then}
use Rattle.text_report.proofs.label.given_label.Goals as goal

pub returns-clause-text : goal.returns-clause-text
returns-clause-text c =
    let rest = c.handed.ensures.text ∙ ap (λ (g : List ℕ). take c.takes_thread-end.result c.takes_thread-end.new.out ++ (codes " event" ++ g)) (sym (subtask_given (decimal c.args.handle) (decimal (status_code c.args.status)))) in
    then _ _ _ _ (codes " event") _ c.takes_thread-end.ensures.text rest
