use Rattle.text_report.specs.Summary.{summary}
use Rattle.std.proofs.Common.{ap, ◌∙◌}
use Rattle.std.specs.Prelude.{List}
use Rattle.machine_data.specs.declared.label.Label.{Label}
use Rattle.task_run.proofs.ToolLemmas.{summed}
use Rattle.task_run.proofs.program.big.Goals as goal

pub returns-in-Ok-print_summary-clause-ended : goal.returns-in-Ok-print_summary-clause-ended
returns-in-Ok-print_summary-clause-ended g c =
    let text = c.as_slice.ensures.value ∙ (c.in-Ok-print_summary.ensures ∙ ap (λ (ls : List Label). summary ls c.in-Ok.report.outcome) c.labels.ensures) in
    summed c.args.number c.args.steps _ _ c.put.result c.in-Ok.report c.as_slice.result.now text c.in-Ok.ensures c.put.ensures.told
