use Rattle.std.proofs.Common.{ap, Err, refl}
use Rattle.text_reader.specs.declared.error.RunError.{RunError}
use Rattle.task_run.specs.Tool.{Reported}
use Rattle.task_run.proofs.ToolLemmas.{cut_report, said_bad_line}
use Rattle.task_run.proofs.program.report_on.Goals as goal

pub returns-in-Ok-write_report-clause-ended : goal.returns-in-Ok-write_report-clause-ended
returns-in-Ok-write_report-clause-ended g c = Reported c.in-Ok.report refl refl c.in-Ok.ensures.ran c.in-Ok-write_report.ensures.told

pub returns-in-Err-clause-ended : goal.returns-in-Err-clause-ended
returns-in-Err-clause-ended g c = cut_report _ _ _ _ c.in-Err.end _ c.in-Ok.report c.in-Ok.ensures.ran c.ended.ensures c.in-Err.ensures.fault c.write_report.ensures.front

pub returns-in-Err-BadScenario-clause-ended : goal.returns-in-Err-BadScenario-clause-ended
returns-in-Err-BadScenario-clause-ended g c =
    said_bad_line _ _ _ _ c.say_bad_line.result _ c.in-Err-BadScenario.line (c.in-Err-BadScenario.ensures.refused c.in-Err-BadScenario.line (ap (λ (e : RunError). Err e) c.in-Err-BadScenario.field-0-is)) c.ended-in-Err-BadScenario.ensures c.say_bad_line.ensures.told
