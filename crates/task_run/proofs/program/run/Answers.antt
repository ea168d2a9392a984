use Rattle.std.proofs.Common.{◌∙◌}
use Rattle.task_run.specs.Tool.{ReadWhole}
use Rattle.task_run.proofs.program.run.Goals as goal

pub returns-in-Ok-clause-ended : goal.returns-in-Ok-clause-ended
returns-in-Ok-clause-ended g c = ReadWhole _ (λ all l. let t = c.in-Ok.ensures.told all l in (c.as_slice.ensures.value ∙ t.0, t.1)) c.report_on.ensures.ended
