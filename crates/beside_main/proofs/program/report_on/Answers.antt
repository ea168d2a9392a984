use Rattle.std.proofs.Common.{Err, List, ap, subst, ℕ, ◌∙◌, ◌≡◌}
use Rattle.text_reader.specs.declared.error.RunError.{RunError}
use Rattle.machine_rules.specs.Texts.{text}
use Rattle.beside_main.proofs.ToolLemmas.{said_bad_line, wrote_report}
use Rattle.beside_main.specs.Tool.{Writes}
use Rattle.beside_main.proofs.program.report_on.Goals as goal

pub returns-in-Ok-print_report-clause-ended : goal.returns-in-Ok-print_report-clause-ended
returns-in-Ok-print_report-clause-ended g c =
    let bytes : c.as_slice.result.now ≡ text c.in-Ok.report.report.trace c.in-Ok.report.report.outcome = c.as_slice.ensures.value ∙ c.in-Ok-print_report.ensures in
    wrote_report _ _ _ _ c.written.result c.in-Ok.report c.in-Ok.ensures.ran
    (subst (λ (bs : List ℕ). Writes (g.K.Sink.held c.args.sink.now) (g.K.Sink.held c.written.new.sink) bs c.in-Ok.report c.written.result) bytes c.written.ensures.told)

pub returns-in-Err-BadScenario-clause-ended : goal.returns-in-Err-BadScenario-clause-ended
returns-in-Err-BadScenario-clause-ended g c =
    said_bad_line _ _ _ _ c.say_bad_line.result c.in-Err-BadScenario.line
    (c.in-Err-BadScenario.ensures.refused c.in-Err-BadScenario.line (ap (λ (e : RunError). Err e) c.in-Err-BadScenario.field-0-is)) c.say_bad_line.ensures.said
