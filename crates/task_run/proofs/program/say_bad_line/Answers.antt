use Rattle.std.proofs.Common.{◌≡◌, ℕ, List, inr, subst, ◌∙◌}
use Rattle.task_run.specs.declared.program.End.TheVariants as ends
use Rattle.task_run.specs.Tool.{SaysOrFails, bad_line_text}
use Rattle.task_run.proofs.program.say_bad_line.Goals as goal

pub returns-in-Ok-clause-told : goal.returns-in-Ok-clause-told
returns-in-Ok-clause-told g c =
    let bytes : c.as_bytes.result.now ≡ bad_line_text c.args.line = c.as_bytes.ensures.value ∙ c.in-Ok.ensures.ok in
    inr (subst (λ (bs : List ℕ). SaysOrFails (g.K.Sink.held c.args.sink.now) (g.K.Sink.held c.say.new.sink) bs ends.BadScenario c.say.result) bytes c.say.ensures.told)
