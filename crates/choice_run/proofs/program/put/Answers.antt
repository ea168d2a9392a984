-- The text is that of the report.
use Rattle.choice_run.proofs.program.put.Goals as goal
use Rattle.choice_run.specs.Tool.{Writes}
use Rattle.machine_rules.specs.Texts.{text}
use Rattle.std.proofs.Common.{inr, subst, ◌∙◌}
use Rattle.std.specs.Prelude.{List, ℕ, ◌≡◌}

pub returns-in-Ok-clause-told : goal.returns-in-Ok-clause-told
returns-in-Ok-clause-told g c =
    let bytes : c.as_slice.result.now ≡ text c.args.report.now.trace.labels c.args.report.now.outcome = c.as_slice.ensures.value ∙ c.in-Ok.ensures in
    inr (subst (λ (bs : List ℕ). Writes (g.K.Sink.held c.args.sink.now) (g.K.Sink.held c.say.new.sink) bs 0 c.say.result) bytes c.say.ensures.told)
