use Rattle.std.proofs.Common.{List, inr, subst, ℕ, ◌∙◌, ◌≡◌}
use Rattle.beside_main.specs.Tool.{Says}
use Rattle.task_run.specs.Tool.{bad_line_text}
use Rattle.beside_main.proofs.program.say_bad_line.Goals as goal

pub returns-in-Ok-clause-said : goal.returns-in-Ok-clause-said
returns-in-Ok-clause-said g c =
    let bytes : c.as_bytes.result.now ≡ bad_line_text c.args.line = c.as_bytes.ensures.value ∙ c.in-Ok.ensures.ok in
    inr (subst (λ (bs : List ℕ). Says (g.K.Sink.held c.args.sink.now) (g.K.Sink.held c.say.new.sink) bs 3 c.say.result) bytes c.say.ensures.said)
