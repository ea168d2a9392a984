-- The line is that of the number.
use Rattle.choice_run.proofs.program.say_wrong.Goals as goal
use Rattle.choice_run.specs.Tool.{Writes, wrong_choice_text}
use Rattle.std.proofs.Common.{inr, subst, ◌∙◌}
use Rattle.std.specs.Prelude.{List, ℕ, ◌≡◌}

pub returns-in-Ok-clause-told : goal.returns-in-Ok-clause-told
returns-in-Ok-clause-told g c =
    let bytes : c.as_bytes.result.now ≡ wrong_choice_text c.args.choice = c.as_bytes.ensures.value ∙ c.in-Ok.ensures.ok in
    inr (subst (λ (bs : List ℕ). Writes (g.K.Sink.held c.args.sink.now) (g.K.Sink.held c.say.new.sink) bs 7 c.say.result) bytes c.say.ensures.told)
