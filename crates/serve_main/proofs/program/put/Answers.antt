-- The text is that of what was served.
use Rattle.serve_main.proofs.program.put.Goals as goal
use Rattle.serve_main.specs.Tool.{Says, served_text}
use Rattle.std.proofs.Common.{inr, subst, ◌∙◌}
use Rattle.std.specs.Prelude.{List, ℕ, ◌≡◌}

pub returns-in-Ok-clause-told : goal.returns-in-Ok-clause-told
returns-in-Ok-clause-told g c =
    let bytes : c.as_slice.result.now ≡ served_text c.args.served.now = c.as_slice.ensures.value ∙ c.in-Ok.ensures in
    inr (subst (λ (bs : List ℕ). Says (g.K.Sink.held c.args.sink.now) (g.K.Sink.held c.say.new.sink) bs 0 c.say.result) bytes c.say.ensures.told)
