use Rattle.std.proofs.Common.{sym, ◌∙◌}
use Rattle.beside_main.proofs.spawns.handle_at.Goals as goal

pub returns-then-number : goal.returns-then-number
returns-then-number c = (λ s knows. knows _ _ (sym c.in-Some.ensures.is), sym c.number.ensures ∙ c.if-number.true)
