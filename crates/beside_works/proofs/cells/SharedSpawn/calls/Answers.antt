use Rattle.std.proofs.Common.{ℕ, subst, sym, ◌∙◌}
use Rattle.beside_works.proofs.SharedLemmas.{round_now}
use Rattle.beside_works.specs.Views.{spawn_view}
use Rattle.task_abort.specs.Staged.{LastRound}
use Rattle.beside_works.proofs.cells.SharedSpawn.calls.Goals as goal

pub returns-clause-round : goal.returns-clause-round
returns-clause-round c = subst (λ (n : ℕ). LastRound (spawn_view c.args.self.now) n) (sym (c.len.ensures ∙ c.args.self.now.calls.ok.0)) (round_now c.args.self.now)
