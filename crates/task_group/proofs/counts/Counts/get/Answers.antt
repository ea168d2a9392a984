use Rattle.std.proofs.Common.{ap, ◌∙◌}
use Rattle.std.specs.Prelude.{unwrap_or}
use Rattle.task_group.proofs.CountLemmas.{read, read_finished}
use Rattle.task_group.proofs.counts.Counts.get.Goals as goal

pub returns-clause-value : goal.returns-clause-value
returns-clause-value c = read c.self.inside.counts.entries c.args.number _ _ c.self.view_is (c.unwrap_or.ensures ∙ ap (λ o. unwrap_or o 0) (c.copied.ensures ∙ c.get.ensures.value))

pub returns-clause-finished : goal.returns-clause-finished
returns-clause-finished c = read_finished c.self.inside.counts.entries c.args.number _ _ c.self.view_is (c.unwrap_or.ensures ∙ ap (λ o. unwrap_or o 0) (c.copied.ensures ∙ c.get.ensures.value)) _ c.self.invariant
