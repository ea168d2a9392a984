use Rattle.std.proofs.Common.{ap, sym, ◌∙◌}
use Rattle.std.specs.FinMap as finite
use Rattle.task_group.proofs.CountLemmas.{len-live_in}
use Rattle.task_group.specs.Counts.{Counts}
use Rattle.task_group.proofs.counts.Counts.len.Goals as goal

pub returns : goal.returns
returns c = c.len.ensures.len ∙ (sym (len-live_in c.self.inside.counts.entries c.self.invariant.ordered) ∙ ap (λ (t : Counts). finite.len t) c.self.view_is)
