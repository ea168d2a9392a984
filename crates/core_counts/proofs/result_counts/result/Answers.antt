use Rattle.core_counts.proofs.ResultLemmas.{get-given}
use Rattle.core_counts.proofs.result_counts.result.Goals as goal
use Rattle.core_records.proofs.Core.{seen, sym, ◌∙◌}

pub returns : goal.returns
unfolding seen
returns c = c.result.ensures ∙ sym (get-given c.args.parts.now.results c.args.call)
