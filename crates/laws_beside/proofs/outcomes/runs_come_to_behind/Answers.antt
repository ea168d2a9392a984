use Rattle.laws_beside.proofs.OutcomeLemmas.{runs_come_to_behind}
use Rattle.laws_beside.proofs.outcomes.runs_come_to_behind.Goals as goal

pub returns : goal.returns
returns c = runs_come_to_behind
