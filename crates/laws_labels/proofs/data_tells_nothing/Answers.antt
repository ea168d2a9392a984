use Rattle.laws_labels.proofs.RunTells.{data_runs_tell_nothing, data_tells_nothing}
use Rattle.laws_labels.proofs.data_tells_nothing.Goals as goal

pub returns-clause-steps : goal.returns-clause-steps
returns-clause-steps c = data_tells_nothing

pub returns-clause-runs : goal.returns-clause-runs
returns-clause-runs c = data_runs_tell_nothing
