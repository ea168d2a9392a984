use Rattle.ops_guests.proofs.ImplementLemmas.{taking_is_picked}
use Rattle.ops_guests.proofs.steps_pick_first.Goals as goal

pub returns-clause-taking : goal.returns-clause-taking
returns-clause-taking c = taking_is_picked
