use Rattle.store_notices.proofs.RunLemmas.{other_turns_told}
use Rattle.store_notices.proofs.runs.other_turns_are_told.Goals as goal

pub returns : goal.returns
returns c = other_turns_told
