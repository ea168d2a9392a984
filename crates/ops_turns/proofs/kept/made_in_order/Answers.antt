use Rattle.ops_turns.proofs.KeptLemmas as lemmas
use Rattle.ops_turns.proofs.kept.made_in_order.Goals as goal

pub returns : goal.returns
returns c = lemmas.made_in_order
