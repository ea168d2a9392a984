use Rattle.ops_turns.proofs.KeptLemmas as lemmas
use Rattle.ops_turns.proofs.kept.finish_in_order.Goals as goal

pub returns : goal.returns
returns c = lemmas.finish_in_order
