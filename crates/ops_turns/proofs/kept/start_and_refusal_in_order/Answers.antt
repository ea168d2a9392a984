use Rattle.ops_turns.proofs.KeptLemmas as lemmas
use Rattle.ops_turns.proofs.kept.start_and_refusal_in_order.Goals as goal

pub returns-clause-start : goal.returns-clause-start
returns-clause-start c = lemmas.start_in_order

pub returns-clause-refusal : goal.returns-clause-refusal
returns-clause-refusal c = lemmas.refusal_in_order
