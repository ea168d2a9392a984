use Rattle.text_scenario.proofs.Verdicts as verdicts
use Rattle.text_scenario.proofs.read.one_tree.Goals as goal

pub returns : goal.returns
returns c = verdicts.one_tree
