use Rattle.ops_turns.proofs.SteppedLemmas.{over_else}
use Rattle.ops_turns.proofs.made.turn_of.Goals as goal

pub returns-in_default : goal.returns-in_default
returns-in_default c = over_else c.args.stepped c.in_default.not-Main c.in_default.not-Polls c.in_default.not-Takes c.in_default.not-TakesEnded c.in_default.not-Runs c.in_default.not-Computes
