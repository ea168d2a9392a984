use Rattle.std.proofs.Common.{ap}
use Rattle.ops_turns.proofs.SteppedLemmas.{push_made}
use Rattle.ops_turns.proofs.takes.step_push.Goals as goal

pub returns-clause-made : goal.returns-clause-made
returns-clause-made g c = ap (push_made c.args.mark) c.work_number-number.ensures
