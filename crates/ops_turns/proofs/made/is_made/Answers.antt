use Rattle.std.proofs.Common.{sym}
use Rattle.ops_turns.proofs.SteppedLemmas.{made_else}
use Rattle.ops_turns.proofs.made.is_made.Goals as goal

pub returns-in_default : goal.returns-in_default
returns-in_default c = sym (made_else c.args.stepped c.in_default.not-Nothing c.in_default.not-Full c.in_default.not-HookFailed)
