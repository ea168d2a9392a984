use Rattle.task_abort.proofs.KnownLemmas.{known}
use Rattle.task_abort.proofs.handle_laws.known_callers.Goals as goal

pub returns : goal.returns
returns c = known _ c.args.pass.now.knows c.requires
