use Rattle.task_abort.proofs.RoundLemmas.{last_calls}
use Rattle.task_abort.proofs.handle_laws.late_calls_are_last.Goals as goal

pub returns : goal.returns
returns c = λ own aborters n lists round. last_calls _ c.args.pass.now.knows c.requires own aborters n lists round
