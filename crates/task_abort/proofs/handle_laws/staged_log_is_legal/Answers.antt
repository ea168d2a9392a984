use Rattle.task_abort.proofs.StagedLemmas.{staged_legal}
use Rattle.task_abort.proofs.handle_laws.staged_log_is_legal.Goals as goal

pub returns : goal.returns
returns c = λ own aborters n lists round. staged_legal _ c.args.pass.now.knows c.requires own aborters n lists round
