use Rattle.task_abort.proofs.UnfinishedLemmas.{unfinished}
use Rattle.task_abort.proofs.handle_laws.unfinished_calls.Goals as goal

pub returns : goal.returns
returns c = λ aborters before rest e aborts own running. unfinished _ c.args.pass.now.knows c.requires aborters aborts before rest e own running
