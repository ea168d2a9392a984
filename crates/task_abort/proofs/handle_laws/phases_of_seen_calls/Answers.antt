use Rattle.task_abort.proofs.SeenLemmas.{seen_abort, seen_finish}
use Rattle.task_abort.proofs.handle_laws.phases_of_seen_calls.Goals as goal

pub returns-clause-aborted : goal.returns-clause-aborted
returns-clause-aborted c = λ m e at is. seen_abort _ m e at is

pub returns-clause-finished : goal.returns-clause-finished
returns-clause-finished c = λ m e at is. seen_finish _ m e at is
