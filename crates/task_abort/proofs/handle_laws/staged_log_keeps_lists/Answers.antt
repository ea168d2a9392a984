use Rattle.task_abort.proofs.OrderLemmas.{run_entries, aborter_entries}
use Rattle.task_abort.proofs.handle_laws.staged_log_keeps_lists.Goals as goal

pub returns-clause-run : goal.returns-clause-run
returns-clause-run c = λ own aborters n lists round numbered. run_entries _ c.args.pass.now.knows c.requires own aborters n lists round numbered

pub returns-clause-aborters : goal.returns-clause-aborters
returns-clause-aborters c = λ own aborters n i a lists round numbered at. aborter_entries _ c.args.pass.now.knows c.requires own aborters n lists round numbered i a at
