-- The access is to the store.
use Rattle.task_loop.proofs.run.ask_main.Goals as goal

pub step-requires : goal.step-requires
step-requires g c = record { may = rw c.new-access.ensures c.requires.may }
