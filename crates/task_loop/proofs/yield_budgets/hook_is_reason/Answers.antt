use Rattle.task_loop.proofs.UnmadeLemmas.{hook_is_reason}
use Rattle.task_loop.proofs.yield_budgets.hook_is_reason.Goals as goal

pub returns : goal.returns
returns c = hook_is_reason
