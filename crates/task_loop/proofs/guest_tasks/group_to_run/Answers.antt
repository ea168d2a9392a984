use Rattle.std.proofs.Common.{sym, ◌∙◌}
use Rattle.task_loop.proofs.GuestTaskLemmas.{runs_group}
use Rattle.task_loop.proofs.guest_tasks.group_to_run.Goals as goal

pub returns-in-Guest : goal.returns-in-Guest
returns-in-Guest c = rw c.in-Guest.is (c.thread_group.ensures ∙ sym (runs_group c.args.core.now c.in-Guest.id))
