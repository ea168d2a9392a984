use Rattle.task_loop.proofs.PollDriveLemmas.{last_poll_is_drive, poll_then_drive}
use Rattle.task_loop.proofs.yield_budgets.drive_is_polls.Goals as goal

pub returns-clause-last : goal.returns-clause-last
returns-clause-last g c = last_poll_is_drive g.M.MainTask.says g.H.HostWork.course

pub returns-clause-more : goal.returns-clause-more
returns-clause-more g c = poll_then_drive g.M.MainTask.says g.H.HostWork.course
