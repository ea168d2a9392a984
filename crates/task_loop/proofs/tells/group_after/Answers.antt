-- A thread that runs on stays in its group.
use Rattle.std.proofs.Common.{sym, ◌∙◌}
use Rattle.task_loop.proofs.tells.group_after.Goals as goal

pub returns-then-goes_on : goal.returns-then-goes_on
returns-then-goes_on c = sym (c.requires.stays (sym c.goes_on.ensures ∙ c.if-goes_on.true))
