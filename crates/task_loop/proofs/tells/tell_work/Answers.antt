-- Where there is no hook, none answers an error.
use Rattle.std.proofs.Common.{sym, ◌∙◌}
use Rattle.task_loop.proofs.TellLemmas.{quiet_out}
use Rattle.task_loop.proofs.tells.tell_work.Goals as goal
use Rattle.task_loop.specs.Told.{groups_before_work}

pub tell_step-requires-clause-unhooked : goal.tell_step-requires-clause-unhooked
tell_step-requires-clause-unhooked g c = sym c.is_hooked.ensures.hook ∙ c.if-is_hooked.false

pub returns-clause-told : goal.returns-clause-told
returns-clause-told g c =
    quiet_out _ (groups_before_work c.args.worked) c.args.core.now c.tell_step.new.core c.args.listeners.now c.tell_step.new.listeners (sym c.is_hooked.ensures.hook ∙ c.if-is_hooked.false) c.tell_step.ensures.told
