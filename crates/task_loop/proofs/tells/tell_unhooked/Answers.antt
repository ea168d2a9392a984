-- Where there is no hook, none answers an error.
use Rattle.std.proofs.Common.{◌∙◌}
use Rattle.task_loop.proofs.TellLemmas.{never_failed}
use Rattle.task_loop.proofs.tells.tell_unhooked.Goals as goal

pub unreachable-requires : goal.unreachable-requires
unreachable-requires g c =
    let e = c.in_default.ensures.told in
    never_failed c.args.asked c.args.core.now c.tell_all.new.core c.args.listeners.now c.tell_all.new.listeners c.requires.unhooked e.hook.failed e.hook.hook

pub returns-clause-told : goal.returns-clause-told
returns-clause-told g c = c.in-Ok.ensures.told.whole

pub returns-clause-unhooked : goal.returns-clause-unhooked
returns-clause-unhooked g c = c.in-Ok.ensures.told.hook.hook ∙ c.requires.unhooked
