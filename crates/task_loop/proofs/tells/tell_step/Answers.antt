-- What is told at once is all, where no group has ended.
use Rattle.std.proofs.Common.{sym, ◌∙◌}
use Rattle.task_loop.proofs.TellLemmas.{at_once}
use Rattle.task_loop.proofs.tells.tell_step.Goals as goal

pub returns-then-tell_at_once-clause-told : goal.returns-then-tell_at_once-clause-told
returns-then-tell_at_once-clause-told g c =
    at_once c.args.asked c.args.core.now c.args.after c.args.listeners.now c.tell_at_once.new.listeners c.requires.after (sym c.has_ended.ensures.ended ∙ c.if-not-has_ended.true)
    (c.has_ended.ensures.none c.if-not-has_ended.true) (c.tell_at_once.ensures.told c.if-tell_at_once.true)

pub returns-then-tell_at_once-clause-unhooked : goal.returns-then-tell_at_once-clause-unhooked
returns-then-tell_at_once-clause-unhooked g c = c.tell_at_once.ensures.hook ∙ c.requires.unhooked
