use Rattle.store_notices.proofs.MoveLemmas.{hook_is_ok_same, either_hook, moved_switch, moved_visit}
use Rattle.store_notices.proofs.tells.tell_at_once.Goals as goal

pub returns-in-None-clause-told : goal.returns-in-None-clause-told
returns-in-None-clause-told g c = λ yes. hook_is_ok_same _ _ c.args.listeners.now c.switch_at_once.new.listeners (moved_switch c.args.groups_before.now c.args.running c.in-None.is) (c.switch_at_once.ensures.told yes)

pub returns-in-None-clause-hook : goal.returns-in-None-clause-hook
returns-in-None-clause-hook g c = let e = c.switch_at_once.ensures in either_hook c.switch_at_once.result c.args.listeners.now c.switch_at_once.new.listeners e.told e.none

pub returns-else-running-ne0-clause-told : goal.returns-else-running-ne0-clause-told
returns-else-running-ne0-clause-told g c = λ yes.
    hook_is_ok_same _ _ c.args.listeners.now c.visit_at_once.new.listeners
    (moved_visit c.args.groups_before.now c.args.running c.in-Some.group c.in-Some.is c.if-groups_before-ne0.false c.if-running-ne0.false) (c.visit_at_once.ensures.told yes)

pub returns-else-running-ne0-clause-hook : goal.returns-else-running-ne0-clause-hook
returns-else-running-ne0-clause-hook g c = let e = c.visit_at_once.ensures in either_hook c.visit_at_once.result c.args.listeners.now c.visit_at_once.new.listeners e.told e.none
