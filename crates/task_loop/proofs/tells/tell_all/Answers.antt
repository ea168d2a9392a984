-- What was told before an error stays told.
use Rattle.task_loop.proofs.TellLemmas.{out_broken, out_stopped, out_whole}
use Rattle.task_loop.proofs.tells.tell_all.Goals as goal

pub returns-in_err-tell_moves-clause-told : goal.returns-in_err-tell_moves-clause-told
returns-in_err-tell_moves-clause-told g c =
    let e = c.in_err-tell_moves.ensures in
    out_stopped c.args.asked.now c.args.core.now c.group_now-running.result c.group_now-running.ensures c.from_residual.result c.args.listeners.now c.tell_moves.new.listeners c.from_residual.ensures.0 e.stops e.hook

pub returns-in_err-finish_ended-clause-told : goal.returns-in_err-finish_ended-clause-told
returns-in_err-finish_ended-clause-told g c =
    let r = c.from_residual-in_err-finish_ended in
    out_broken c.args.asked.now c.args.core.now c.group_now-running.result c.group_now-running.ensures c.finish_ended.new.core c.finish_ended.ensures.asked c.args.listeners.now c.tell_moves.new.listeners c.finish_ended.new.listeners
    c.in_ok-tell_moves.ensures.told c.in_ok-tell_moves.ensures.hook c.finish_ended.ensures.told r.result r.ensures.0 c.in_err-finish_ended.ensures.hook.failed c.finish_ended.ensures.hook.hook

pub returns-clause-told : goal.returns-clause-told
returns-clause-told g c =
    out_whole c.args.asked.now c.args.core.now c.group_now-running.result c.group_now-running.ensures c.finish_ended.new.core c.finish_ended.ensures.asked c.args.listeners.now c.tell_moves.new.listeners c.finish_ended.new.listeners
    c.in_ok-tell_moves.ensures.told c.in_ok-tell_moves.ensures.hook c.finish_ended.ensures.told _ c.in_ok-finish_ended.ensures.hook.hook_is_ok c.finish_ended.ensures.hook.hook
