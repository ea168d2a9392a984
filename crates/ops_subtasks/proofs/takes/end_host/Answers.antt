use Rattle.ops_subtasks.proofs.TakeLemmas.{can_after_stage, host_done_is}
use Rattle.ops_subtasks.proofs.takes.end_host.Goals as goal

pub publish-requires : goal.publish-requires
publish-requires g c = can_after_stage c.args.work c.args.waiter _ (g.W.View.view c.args.w.now) _ c.requires c.set_stage.ensures

pub returns : goal.returns
returns g c = host_done_is c.args.work c.args.waiter c.work_caller-caller.result _ _ (g.W.View.view c.args.w.now) _ _ _ c.none_is_zero.ensures.threads c.value_of_work-value.ensures c.work_caller-caller.ensures c.host_status.ensures c.set_stage.ensures c.publish.ensures c.give_value.ensures
