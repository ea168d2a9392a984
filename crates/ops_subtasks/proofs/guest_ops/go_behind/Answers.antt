use Rattle.std.proofs.Common.{ap}
use Rattle.machine_data.specs.declared.component.Callee.{Callee}
use Rattle.ops_subtasks.proofs.GuestLemmas.{watched_behind, went_behind}
use Rattle.ops_subtasks.proofs.guest_ops.go_behind.Goals as goal

pub put_behind_switch-requires-clause-apart : goal.put_behind_switch-requires-clause-apart
put_behind_switch-requires-clause-apart g c = watched_behind c.args.thread c.args.call _ _ (g.W.View.view c.args.w.now) _ _ _ c.set_saved_callee.ensures c.set_do_not_suspend.ensures c.set_join.ensures c.requires.running

pub returns : goal.returns
returns g c =
    let v = g.W.View.view in
    went_behind c.args.thread c.args.call _ _ (v c.args.w.now) _ _ (v c.set_join.new.self) c.set_saved_callee.ensures c.set_do_not_suspend.ensures c.set_join.ensures _ _ (ap (λ (e : Callee). e.instance) c.callee-instance.ensures) c.may_not_suspend-flag.ensures c.put_behind_switch.ensures c.set_op_progress.ensures
