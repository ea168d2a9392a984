use Rattle.ops_subtasks.proofs.GuestLemmas.{asked_switched, switched_runs}
use Rattle.ops_subtasks.proofs.guest_ops.wake_waiting.Goals as goal

pub put_switch-requires-clause-switch : goal.put_switch-requires-clause-switch
put_switch-requires-clause-switch g c = asked_switched c.args.thread c.args.waiting _ (g.W.View.view c.args.w.now) _ (g.W.View.view c.ask.new.w) c.ask.ensures c.requires.running

pub go_behind-requires-clause-running : goal.go_behind-requires-clause-running
go_behind-requires-clause-running g c = switched_runs c.args.thread c.args.waiting _ (g.W.View.view c.args.w.now) _ _ c.ask.ensures c.requires.running _ c.requires.waits c.put_switch.ensures
