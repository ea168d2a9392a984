use Rattle.ops_subtasks.proofs.HostLemmas.{host_pending_is}
use Rattle.ops_subtasks.proofs.host_ops.queue_work.Goals as goal

pub returns-clause-core : goal.returns-clause-core
returns-clause-core g c =
    let v = g.W.View.view in
    host_pending_is c.args.thread c.args.register c.args.host (v c.args.w.now) (v c.queue_call.new.self) c.in_ok-work.ensures.new.1.core
