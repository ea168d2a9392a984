use Rattle.std.proofs.Common.{Some, ap, ℕ}
use Rattle.ops_subtasks.proofs.HostLemmas.{goes_on_pending}
use Rattle.ops_subtasks.proofs.host_ops.call_pending_host.Goals as goal

pub returns-clause-work : goal.returns-clause-work
returns-clause-work g c = record {
  work = ap (λ (k : ℕ). Some k) c.in_ok-value.ensures.work;
  goes_on = goes_on_pending c.in_ok-value.work _ _ c.args.host _ (g.W.View.view c.queue_work.new.w) c.in_ok-value.ensures.work c.in_ok-value.ensures.core;
}
