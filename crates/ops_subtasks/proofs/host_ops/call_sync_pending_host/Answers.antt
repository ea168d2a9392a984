use Rattle.std.proofs.Common.{Some, ap, ℕ}
use Rattle.ops_subtasks.proofs.HostLemmas.{goes_on_stopped}
use Rattle.ops_subtasks.proofs.host_ops.call_sync_pending_host.Goals as goal

pub returns-clause-work : goal.returns-clause-work
returns-clause-work g c = record {
  work = ap (λ (k : ℕ). Some k) c.in_ok-work.ensures.0;
  goes_on = goes_on_stopped c.in_ok-work.work _ c.args.host _ (g.W.View.view c.stop_on_host.new.w) c.in_ok-work.ensures.0 c.in_ok-work.ensures.1.core;
}
