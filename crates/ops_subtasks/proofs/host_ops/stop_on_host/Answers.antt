use Rattle.std.proofs.Common.{ap, subst, sym, ◌∙◌}
use Rattle.ops_subtasks.proofs.HostLemmas.{host_stops_is, queued_check_runs}
use Rattle.ops_subtasks.proofs.host_ops.stop_on_host.Goals as goal
use Rattle.core_primitives.specs.StateView.{Keeps, StateView, work_of}

pub stop_blocked-requires-clause-running : goal.stop_blocked-requires-clause-running
stop_blocked-requires-clause-running g c =
    let o = c.in_ok-work.ensures in
    queued_check_runs c.args.thread _ _ _ (g.W.View.view c.args.w.now) (g.W.View.view c.queue_sync_call.new.self) c.requires.live o.1.tags o.1.core _ _ c.requires.running c.check.ensures

pub returns : goal.returns
returns g c =
    let v = g.W.View.view in
    let s = v c.args.w.now in
    let o = c.in_ok-work.ensures in
    let now = λ (y : StateView). y.current in
    let named = λ (y : StateView). work_of y c.in_ok-work.work in
    let kept = λ (y : StateView). Keeps s.tags y.tags in (
      ap named c.stop_blocked.ensures ∙ (ap named c.check.ensures ∙ o.0),
      record {
        core = host_stops_is c.args.thread c.in_ok-work.work c.args.host _ s (v c.queue_sync_call.new.self) (v c.check.new.w) _ c.requires.live o.1.tags c.instance_of-instance.ensures o.0 o.1.core c.check.ensures c.stop_blocked.ensures;
        current = ap now c.stop_blocked.ensures ∙ (ap now c.check.ensures ∙ o.1.current);
        tags = subst kept (sym c.stop_blocked.ensures) (subst kept (sym c.check.ensures) o.1.tags);
      },
    )
