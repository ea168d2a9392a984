use Rattle.ops_dispatch.proofs.CallLemmas.{polled_fresh, polled_served}
use Rattle.ops_dispatch.proofs.call_dispatch.first_host.Goals as goal
use Rattle.std.proofs.Common.{ap, sym, ◌∙◌}
use Rattle.std.specs.Prelude.{Some}
use Rattle.machine_data.specs.Read.{op_progress_of}
use Rattle.machine_data.specs.declared.component.HostDef.{HostDef}
use Rattle.core_primitives.specs.StateView.{thread_of}

pub returns-in-Some : goal.returns-in-Some
returns-in-Some g c r =
    let s = g.W.View.view c.args.w.now in
    sym (polled_served c.args.component.now r c.args.host _ (op_progress_of (thread_of s c.args.thread) s.core) c.in-Some.ensures.is)

pub returns : goal.returns
returns g c r =
    let s = g.W.View.view c.args.w.now in
    ap (λ (h : HostDef). Some h) c.host_def-found.ensures ∙ sym (polled_fresh c.args.component.now r c.args.host (op_progress_of (thread_of s c.args.thread) s.core) (sym c.in_default.ensures.is))
