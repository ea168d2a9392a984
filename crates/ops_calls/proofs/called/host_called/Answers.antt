-- The op is looked up.
use Rattle.ops_dispatch.specs.Polls.{polled_host}
use Rattle.std.proofs.Common.{ap, refl, sym, ◌∙◌}
use Rattle.std.specs.Option.{option_map_or}
use Rattle.std.specs.Prelude.{None, Option, Some, option_copied, unwrap_or, ℕ, ◌≡◌}
use Rattle.ops_calls.proofs.called.host_called.Goals as goal
use Rattle.machine_data.specs.Read.{op_progress_of, task_of}
use Rattle.machine_data.specs.declared.component.Component.{Component}
use Rattle.machine_data.specs.declared.op.Op.{Op}
use Rattle.machine_data.specs.declared.op.Op.TheVariants as op
use Rattle.machine_data.specs.declared.op.TaskOp.TheVariants as task
use Rattle.machine_data.specs.declared.records.OpProgress.{OpProgress}
use Rattle.machine_rules.specs.Scripts.{op_of}
use Rattle.ops_turns.proofs.OrderLemmas.{number_at, runner}
use Rattle.ops_turns.proofs.RunLemmas.{op_is}
use Rattle.core_primitives.specs.StateView.{thread_of}

-- at its script's end a thread polls nothing
polled_or : (c : Component) (h : OpProgress) (o : Option Op) → option_map_or (λ (p : Op). polled_host c h p) o None ≡ polled_host c h (unwrap_or o (op.Task task.Exit))
polled_or c h None = refl
polled_or c h (Some p) = refl

pub at-point-requires : goal.at-point-requires
at-point-requires g c =
    let s = g.W.View.view c.args.w.now in
    (runner c.args.component.now c.args.number s c.requires.order c.none_is_zero.ensures.threads c.requires.runs c.in-Some.thread (sym c.current.ensures ∙ c.in-Some.is)).live

pub called_host-requires : goal.called_host-requires
called_host-requires g c =
    let s = g.W.View.view c.args.w.now in
    (runner c.args.component.now c.args.number s c.requires.order c.none_is_zero.ensures.threads c.requires.runs c.in-Some.thread (sym c.current.ensures ∙ c.in-Some.is)).under_way

pub returns : goal.returns
returns g c =
    let s = g.W.View.view c.args.w.now in
    let n = thread_of s c.in-Some.thread in
    let q = runner c.args.component.now c.args.number s c.requires.order c.none_is_zero.ensures.threads c.requires.runs c.in-Some.thread (sym c.current.ensures ∙ c.in-Some.is) in
    let comp = c.args.component.now in
    let number = number_at c.args.number s c.requires.runs c.in-Some.thread (sym c.current.ensures ∙ c.in-Some.is) in
    let is = op_is comp n s.core q.thread q.here c.script_ops-body.result.now c.at-point.result.callee (task_of n s.core) c.at-point.result.position c.at-point.result.script c.at-point.ensures.callee refl (c.at-point.ensures.script q.thread q.here) c.script_ops-body.ensures c.at-point.ensures.position (option_copied c.op_at-op.result) c.op_at-op.ensures in
    c.called_host.ensures
    ∙ (polled_or comp (op_progress_of n s.core) (option_copied c.op_at-op.result)
    ∙ (sym (ap (λ (o : Op). polled_host comp (op_progress_of n s.core) o) is)
    ∙ ap (λ (k : ℕ). polled_host comp (op_progress_of k s.core) (op_of comp k s.core)) number))
