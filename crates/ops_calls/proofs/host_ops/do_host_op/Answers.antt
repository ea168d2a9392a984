use Rattle.ops_dispatch.specs.Rules.{rule_of}
use Rattle.std.proofs.Common.{refl, subst, sym, ◌∙◌}
use Rattle.ops_calls.proofs.HostOpLemmas.{left_did}
use Rattle.ops_calls.proofs.host_ops.do_host_op.Goals as goal
use Rattle.ops_calls.specs.HostOps.{Did, scripted_rule_of}
use Rattle.ops_turns.proofs.OrderLemmas.{number_at, runner}

pub do_plain_op-requires-clause-runner : goal.do_plain_op-requires-clause-runner
do_plain_op-requires-clause-runner g c =
    let q = c.requires.running in
    runner c.args.component.now q.number (g.W.View.view c.args.w.now) q.order c.none_is_zero.ensures.threads q.runs c.in-Some.thread (sym c.current.ensures ∙ c.in-Some.is)

pub returns-clause-did : goal.returns-clause-did
returns-clause-did g c =
    let v = g.W.View.view in
    let s = v c.args.w.now in
    let q = c.requires.running in
    let comp = c.args.component.now in
    let op_result = c.in-Ok.op_result in
    let number = number_at q.number s q.runs c.in-Some.thread (sym c.current.ensures ∙ c.in-Some.is) in
    subst (Did (scripted_rule_of comp c.args.op s.core) s op_result) (sym c.leave.ensures)
    (left_did comp (rule_of comp c.args.op) c.in-Some.thread q.number op_result s (v c.do_plain_op.new.w) c.in-Ok.ensures.does number q.runs (scripted_rule_of comp c.args.op s.core) (λ ch. refl))
