use Rattle.ops_dispatch.specs.Makes.{makes, takes_memory}
use Rattle.ops_dispatch.specs.Rules.{rule_of}
use Rattle.std.proofs.Common.{ap, refl, subst, sym, ◌∙◌}
use Rattle.std.specs.Option.{option_map_or}
use Rattle.std.specs.Prelude.{None, Option, Some, false, length, option_copied, slice_get, true, ℕ, ◌<◌, ◌≡◌}
use Rattle.ops_calls.proofs.HostOpLemmas.{left, left_did, left_met, left_order, left_stays}
use Rattle.ops_calls.proofs.PausedLemmas.{at_end, host_in_order, is_plain, makes_none, not_there}
use Rattle.ops_calls.proofs.host_ops.take_on.Goals as goal
use Rattle.ops_calls.specs.HostOps.{Did, op_rule_at, scripted_rule_of, turn_in}
use Rattle.machine_data.specs.Labels.{choice_of}
use Rattle.machine_data.specs.Read.{op_progress_of, instance_of, task_of}
use Rattle.machine_data.specs.declared.op.Op.{Op}
use Rattle.ops_guests.specs.OpResult.{Implements}
use Rattle.ops_guests.specs.Steps.{label_of}
use Rattle.machine_rules.specs.OpParts.{is_data_op}
use Rattle.machine_rules.specs.Scripts.{op_of}
use Rattle.ops_turns.proofs.OrderLemmas.{number_at, runner}
use Rattle.ops_turns.proofs.RunLemmas.{op_is}
use Rattle.ops_turns.specs.Turn.{CoreInOrder}
use Rattle.core_primitives.specs.StateView.{StateView, thread_of}

pub at-point-requires : goal.at-point-requires
at-point-requires g c =
    let s = g.W.View.view c.args.w.now in
    let q = c.requires.running in
    (runner c.args.component.now q.number s q.order c.none_is_zero.ensures.threads q.runs c.in-Some.thread (sym c.current.ensures ∙ c.in-Some.is)).live

pub unreachable-requires-in_default-op_at : goal.unreachable-requires-in_default-op_at
unreachable-requires-in_default-op_at g c =
    let s = g.W.View.view c.args.w.now in
    let q = c.requires.running in
    let comp = c.args.component.now in
    let n = thread_of s c.in-Some.thread in
    let current = sym c.current.ensures ∙ c.in-Some.is in
    let r = runner comp q.number s q.order c.none_is_zero.ensures.threads q.runs c.in-Some.thread current in
    let number = number_at q.number s q.runs c.in-Some.thread current in
    let is = op_is comp n s.core r.thread r.here c.script_ops-script.result.now c.at-point.result.callee (task_of n s.core) c.at-point.result.position c.at-point.result.script c.at-point.ensures.callee refl (c.at-point.ensures.script r.thread r.here) c.script_ops-script.ensures c.at-point.ensures.position None (sym (ap option_copied (not_there c.op_at.result c.in_default-op_at.not-Some)) ∙ c.op_at.ensures) in
    at_end comp s q c.requires.paused (ap (λ (k : ℕ). op_of comp k s.core) (sym number) ∙ is)

pub do_other_op-requires-clause-runner : goal.do_other_op-requires-clause-runner
do_other_op-requires-clause-runner g c =
    let s = g.W.View.view c.args.w.now in
    let q = c.requires.running in
    runner c.args.component.now q.number s q.order c.none_is_zero.ensures.threads q.runs c.in-Some.thread (sym c.current.ensures ∙ c.in-Some.is)

pub do_other_op-requires-clause-other : goal.do_other_op-requires-clause-other
do_other_op-requires-clause-other g c =
    let s = g.W.View.view c.args.w.now in
    let q = c.requires.running in
    let comp = c.args.component.now in
    let n = thread_of s c.in-Some.thread in
    let o = c.in-Some-op_at.op.now in
    let current = sym c.current.ensures ∙ c.in-Some.is in
    let r = runner comp q.number s q.order c.none_is_zero.ensures.threads q.runs c.in-Some.thread current in
    let number = number_at q.number s q.runs c.in-Some.thread current in
    let is = op_is comp n s.core r.thread r.here c.script_ops-script.result.now c.at-point.result.callee (task_of n s.core) c.at-point.result.position c.at-point.result.script c.at-point.ensures.callee refl (c.at-point.ensures.script r.thread r.here) c.script_ops-script.ensures c.at-point.ensures.position (Some o) (sym (ap option_copied c.in-Some-op_at.is) ∙ c.op_at.ensures) in
    subst (λ (p : Op). is_data_op p ≡ false) (ap (λ (k : ℕ). op_of comp k s.core) (sym number) ∙ is) (is_plain comp s q c.requires.paused).1

pub do_other_op-requires-clause-fits : goal.do_other_op-requires-clause-fits
do_other_op-requires-clause-fits g c =
    c.requires.running.well_formed.ops c.at-point.result.callee c.at-point.result.script c.at-point.result.position c.in-Some-op_at.op.now
    (subst (λ os. slice_get os c.at-point.result.position ≡ Some c.in-Some-op_at.op.now) c.script_ops-script.ensures (sym c.op_at.ensures ∙ ap option_copied c.in-Some-op_at.is))

pub do_other_op-requires-clause-handles : goal.do_other_op-requires-clause-handles
do_other_op-requires-clause-handles g c =
    let s = g.W.View.view c.args.w.now in
    let q = c.requires.running in
    let number = number_at q.number s q.runs c.in-Some.thread (sym c.current.ensures ∙ c.in-Some.is) in
    q.order.handles (instance_of (thread_of s c.in-Some.thread) s.core) (subst (λ (k : ℕ). instance_of k s.core < length c.args.component.now.instances) (sym number) q.home)

pub do_other_op-requires-clause-few : goal.do_other_op-requires-clause-few
do_other_op-requires-clause-few g c made =
    let s = g.W.View.view c.args.w.now in
    let q = c.requires.running in
    let comp = c.args.component.now in
    let n = thread_of s c.in-Some.thread in
    let o = c.in-Some-op_at.op.now in
    let current = sym c.current.ensures ∙ c.in-Some.is in
    let r = runner comp q.number s q.order c.none_is_zero.ensures.threads q.runs c.in-Some.thread current in
    let number = number_at q.number s q.runs c.in-Some.thread current in
    let is = op_is comp n s.core r.thread r.here c.script_ops-script.result.now c.at-point.result.callee (task_of n s.core) c.at-point.result.position c.at-point.result.script c.at-point.ensures.callee refl (c.at-point.ensures.script r.thread r.here) c.script_ops-script.ensures c.at-point.ensures.position (Some o) (sym (ap option_copied c.in-Some-op_at.is) ∙ c.op_at.ensures) in
    let none = subst (λ (k : ℕ). makes (op_progress_of k s.core) (op_of comp k s.core) ≡ false) (sym number) (makes_none comp s q c.requires.paused) in
    let some : makes (op_progress_of n s.core) (op_of comp n s.core) ≡ true = subst (λ (p : Op). makes (op_progress_of n s.core) p ≡ true) (sym is) made in
    absurd (let e = sym none ∙ some in cc)

pub returns-in_default-do_other_op-clause-err : goal.returns-in_default-do_other_op-clause-err
returns-in_default-do_other_op-clause-err g c =
    let s = g.W.View.view c.args.w.now in
    let q = c.requires.running in
    let comp = c.args.component.now in
    let n = thread_of s c.in-Some.thread in
    let o = c.in-Some-op_at.op.now in
    let current = sym c.current.ensures ∙ c.in-Some.is in
    let r = runner comp q.number s q.order c.none_is_zero.ensures.threads q.runs c.in-Some.thread current in
    let number = number_at q.number s q.runs c.in-Some.thread current in
    let is = op_is comp n s.core r.thread r.here c.script_ops-script.result.now c.at-point.result.callee (task_of n s.core) c.at-point.result.position c.at-point.result.script c.at-point.ensures.callee refl (c.at-point.ensures.script r.thread r.here) c.script_ops-script.ensures c.at-point.ensures.position (Some o) (sym (ap option_copied c.in-Some-op_at.is) ∙ c.op_at.ensures) in
    let err = c.in_default-do_other_op.ensures.err in
    (subst (λ (p : Option ℕ). option_map_or (λ k. takes_memory (op_of comp k s.core)) p false ≡ true) (sym q.runs) (ap takes_memory (ap (λ (k : ℕ). op_of comp k s.core) (sym number) ∙ is) ∙ err.0), err.1)

pub returns-clause-did : goal.returns-clause-did
returns-clause-did g c =
    let v = g.W.View.view in
    let s = v c.args.w.now in
    let t = v c.do_other_op.new.w in
    let q = c.requires.running in
    let comp = c.args.component.now in
    let n = thread_of s c.in-Some.thread in
    let o = c.in-Some-op_at.op.now in
    let op_result = c.in-Ok.done.op_result in
    let current = sym c.current.ensures ∙ c.in-Some.is in
    let r = runner comp q.number s q.order c.none_is_zero.ensures.threads q.runs c.in-Some.thread current in
    let number = number_at q.number s q.runs c.in-Some.thread current in
    let is = op_is comp n s.core r.thread r.here c.script_ops-script.result.now c.at-point.result.callee (task_of n s.core) c.at-point.result.position c.at-point.result.script c.at-point.ensures.callee refl (c.at-point.ensures.script r.thread r.here) c.script_ops-script.ensures c.at-point.ensures.position (Some o) (sym (ap option_copied c.in-Some-op_at.is) ∙ c.op_at.ensures) in
    let here = ap (λ (k : ℕ). op_of comp k s.core) (sym number) ∙ is in
    subst (Did (op_rule_at comp s.core) s op_result) (sym c.leave.ensures)
    (left_did comp (rule_of comp o) c.in-Some.thread q.number op_result s t c.in-Ok.ensures.does.does number q.runs (op_rule_at comp s.core) (λ ch. ap (λ (x : Op). scripted_rule_of comp x s.core q.number ch) here))

pub returns-clause-order : goal.returns-clause-order
returns-clause-order g c =
    let v = g.W.View.view in
    let s = v c.args.w.now in
    let t = v c.do_other_op.new.w in
    let q = c.requires.running in
    let comp = c.args.component.now in
    let n = thread_of s c.in-Some.thread in
    let o = c.in-Some-op_at.op.now in
    let op_result = c.in-Ok.done.op_result in
    let current = sym c.current.ensures ∙ c.in-Some.is in
    let r = runner comp q.number s q.order c.none_is_zero.ensures.threads q.runs c.in-Some.thread current in
    let number = number_at q.number s q.runs c.in-Some.thread current in
    let is = op_is comp n s.core r.thread r.here c.script_ops-script.result.now c.at-point.result.callee (task_of n s.core) c.at-point.result.position c.at-point.result.script c.at-point.ensures.callee refl (c.at-point.ensures.script r.thread r.here) c.script_ops-script.ensures c.at-point.ensures.position (Some o) (sym (ap option_copied c.in-Some-op_at.is) ∙ c.op_at.ensures) in
    let here = ap (λ (k : ℕ). op_of comp k s.core) (sym number) ∙ is in
    let did = c.in-Ok.ensures.does.does in
    let u = left comp (rule_of comp o) c.in-Some.thread q.number op_result s t did number q.runs in
    let stays = left_stays comp (rule_of comp o) c.in-Some.thread q.number op_result s t did number q.runs in
    let met = subst (λ (x : Op). Implements (scripted_rule_of comp x s.core q.number (choice_of (label_of q.number op_result))) s.core op_result u.core) (sym here) (left_met comp (rule_of comp o) c.in-Some.thread q.number op_result s t did number q.runs) in
    subst (λ (x : StateView). CoreInOrder comp (turn_in x) x.core) (sym c.leave.ensures)
    (left_order comp (rule_of comp o) c.in-Some.thread q.number op_result s t did number q.runs (host_in_order comp q.number s u q.order (is_plain comp s q c.requires.paused) op_result met stays))
