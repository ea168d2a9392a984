use Rattle.ops_dispatch.proofs.OpLemmas.{names_op, told_as, told_op}
use Rattle.ops_dispatch.proofs.RuleLemmas.{thread_shows}
use Rattle.ops_dispatch.proofs.StayLemmas.{ok_then}
use Rattle.ops_dispatch.proofs.thread_dispatch.do_thread_op.Goals as goal
use Rattle.ops_dispatch.specs.Continues.{DoesOp}
use Rattle.std.proofs.Common.{ap, ap₂, rules, sym}
use Rattle.std.specs.Prelude.{ℕ, ◌≡◌}
use Rattle.machine_data.specs.Read.{instance_of}
use Rattle.machine_data.specs.declared.component.Slot.{Slot}
use Rattle.machine_data.specs.declared.op.ThreadOp.TheVariants as thread_op
use Rattle.ops_guests.specs.Does.{DoesRule, KeepsNames}
use Rattle.ops_guests.specs.Rules.{makes_thread}
use Rattle.ops_guests.specs.Works.{KeepsTold}
use Rattle.ops_guests.specs.declared.op_result.OpResult.{OpResult}
use Rattle.machine_rules.specs.Finish.{SomeHost}
use Rattle.machine_rules.specs.Scripts.{slot_at}
use Rattle.machine_rules.specs.Threads.{resume_later_rule, thread_new_rule, thread_rule}
use Rattle.core_primitives.specs.StateView.{thread_of}

pub returns-in-Index-clause-does : goal.returns-in-Index-clause-does
returns-in-Index-clause-does g c =
    let s = g.W.View.view c.args.w.now in
    let n = thread_of s c.args.thread in
    let o = thread_op.Index c.in-Index.to in
    rw c.in-Index.is
    (told_op (λ d n ch s. thread_rule d c.args.component.now n s o) c.args.thread s s c.thread_index.result (thread_shows SomeHost n s.core c.args.component.now o) c.requires.runner.current c.thread_index.ensures.does)

pub returns-in-ResumeLater-clause-does : goal.returns-in-ResumeLater-clause-does
returns-in-ResumeLater-clause-does g c =
    let s = g.W.View.view c.args.w.now in
    let t = g.W.View.view c.resume_later.new.w in
    let n = thread_of s c.args.thread in
    let o = thread_op.ResumeLater c.in-ResumeLater.other in
    rw c.in-ResumeLater.is
    (told_as (λ d n ch s. resume_later_rule d n c.value_of-other.result s) (λ d n ch s. thread_rule d c.args.component.now n s o) c.args.thread s t c.resume_later.result (thread_shows SomeHost n s.core c.args.component.now o) c.requires.runner.current c.resume_later.ensures.does
    (λ d ch. ap (λ (h : ℕ). resume_later_rule d n h s.core) (sym c.value_of-other.ensures)))

pub returns-in_default-clause-does : goal.returns-in_default-clause-does
returns-in_default-clause-does g c =
    let s = g.W.View.view c.args.w.now in
    let t = g.W.View.view c.do_halting_op.new.w in
    let n = thread_of s c.args.thread in
    told_op (λ d n ch s. thread_rule d c.args.component.now n s c.args.op) c.args.thread s t c.do_halting_op.result (thread_shows SomeHost n s.core c.args.component.now c.args.op) c.requires.runner.current (c.do_halting_op.ensures.does c.args.component.now)

pub returns-in-Some-clause-does : goal.returns-in-Some-clause-does
returns-in-Some-clause-does g c =
    let s = g.W.View.view c.args.w.now in
    let t = g.W.View.view c.thread_new.new.w in
    let n = thread_of s c.args.thread in
    let id = c.args.thread in
    let comp = c.args.component.now in
    let o = thread_op.New c.in-New.to c.in-New.slot c.in-New.context in
    let at : slot_at comp (instance_of n s.core) c.in-New.slot ≡ c.in-Some.line.now = search rules in
    let own = makes_thread c.in-New.slot c.value_of-value.result c.in-Some.line.now in
    rw c.in-New.is
    (ok_then (λ (r : OpResult). DoesRule KeepsNames own id s r t) (λ (r : OpResult). DoesOp KeepsTold (λ d n ch s. thread_rule d comp n s o) id s r t) c.thread_new.result
    (λ r h. names_op own (λ d n ch s. thread_rule d comp n s o) id s t r c.requires.runner.live (thread_shows SomeHost n s.core comp o) c.requires.runner.current h
    (λ d ch. ap₂ (λ (v : ℕ) (x : Slot). thread_new_rule d n c.in-New.slot v s.core x) (sym c.value_of-value.ensures) at)) c.thread_new.ensures.does)
