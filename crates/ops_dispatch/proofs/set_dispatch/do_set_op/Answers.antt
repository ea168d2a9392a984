use Rattle.ops_dispatch.proofs.OpLemmas.{alike_op, names_op, told_as}
use Rattle.ops_dispatch.proofs.StayLemmas.{ok_then}
use Rattle.ops_dispatch.proofs.SubtaskRules.{set_shows}
use Rattle.ops_dispatch.proofs.RuleLemmas.{drop_set_shows}
use Rattle.ops_dispatch.proofs.set_dispatch.do_set_op.Goals as goal
use Rattle.ops_dispatch.specs.Continues.{DoesOp}
use Rattle.ops_dispatch.specs.Rules.{waits_here}
use Rattle.std.proofs.Common.{ap, ap₂, refl, sym}
use Rattle.std.specs.Prelude.{ℕ}
use Rattle.machine_data.specs.Labels.{choice_of}
use Rattle.machine_data.specs.Read.{op_progress_of}
use Rattle.machine_data.specs.declared.op.SetOp.TheVariants as set_op
use Rattle.ops_guests.specs.Does.{DoesRule, KeepsNames, KeepsRest}
use Rattle.ops_guests.specs.Steps.{label_of}
use Rattle.ops_guests.specs.Works.{KeepsTold}
use Rattle.ops_guests.specs.declared.op_result.OpResult.{OpResult}
use Rattle.machine_rules.specs.Finish.{SomeHost}
use Rattle.machine_rules.specs.Sets.{join_rule, poll_rule, set_drop_rule, set_new_rule, set_rule, wait_rule}
use Rattle.core_primitives.specs.StateView.{thread_of}

pub returns-in-New-clause-does : goal.returns-in-New-clause-does
returns-in-New-clause-does g c =
    let s = g.W.View.view c.args.w.now in
    let t = g.W.View.view c.set_new.new.w in
    let n = thread_of s c.args.thread in
    let id = c.args.thread in
    rw c.in-New.is
    (ok_then (λ (r : OpResult). DoesRule KeepsNames (λ d n ch s. set_new_rule d n s) id s r t) (λ (r : OpResult). DoesOp KeepsTold (λ d n ch s. set_rule d n s ch (set_op.New c.in-New.to)) id s r t) c.set_new.result
    (λ r h. names_op (λ d n ch s. set_new_rule d n s) (λ d n ch s. set_rule d n s ch (set_op.New c.in-New.to)) id s t r c.requires.runner.live (set_shows n s.core SomeHost (choice_of (label_of n r)) (set_op.New c.in-New.to)) c.requires.runner.current h (λ d ch. refl)) c.set_new.ensures.does)

pub returns-in-Drop-clause-does : goal.returns-in-Drop-clause-does
returns-in-Drop-clause-does g c =
    let s = g.W.View.view c.args.w.now in
    let t = g.W.View.view c.set_drop.new.w in
    let n = thread_of s c.args.thread in
    let r = c.set_drop.result in
    let e = c.set_drop.ensures in
    rw c.in-Drop.is
    (alike_op KeepsRest KeepsTold (λ d n ch s. set_drop_rule d n c.value_of-handle.result s) (λ d n ch s. set_rule d n s ch (set_op.Drop c.in-Drop.set)) c.args.thread s t r
    (drop_set_shows SomeHost n (choice_of (label_of n r)) s.core c.value_of-handle.result) c.requires.runner.current e.does.kept.1 e.thread (λ k. k.0)
    (λ d ch. ap (λ (h : ℕ). set_drop_rule d n h s.core) (sym c.value_of-handle.ensures)) e.does)

pub returns-in-Wait-clause-does : goal.returns-in-Wait-clause-does
returns-in-Wait-clause-does g c =
    let s = g.W.View.view c.args.w.now in
    let t = g.W.View.view c.wait.new.w in
    let n = thread_of s c.args.thread in
    let o = set_op.Wait c.in-Wait.to c.in-Wait.set in
    rw c.in-Wait.is
    (told_as (waits_here c.value_of-handle-in-Wait.result) (λ d n ch s. set_rule d n s ch o) c.args.thread s t c.wait.result (set_shows n s.core SomeHost (choice_of (label_of n c.wait.result)) o) c.requires.runner.current c.wait.ensures.does
    (λ d ch. ap (λ (h : ℕ). wait_rule d n h ch s.core (op_progress_of n s.core)) (sym c.value_of-handle-in-Wait.ensures)))

pub returns-in-Poll-clause-does : goal.returns-in-Poll-clause-does
returns-in-Poll-clause-does g c =
    let s = g.W.View.view c.args.w.now in
    let t = g.W.View.view c.poll.new.w in
    let n = thread_of s c.args.thread in
    let o = set_op.Poll c.in-Poll.to c.in-Poll.set in
    rw c.in-Poll.is
    (told_as (λ d n ch s. poll_rule d n c.value_of-handle-in-Poll.result ch s) (λ d n ch s. set_rule d n s ch o) c.args.thread s t c.poll.result (set_shows n s.core SomeHost (choice_of (label_of n c.poll.result)) o) c.requires.runner.current c.poll.ensures.does
    (λ d ch. ap (λ (h : ℕ). poll_rule d n h ch s.core) (sym c.value_of-handle-in-Poll.ensures)))

pub returns-in-Join-clause-does : goal.returns-in-Join-clause-does
returns-in-Join-clause-does g c =
    let s = g.W.View.view c.args.w.now in
    let t = g.W.View.view c.join.new.w in
    let n = thread_of s c.args.thread in
    let o = set_op.Join c.in-Join.waitable c.in-Join.set in
    rw c.in-Join.is
    (told_as (λ d n ch s. join_rule d n c.value_of-waitable.result c.value_of-set.result ch.woken s) (λ d n ch s. set_rule d n s ch o) c.args.thread s t c.join.result (set_shows n s.core SomeHost (choice_of (label_of n c.join.result)) o) c.requires.runner.current c.join.ensures.does
    (λ d ch. ap₂ (λ (h y : ℕ). join_rule d n h y ch.woken s.core) (sym c.value_of-waitable.ensures) (sym c.value_of-set.ensures)))
