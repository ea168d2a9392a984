use Rattle.ops_dispatch.proofs.StayLemmas.{ok_then}
use Rattle.ops_dispatch.proofs.call_dispatch.do_host_call.Goals as goal
use Rattle.ops_dispatch.specs.Polls.{DoesPolled}
use Rattle.ops_dispatch.specs.declared.done.Done.{Done}
use Rattle.std.specs.Prelude.{ℕ}
use Rattle.machine_data.specs.declared.op.CallOp.TheVariants as call_op
use Rattle.machine_data.specs.declared.op.Op.TheVariants as op

pub returns-in-CallHost-clause-does : goal.returns-in-CallHost-clause-does
returns-in-CallHost-clause-does g c =
    let s = g.W.View.view c.args.w.now in
    let t = g.W.View.view c.call_of_host.new.w in
    let comp = c.args.component.now in
    rw c.in-CallHost.is
    (ok_then (λ (d : Done). (r : ℕ) → DoesPolled c.args.answer comp (op.Call (call_op.CallHost r c.in-CallHost.result c.in-CallHost.host)) c.args.thread s d t) (λ (d : Done). DoesPolled c.args.answer comp (op.Call (call_op.CallHost c.in-CallHost.to c.in-CallHost.result c.in-CallHost.host)) c.args.thread s d t)
    c.call_of_host.result (λ d h. h c.in-CallHost.to) c.call_of_host.ensures.does)

pub returns-in-CallSyncHost-clause-does : goal.returns-in-CallSyncHost-clause-does
returns-in-CallSyncHost-clause-does g c =
    let s = g.W.View.view c.args.w.now in
    let t = g.W.View.view c.call_sync_of_host.new.w in
    let comp = c.args.component.now in
    rw c.in-CallSyncHost.is
    (ok_then (λ (d : Done). (r : ℕ) → DoesPolled c.args.answer comp (op.Call (call_op.CallSyncHost r c.in-CallSyncHost.host)) c.args.thread s d t) (λ (d : Done). DoesPolled c.args.answer comp (op.Call (call_op.CallSyncHost c.in-CallSyncHost.to c.in-CallSyncHost.host)) c.args.thread s d t)
    c.call_sync_of_host.result (λ d h. h c.in-CallSyncHost.to) c.call_sync_of_host.ensures.does)
