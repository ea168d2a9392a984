use Rattle.ops_dispatch.proofs.CallLemmas.{begins_quiet, begins_sync_as}
use Rattle.ops_dispatch.proofs.OpLemmas.{made_op, scripted_op_rule, quiet_goes}
use Rattle.ops_dispatch.proofs.StayLemmas.{ok_both}
use Rattle.ops_dispatch.proofs.call_dispatch.begins_sync.Goals as goal
use Rattle.ops_dispatch.specs.Continues.{DoesOp}
use Rattle.ops_dispatch.specs.Rules.{calls_in_sync}
use Rattle.std.specs.Prelude.{length, take}
use Rattle.ops_subtasks.specs.Rules.{begins_call}
use Rattle.machine_data.specs.Labels.{choice_of}
use Rattle.machine_data.specs.Read.{op_progress_of, is_async_lifted, registers_of}
use Rattle.ops_guests.specs.OpResult.{IsCurrent}
use Rattle.ops_guests.specs.Does.{DoesRule, KeepsTags}
use Rattle.ops_guests.specs.Ended.{ended}
use Rattle.ops_guests.specs.Steps.{label_of}
use Rattle.ops_guests.specs.Works.{KeepsTold}
use Rattle.ops_guests.specs.declared.op_result.OpResult.{OpResult}
use Rattle.machine_rules.specs.Finish.{SomeHost}
use Rattle.machine_rules.specs.Scripts.{values_in}
use Rattle.core_primitives.specs.StateView.{thread_of}

pub returns-clause-does : goal.returns-clause-does
returns-clause-does g c =
    let s = g.W.View.view c.args.w.now in
    let t = g.W.View.view c.begin_call_sync.new.w in
    let n = thread_of s c.args.thread in
    let id = c.args.thread in
    let e = c.begin_call_sync.ensures in
    let comp = c.args.component.now in
    let words = take (length c.args.params.now) c.read_operands.new.words in
    let given = values_in (registers_of n s.core) c.args.params.now in
    let x = c.export_kind-kind.result in
    let b = is_async_lifted x in
    let rule = calls_in_sync comp c.args.callee c.args.params.now in
    let own = begins_call b x c.args.callee words in
    ok_both (λ (r : OpResult). DoesRule KeepsTags own id s r t) (λ (r : OpResult). IsCurrent r t) (λ (r : OpResult). DoesOp KeepsTold rule id s r t) c.begin_call_sync.result
    (λ r h current.
    let goes = quiet_goes _ s.core r (ended SomeHost n r t.core) t (begins_quiet b x c.args.callee words SomeHost n (choice_of (label_of n r)) s.core) (h.implements SomeHost) current in
    scripted_op_rule KeepsTold own rule id s t r (made_op own id s t r c.requires.runner.live goes h)
    (λ d. begins_sync_as comp n d (choice_of (label_of n r)) c.args.callee words given x s.core (op_progress_of n s.core) c.export_kind-kind.ensures c.read_operands.ensures c.requires.unanswered c.requires.uncalled)) e.does e.current
