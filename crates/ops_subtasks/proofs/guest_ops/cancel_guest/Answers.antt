use Rattle.std.proofs.Common.{ap, rules, sym, ◌∙◌}
use Rattle.std.specs.Prelude.{Bool, Option, if◌then◌else◌, is_some, not, ◌&&◌, ◌≡◌}
use Rattle.ops_subtasks.proofs.guest_ops.cancel_guest.Goals as goal
use Rattle.ops_subtasks.specs.Refused.{mode_of}
use Rattle.ops_subtasks.specs.Rules.{cancels_ended, cancels_guest}
use Rattle.machine_data.specs.Read.{cancel_was_asked, is_at, is_callback_yield, is_nil, is_second, was_started}
use Rattle.machine_data.specs.declared.records.Subtask.TheVariants as subtask
use Rattle.machine_data.specs.declared.statuses.Status.{Status}
use Rattle.ops_guests.proofs.DoesLemmas.{does_rule, same_rest}
use Rattle.ops_guests.specs.Does.{SameNames}
use Rattle.machine_rules.specs.Cancels.{AlreadyEnded, AskedBefore, CallbackYields, CancelCase, OtherwiseRuns, StartNotRun, ThreadWaits, cancel_case, cancel_guest_by, cancellable}
use Rattle.core_primitives.specs.StateView.{call_of, thread_of}

pub returns-then-is_some-clause-does : goal.returns-then-is_some-clause-does
returns-then-is_some-clause-does g c =
    let v = g.W.View.view in
    let s = v c.args.w.now in
    let t = v c.cancel_ended.new.w in
    let k = call_of s c.args.call in
    let m = mode_of c.args.sync in
    let ended : cancel_case k s.core ≡ AlreadyEnded = search rules in
    let did = does_rule SameNames (cancels_ended m (subtask.Guest k)) (cancels_guest m k) c.args.thread s t c.cancel_ended.result c.cancel_ended.ensures.does (λ d ch. ap (λ (x : CancelCase). cancel_guest_by d m (thread_of s c.args.thread) k s.core x) ended) in
    record { implements = did.implements; picks = did.picks; stays = did.stays; kept = same_rest s t did.kept }
