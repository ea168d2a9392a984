use Rattle.machine_rules.proofs.CalmLemmas.{host_cancel_calm}
use Rattle.std.proofs.Common.{None, ap, refl, sym, ◌∙◌}
use Rattle.ops_subtasks.proofs.CancelLemmas.{aborts_steady, host_implements}
use Rattle.ops_subtasks.proofs.EndLemmas.{finished, refused_on, refused_same, trapped_implements}
use Rattle.ops_subtasks.proofs.SteadyLemmas.{still_runs}
use Rattle.ops_subtasks.proofs.aborts.cancel_host.Goals as goal
use Rattle.ops_subtasks.specs.Refused.{mode_of}
use Rattle.machine_data.specs.declared.records.Subtask.TheVariants as subtask
use Rattle.ops_guests.proofs.DoesLemmas.{calm_same}
use Rattle.machine_rules.specs.Cancels.{cancel_aborts_host}
use Rattle.machine_rules.specs.Finish.{SomeHost}
use Rattle.core_primitives.specs.StateView.{StateView, thread_of, work_of}
use Rattle.core_primitives.specs.declared.names.SubtaskId.TheVariants as subtask_id

pub returns-in-Some : goal.returns-in-Some
returns-in-Some g c =
    let s = g.W.View.view c.args.w.now in
    let n = thread_of s c.args.thread in
    let i = work_of s c.args.work in
    let m = mode_of c.args.sync in
    record {
      does = calm_same _ c.args.thread s s _
          (λ d. host_cancel_calm d m n s.core i)
          (λ d. host_implements m n d i s.core _ _ (sym c.was_cancelled.ensures ∙ c.if-was_cancelled.false)
          (trapped_implements m n d (subtask.Host i) s.core (cancel_aborts_host i s.core) _ (refused_same m n (subtask.Host i) s.core _ (aborts_steady i s.core) ∙ sym c.in-Some.ensures)))
          refl refl;
    }

pub finish_cancel-requires-clause-running : goal.finish_cancel-requires-clause-running
finish_cancel-requires-clause-running g c =
    let s = g.W.View.view c.args.w.now in
    let i = work_of s c.args.work in
    still_runs c.args.thread (cancel_aborts_host i) s _ c.abort.ensures (aborts_steady i s.core) c.requires.running

pub finish_cancel-requires-clause-may : goal.finish_cancel-requires-clause-may
finish_cancel-requires-clause-may g c =
    let v = g.W.View.view in
    let s = v c.args.w.now in
    let i = work_of s c.args.work in
    let m = mode_of c.args.sync in
    refused_on m c.args.thread SomeHost (subtask_id.Host c.args.work) (cancel_aborts_host i) s (v c.abort.new.w) c.abort.ensures None (refused_same m (thread_of s c.args.thread) (subtask.Host i) s.core _ (aborts_steady i s.core) ∙ sym c.in_default.ensures)

pub returns : goal.returns
returns g c =
    let v = g.W.View.view in
    let s = v c.args.w.now in
    let n = thread_of s c.args.thread in
    let i = work_of s c.args.work in
    let m = mode_of c.args.sync in
    let done = c.finish_cancel.ensures.does in
    record {
      does = calm_same _ c.args.thread s (v c.finish_cancel.new.w) _
          (λ d. host_cancel_calm d m n s.core i)
          (λ d. host_implements m n d i s.core _ _ (sym c.was_cancelled.ensures ∙ c.if-was_cancelled.false)
          (finished m c.args.thread d (subtask_id.Host c.args.work) (cancel_aborts_host i) s (v c.abort.new.w) c.abort.ensures _ _ (refused_same m n (subtask.Host i) s.core _ (aborts_steady i s.core) ∙ sym c.in_default.ensures) (done.implements d)))
          (done.kept.0 ∙ ap (λ (y : StateView). y.tags) c.abort.ensures) (done.kept.1 ∙ ap (λ (y : StateView). y.current) c.abort.ensures);
    }
