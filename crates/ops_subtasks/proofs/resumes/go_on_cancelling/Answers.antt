use Rattle.machine_rules.proofs.CalmLemmas.{cancelling_calm}
use Rattle.std.proofs.Common.{None, ap, subst, sym, ◌∙◌}
use Rattle.ops_subtasks.proofs.EndLemmas.{finished, refused_on, trapped_implements}
use Rattle.ops_subtasks.proofs.ResumeLemmas.{resumed_as, resumed_refused, resumed_runs}
use Rattle.ops_subtasks.proofs.resumes.go_on_cancelling.Goals as goal
use Rattle.ops_subtasks.specs.Refused.{mode_of}
use Rattle.ops_guests.proofs.DoesLemmas.{calm_same}
use Rattle.ops_guests.specs.OpResult.{Implements}
use Rattle.ops_guests.specs.declared.op_result.OpResult.TheVariants as op_result
use Rattle.machine_rules.specs.Cancels.{after_cancel_by, cancel_resumed}
use Rattle.machine_rules.specs.Finish.{SomeHost}
use Rattle.core_primitives.specs.Names.{subtask_in}
use Rattle.core_primitives.specs.StateView.{StateView, thread_of}

pub finish_cancel-requires-clause-running : goal.finish_cancel-requires-clause-running
finish_cancel-requires-clause-running g c =
    let v = g.W.View.view in
    let s = v c.args.w.now in
    resumed_runs c.args.thread _ s _ (resumed_as c.args.thread c.args.subtask s (v c.refusal_after.new.w) (v c.resume_canceller.new.w) c.refusal_after.ensures.same c.resume_canceller.ensures) c.requires.running

pub finish_cancel-requires-clause-may : goal.finish_cancel-requires-clause-may
finish_cancel-requires-clause-may g c =
    let v = g.W.View.view in
    let s = v c.args.w.now in
    let n = thread_of s c.args.thread in
    let q = subtask_in s.tags c.args.subtask in
    let m = mode_of c.args.sync in
    refused_on m c.args.thread SomeHost c.args.subtask (cancel_resumed n q) s (v c.resume_canceller.new.w) (resumed_as c.args.thread c.args.subtask s (v c.refusal_after.new.w) (v c.resume_canceller.new.w) c.refusal_after.ensures.same c.resume_canceller.ensures) None (resumed_refused m n q s.core ∙ sym c.in_default.ensures.is)

pub returns-in-Some : goal.returns-in-Some
returns-in-Some g c =
    let v = g.W.View.view in
    let s = v c.args.w.now in
    let n = thread_of s c.args.thread in
    let q = subtask_in s.tags c.args.subtask in
    let m = mode_of c.args.sync in
    let same = c.refusal_after.ensures.same in
    record {
      does = calm_same _ c.args.thread s (v c.refusal_after.new.w) _
          (λ d. cancelling_calm d (mode_of c.args.sync) (thread_of s c.args.thread) 0 s.core (subtask_in s.tags c.args.subtask))
          (λ d. subst (λ (y : StateView). Implements (after_cancel_by d m n q (cancel_resumed n q s.core)) s.core (op_result.Traps c.in-Some.trap) y.core) (sym same)
          (trapped_implements m n d q s.core (cancel_resumed n q s.core) _ (resumed_refused m n q s.core ∙ sym c.in-Some.ensures.is)))
          (ap (λ (y : StateView). y.tags) same) (ap (λ (y : StateView). y.current) same);
    }

pub returns : goal.returns
returns g c =
    let v = g.W.View.view in
    let s = v c.args.w.now in
    let n = thread_of s c.args.thread in
    let q = subtask_in s.tags c.args.subtask in
    let m = mode_of c.args.sync in
    let resumed = resumed_as c.args.thread c.args.subtask s (v c.refusal_after.new.w) (v c.resume_canceller.new.w) c.refusal_after.ensures.same c.resume_canceller.ensures in
    let done = c.finish_cancel.ensures.does in
    record {
      does = calm_same _ c.args.thread s (v c.finish_cancel.new.w) _
          (λ d. cancelling_calm d (mode_of c.args.sync) (thread_of s c.args.thread) 0 s.core (subtask_in s.tags c.args.subtask))
          (λ d. finished m c.args.thread d c.args.subtask (cancel_resumed n q) s (v c.resume_canceller.new.w) resumed _ _ (resumed_refused m n q s.core ∙ sym c.in_default.ensures.is) (done.implements d))
          (done.kept.0 ∙ ap (λ (y : StateView). y.tags) resumed) (done.kept.1 ∙ ap (λ (y : StateView). y.current) resumed);
    }
