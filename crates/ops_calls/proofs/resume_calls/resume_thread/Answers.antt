-- The running thread asks, and a thread that is resumed later gets its entry by the rule.
use Rattle.std.proofs.Common.{ap, refl, subst, sym, ◌∙◌}
use Rattle.std.specs.Prelude.{option_map}
use Rattle.ops_calls.proofs.HostOpLemmas.{met_same, same_current, same_tags}
use Rattle.ops_calls.proofs.AtOnceLemmas.{never_stops}
use Rattle.ops_calls.proofs.ResumeLemmas.{later_resumed}
use Rattle.ops_calls.proofs.resume_calls.resume_thread.Goals as goal
use Rattle.ops_calls.specs.Resumes.{or_refused}
use Rattle.machine_data.specs.Labels.{choice_of}
use Rattle.machine_data.specs.declared.op.Op.TheVariants as op
use Rattle.machine_data.specs.declared.op.Operand.TheVariants as operand
use Rattle.machine_data.specs.declared.op.ThreadOp.TheVariants as thread_op
use Rattle.ops_guests.specs.OpResult.{Implements}
use Rattle.ops_guests.specs.Ended.{ended}
use Rattle.ops_guests.specs.Steps.{label_of}
use Rattle.machine_rules.specs.Threads.{resume_later_rule}
use Rattle.machine_rules.specs.Finish.{SomeHost}
use Rattle.ops_turns.proofs.OrderLemmas.{runner}
use Rattle.core_primitives.specs.StateView.{thread_of}

pub promote_first-requires : goal.promote_first-requires
promote_first-requires g c =
    let q = c.requires.running in
    (runner c.args.component.now q.number (g.W.View.view c.args.w.now) q.order c.none_is_zero.ensures.threads q.runs c.in-Some.thread (sym c.current.ensures ∙ c.in-Some.is)).running

pub resume_first-requires : goal.resume_first-requires
resume_first-requires g c =
    let q = c.requires.running in
    (runner c.args.component.now q.number (g.W.View.view c.args.w.now) q.order c.none_is_zero.ensures.threads q.runs c.in-Some.thread (sym c.current.ensures ∙ c.in-Some.is)).running

pub resume_later-op_result-requires-clause-live : goal.resume_later-op_result-requires-clause-live
resume_later-op_result-requires-clause-live g c =
    let q = c.requires.running in
    (runner c.args.component.now q.number (g.W.View.view c.args.w.now) q.order c.none_is_zero.ensures.threads q.runs c.in-Some.thread (sym c.current.ensures ∙ c.in-Some.is)).live

pub resume_later-op_result-requires-clause-running : goal.resume_later-op_result-requires-clause-running
resume_later-op_result-requires-clause-running g c =
    let q = c.requires.running in
    (runner c.args.component.now q.number (g.W.View.view c.args.w.now) q.order c.none_is_zero.ensures.threads q.runs c.in-Some.thread (sym c.current.ensures ∙ c.in-Some.is)).running

pub returns-in-ResumeLater : goal.returns-in-ResumeLater
returns-in-ResumeLater g c =
    let v = g.W.View.view in
    let s = v c.args.w.now in
    let t = v c.resume_later-op_result.new.w in
    let u = v c.leave.new.w in
    let id = c.in-Some.thread in
    let n = thread_of s id in
    let r = c.resume_later-op_result.result in
    let did = c.resume_later-op_result.ensures.does in
    let o = op.Thread (thread_op.ResumeLater (operand.Number c.from-handle.result)) in
    let going = never_stops c.args.component.now n s.core (choice_of (label_of n r)) o refl r (ended SomeHost n r t.core) (did.implements SomeHost) in
    let met = met_same id r s t u did.kept going c.leave.ensures (resume_later_rule SomeHost n c.from-handle.result s.core) (did.implements SomeHost) in
    let implements = subst (λ h. Implements (resume_later_rule SomeHost n h s.core) s.core r u.core) c.from-handle.ensures met in
    record {
      resumed = later_resumed n c.args.handle c.args.how s u r _
          (ap (option_map (λ id. thread_of s id)) (sym c.current.ensures ∙ c.in-Some.is)) c.in-ResumeLater.is (same_tags id r s t u did.kept going c.leave.ensures) (same_current id r s t u did.kept going c.leave.ensures) implements
          (c.or_refused-in-ResumeLater.ensures ∙ ap or_refused c.came_later.ensures);
    }
