use Rattle.std.proofs.Common.{ap, subst, sym, ◌∙◌}
use Rattle.std.specs.Prelude.{ℕ, ◌<◌}
use Rattle.machine_data.specs.declared.label.Label.TheVariants as label
use Rattle.machine_data.specs.declared.label.LoopLabel.TheVariants as loop_label
use Rattle.machine_data.specs.declared.records.Turn.TheVariants as turn
use Rattle.ops_guests.specs.PolledWorks.{PollImplements}
use Rattle.ops_guests.specs.declared.work_ops.Polled.{Polled}
use Rattle.machine_rules.specs.Works.{poll_of}
use Rattle.ops_turns.proofs.PollLemmas.{PollImplements-more, label_by, poll_makes, poll_pending, polled_moves, turn_by, turn_is}
use Rattle.ops_turns.proofs.futures.step_poll.Goals as goal
use Rattle.core_primitives.specs.StateView.{work_of}

pub poll_work-requires-clause-live : goal.poll_work-requires-clause-live
poll_work-requires-clause-live g c = subst (λ (k : ℕ). 0 < k) c.requires.number c.requires.live

pub poll_work-requires-clause-moves : goal.poll_work-requires-clause-moves
poll_work-requires-clause-moves g c = polled_moves c.args.polled (work_of (g.W.View.view c.args.w.now) c.args.work) (g.W.View.view c.args.w.now).core c.requires.next.next

pub poll_work-requires-clause-told : goal.poll_work-requires-clause-told
poll_work-requires-clause-told g c = c.requires.next.told

pub returns-in-Pends-clause-makes : goal.returns-in-Pends-clause-makes
returns-in-Pends-clause-makes g c d =
    let s = g.W.View.view c.args.w.now in
    let t = g.W.View.view c.poll_work.new.w in
    let i = work_of s c.args.work in
    poll_makes d c.args.polled i s t c.poll_work.result (record { label = label.Loop (loop_label.FuturePends c.args.number); turn = c.turn_where.result }) c.requires.next.next c.poll_work.ensures.implements c.requires.current c.poll_work.ensures.current
    (ap (λ k. label.Loop (loop_label.FuturePends k)) c.requires.number ∙ sym (ap (label_by i) c.in-Pends.is))
    (turn_is c.args.number i c.in-Pends.more t.core (PollImplements-more i s.core c.in-Pends.more t.core (poll_of i s.core) (subst (λ (q : Polled). PollImplements i (poll_of i s.core) s.core q t.core) c.in-Pends.is c.poll_work.ensures.implements)) c.requires.number c.turn_where.result (c.turn_where.ensures t.core) ∙ sym (ap (λ q. turn_by i q t.core) c.in-Pends.is))

pub returns-in-Ends-clause-makes : goal.returns-in-Ends-clause-makes
returns-in-Ends-clause-makes g c d =
    let s = g.W.View.view c.args.w.now in
    let t = g.W.View.view c.poll_work.new.w in
    let i = work_of s c.args.work in
    poll_makes d c.args.polled i s t c.poll_work.result (record { label = label.Loop (loop_label.FutureEnds c.args.number); turn = c.turn_after_end.result }) c.requires.next.next c.poll_work.ensures.implements c.requires.current c.poll_work.ensures.current
    (ap (λ k. label.Loop (loop_label.FutureEnds k)) c.requires.number ∙ sym (ap (label_by i) c.in-Ends.is))
    (c.turn_after_end.ensures ∙ sym (ap (λ q. turn_by i q t.core) c.in-Ends.is))

pub returns-in-Fails-clause-makes : goal.returns-in-Fails-clause-makes
returns-in-Fails-clause-makes g c d =
    let s = g.W.View.view c.args.w.now in
    let t = g.W.View.view c.poll_work.new.w in
    let i = work_of s c.args.work in
    poll_makes d c.args.polled i s t c.poll_work.result (record { label = label.Loop (loop_label.FutureFails c.args.number); turn = turn.Over }) c.requires.next.next c.poll_work.ensures.implements c.requires.current c.poll_work.ensures.current
    (ap (λ k. label.Loop (loop_label.FutureFails k)) c.requires.number ∙ sym (ap (label_by i) c.in-Fails.is))
    (sym (ap (λ q. turn_by i q t.core) c.in-Fails.is))

pub returns-in-Pends-clause-pends : goal.returns-in-Pends-clause-pends
returns-in-Pends-clause-pends g c x m pends =
    let s = g.W.View.view c.args.w.now in
    let t = g.W.View.view c.poll_work.new.w in
    let i = work_of s c.args.work in
    poll_pending x i _ t.core m c.poll_work.result c.turn_where.result c.poll_work.ensures.implements
    (turn_is c.args.number i c.in-Pends.more t.core (PollImplements-more i s.core c.in-Pends.more t.core (poll_of i s.core) (subst (λ (q : Polled). PollImplements i (poll_of i s.core) s.core q t.core) c.in-Pends.is c.poll_work.ensures.implements)) c.requires.number c.turn_where.result (c.turn_where.ensures t.core) ∙ sym (ap (λ q. turn_by i q t.core) c.in-Pends.is)) pends

pub returns-in-Ends-clause-pends : goal.returns-in-Ends-clause-pends
returns-in-Ends-clause-pends g c x m pends =
    let t = g.W.View.view c.poll_work.new.w in
    let i = work_of (g.W.View.view c.args.w.now) c.args.work in
    poll_pending x i _ t.core m c.poll_work.result c.turn_after_end.result c.poll_work.ensures.implements (c.turn_after_end.ensures ∙ sym (ap (λ q. turn_by i q t.core) c.in-Ends.is)) pends
