use Rattle.std.proofs.Common.{sym, ◌∙◌}
use Rattle.ops_state.proofs.GiveLemmas.{gives_member, gives_nothing, gives_own}
use Rattle.ops_state.proofs.KeepLemmas.{own_taken_kept, taken_kept}
use Rattle.ops_state.proofs.gives.get_event.Goals as goal
use Rattle.ops_state.proofs.OrderLemmas.{member_in_order, nothing_in_order, own_in_order}

pub returns-in-Some-clause-given : goal.returns-in-Some-clause-given
returns-in-Some-clause-given g c = gives_own c.args.cancellable _ _ c.in-Some.event c.told.result (g.W.View.view c.args.w.now) _ (sym c.task_event.ensures ∙ c.in-Some.is) c.told.ensures c.take_own.ensures

pub returns-in-Some-ready_member-clause-given : goal.returns-in-Some-ready_member-clause-given
returns-in-Some-ready_member-clause-given g c = gives_member c.args.cancellable _ _ _ c.take_member.result (g.W.View.view c.args.w.now) _ (sym c.task_event.ensures ∙ c.in_default.is) c.in-Some-ready_member.ensures.some c.take_member.ensures.told c.take_member.ensures.gone

pub returns-in-None-clause-given : goal.returns-in-None-clause-given
returns-in-None-clause-given g c = gives_nothing c.args.cancellable _ _ (g.W.View.view c.args.w.now) (sym c.task_event.ensures ∙ c.in_default.is) c.in-None.ensures.none

pub returns-in-Some-clause-wakes : goal.returns-in-Some-clause-wakes
returns-in-Some-clause-wakes g c = own_taken_kept _ _ (g.W.View.view c.args.w.now) _ c.take_own.ensures

pub returns-in-Some-ready_member-clause-wakes : goal.returns-in-Some-ready_member-clause-wakes
returns-in-Some-ready_member-clause-wakes g c = taken_kept _ (g.W.View.view c.args.w.now) _ c.take_member.ensures.gone

pub returns-in-Some-clause-order : goal.returns-in-Some-clause-order
returns-in-Some-clause-order g c = own_in_order c.args.cancellable _ c.in-Some.event (g.W.View.view c.args.w.now) _ (sym c.task_event.ensures ∙ c.in-Some.is) c.take_own.ensures

pub returns-in-Some-ready_member-clause-order : goal.returns-in-Some-ready_member-clause-order
returns-in-Some-ready_member-clause-order g c kind = member_in_order _ 0 _ (g.W.View.view c.args.w.now) _ c.in-Some-ready_member.ensures.some c.take_member.ensures.gone

pub returns-in-None-clause-order : goal.returns-in-None-clause-order
returns-in-None-clause-order g c kind = nothing_in_order _
