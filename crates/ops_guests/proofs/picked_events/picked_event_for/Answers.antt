use Rattle.ops_guests.proofs.PickedEventLemmas.{member_first, member_given}
use Rattle.ops_guests.proofs.picked_events.picked_event_for.Goals as goal

pub returns-in-Some-first_ready-clause-is : goal.returns-in-Some-first_ready-clause-is
returns-in-Some-first_ready-clause-is g c = member_given _ _ _ _ (g.W.View.view c.args.w.now).core c.in_default.ensures c.in-Some-first_ready.ensures.some

pub returns-in-Some-first_ready-clause-first : goal.returns-in-Some-first_ready-clause-first
returns-in-Some-first_ready-clause-first g c = rw c.unwrap_or.ensures (member_first _ _ _ (g.W.View.view c.args.w.now) _ c.requires.named c.in-Some-first_ready.ensures.some c.in-Some-first_ready.ensures.first c.subtask_handle.ensures)
