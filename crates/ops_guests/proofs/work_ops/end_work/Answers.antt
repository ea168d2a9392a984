use Rattle.ops_guests.proofs.WorkLemmas.{ended_blocked, ended_entries}
use Rattle.ops_guests.proofs.work_ops.end_work.Goals as goal

pub follow-requires-clause-blocked : goal.follow-requires-clause-blocked
follow-requires-clause-blocked g c = ended_blocked c.args.work _ _ (g.W.View.view c.args.w.now) (g.W.View.view c.set_course.new.self) _ c.set_course.ensures c.set_phase.ensures c.requires.unqueued c.requires.blocked

pub follow-requires-clause-unqueued : goal.follow-requires-clause-unqueued
follow-requires-clause-unqueued g c = ended_entries c.args.work _ _ (g.W.View.view c.args.w.now) (g.W.View.view c.set_course.new.self) _ c.set_course.ensures c.set_phase.ensures c.requires.unqueued c.requires.blocked
