use Rattle.std.proofs.Common.{◌∙◌}
use Rattle.ops_guests.proofs.LeaveLemmas.{ended_apart, ended_its, ended_known}
use Rattle.ops_guests.proofs.leaves.leave_to.Goals as goal

pub end_known_in-requires-clause-apart : goal.end_known_in-requires-clause-apart
end_known_in-requires-clause-apart g c = ended_apart c.args.thread _ _ (g.W.View.view c.args.w.now) _ c.requires.running c.set_end_unchecked.ensures

pub end_known_in-requires-clause-call : goal.end_known_in-requires-clause-call
end_known_in-requires-clause-call g c = ended_its c.args.thread c.args.call (g.W.View.view c.args.w.now) _ c.requires.task.is _ _ c.set_end_unchecked.ensures

pub end_known_in-requires-clause-known : goal.end_known_in-requires-clause-known
end_known_in-requires-clause-known g c = c.requires.known ∙ ended_known c.args.thread c.args.call (g.W.View.view c.args.w.now) _ c.requires.task.is _ _ c.set_end_unchecked.ensures
