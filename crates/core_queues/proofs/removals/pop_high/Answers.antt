use Rattle.core_queues.proofs.LeaveLemmas.{left_sound, pop_high_nothing, pop_high_seen}
use Rattle.core_queues.proofs.TopLemmas.{mark_live, mark_nodes, top_keyed}
use Rattle.core_queues.proofs.removals.pop_high.Goals as goal
use Rattle.core_records.proofs.Core.{High}

pub first_marked-requires-clause-live : goal.first_marked-requires-clause-live
first_marked-requires-clause-live c = mark_live c.args.parts.now c.requires High

pub first_marked-requires-clause-nodes : goal.first_marked-requires-clause-nodes
first_marked-requires-clause-nodes c = mark_nodes c.args.parts.now c.requires High

pub leave-requires-clause-keyed : goal.leave-requires-clause-keyed
leave-requires-clause-keyed c = top_keyed c.args.parts.now c.requires High c.in-Some.queued c.in-Some.ensures

pub returns-in-Some-clause-sound : goal.returns-in-Some-clause-sound
returns-in-Some-clause-sound c = left_sound c.args.parts.now c.requires c.in-Some.queued (top_keyed c.args.parts.now c.requires High c.in-Some.queued c.in-Some.ensures) c.leave.ensures.links c.leave.new.parts c.leave.ensures.rows c.leave.ensures.rest

pub returns-in-Some-clause-new : goal.returns-in-Some-clause-new
returns-in-Some-clause-new c = pop_high_seen c.args.parts.now c.requires c.in-Some.queued (top_keyed c.args.parts.now c.requires High c.in-Some.queued c.in-Some.ensures) c.leave.ensures.links c.leave.new.parts c.leave.ensures.rows c.leave.ensures.rest c.in-Some.ensures

pub returns-in_default-clause-new : goal.returns-in_default-clause-new
returns-in_default-clause-new c = pop_high_nothing c.args.parts.now c.requires c.in_default.ensures
