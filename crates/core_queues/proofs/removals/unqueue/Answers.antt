use Rattle.core_queues.proofs.LeaveLemmas.{left_sound, unqueued_nobody, unqueued_seen}
use Rattle.core_queues.proofs.PushLemmas.{entry_is, entry_keyed, of_v}
use Rattle.core_queues.proofs.removals.unqueue.Goals as goal

pub leave-requires-clause-keyed : goal.leave-requires-clause-keyed
leave-requires-clause-keyed c = entry_keyed c.args.parts.now c.requires c.args.thread c.in-Some.found.now c.in-Some.ensures.item c.rep.result c.rep.ensures c.entry_of-queued.result c.entry_of-queued.ensures

pub returns-in-Some-clause-sound : goal.returns-in-Some-clause-sound
returns-in-Some-clause-sound c = left_sound c.args.parts.now c.requires c.entry_of-queued.result (entry_keyed c.args.parts.now c.requires c.args.thread c.in-Some.found.now c.in-Some.ensures.item c.rep.result c.rep.ensures c.entry_of-queued.result c.entry_of-queued.ensures) c.leave.ensures.links c.leave.new.parts c.leave.ensures.rows c.leave.ensures.rest

pub returns-in-Some-clause-new : goal.returns-in-Some-clause-new
returns-in-Some-clause-new c = unqueued_seen c.args.parts.now c.requires c.entry_of-queued.result (entry_keyed c.args.parts.now c.requires c.args.thread c.in-Some.found.now c.in-Some.ensures.item c.rep.result c.rep.ensures c.entry_of-queued.result c.entry_of-queued.ensures) c.leave.ensures.links c.leave.new.parts c.leave.ensures.rows c.leave.ensures.rest _ (of_v c.args.parts.now c.requires c.args.thread c.in-Some.found.now c.in-Some.ensures.item c.rep.result c.rep.ensures c.entry_of-queued.result c.entry_of-queued.ensures) (entry_is c.args.parts.now c.requires c.args.thread c.in-Some.found.now c.in-Some.ensures.item c.rep.result c.rep.ensures c.entry_of-queued.result c.entry_of-queued.ensures)

pub returns-in_default-clause-new : goal.returns-in_default-clause-new
returns-in_default-clause-new c = unqueued_nobody c.args.parts.now c.requires _ c.in_default.ensures.nothing
