use Rattle.core_queues.proofs.PushLemmas.{high_there}
use Rattle.core_records.proofs.Core.{IsSome, subst}
use Rattle.core_removals.proofs.EntryLemmas.{chain_live, entry_free, entry_seen, entry_sound}
use Rattle.core_removals.proofs.work_entries.queue_push.Goals as goal

pub push_back-requires-clause-chain : goal.push_back-requires-clause-chain
push_back-requires-clause-chain c = chain_live c.args.parts.now c.requires.sound c.args.work c.work_there-found.result.now c.work_there-found.ensures.item c.rep.result c.rep.ensures c.push_of-queued.result c.push_of-queued.ensures c.in-Some.chain c.in-Some.is

pub push_back-requires-clause-free : goal.push_back-requires-clause-free
push_back-requires-clause-free c = entry_free c.args.parts.now c.requires.sound c.args.work c.work_there-found.result.now c.work_there-found.ensures.item c.rep.result c.rep.ensures c.push_of-queued.result c.push_of-queued.ensures c.in-Some.chain c.in-Some.is c.requires.unqueued c.no_node_is_twice.ensures

pub unreachable-requires : goal.unreachable-requires
unreachable-requires c = let none = subst IsSome c.in-None.is (high_there c.args.parts.now c.requires.sound c.args.work c.work_there-found.result.now c.work_there-found.ensures.item) in absurd (cc)

pub returns-clause-sound : goal.returns-clause-sound
returns-clause-sound c = entry_sound c.args.parts.now c.requires.sound c.args.work c.work_there-found.result.now c.work_there-found.ensures.item c.rep.result c.rep.ensures c.push_of-queued.result c.push_of-queued.ensures c.in-Some.chain c.in-Some.is c.requires.unqueued c.no_node_is_twice.ensures c.push_back.new.self c.push_back.ensures

pub returns-clause-new : goal.returns-clause-new
returns-clause-new c = entry_seen c.args.parts.now c.requires.sound c.args.work c.work_there-found.result.now c.work_there-found.ensures.item c.rep.result c.rep.ensures c.push_of-queued.result c.push_of-queued.ensures c.in-Some.chain c.in-Some.is c.requires.unqueued c.no_node_is_twice.ensures c.push_back.new.self c.push_back.ensures
