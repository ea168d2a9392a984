use Rattle.core_records.proofs.Core.{IsSome, subst}
use Rattle.core_queues.proofs.PushLemmas.{high_there, host_free, host_live, host_seen, host_sound}
use Rattle.core_queues.proofs.pushes.push_host.Goals as goal

pub push_back-requires-clause-chain : goal.push_back-requires-clause-chain
push_back-requires-clause-chain c = host_live c.args.parts.now c.requires.sound c.args.work c.live_work-found.result c.live_work-found.ensures c.rep.result c.rep.ensures c.host_entry_of-queued.result c.host_entry_of-queued.ensures c.in-Some.chain c.in-Some.is

pub push_back-requires-clause-free : goal.push_back-requires-clause-free
push_back-requires-clause-free c = host_free c.args.parts.now c.requires.sound c.args.work c.live_work-found.result c.live_work-found.ensures c.rep.result c.rep.ensures c.host_entry_of-queued.result c.host_entry_of-queued.ensures c.in-Some.chain c.in-Some.is c.requires.unqueued c.no_node_is_twice.ensures

pub unreachable-requires : goal.unreachable-requires
unreachable-requires c = let none = subst IsSome c.in-None.is (high_there c.args.parts.now c.requires.sound c.args.work c.live_work-found.result c.live_work-found.ensures) in absurd (cc)

pub returns-clause-sound : goal.returns-clause-sound
returns-clause-sound c = host_sound c.args.parts.now c.requires.sound c.args.work c.live_work-found.result c.live_work-found.ensures c.rep.result c.rep.ensures c.host_entry_of-queued.result c.host_entry_of-queued.ensures c.in-Some.chain c.in-Some.is c.requires.unqueued c.no_node_is_twice.ensures c.push_back.new.self c.push_back.ensures

pub returns-clause-new : goal.returns-clause-new
returns-clause-new c = host_seen c.args.parts.now c.requires.sound c.args.work c.live_work-found.result c.live_work-found.ensures c.rep.result c.rep.ensures c.host_entry_of-queued.result c.host_entry_of-queued.ensures c.in-Some.chain c.in-Some.is c.requires.unqueued c.no_node_is_twice.ensures c.push_back.new.self c.push_back.ensures
