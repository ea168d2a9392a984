use Rattle.core_records.proofs.Core.{High, refl}
use Rattle.core_queues.proofs.PushLemmas.{free_mark, free_instance_queue, instance_unchecked, live_mark, live_instance_queue, push_high_seen, push_sound}
use Rattle.core_queues.proofs.pushes.push_high.Goals as goal

pub high_chains-chain-requires-clause-within : goal.high_chains-chain-requires-clause-within
high_chains-chain-requires-clause-within c = instance_unchecked c.args.parts.now c.requires.sound c.args.thread c.live_thread-found.result c.live_thread-found.ensures

pub push_back-requires-clause-chain : goal.push_back-requires-clause-chain
push_back-requires-clause-chain c = live_mark c.args.parts.now c.requires.sound c.args.thread c.live_thread-found.result c.live_thread-found.ensures c.rep.result c.rep.ensures c.entry_of-queued.result c.entry_of-queued.ensures High c.high_chains-chain.result.0 c.high_chains-chain.ensures.mark

pub push_back-requires-clause-free : goal.push_back-requires-clause-free
push_back-requires-clause-free c = free_mark c.args.parts.now c.requires.sound c.args.thread c.live_thread-found.result c.live_thread-found.ensures c.rep.result c.rep.ensures c.entry_of-queued.result c.entry_of-queued.ensures c.requires.unqueued c.no_node_is_twice.ensures

pub push_back-requires-2-clause-chain : goal.push_back-requires-2-clause-chain
push_back-requires-2-clause-chain c = live_instance_queue c.args.parts.now c.requires.sound c.args.thread c.live_thread-found.result c.live_thread-found.ensures c.rep.result c.rep.ensures c.entry_of-queued.result c.entry_of-queued.ensures (c.live_thread-found.result.instance, High) c.high_chains-chain.result.1 c.high_chains-chain.ensures.instance_queue

pub push_back-requires-2-clause-free : goal.push_back-requires-2-clause-free
push_back-requires-2-clause-free c = free_instance_queue c.args.parts.now c.requires.sound c.args.thread c.live_thread-found.result c.live_thread-found.ensures c.rep.result c.rep.ensures c.entry_of-queued.result c.entry_of-queued.ensures c.requires.unqueued c.no_node_is_twice-2.ensures

pub returns-clause-sound : goal.returns-clause-sound
returns-clause-sound c = push_sound c.args.parts.now c.requires.sound c.args.thread c.live_thread-found.result c.live_thread-found.ensures c.rep.result c.rep.ensures c.entry_of-queued.result c.entry_of-queued.ensures c.requires.unqueued c.no_node_is_twice.ensures c.no_node_is_twice-2.ensures High c.high_chains-chain.result.0 c.high_chains-chain.result.1 c.high_chains-chain.ensures.mark c.high_chains-chain.ensures.instance_queue c.push_back.new.self c.push_back-2.new.self c.push_back.ensures c.push_back-2.ensures

pub returns-clause-new : goal.returns-clause-new
returns-clause-new c = push_high_seen c.args.parts.now c.requires.sound c.args.thread c.live_thread-found.result c.live_thread-found.ensures c.rep.result c.rep.ensures c.entry_of-queued.result c.entry_of-queued.ensures c.requires.unqueued c.no_node_is_twice.ensures c.no_node_is_twice-2.ensures High c.high_chains-chain.result.0 c.high_chains-chain.result.1 c.high_chains-chain.ensures.mark c.high_chains-chain.ensures.instance_queue c.push_back.new.self c.push_back-2.new.self c.push_back.ensures c.push_back-2.ensures refl
