use Rattle.core_queues.proofs.CallerLemmas.{added_free, added_seen, added_sound, callers_chain_of, callers_live}
use Rattle.core_queues.proofs.callers.add_caller.Goals as goal

pub push_back-requires-clause-chain : goal.push_back-requires-clause-chain
push_back-requires-clause-chain c = callers_live c.args.parts.now c.requires.sound _ c.live_thread-found.result.callers (callers_chain_of c.args.parts.now c.requires.sound c.args.thread c.live_thread-found.result c.live_thread-found.ensures)

pub push_back-requires-clause-free : goal.push_back-requires-clause-free
push_back-requires-clause-free c = added_free c.args.parts.now c.requires.sound c.args.thread c.args.other c.live_thread-found.result c.live_thread-caller.result c.live_thread-found.ensures c.live_thread-caller.ensures c.rep.result c.rep.ensures c.requires.apart c.no_node_is_twice.ensures

pub returns-clause-sound : goal.returns-clause-sound
returns-clause-sound c = added_sound c.args.parts.now c.requires.sound c.args.thread c.args.other c.live_thread-found.result c.live_thread-caller.result c.live_thread-found.ensures c.live_thread-caller.ensures c.rep.result c.rep.ensures c.requires.apart c.no_node_is_twice.ensures c.push_back.new.self c.push_back.ensures

pub returns-clause-new : goal.returns-clause-new
returns-clause-new c = added_seen c.args.parts.now c.requires.sound c.args.thread c.args.other c.live_thread-found.result c.live_thread-caller.result c.live_thread-found.ensures c.live_thread-caller.ensures c.rep.result c.rep.ensures c.requires.apart c.no_node_is_twice.ensures c.push_back.new.self c.push_back.ensures
