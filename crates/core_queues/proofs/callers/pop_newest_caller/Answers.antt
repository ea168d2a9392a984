use Rattle.core_records.proofs.Core.{ap, newest_of, older_of, Some, subst, sym, ℕ, ◌<◌, ◌∙◌}
use Rattle.core_queues.proofs.CallerLemmas.{callers_chain_of, callers_live, follower_made, left_seen, left_sound, newest_one, no_newest, none_seen}
use Rattle.core_queues.proofs.SwitchLemmas.{follower_here, follower_positive}
use Rattle.core_queues.proofs.callers.pop_newest_caller.Goals as goal

pub last-requires : goal.last-requires
last-requires c = callers_live c.args.parts.now c.requires.sound _ c.live_thread-found.result.callers (callers_chain_of c.args.parts.now c.requires.sound c.args.thread c.live_thread-found.result c.live_thread-found.ensures)

pub remove-requires : goal.remove-requires
remove-requires c = follower_made c.args.parts.now c.requires.sound c.in-Some.caller (newest_one c.args.parts.now c.requires.sound _ c.live_thread-found.result.callers (callers_chain_of c.args.parts.now c.requires.sound c.args.thread c.live_thread-found.result c.live_thread-found.ensures) c.in-Some.ensures.sound c.in-Some.field-0-0.index c.in-Some.caller c.in-Some.ensures.entry).0

pub returns-in-Some-clause-sound : goal.returns-in-Some-clause-sound
returns-in-Some-clause-sound c = left_sound c.args.parts.now c.requires.sound c.no_node_is_twice.ensures c.in-Some.caller c.remove.new.self c.remove.ensures.links (follower_made c.args.parts.now c.requires.sound c.in-Some.caller (newest_one c.args.parts.now c.requires.sound _ c.live_thread-found.result.callers (callers_chain_of c.args.parts.now c.requires.sound c.args.thread c.live_thread-found.result c.live_thread-found.ensures) c.in-Some.ensures.sound c.in-Some.field-0-0.index c.in-Some.caller c.in-Some.ensures.entry).0) _ c.live_thread-found.result.callers (callers_chain_of c.args.parts.now c.requires.sound c.args.thread c.live_thread-found.result c.live_thread-found.ensures)

pub returns-in-Some-clause-is : goal.returns-in-Some-clause-is
returns-in-Some-clause-is c =
    let one = (newest_one c.args.parts.now c.requires.sound _ c.live_thread-found.result.callers (callers_chain_of c.args.parts.now c.requires.sound c.args.thread c.live_thread-found.result c.live_thread-found.ensures) c.in-Some.ensures.sound c.in-Some.field-0-0.index c.in-Some.caller c.in-Some.ensures.entry) in
    ap (λ (n : ℕ). Some n) (c.thread_at-id.ensures ∙ follower_here c.args.parts.now c.requires.sound c.in-Some.caller one.0) ∙ one.1.0

pub returns-in-Some-clause-live : goal.returns-in-Some-clause-live
returns-in-Some-clause-live c =
    let one = (newest_one c.args.parts.now c.requires.sound _ c.live_thread-found.result.callers (callers_chain_of c.args.parts.now c.requires.sound c.args.thread c.live_thread-found.result c.live_thread-found.ensures) c.in-Some.ensures.sound c.in-Some.field-0-0.index c.in-Some.caller c.in-Some.ensures.entry) in
    subst (λ n. 0 < n) (sym (c.thread_at-id.ensures ∙ follower_here c.args.parts.now c.requires.sound c.in-Some.caller one.0)) (follower_positive c.args.parts.now c.requires.sound c.in-Some.caller one.0)

pub returns-in-Some-clause-new : goal.returns-in-Some-clause-new
returns-in-Some-clause-new c =
    let one = (newest_one c.args.parts.now c.requires.sound _ c.live_thread-found.result.callers (callers_chain_of c.args.parts.now c.requires.sound c.args.thread c.live_thread-found.result c.live_thread-found.ensures) c.in-Some.ensures.sound c.in-Some.field-0-0.index c.in-Some.caller c.in-Some.ensures.entry) in
    left_seen c.args.parts.now c.requires.sound c.no_node_is_twice.ensures c.in-Some.caller c.remove.new.self c.remove.ensures.links (follower_made c.args.parts.now c.requires.sound c.in-Some.caller (newest_one c.args.parts.now c.requires.sound _ c.live_thread-found.result.callers (callers_chain_of c.args.parts.now c.requires.sound c.args.thread c.live_thread-found.result c.live_thread-found.ensures) c.in-Some.ensures.sound c.in-Some.field-0-0.index c.in-Some.caller c.in-Some.ensures.entry).0) _ c.live_thread-found.result.callers (callers_chain_of c.args.parts.now c.requires.sound c.args.thread c.live_thread-found.result c.live_thread-found.ensures) _ one.1.1.0 one.1.1.1

pub returns-in-None-clause-is : goal.returns-in-None-clause-is
returns-in-None-clause-is c = sym (ap newest_of (no_newest c.args.parts.now c.requires.sound _ c.live_thread-found.result.callers (callers_chain_of c.args.parts.now c.requires.sound c.args.thread c.live_thread-found.result c.live_thread-found.ensures) c.in-None.ensures.entry))

pub returns-in-None-clause-new : goal.returns-in-None-clause-new
returns-in-None-clause-new c =
    let none = no_newest c.args.parts.now c.requires.sound _ c.live_thread-found.result.callers (callers_chain_of c.args.parts.now c.requires.sound c.args.thread c.live_thread-found.result c.live_thread-found.ensures) c.in-None.ensures.entry in
    none_seen c.args.parts.now c.requires.sound _ c.live_thread-found.result.callers (callers_chain_of c.args.parts.now c.requires.sound c.args.thread c.live_thread-found.result c.live_thread-found.ensures) _ (none ∙ sym (ap older_of none))
