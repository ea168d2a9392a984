use Rattle.core_records.proofs.Core.{ap, bare, on_core, option_and_then, parts_of, Place, place_chain, seen, set_place, sym, thread_of, where_at, Why, ◌∙◌}
use Rattle.core_records.specs.declared.{thread_records.GuestThread.GuestThread}
use Rattle.core_queues.proofs.PushLemmas.{instance_unchecked}
use Rattle.core_places.proofs.ThreadLemmas.{same_item, thread_gone, why_at, why_is}
use Rattle.core_places.proofs.place_states.hold.Goals as goal

pub held_chain_unchecked-chain-requires : goal.held_chain_unchecked-chain-requires
held_chain_unchecked-chain-requires c = instance_unchecked c.args.parts.now c.requires c.args.thread c.in-Some.found.now c.in-Some.ensures.item

pub put-requires-clause-place : goal.put-requires-clause-place
put-requires-clause-place c = why_at c.args.parts.now c.requires c.args.thread c.in-Some.found.now c.in-Some.ensures.item c.ready_why-why.result c.ready_why-why.ensures

pub put-requires-clause-chain : goal.put-requires-clause-chain
put-requires-clause-chain c g is =
    let a = c.args.parts.now in
    ap (λ (x : GuestThread). option_and_then (place_chain (bare (parts_of a))) (where_at x.instance x.barred (Place.Held c.ready_why-why.result))) (same_item is c.in-Some.ensures.item) ∙ c.held_chain_unchecked-chain.ensures

pub returns-in-Some-clause-new : goal.returns-in-Some-clause-new
returns-in-Some-clause-new c =
    let a = c.args.parts.now in
    c.put.ensures.new
    ∙ ap (λ (w : Why). on_core (set_place (thread_of (seen a) c.args.thread) (Place.Held w)) (seen a)) (sym (why_is (seen a) _ c.in-Some.found.now.thread c.in-Some.ensures.is c.ready_why-why.result c.ready_why-why.ensures))

pub returns-in_default-clause-new : goal.returns-in_default-clause-new
unfolding set_place
returns-in_default-clause-new c = thread_gone _ _ c.in_default.ensures.is _
