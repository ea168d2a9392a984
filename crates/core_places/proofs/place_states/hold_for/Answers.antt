use Rattle.core_records.proofs.Core.{ap, bare, on_core, option_and_then, parts_of, Place, place_chain, seen, set_place, subst, sym, thread_of, where_at, Why, ◌∙◌}
use Rattle.core_records.specs.declared.{thread_records.GuestThread.GuestThread}
use Rattle.core_queues.proofs.PushLemmas.{instance_unchecked}
use Rattle.core_places.proofs.ThreadLemmas.{same_item, thread_gone}
use Rattle.core_places.specs.Moved.{StandsAlone}
use Rattle.core_places.proofs.place_states.hold_for.Goals as goal

pub held_chain_unchecked-chain-requires : goal.held_chain_unchecked-chain-requires
held_chain_unchecked-chain-requires c = instance_unchecked c.args.parts.now c.requires c.args.thread c.in-Some.found.now c.in-Some.ensures.item

pub put_alone-requires-clause-alone : goal.put_alone-requires-clause-alone
put_alone-requires-clause-alone c g is = subst (λ (x : GuestThread). StandsAlone x.thread.place) (same_item c.in-Some.ensures.item is) (c.is_queued_alone.ensures c.if-is_queued_alone.true)

pub put_alone-requires-clause-chain : goal.put_alone-requires-clause-chain
put_alone-requires-clause-chain c g is =
    let a = c.args.parts.now in
    ap (λ (x : GuestThread). option_and_then (place_chain (bare (parts_of a))) (where_at x.instance x.barred (Place.Held c.why_from_id-named.result.0))) (same_item is c.in-Some.ensures.item) ∙ c.held_chain_unchecked-chain.ensures

pub put_away-requires-clause-chain : goal.put_away-requires-clause-chain
put_away-requires-clause-chain c g is =
    let a = c.args.parts.now in
    ap (λ (x : GuestThread). option_and_then (place_chain (bare (parts_of a))) (where_at x.instance x.barred (Place.Held c.why_from_id-named.result.0))) (same_item is c.in-Some.ensures.item) ∙ c.held_chain_unchecked-chain.ensures

pub returns-then-is_queued_alone-clause-new : goal.returns-then-is_queued_alone-clause-new
returns-then-is_queued_alone-clause-new c =
    let a = c.args.parts.now in
    c.put_alone.ensures.new ∙ ap (λ (w : Why). on_core (set_place (thread_of (seen a) c.args.thread) (Place.Held w)) (seen a)) (sym c.why_from_id-named.ensures.is)

pub returns-else-is_queued_alone-clause-new : goal.returns-else-is_queued_alone-clause-new
returns-else-is_queued_alone-clause-new c =
    let a = c.args.parts.now in
    c.put_away.ensures.new ∙ ap (λ (w : Why). on_core (set_place (thread_of (seen a) c.args.thread) (Place.Held w)) (seen a)) (sym c.why_from_id-named.ensures.is)

pub returns-in_default-clause-new : goal.returns-in_default-clause-new
unfolding set_place
returns-in_default-clause-new c = thread_gone _ _ c.in_default.ensures.is _
