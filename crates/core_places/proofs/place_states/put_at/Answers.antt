use Rattle.core_records.proofs.Core.{ap, bare, on_core, option_and_then, parts_of, place_chain, seen, set_place, sym, thread_of, where_at, ◌∙◌}
use Rattle.core_records.specs.declared.{thread_records.GuestThread.GuestThread}
use Rattle.core_places.proofs.ThreadLemmas.{same_item, thread_gone}
use Rattle.core_places.proofs.place_states.put_at.Goals as goal

pub put_counted-requires-clause-chain : goal.put_counted-requires-clause-chain
put_counted-requires-clause-chain c g is =
    let a = c.args.parts.now in
    ap (λ (x : GuestThread). option_and_then (place_chain (bare (parts_of a))) (where_at x.instance x.barred c.place_from_id-named.result.0)) (same_item is c.in-Some.ensures.item)
    ∙ (ap (λ p. option_and_then (place_chain (bare (parts_of a))) (where_at c.in-Some.found.now.instance c.in-Some.found.now.barred p)) (sym c.place_from_id-named.ensures.is) ∙ c.chain_at-chain.ensures)

pub returns-in-Some-clause-new : goal.returns-in-Some-clause-new
returns-in-Some-clause-new c = c.put_counted.ensures.new ∙ ap (λ p. on_core (set_place (thread_of (seen c.args.parts.now) c.args.thread) p) (seen c.args.parts.now)) (sym c.place_from_id-named.ensures.is)

pub returns-in_default-clause-new : goal.returns-in_default-clause-new
unfolding set_place
returns-in_default-clause-new c = thread_gone _ _ c.in_default.ensures.is _
