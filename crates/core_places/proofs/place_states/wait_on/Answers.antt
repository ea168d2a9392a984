use Rattle.core_records.proofs.Core.{ap, bare, on_core, parts_of, Place, place_chain, seen, set_place, thread_of, WaitsOn, ◌∙◌}
use Rattle.core_places.proofs.TargetLemmas.{set_stands}
use Rattle.core_places.proofs.place_states.wait_on.Goals as goal

pub put-requires-clause-place : goal.put-requires-clause-place
put-requires-clause-place c = set_stands c.args.parts.now c.requires c.args.set _ _ c.set_number-number.ensures c.rep.ensures

pub put-requires-clause-chain : goal.put-requires-clause-chain
put-requires-clause-chain c g is = ap (λ n. place_chain (bare (parts_of c.args.parts.now)) (WaitsOn n)) c.set_number-number.ensures ∙ c.waiters_chain-chain.ensures

pub returns-clause-new : goal.returns-clause-new
returns-clause-new c =
    let s = seen c.args.parts.now in
    c.put.ensures.new ∙ ap (λ x. on_core (set_place (thread_of s c.args.thread) (Place.Waiting x c.args.by_callback)) s) c.set_number-number.ensures
