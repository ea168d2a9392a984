use Rattle.core_records.proofs.Core.{ap, bare, on_core, on_thread, parts_of, Place, place_chain, seen, set_of, sym, thread_of, WaitsOn, ◌∙◌}
use Rattle.core_places.proofs.TargetLemmas.{set_stands}
use Rattle.core_places.proofs.place_states.stand_waiting.Goals as goal
use Rattle.core_places.specs.Moved.{to_stand}

pub put_stand-requires-clause-place : goal.put_stand-requires-clause-place
put_stand-requires-clause-place c = set_stands c.args.parts.now c.requires c.args.set _ _ c.set_number-number.ensures c.rep.ensures

pub put_stand-requires-clause-chain : goal.put_stand-requires-clause-chain
put_stand-requires-clause-chain c g is = ap (λ n. place_chain (bare (parts_of c.args.parts.now)) (WaitsOn n)) c.set_number-number.ensures ∙ c.waiters_chain-chain.ensures

pub returns-clause-new : goal.returns-clause-new
returns-clause-new c =
    let s = seen c.args.parts.now in
    let n = thread_of s c.args.thread in
    c.put_stand.ensures.new
    ∙ (ap (λ x. on_core (on_thread n (to_stand (Place.Waiting x c.args.by_callback) c.op_progress_from_id-point.result.0)) s) c.set_number-number.ensures
    ∙ ap (λ h. on_core (on_thread n (to_stand (Place.Waiting (set_of s c.args.set) c.args.by_callback) h)) s) (sym c.op_progress_from_id-point.ensures.is))
