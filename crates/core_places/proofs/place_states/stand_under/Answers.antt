use Rattle.core_records.proofs.Core.{ap, bare, on_core, on_thread, parts_of, Place, place_chain, seen, sym, thread_of, UnderOf, ◌∙◌}
use Rattle.core_places.proofs.TargetLemmas.{thread_stands}
use Rattle.core_places.proofs.place_states.stand_under.Goals as goal
use Rattle.core_places.specs.Moved.{to_stand}

pub put_stand-requires-clause-place : goal.put_stand-requires-clause-place
put_stand-requires-clause-place c = thread_stands c.args.parts.now c.requires c.args.callee _ _ c.number-called.ensures c.rep.ensures

pub put_stand-requires-clause-chain : goal.put_stand-requires-clause-chain
put_stand-requires-clause-chain c g is = ap (λ n. place_chain (bare (parts_of c.args.parts.now)) (UnderOf n)) c.number-called.ensures ∙ c.under_chain-chain.ensures

pub returns-clause-new : goal.returns-clause-new
returns-clause-new c =
    let s = seen c.args.parts.now in
    let n = thread_of s c.args.thread in
    c.put_stand.ensures.new
    ∙ (ap (λ m. on_core (on_thread n (to_stand (Place.Under m) c.op_progress_from_id-point.result.0)) s) c.number-called.ensures
    ∙ ap (λ h. on_core (on_thread n (to_stand (Place.Under (thread_of s c.args.callee)) h)) s) (sym c.op_progress_from_id-point.ensures.is))
