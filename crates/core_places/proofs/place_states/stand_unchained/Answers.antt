use Rattle.core_records.proofs.Core.{ap, bare, on_core, on_thread, option_and_then, parts_of, place_chain, seen, sym, thread_of, ◌∙◌}
use Rattle.core_places.proofs.place_states.stand_unchained.Goals as goal
use Rattle.core_places.specs.Moved.{to_stand}

pub put_stand-requires-clause-chain : goal.put_stand-requires-clause-chain
put_stand-requires-clause-chain c g is = ap (option_and_then (place_chain (bare (parts_of c.args.parts.now)))) (c.requires.unchained g.instance g.barred)

pub returns-clause-new : goal.returns-clause-new
returns-clause-new c =
    let s = seen c.args.parts.now in
    c.put_stand.ensures.new
    ∙ ap (λ h. on_core (on_thread (thread_of s c.args.thread) (to_stand c.args.place h)) s) (sym c.op_progress_from_id-point.ensures.is)
