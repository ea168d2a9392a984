use Rattle.core_records.proofs.Core.{ap, bare, on_core, on_thread, option_and_then, parts_of, place_chain, seen, sym, thread_of, where_at, ◌∙◌}
use Rattle.core_records.specs.declared.{thread_records.GuestThread.GuestThread}
use Rattle.core_places.proofs.ThreadLemmas.{same_item, thread_gone}
use Rattle.core_places.proofs.place_states.stand_anywhere.Goals as goal
use Rattle.core_places.specs.Moved.{to_stand}
use Rattle.core_primitives.specs.Names.{place_in}

pub put_stand_counted-requires-clause-chain : goal.put_stand_counted-requires-clause-chain
put_stand_counted-requires-clause-chain c g is =
    let a = c.args.parts.now in
    ap (λ (x : GuestThread). option_and_then (place_chain (bare (parts_of a))) (where_at x.instance x.barred c.place_from_id-named.result.0)) (same_item is c.in-Some.ensures.item)
    ∙ (ap (λ p. option_and_then (place_chain (bare (parts_of a))) (where_at c.in-Some.found.now.instance c.in-Some.found.now.barred p)) (sym c.place_from_id-named.ensures.is) ∙ c.chain_at-chain.ensures)

pub returns-in-Some-clause-new : goal.returns-in-Some-clause-new
returns-in-Some-clause-new c =
    let s = seen c.args.parts.now in
    c.put_stand_counted.ensures.new
    ∙ (ap (λ p. on_core (on_thread (thread_of s c.args.thread) (to_stand p c.op_progress_from_id-point.result.0)) s) (sym c.place_from_id-named.ensures.is)
    ∙ ap (λ h. on_core (on_thread (thread_of s c.args.thread) (to_stand (place_in s.tags c.args.place) h)) s) (sym c.op_progress_from_id-point.ensures.is))

pub returns-in_default-clause-new : goal.returns-in_default-clause-new
returns-in_default-clause-new c = thread_gone _ _ c.in_default.ensures.is _
