use Rattle.core_makes.proofs.LooseLemmas.{made_set_loose}
use Rattle.core_makes.proofs.set_makes.new_set.Goals as goal
use Rattle.core_records.proofs.Core.{ap, arith, seen, StateView, ◌+◌, ◌<◌, ◌^◌, ◌∙◌, ◌≡◌}

pub overflow_add-result : goal.overflow_add-result
unfolding seen
overflow_add-result c =
    let same : c.make_ready_work_chain.new.parts.made.sets ≡ (seen c.args.parts.now).core.made.sets = ap (λ (s : StateView). s.core.made.sets) (c.in_ok-ready_works.ensures.seen ∙ (c.in_ok-ready_calls.ensures.seen ∙ c.in_ok-waiters.ensures.seen)) in
    let few : (seen c.args.parts.now).core.made.sets + 1 < 2 ^ 64 = c.requires.few in
    omega arith

pub returns-clause-loose : goal.returns-clause-loose
returns-clause-loose c =
    made_set_loose c.args.parts.now c.make_place_chain.new.parts c.make_ready_call_chain.new.parts c.make_ready_work_chain.new.parts _
    c.requires.sound c.in_ok-waiters.ensures.sound c.in_ok-ready_calls.ensures.sound
    c.in_ok-waiters.ensures.only c.in_ok-ready_calls.ensures.only c.in_ok-ready_works.ensures.only
    c.in_ok-waiters.ensures.made c.in_ok-ready_calls.ensures.made c.in_ok-ready_works.ensures.made
