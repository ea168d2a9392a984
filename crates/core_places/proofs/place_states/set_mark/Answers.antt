use Rattle.core_records.proofs.Core.{ap, on_core, Place, seen, set_place, sym, thread_of, Why, ◌∙◌}
use Rattle.core_places.proofs.ThreadLemmas.{thread_gone, why_at, why_is}
use Rattle.core_places.proofs.place_states.set_mark.Goals as goal

pub put-requires-clause-place : goal.put-requires-clause-place
put-requires-clause-place c = why_at c.args.parts.now c.requires c.args.thread c.in-Some.found.now c.in-Some.ensures.item c.ready_why-why.result c.ready_why-why.ensures

pub returns-in-Some-clause-new : goal.returns-in-Some-clause-new
returns-in-Some-clause-new c =
    let a = c.args.parts.now in
    c.put.ensures.new
    ∙ ap (λ (w : Why). on_core (set_place (thread_of (seen a) c.args.thread) (Place.Ready c.args.mark w)) (seen a)) (sym (why_is (seen a) _ c.in-Some.found.now.thread c.in-Some.ensures.is c.ready_why-why.result c.ready_why-why.ensures))

pub returns-in_default-clause-new : goal.returns-in_default-clause-new
unfolding set_place
returns-in_default-clause-new c = thread_gone _ _ c.in_default.ensures.is _
