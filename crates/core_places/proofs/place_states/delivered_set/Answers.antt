use Rattle.core_places.proofs.ThreadLemmas.{why_at}
use Rattle.core_places.proofs.place_states.delivered_set.Goals as goal

pub delivery_from_id-requires-clause-at : goal.delivery_from_id-requires-clause-at
delivery_from_id-requires-clause-at c = why_at c.args.parts.now c.requires c.args.thread c.in-Some.found.now c.in-Some.ensures.item c.ready_why.result c.ready_why.ensures
