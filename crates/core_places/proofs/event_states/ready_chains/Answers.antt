use Rattle.core_places.proofs.ChainLemmas.{ready_calls_is, ready_calls_none, ready_works_is, ready_works_none}
use Rattle.core_places.proofs.event_states.ready_chains.Goals as goal

pub returns-in-Some-clause-calls : goal.returns-in-Some-clause-calls
returns-in-Some-clause-calls c = ready_calls_is c.args.parts.now c.requires.sound c.args.set _ _ c.in-Some.found.now c.in-Some.ensures.item _ c.in-Some.ensures.number c.set_id_at.ensures

pub returns-in-Some-clause-works : goal.returns-in-Some-clause-works
returns-in-Some-clause-works c = ready_works_is c.args.parts.now c.requires.sound c.args.set _ _ c.in-Some.found.now c.in-Some.ensures.item _ c.in-Some.ensures.number c.set_id_at.ensures

pub returns-in-None-clause-calls : goal.returns-in-None-clause-calls
returns-in-None-clause-calls c = ready_calls_none c.args.parts.now c.requires.sound c.args.set _ c.in-None.ensures.nothing c.set_id_at.ensures

pub returns-in-None-clause-works : goal.returns-in-None-clause-works
returns-in-None-clause-works c = ready_works_none c.args.parts.now c.requires.sound c.args.set _ c.in-None.ensures.nothing c.set_id_at.ensures
