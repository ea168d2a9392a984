use Rattle.tests_surface.proofs.StateLemmas.{woken_live}
use Rattle.tests_surface.proofs.calls_of_states.sets_and_takes.Goals as goal
use Rattle.ops_state.proofs.PlacedLemmas.{placed_idle}

pub set_event-woken-requires-clause-idle : goal.set_event-woken-requires-clause-idle
set_event-woken-requires-clause-idle c = placed_idle _ c.requires.placed

pub take_event-event-requires : goal.take_event-event-requires
take_event-event-requires c = record { live = woken_live c.args.task _ _ c.set_event-woken.ensures.woken c.requires.live }

pub set_event-woken-requires-clause-there : goal.set_event-woken-requires-clause-there
set_event-woken-requires-clause-there c = c.requires.joins _
