use Rattle.tests_surface.proofs.StateLemmas.{event_idle, event_live, event_there}
use Rattle.tests_surface.proofs.calls_of_states.is_ready_once_set.Goals as goal

pub mark_ready-requires-clause-live : goal.mark_ready-requires-clause-live
mark_ready-requires-clause-live c = event_live c.args.task _ _ _ _ c.set_event.ensures c.requires.live

pub mark_ready-requires-clause-idle : goal.mark_ready-requires-clause-idle
mark_ready-requires-clause-idle c = event_idle _ _ _ _ c.set_event.ensures c.requires.placed

pub mark_ready-requires-clause-there : goal.mark_ready-requires-clause-there
mark_ready-requires-clause-there c = event_there c.args.task c.args.task _ _ _ c.set_event.ensures c.requires.joins
