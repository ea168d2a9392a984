use Rattle.tests_surface.proofs.calls_of_states.leaves_its_set.Goals as goal
use Rattle.ops_state.proofs.PlacedLemmas.{placed_idle}

pub join-requires-clause-idle : goal.join-requires-clause-idle
join-requires-clause-idle c = placed_idle _ c.requires.placed
