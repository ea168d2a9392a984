use Rattle.tests_surface.proofs.StateLemmas.{stops_freely}
use Rattle.tests_surface.proofs.calls_of_states.stops.Goals as goal
use Rattle.std.proofs.Common.{ap}
use Rattle.std.specs.Prelude.{Option, is_none}
use Rattle.task_table.specs.declared.id.TableId.{TableId}
use Rattle.task_wait.specs.declared.keys.ThreadKey.{ThreadKey}

pub stop-requires-clause-may : goal.stop-requires-clause-may
stop-requires-clause-may c = stops_freely _ c.switch.result c.args.store.now.state c.switch.ensures.is (ap (λ (o : Option (TableId ThreadKey)). is_none o) c.in-None.is) c.requires.placed
