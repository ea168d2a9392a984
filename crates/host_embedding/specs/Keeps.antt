-- What the relay knows of its calls.
use Rattle.host_embedding.specs.declared.relay.Relay.{Relay}
use Rattle.std.specs.Prelude.{length, ◌≤◌}
use Rattle.task_nursery.specs.Later.{scope_later}
use Rattle.task_nursery.specs.Scope.{IsOf}
use Rattle.ops_turns.specs.Later.{WorksLast}
use Rattle.core_primitives.specs.StateView.{StateView}

-- its scope is of this store, and has no more calls than were started
pub record Keeps (m : Relay) (s : StateView) : Type 0 where
  pub of : IsOf m.calls s
  pub few : length m.calls.children ≤ m.started

-- that is so in later states, too
pub keeps_later : (m : Relay) (s t : StateView) → WorksLast s t → Keeps m s → Keeps m t
keeps_later m s t last keeps = record { of = scope_later m.calls s t last keeps.of; few = keeps.few }
