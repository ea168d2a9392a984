-- Each start keeps the store.
use Rattle.std.proofs.Common.{◌*◌, ◌+◌, ◌-◌, ◌≡◌, ◌≤◌}
use Rattle.std.specs.Prelude.{None}
use Rattle.machine_data.specs.declared.records.Turn.{Turn}
use Rattle.core_primitives.specs.Groups.{IsAsked}
use Rattle.task_store.specs.Hosts.{HoldsHosts}
use Rattle.ops_turns.specs.Turn.{CoreInOrder, given, running_of}
use Rattle.tests_surface.proofs.polls.call_often.Given as goal

abbrev pub invariant-calls : goal.invariant-calls
invariant-calls g l = record {
  order : (p : Turn) → CoreInOrder l.component p l.initial.store.state.core → CoreInOrder l.component p l.store.state.core;
  given : given l.store.state.core ≤ given l.initial.store.state.core + 2 * l.calls;
  current : running_of l.store.state ≡ None;
  hosts : HoldsHosts g.H.HostWork.course l.store;
  groups : IsAsked l.store.state;
  few : l.calls ≤ l.count;
}

abbrev pub decreases-calls : goal.decreases-calls
decreases-calls g l = l.count - l.calls
