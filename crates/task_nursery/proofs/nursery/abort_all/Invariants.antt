use Rattle.std.proofs.Common.{drop, length, ◌-◌, ◌≡◌, ◌≤◌}
use Rattle.machine_data.specs.declared.component.Component.{Component}
use Rattle.machine_data.specs.declared.records.Turn.{Turn}
use Rattle.task_nursery.specs.Numbers.{numbered}
use Rattle.task_nursery.specs.Scope.{AreOf, those_aborted}
use Rattle.task_store.specs.Hosts.{HoldsHosts}
use Rattle.ops_turns.specs.Turn.{CoreInOrder}
use Rattle.task_nursery.proofs.nursery.abort_all.Given as goal

abbrev pub invariant-running : goal.invariant-running
invariant-running g l = record {
  within : l.at ≤ length l.running;
  core : those_aborted (numbered l.children) (drop l.at l.running) l.store.state.core ≡ those_aborted (numbered l.children) l.running l.initial.store.state.core;
  rest : l.store ≡ record l.initial.store { works = l.store.works; state = record l.initial.store.state { core = l.store.state.core } };
  of : AreOf l.children l.store.state;
  order : (c : Component) (p : Turn) → CoreInOrder c p l.initial.store.state.core → CoreInOrder c p l.store.state.core;
  hosts : HoldsHosts g.H.HostWork.course l.store;
}

abbrev pub decreases-running : goal.decreases-running
decreases-running g l = length l.running - l.at
