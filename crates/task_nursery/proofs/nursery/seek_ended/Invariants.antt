use Rattle.std.proofs.Common.{drop, length, ◌-◌, ◌≡◌, ◌≤◌}
use Rattle.task_nursery.specs.Children.{has_ended}
use Rattle.task_nursery.specs.Numbers.{first_among, numbered}
use Rattle.task_store.specs.Hosts.{HoldsHosts}
use Rattle.task_nursery.proofs.nursery.seek_ended.Given as goal

abbrev pub invariant-running : goal.invariant-running
invariant-running g l = record {
  within : l.at ≤ length l.running;
  first : first_among (has_ended l.initial.store.state.core) (numbered l.children) (drop l.at l.running) ≡ first_among (has_ended l.initial.store.state.core) (numbered l.children) l.running;
  state : l.store.state ≡ l.initial.store.state;
  rest : l.store ≡ record l.initial.store { works = l.store.works };
  hosts : HoldsHosts g.H.HostWork.course l.store;
}

abbrev pub decreases-running : goal.decreases-running
decreases-running g l = length l.running - l.at
