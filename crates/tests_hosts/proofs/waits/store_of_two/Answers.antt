-- Two instances were made.
use Rattle.machine_data.specs.declared.scenario.Version.TheVariants as version
use Rattle.tests_hosts.proofs.WaitLemmas.{few_then, none_then, two_made}
use Rattle.tests_hosts.proofs.waits.store_of_two.Goals as goal
use Rattle.std.proofs.Common.{ap}
use Rattle.task_loop.proofs.MainToldLemmas.{fresh_asked}
use Rattle.machine_data.specs.Core.{Core}
use Rattle.core_records.specs.Seen.{nothing}
use Rattle.core_primitives.specs.StateView.{with_core}

pub add_instance-requires : goal.add_instance-requires
add_instance-requires g c = none_then _ c.new-store.ensures.state

pub add_instance-requires-2 : goal.add_instance-requires-2
add_instance-requires-2 g c = rw c.add_instance.ensures (few_then _ c.new-store.ensures.state)

pub returns-clause-state : goal.returns-clause-state
returns-clause-state g c = rw (c.add_instance-2.ensures, c.add_instance.ensures, c.new-store.ensures.state) (ap (λ (u : Core). with_core u nothing) two_made)

pub returns-clause-groups : goal.returns-clause-groups
returns-clause-groups g c = fresh_asked version.One 2 100000 1000000 c.add_instance-2.new.store.state
    (rw (c.add_instance-2.ensures, c.add_instance.ensures, c.new-store.ensures.state) (ap (λ (u : Core). with_core u nothing) two_made))
