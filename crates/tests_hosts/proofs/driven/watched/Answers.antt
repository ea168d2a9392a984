-- One instance was made, and the hook handed in.
use Rattle.machine_data.specs.declared.scenario.Version.TheVariants as version
use Rattle.core_makes.specs.Instances.{with_instance}
use Rattle.std.proofs.Common.{ap, arith, refl, ℕ, ◌∙◌, ◌≡◌}
use Rattle.task_loop.proofs.MainToldLemmas.{fresh_asked}
use Rattle.machine_data.specs.Core.{fresh}
use Rattle.machine_data.specs.Maps.{size}
use Rattle.core_records.specs.Seen.{nothing}
use Rattle.task_store.proofs.FreshLemmas.{fresh_more, limits_set, size_fresh}
use Rattle.ops_turns.proofs.FreshLemmas.{given_fresh}
use Rattle.core_primitives.specs.StateView.{StateView, with_core}
use Rattle.tests_hosts.proofs.driven.watched.Goals as goal

pub set_table_capacity-requires-clause-given : goal.set_table_capacity-requires-clause-given
set_table_capacity-requires-clause-given g c = rw c.new-store.ensures.state (given_fresh version.One 0 100000 1000000)

pub add_instance-requires : goal.add_instance-requires
add_instance-requires g c =
    let limited : c.set_max_component_handles.new.self.state ≡ with_core (fresh version.One 0 100000 c.args.table) nothing =
    rw (c.set_max_component_handles.ensures, c.set_table_capacity.ensures, c.new-store.ensures.state) (ap (λ k. with_core k nothing) (limits_set 100000 c.args.table)) in
    let none = ap (λ (s : StateView). size s.core.instances) limited ∙ size_fresh version.One 0 100000 c.args.table in omega (arith, none)

pub returns-clause-state : goal.returns-clause-state
returns-clause-state g c =
    let limited : c.set_max_component_handles.new.self.state ≡ with_core (fresh version.One 0 100000 c.args.table) nothing =
    rw (c.set_max_component_handles.ensures, c.set_table_capacity.ensures, c.new-store.ensures.state) (ap (λ k. with_core k nothing) (limits_set 100000 c.args.table)) in
    rw (c.task_group_hook.ensures, c.in-Ok.ensures.ok)
    (ap (λ (s : StateView). with_core (with_instance s.core) s) limited ∙ ap (λ k. with_core k nothing) (fresh_more version.One 0 100000 c.args.table))

pub returns-clause-works : goal.returns-clause-works
returns-clause-works g c = rw (c.task_group_hook.ensures, c.in-Ok.ensures.ok, c.set_max_component_handles.ensures, c.set_table_capacity.ensures) c.new-store.ensures.works

pub returns-clause-running : goal.returns-clause-running
returns-clause-running g c = rw (c.task_group_hook.ensures, c.in-Ok.ensures.ok, c.set_max_component_handles.ensures, c.set_table_capacity.ensures) c.new-store.ensures.running

pub returns-clause-groups : goal.returns-clause-groups
returns-clause-groups g c =
    let limited : c.set_max_component_handles.new.self.state ≡ with_core (fresh version.One 0 100000 c.args.table) nothing =
    rw (c.set_max_component_handles.ensures, c.set_table_capacity.ensures, c.new-store.ensures.state) (ap (λ k. with_core k nothing) (limits_set 100000 c.args.table)) in
    fresh_asked version.One 1 100000 c.args.table c.task_group_hook.new.self.state
    (rw (c.task_group_hook.ensures, c.in-Ok.ensures.ok)
    (ap (λ (s : StateView). with_core (with_instance s.core) s) limited ∙ ap (λ k. with_core k nothing) (fresh_more version.One 0 100000 c.args.table)))
