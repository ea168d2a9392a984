-- One instance was made.
use Rattle.machine_data.specs.declared.scenario.Version.TheVariants as version
use Rattle.task_loop.proofs.MainToldLemmas.{fresh_asked}
use Rattle.std.proofs.Common.{ap, arith, ◌∙◌}
use Rattle.machine_data.specs.Core.{Core}
use Rattle.machine_data.specs.Maps.{size}
use Rattle.core_records.specs.Seen.{nothing}
use Rattle.task_store.proofs.FreshLemmas.{fresh_more, size_fresh}
use Rattle.core_primitives.specs.StateView.{StateView, with_core}
use Rattle.tests_surface.proofs.drive.new_store.Goals as goal

pub add_instance-requires : goal.add_instance-requires
add_instance-requires g c =
    let none = ap (λ (s : StateView). size s.core.instances) c.new-store.ensures.state ∙ size_fresh version.One 0 100000 1000000 in omega (arith, none)

pub returns-clause-state : goal.returns-clause-state
returns-clause-state g c = rw (c.in-Ok.ensures.ok, c.new-store.ensures.state) (ap (λ (u : Core). with_core u nothing) (fresh_more version.One 0 100000 1000000))

pub returns-clause-groups : goal.returns-clause-groups
returns-clause-groups g c = fresh_asked version.One 1 100000 1000000 c.add_instance.new.self.state (rw (c.in-Ok.ensures.ok, c.new-store.ensures.state) (ap (λ (u : Core). with_core u nothing) (fresh_more version.One 0 100000 1000000)))
