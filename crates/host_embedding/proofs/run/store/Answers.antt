-- Two instances were made.
use Rattle.machine_data.specs.declared.scenario.Version.TheVariants as version
use Rattle.task_loop.proofs.MainToldLemmas.{fresh_asked}
use Rattle.std.proofs.Common.{ap, arith, refl, ◌∙◌}
use Rattle.core_makes.specs.Instances.{with_instance}
use Rattle.core_records.specs.Seen.{nothing}
use Rattle.task_store.proofs.FreshLemmas.{fresh_more}
use Rattle.core_primitives.specs.StateView.{with_core}
use Rattle.host_embedding.proofs.HostLemmas.{is_few}
use Rattle.host_embedding.proofs.run.store.Goals as goal

pub add_instance-requires : goal.add_instance-requires
add_instance-requires c = is_few 0 c.new-store.result.state.core (omega arith) (rw c.new-store.ensures.state refl)

pub add_instance-requires-2 : goal.add_instance-requires-2
add_instance-requires-2 c = is_few 1 c.add_instance.new.self.state.core (omega arith) (rw (c.in_ok-add_instance.ensures.ok, c.new-store.ensures.state) (fresh_more version.One 0 100000 1000000))

pub returns-clause-state : goal.returns-clause-state
returns-clause-state c =
    rw (c.in_ok-add_instance-2.ensures.ok, c.in_ok-add_instance.ensures.ok, c.new-store.ensures.state)
    (ap (λ u. with_core u nothing) (ap with_instance (fresh_more version.One 0 100000 1000000) ∙ fresh_more version.One 1 100000 1000000))

pub returns-clause-groups : goal.returns-clause-groups
returns-clause-groups c = fresh_asked version.One 2 100000 1000000 c.add_instance-2.new.self.state
    (rw (c.in_ok-add_instance-2.ensures.ok, c.in_ok-add_instance.ensures.ok, c.new-store.ensures.state)
    (ap (λ u. with_core u nothing) (ap with_instance (fresh_more version.One 0 100000 1000000) ∙ fresh_more version.One 1 100000 1000000)))
