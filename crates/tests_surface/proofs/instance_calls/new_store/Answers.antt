-- Two instances were made.
use Rattle.machine_data.specs.declared.scenario.Version.TheVariants as version
use Rattle.task_loop.proofs.MainToldLemmas.{fresh_asked}
use Rattle.std.proofs.Common.{ap, arith, ◌≡◌, ◌∙◌}
use Rattle.tests_surface.proofs.instance_calls.new_store.Goals as goal
use Rattle.machine_data.specs.Core.{Core, fresh}
use Rattle.machine_data.specs.Maps.{size}
use Rattle.core_records.specs.Seen.{nothing}
use Rattle.task_store.proofs.FreshLemmas.{fresh_more, size_fresh}
use Rattle.core_primitives.specs.StateView.{StateView, with_core}

pub add_instance-requires : goal.add_instance-requires
add_instance-requires g c =
    let none = ap (λ (s : StateView). size s.core.instances) c.new-store.ensures.state ∙ size_fresh version.One 0 100000 1000000 in omega (arith, none)

pub add_instance-requires-2 : goal.add_instance-requires-2
add_instance-requires-2 g c =
    let first : c.add_instance.new.self.state ≡ with_core (fresh version.One 1 100000 1000000) nothing =
    rw (c.in-Ok.ensures.ok, c.new-store.ensures.state) (ap (λ (u : Core). with_core u nothing) (fresh_more version.One 0 100000 1000000)) in
    let one = ap (λ (s : StateView). size s.core.instances) first ∙ size_fresh version.One 1 100000 1000000 in
    omega (arith, one)

pub returns-clause-state : goal.returns-clause-state
returns-clause-state g c =
    let first : c.add_instance.new.self.state ≡ with_core (fresh version.One 1 100000 1000000) nothing =
    rw (c.in-Ok.ensures.ok, c.new-store.ensures.state) (ap (λ (u : Core). with_core u nothing) (fresh_more version.One 0 100000 1000000)) in
    rw (c.in-Ok-add_instance.ensures.ok, first) (ap (λ (u : Core). with_core u nothing) (fresh_more version.One 1 100000 1000000))

pub returns-clause-free : goal.returns-clause-free
returns-clause-free g c = rw (c.in-Ok-add_instance.ensures.ok, c.in-Ok.ensures.ok) c.new-store.ensures.running

pub returns-clause-works : goal.returns-clause-works
returns-clause-works g c = rw (c.in-Ok-add_instance.ensures.ok, c.in-Ok.ensures.ok) c.new-store.ensures.works

pub returns-clause-groups : goal.returns-clause-groups
returns-clause-groups g c =
    let first : c.add_instance.new.self.state ≡ with_core (fresh version.One 1 100000 1000000) nothing =
    rw (c.in-Ok.ensures.ok, c.new-store.ensures.state) (ap (λ (u : Core). with_core u nothing) (fresh_more version.One 0 100000 1000000)) in
    fresh_asked version.One 2 100000 1000000 c.add_instance-2.new.self.state (rw (c.in-Ok-add_instance.ensures.ok, first) (ap (λ (u : Core). with_core u nothing) (fresh_more version.One 1 100000 1000000)))
