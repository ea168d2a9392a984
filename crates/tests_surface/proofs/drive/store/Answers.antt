-- The new store is in order at main's turn.
use Rattle.machine_data.specs.declared.scenario.Version.TheVariants as version
use Rattle.store_works.specs.declared.scripted.ScriptedHost.{ScriptedHost}
use Rattle.std.proofs.Common.{ap}
use Rattle.tests_surface.proofs.DriveLemmas.{opens, opens_current, opens_given}
use Rattle.task_store.proofs.HostLemmas.{new_holds}
use Rattle.core_primitives.specs.StateView.{StateView}
use Rattle.tests_surface.proofs.drive.store.Goals as goal

pub returns-clause-order : goal.returns-clause-order
returns-clause-order g c = opens c.args.component.now c.requires.exports c.requires.one c.new_store.result.state c.new_store.ensures.state

pub returns-clause-given : goal.returns-clause-given
returns-clause-given g c = opens_given c.new_store.result.state c.new_store.ensures.state

pub returns-clause-current : goal.returns-clause-current
returns-clause-current g c = opens_current c.new_store.result.state c.new_store.ensures.state

pub returns-clause-hosts : goal.returns-clause-hosts
returns-clause-hosts g c = new_holds (λ (w : ScriptedHost). w.left) c.new_store.result version.One 1 100000 1000000 c.new_store.ensures.works (ap (λ (v : StateView). v.core) c.new_store.ensures.state)
