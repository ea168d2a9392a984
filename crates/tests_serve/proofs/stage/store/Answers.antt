-- The new store is ready.
use Rattle.store_works.specs.declared.scripted.ScriptedHost.{ScriptedHost}
use Rattle.tests_serve.proofs.StageLemmas.{first_given, first_numbered, first_ready}
use Rattle.tests_serve.proofs.stage.store.Goals as goal

pub returns-clause-ready : goal.returns-clause-ready
returns-clause-ready g c =
    first_ready (λ (w : ScriptedHost). w.left) c.args.component.now c.new_store.result c.requires.exports c.requires.one c.new_store.ensures.state c.new_store.ensures.works c.new_store.ensures.groups

pub returns-clause-given : goal.returns-clause-given
returns-clause-given g c = first_given c.new_store.result.state c.new_store.ensures.state

pub returns-clause-numbered : goal.returns-clause-numbered
returns-clause-numbered g c = first_numbered c.new_store.result.state c.new_store.ensures.state
