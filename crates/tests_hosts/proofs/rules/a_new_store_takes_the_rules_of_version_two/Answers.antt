-- A new store has no call.
use Rattle.machine_data.specs.declared.scenario.Version.TheVariants as version
use Rattle.task_store.proofs.FreshLemmas.{no_calls}
use Rattle.tests_hosts.proofs.rules.a_new_store_takes_the_rules_of_version_two.Goals as goal

pub set_rules-requires : goal.set_rules-requires
set_rules-requires g c = rw c.new-store.ensures.state (no_calls version.One 0 100000 1000000)
