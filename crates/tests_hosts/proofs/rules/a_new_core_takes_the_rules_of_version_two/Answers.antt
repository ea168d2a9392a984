-- A new core has no call.
use Rattle.machine_data.proofs.SizeLemmas.{size-empty}
use Rattle.machine_data.specs.Core.{fresh}
use Rattle.machine_data.specs.Maps.{size}
use Rattle.machine_data.specs.declared.records.Call.{Call}
use Rattle.machine_data.specs.declared.scenario.Version.TheVariants as version
use Rattle.std.proofs.Common.{◌≡◌}
use Rattle.tests_hosts.proofs.rules.a_new_core_takes_the_rules_of_version_two.Goals as goal

no_calls : size (fresh version.One 0 100000 1000000).calls ≡ 0
unfolding fresh
no_calls = size-empty Call

pub set_rules-requires : goal.set_rules-requires
set_rules-requires g c = rw c.new-core.ensures no_calls
