-- The store has its instance, and nothing was made in it.
use Rattle.machine_data.specs.declared.scenario.Version.TheVariants as version
use Rattle.tests_hosts.proofs.between.results_in.Goals as goal
use Rattle.std.proofs.Common.{ap, refl, ℕ}
use Rattle.std.specs.Prelude.{IsSome, is_some}
use Rattle.machine_data.proofs.MapLemmas.{get-insert_same}
use Rattle.machine_data.specs.Core.{fresh, untouched}
use Rattle.machine_data.specs.Maps.{empty, get}
use Rattle.ops_turns.proofs.FreshLemmas.{given_fresh}

instance_unchecked : (limit room : ℕ) → IsSome (get (fresh version.One 1 limit room).instances 0)
unfolding fresh
instance_unchecked limit room = ap is_some (get-insert_same empty 0 untouched)

pub begins_and_runs-begun-requires-clause-there : goal.begins_and_runs-begun-requires-clause-there
begins_and_runs-begun-requires-clause-there g c = rw c.watched-store.ensures.state (instance_unchecked 100000 100)

pub begins_and_runs-begun-requires-clause-given : goal.begins_and_runs-begun-requires-clause-given
begins_and_runs-begun-requires-clause-given g c = rw (c.watched-store.ensures.state, given_fresh) refl
