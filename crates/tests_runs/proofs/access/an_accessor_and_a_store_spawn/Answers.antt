use Rattle.store_works.specs.declared.scripted.ScriptedHost.{ScriptedHost}
use Rattle.tests_runs.proofs.AccessLemmas.{few_given, none_held, none_numbered}
use Rattle.tests_runs.proofs.access.an_accessor_and_a_store_spawn.Goals as goal

pub spawn-requires : goal.spawn-requires
spawn-requires g c = record { given = few_given _ c.new_store-store.ensures.state }

pub poll-requires-clause-hosts : goal.poll-requires-clause-hosts
poll-requires-clause-hosts g c = c.spawn.ensures.spawns.hosts (none_numbered _ c.new_store-store.ensures.state) (none_held (λ (w : ScriptedHost). w.left) c.new_store-store.result c.new_store-store.ensures.state c.new_store-store.ensures.works)

pub abort-requires-clause-spawned : goal.abort-requires-clause-spawned
abort-requires-clause-spawned g c = rw c.poll.ensures.rest c.in-Ok.ensures.spawns.spawned

pub spawn-requires-2 : goal.spawn-requires-2
spawn-requires-2 g c = record { given = rw c.set-slot.ensures (few_given _ c.new_store-other.ensures.state) }
