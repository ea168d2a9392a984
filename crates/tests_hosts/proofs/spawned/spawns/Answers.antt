-- A work is spawned in a new store, and may be asked to end.
use Rattle.machine_data.specs.declared.scenario.Version.TheVariants as version
use Rattle.tests_hosts.proofs.SpawnedLemmas.{given_aborted, given_queued, groups_aborted, groups_queued, none_numbered}
use Rattle.tests_hosts.proofs.spawned.spawns.Goals as goal
use Rattle.store_works.specs.declared.scripted.ScriptedHost.{ScriptedHost}
use Rattle.std.proofs.Common.{ap, arith, sym, ◌∙◌}
use Rattle.machine_data.specs.Core.{Core}
use Rattle.task_store.proofs.HostLemmas.{new_holds}
use Rattle.ops_turns.proofs.FreshLemmas.{given_fresh}
use Rattle.ops_turns.specs.Turn.{given}
use Rattle.core_primitives.specs.StateView.{StateView}

pub spawn-requires : goal.spawn-requires
spawn-requires g c = rw (c.requires.fresh, given_fresh) (omega arith)

pub abort-requires-clause-hosts : goal.abort-requires-clause-hosts
abort-requires-clause-hosts g c =
    let core = ap (λ (v : StateView). v.core) c.requires.fresh in
    c.spawn.ensures.spawns.hosts (none_numbered _ 1 100000 c.args.table core) (new_holds (λ (w : ScriptedHost). w.left) c.args.store.now version.One 1 100000 c.args.table c.requires.works core)

pub returns-after-matches-clause-order : goal.returns-after-matches-clause-order
returns-after-matches-clause-order g c d p in_turn = c.abort.ensures.order d p (c.spawn.ensures.spawns.order d p in_turn)

pub returns-after-matches-clause-given : goal.returns-after-matches-clause-given
returns-after-matches-clause-given g c = rw c.abort.ensures.state (given_aborted _ _ ∙ rw (c.in-Ok.ensures.spawns.core, c.requires.fresh) (given_queued _ 1 100000 c.args.table))

pub returns-after-matches-clause-groups : goal.returns-after-matches-clause-groups
returns-after-matches-clause-groups g c is = rw c.abort.ensures.state (c.spawn.ensures.spawns.tags.same ∙ (is ∙ sym (groups_aborted _ _ ∙ (ap (λ (u : Core). u.groups) c.in-Ok.ensures.spawns.core ∙ groups_queued _ _))))

pub returns-else-aborts-clause-order : goal.returns-else-aborts-clause-order
returns-else-aborts-clause-order g c d p in_turn = c.spawn.ensures.spawns.order d p in_turn

pub returns-else-aborts-clause-given : goal.returns-else-aborts-clause-given
returns-else-aborts-clause-given g c = rw (c.in-Ok.ensures.spawns.core, c.requires.fresh) (given_queued _ 1 100000 c.args.table)

pub returns-else-aborts-clause-hosts : goal.returns-else-aborts-clause-hosts
returns-else-aborts-clause-hosts g c =
    let core = ap (λ (v : StateView). v.core) c.requires.fresh in
    c.spawn.ensures.spawns.hosts (none_numbered _ 1 100000 c.args.table core) (new_holds (λ (w : ScriptedHost). w.left) c.args.store.now version.One 1 100000 c.args.table c.requires.works core)

pub returns-else-aborts-clause-groups : goal.returns-else-aborts-clause-groups
returns-else-aborts-clause-groups g c is = c.spawn.ensures.spawns.tags.same ∙ (is ∙ sym (ap (λ (u : Core). u.groups) c.in-Ok.ensures.spawns.core ∙ groups_queued _ _))
