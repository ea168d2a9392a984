use Rattle.std.proofs.Common.{subst}
use Rattle.std.specs.Prelude.{◌↔◌, ◌≡◌}
use Rattle.futures.specs.declared.task.Poll.TheVariants as polls
use Rattle.store_works.specs.KeptWorks.{held}
use Rattle.machine_data.specs.declared.statuses.Phase.{Phase}
use Rattle.machine_data.specs.declared.statuses.Phase.TheVariants as phases
use Rattle.task_store.proofs.HostLemmas.{found_is, holds_as}
use Rattle.task_store.proofs.SpawnLemmas.{poll_is, spawn_caller}
use Rattle.task_store.proofs.spawn.SpawnHandle.poll.Goals as goal
use Rattle.task_store.specs.Hosts.{held_by}

pub returns-clause-answer : goal.returns-clause-answer
returns-clause-answer g c =
    let store = c.args.store.now in
    let found = found_is c.args.self.now.number store.state.core (held_by g.H.HostWork.course store) (spawn_caller c.args.self.now.number store.state.core c.requires.spawned.there) c.requires.hosts in
    poll_is c.poll_handle.result _ (subst (λ (p : Phase). (c.poll_handle.result ≡ polls.Ready tt) ↔ (p ≡ phases.Complete)) found c.poll_handle.ensures.answer)

pub returns-clause-hosts : goal.returns-clause-hosts
returns-clause-hosts g c =
    let store = c.args.store.now in
    holds_as store.state.core (held_by g.H.HostWork.course store) (held g.H.HostWork.course c.poll_handle.new.self) c.poll_handle.ensures.held c.requires.hosts
