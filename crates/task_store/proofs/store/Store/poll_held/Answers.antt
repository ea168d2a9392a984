-- A work that is held and runs is polled.
use Rattle.std.proofs.Common.{subst}
use Rattle.std.specs.Prelude.{None, Option}
use Rattle.store_works.specs.KeptWorks.{HeldWork, MayAnswer}
use Rattle.machine_data.specs.declared.statuses.HostPoll.{HostPoll}
use Rattle.task_store.proofs.store.Store.poll_held.Goals as goal
use Rattle.task_store.specs.Hosts.{held_by}

pub unreachable-requires : goal.unreachable-requires
unreachable-requires g c =
    let left = held_by g.H.HostWork.course c.args.self.now in
    let may = subst (λ (a : Option HostPoll). MayAnswer (left c.args.number) a) c.in-None.is c.poll.ensures.answer in
    absurd (subst (λ (h : Option HeldWork). MayAnswer h None) c.requires.1 may)

pub returns-clause-answer : goal.returns-clause-answer
returns-clause-answer g c =
    subst (λ (a : Option HostPoll). MayAnswer (held_by g.H.HostWork.course c.args.self.now c.args.number) a) c.in-Some.is c.poll.ensures.answer

pub returns-clause-left : goal.returns-clause-left
returns-clause-left g c = rw c.in-Some.is at c.poll.ensures.left
