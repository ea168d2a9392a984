use Rattle.std.proofs.Common.{sym}
use Rattle.task_store.proofs.store.Store.poll_next.Goals as goal

pub poll-requires-clause-may : goal.poll-requires-clause-may
poll-requires-clause-may g c = rw c.tell-told.ensures.rest c.requires.may

pub poll-requires-clause-number : goal.poll-requires-clause-number
poll-requires-clause-number g c = rw c.tell-told.ensures.rest c.work_number-number.ensures

pub poll-requires-clause-next : goal.poll-requires-clause-next
poll-requires-clause-next g c = rw c.tell-told.ensures.rest (record { next = sym c.in-Some.ensures; told = c.tell-told.ensures.answer })

pub returns-clause-hosts : goal.returns-clause-hosts
returns-clause-hosts g c = c.tell-told.ensures.told c.poll.new.w.core (rw c.tell-told.ensures.rest at c.poll.ensures.core)
