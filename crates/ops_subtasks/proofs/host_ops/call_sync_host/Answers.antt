use Rattle.ops_subtasks.proofs.host_ops.call_sync_host.Goals as goal

pub returns-clause-does : goal.returns-clause-does
returns-clause-does g c = rw c.first_of-first.ensures at c.call_sync_host_found.ensures.does

pub returns-clause-work : goal.returns-clause-work
returns-clause-work g c = rw c.first_of-first.ensures at c.call_sync_host_found.ensures.work
