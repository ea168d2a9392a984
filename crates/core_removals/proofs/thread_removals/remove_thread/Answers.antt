use Rattle.core_removals.proofs.thread_removals.remove_thread.Goals as goal
use Rattle.core_records.proofs.Core.{inr}

pub drop_thread-requires-clause-place : goal.drop_thread-requires-clause-place
drop_thread-requires-clause-place c = inr (c.runs.ensures c.if-runs.true)
