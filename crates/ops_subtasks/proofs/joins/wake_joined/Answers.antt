use Rattle.ops_subtasks.proofs.joins.wake_joined.Goals as goal

pub wake-requires-clause-unqueued : goal.wake-requires-clause-unqueued
wake-requires-clause-unqueued g c = c.requires.idle.waiters _
