use Rattle.core_removals.proofs.queued.queue_spawn.Goals as goal

pub queue_work-requires-clause-nodes : goal.queue_work-requires-clause-nodes
queue_work-requires-clause-nodes c = record { loose = c.in-Ok.ensures.loose; high = c.in-Ok.ensures.high; live = c.in-Ok.ensures.live }
