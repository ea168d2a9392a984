use Rattle.core_fields.proofs.names.op_progress.Goals as goal
use Rattle.core_records.proofs.HomeLemmas.{thread_home, place_bare}

pub op_progress_id-requires-clause-at : goal.op_progress_id-requires-clause-at
op_progress_id-requires-clause-at c = place_bare c.args.parts.now _ _ (thread_home c.args.parts.now c.requires c.args.thread c.in-Some.entry.now c.in-Some.ensures.item).op_progress
