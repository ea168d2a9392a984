use Rattle.core_records.proofs.HomeLemmas.{thread_barred}
use Rattle.core_fields.proofs.thread_fields.is_barred.Goals as goal

pub returns : goal.returns
returns c = thread_barred c.args.parts.now c.requires.sound c.args.thread c.thread_there.result.now c.thread_there.ensures.item
