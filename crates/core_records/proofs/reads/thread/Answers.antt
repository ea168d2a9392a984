use Rattle.core_records.proofs.HomeLemmas.{no_instance, thread_instance}
use Rattle.core_records.proofs.ReadLemmas.{thread_named, thread_read, thread_unnamed, thread_unread}
use Rattle.core_records.proofs.reads.thread.Goals as goal

pub returns-in-Ok-clause-is : goal.returns-in-Ok-clause-is
returns-in-Ok-clause-is c = thread_read c.args.parts.now c.requires c.args.id _ c.in-Ok.ensures

pub returns-in-Ok-clause-number : goal.returns-in-Ok-clause-number
returns-in-Ok-clause-number c = thread_named c.args.parts.now c.args.id _ c.in-Ok.ensures

pub returns-in-Err-clause-is : goal.returns-in-Err-clause-is
returns-in-Err-clause-is c = thread_unread c.args.parts.now c.requires c.args.id _ c.in-Err.ensures

pub returns-in-Err-clause-nothing : goal.returns-in-Err-clause-nothing
returns-in-Err-clause-nothing c = thread_unnamed c.args.parts.now c.args.id _ c.in-Err.ensures

pub returns-in-Ok-clause-instance : goal.returns-in-Ok-clause-instance
returns-in-Ok-clause-instance c = thread_instance c.args.parts.now c.requires c.args.id _ c.in-Ok.ensures

pub returns-in-Err-clause-stranger : goal.returns-in-Err-clause-stranger
returns-in-Err-clause-stranger c = no_instance c.args.parts.now c.requires _ (thread_unread c.args.parts.now c.requires c.args.id _ c.in-Err.ensures)
