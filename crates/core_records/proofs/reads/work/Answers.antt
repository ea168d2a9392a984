use Rattle.core_records.proofs.ReadLemmas.{work_named, work_read, work_unnamed, work_unread}
use Rattle.core_records.proofs.reads.work.Goals as goal

pub returns-in-Ok-clause-is : goal.returns-in-Ok-clause-is
returns-in-Ok-clause-is c = work_read c.args.parts.now c.requires c.args.id _ c.in-Ok.ensures

pub returns-in-Ok-clause-number : goal.returns-in-Ok-clause-number
returns-in-Ok-clause-number c = work_named c.args.parts.now c.args.id _ c.in-Ok.ensures

pub returns-in-Err-clause-is : goal.returns-in-Err-clause-is
returns-in-Err-clause-is c = work_unread c.args.parts.now c.requires c.args.id _ c.in-Err.ensures

pub returns-in-Err-clause-nothing : goal.returns-in-Err-clause-nothing
returns-in-Err-clause-nothing c = work_unnamed c.args.parts.now c.args.id _ c.in-Err.ensures
