use Rattle.core_records.proofs.HomeLemmas.{thread_instance}
use Rattle.core_records.proofs.ReadLemmas.{thread_item, thread_named, thread_read, thread_stands}
use Rattle.core_records.proofs.reads.thread_there.Goals as goal

pub there-requires : goal.there-requires
there-requires c = thread_stands c.args.parts.now c.args.id c.requires.live

pub returns-clause-item : goal.returns-clause-item
returns-clause-item c = thread_item c.args.parts.now c.args.id c.requires.live c.there.result.now c.there.ensures

pub returns-clause-is : goal.returns-clause-is
returns-clause-is c = thread_read c.args.parts.now c.requires.sound c.args.id c.there.result.now (returns-clause-item c)

pub returns-clause-number : goal.returns-clause-number
returns-clause-number c = thread_named c.args.parts.now c.args.id c.there.result.now (returns-clause-item c)

pub returns-clause-instance : goal.returns-clause-instance
returns-clause-instance c = thread_instance c.args.parts.now c.requires.sound c.args.id c.there.result.now (returns-clause-item c)
