use Rattle.core_records.proofs.ReadLemmas.{work_item, work_named, work_read, work_stands}
use Rattle.core_records.proofs.reads.work_there.Goals as goal

pub there-requires : goal.there-requires
there-requires c = work_stands c.args.parts.now c.args.id c.requires.live

pub returns-clause-item : goal.returns-clause-item
returns-clause-item c = work_item c.args.parts.now c.args.id c.requires.live c.there.result.now c.there.ensures

pub returns-clause-is : goal.returns-clause-is
returns-clause-is c = work_read c.args.parts.now c.requires.sound c.args.id c.there.result.now (returns-clause-item c)

pub returns-clause-number : goal.returns-clause-number
returns-clause-number c = work_named c.args.parts.now c.args.id c.there.result.now (returns-clause-item c)
