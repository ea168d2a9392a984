use Rattle.core_records.proofs.ReadLemmas.{set_item, set_named, set_read, set_stands}
use Rattle.core_records.proofs.reads.set_there.Goals as goal

pub there-requires : goal.there-requires
there-requires c = set_stands c.args.parts.now c.args.id c.requires.live

pub returns-clause-item : goal.returns-clause-item
returns-clause-item c = set_item c.args.parts.now c.args.id c.requires.live c.there.result.now c.there.ensures

pub returns-clause-is : goal.returns-clause-is
returns-clause-is c = set_read c.args.parts.now c.requires.sound c.args.id c.there.result.now (returns-clause-item c)

pub returns-clause-number : goal.returns-clause-number
returns-clause-number c = set_named c.args.parts.now c.args.id c.there.result.now (returns-clause-item c)
