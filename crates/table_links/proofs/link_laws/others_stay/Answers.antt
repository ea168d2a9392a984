use Rattle.table_links.proofs.ReadLemmas.{ChangesOnly-linked, ChangesOnly-unlinked}
use Rattle.table_links.proofs.link_laws.others_stay.Goals as goal

pub returns-clause-linked : goal.returns-clause-linked
returns-clause-linked g c = λ value list. ChangesOnly-linked c.args.links.now c.args.chain c.args.node.index list c.requires.chain c.requires.made value

pub returns-clause-unlinked : goal.returns-clause-unlinked
returns-clause-unlinked g c = λ list. ChangesOnly-unlinked c.args.links.now c.args.chain c.args.node.index list c.requires.chain c.requires.made
