use Rattle.std.proofs.Common.{Some, None}
use Rattle.table_lists.proofs.Refilings.{Refiles-linked, Refiles-twice, last_linked}
use Rattle.table_lists.proofs.filed.file.Goals as goal

pub returns-clause-links : goal.returns-clause-links
returns-clause-links g c = Refiles-twice c.args.links.now c.unfile.new.links c.push_back.new.self c.args.node.index None (Some (c.args.chain, c.args.value)) c.unfile.ensures.links (Refiles-linked c.unfile.new.links c.push_back.new.self c.args.chain c.args.node.index c.args.value _ (c.unfile.ensures.links.live c.args.chain c.requires.live) (c.unfile.ensures.links.made c.args.node.index c.requires.made) c.push_back.ensures)

pub returns-clause-last : goal.returns-clause-last
returns-clause-last g c = last_linked c.unfile.new.links c.push_back.new.self c.args.chain c.args.node.index c.args.value _ (c.unfile.ensures.links.live c.args.chain c.requires.live) (c.unfile.ensures.links.made c.args.node.index c.requires.made) c.push_back.ensures
