use Rattle.table_lists.proofs.Refilings.{Refiles-removed, refiled_free}
use Rattle.table_lists.proofs.filed.unfile.Goals as goal

pub returns-clause-links : goal.returns-clause-links
returns-clause-links g c = Refiles-removed c.args.links.now c.remove.new.self c.args.node.index c.no_node_is_twice.ensures c.requires c.remove.ensures.links

pub returns-clause-free : goal.returns-clause-free
returns-clause-free g c = refiled_free c.args.links.now c.remove.new.self c.args.node.index c.requires (Refiles-removed c.args.links.now c.remove.new.self c.args.node.index c.no_node_is_twice.ensures c.requires c.remove.ensures.links)
