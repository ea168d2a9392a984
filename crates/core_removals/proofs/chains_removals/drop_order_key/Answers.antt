use Rattle.core_records.proofs.Core.{refiled_free, Refiles-removed}
use Rattle.core_removals.proofs.CloseLemmas.{dropped}
use Rattle.core_removals.proofs.chains_removals.drop_order_key.Goals as goal

pub drop_node-requires : goal.drop_node-requires
drop_node-requires c = refiled_free c.args.links.now c.remove.new.self c.args.node.index c.requires (Refiles-removed c.args.links.now c.remove.new.self c.args.node.index c.no_node_is_twice.ensures c.requires c.remove.ensures)

pub returns : goal.returns
returns c =
    let out = Refiles-removed c.args.links.now c.remove.new.self c.args.node.index c.no_node_is_twice.ensures c.requires c.remove.ensures in
    dropped c.args.links.now c.remove.new.self c.drop_node.new.self c.args.node.index out (refiled_free c.args.links.now c.remove.new.self c.args.node.index c.requires out) c.drop_node.ensures
