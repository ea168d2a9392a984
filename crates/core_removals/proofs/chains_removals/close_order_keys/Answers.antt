use Rattle.core_removals.proofs.CloseLemmas.{closed, fewer, goes_on, head_made, starts, all_out}
use Rattle.core_removals.proofs.chains_removals.close_order_keys.Goals as goal

pub loop-node-init : goal.loop-node-init
loop-node-init c = starts c.args.links.now c.args.chain c.requires

pub remove-requires : goal.remove-requires
remove-requires c = head_made c.args.links.now c.loop-node.links c.args.chain c.in-Some.node.index c.in-Some.field-0-1 c.loop-node.invariant c.first.ensures.sound c.in-Some.ensures.entry

pub loop-node-smaller : goal.loop-node-smaller
loop-node-smaller c = fewer c.args.links.now c.loop-node.links c.args.chain c.in-Some.node.index c.in-Some.field-0-1 c.loop-node.invariant c.first.ensures.sound c.in-Some.ensures.entry c.remove.new.self c.remove.ensures

pub loop-node-preserved : goal.loop-node-preserved
loop-node-preserved c = goes_on c.args.links.now c.loop-node.links c.args.chain c.in-Some.node.index c.in-Some.field-0-1 c.loop-node.invariant c.first.ensures.sound c.in-Some.ensures.entry c.remove.new.self c.remove.ensures

pub drop_chain-requires : goal.drop_chain-requires
drop_chain-requires c = all_out c.args.links.now c.loop-node.links c.args.chain c.loop-node.invariant c.in_default.ensures.sound c.in_default.ensures.entry

pub returns : goal.returns
returns c = closed c.args.links.now c.loop-node.links c.args.chain c.loop-node.invariant c.in_default.ensures.sound c.in_default.ensures.entry c.drop_chain.new.self c.drop_chain.ensures
