use Rattle.core_makes.proofs.NodeLemmas.{extends_same, extends_waits, grown_by, wait_node_new}
use Rattle.core_makes.proofs.node_makes.new_wait_node.Goals as goal
use Rattle.core_records.proofs.Core.{FreeNode, sym}

pub returns-in_ok-node-clause-loose : goal.returns-in_ok-node-clause-loose
returns-in_ok-node-clause-loose c =
    let b = c.make_wait_node.new.parts in
    let n = c.in_ok-node.node in
    let one = wait_node_new c.args.parts.now b (extends_waits c.args.parts.now b (grown_by _ _ n.index FreeNode c.in_ok-node.ensures.made) c.in_ok-node.ensures.only) c.requires n.index c.in_ok-node.ensures.made in
    record { is = sym c.if-waits.true; made = one.made; free = one.free; apart = one.apart }

pub returns-in_ok-node-clause-extends : goal.returns-in_ok-node-clause-extends
returns-in_ok-node-clause-extends c =
    extends_waits c.args.parts.now c.make_wait_node.new.parts (grown_by _ _ c.in_ok-node.node.index FreeNode c.in_ok-node.ensures.made) c.in_ok-node.ensures.only

pub returns-else-waits-clause-loose : goal.returns-else-waits-clause-loose
returns-else-waits-clause-loose c = record { is = sym c.if-waits.false; made = tt; free = tt; apart = tt }

pub returns-else-waits-clause-extends : goal.returns-else-waits-clause-extends
returns-else-waits-clause-extends c = extends_same c.args.parts.now
