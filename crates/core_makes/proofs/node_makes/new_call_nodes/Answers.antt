use Rattle.core_makes.proofs.NodeLemmas.{call_nodes_extend, call_nodes_loose}
use Rattle.core_makes.proofs.node_makes.new_call_nodes.Goals as goal

pub returns-clause-loose : goal.returns-clause-loose
returns-clause-loose c =
    call_nodes_loose c.args.parts.now c.make_ready_call_node.new.parts c.make_place_chain.new.parts c.new_wait_chain.new.parts c.args.waits _
    c.requires c.in_ok-ready.ensures.sound c.in_ok-ready.ensures.only c.in_ok-blocked.ensures.only c.in_ok-ready.ensures.made c.in_ok-blocked.ensures.made c.in_ok-waits.ensures.extends c.in_ok-waits.ensures.loose

pub returns-clause-extends : goal.returns-clause-extends
returns-clause-extends c =
    call_nodes_extend c.args.parts.now c.make_ready_call_node.new.parts c.make_place_chain.new.parts c.new_wait_chain.new.parts c.args.waits (record { ready = c.in_ok-ready.ready; blocked = c.in_ok-blocked.blocked; waits = c.in_ok-waits.waits })
    c.requires c.in_ok-ready.ensures.sound c.in_ok-ready.ensures.only c.in_ok-blocked.ensures.only c.in_ok-ready.ensures.made c.in_ok-blocked.ensures.made c.in_ok-waits.ensures.extends c.in_ok-waits.ensures.loose
