use Rattle.core_makes.proofs.NodeLemmas.{thread_nodes_extend, thread_nodes_loose}
use Rattle.core_makes.proofs.node_makes.new_thread_nodes.Goals as goal

pub returns-clause-loose : goal.returns-clause-loose
returns-clause-loose c =
    thread_nodes_loose c.args.parts.now c.make_place_chain.new.parts c.make_place_node.new.parts c.new_wait_node.new.parts c.make_mark_node.new.parts c.make_instance_queue_node.new.parts c.make_caller_node.new.parts c.make_caller_chain.new.parts c.args.waits _
    c.requires c.in_ok-under.ensures.sound c.in_ok-wait.ensures.sound c.in_ok-mark.ensures.sound c.in_ok-instance_queue.ensures.sound c.in_ok-caller.ensures.sound
    c.in_ok-under.ensures.only c.in_ok-node.ensures.only c.in_ok-wait.ensures.extends c.in_ok-wait.ensures.loose c.in_ok-mark.ensures.only c.in_ok-instance_queue.ensures.only c.in_ok-caller.ensures.only c.in_ok-callers.ensures.only
    c.in_ok-under.ensures.made c.in_ok-node.ensures.made c.in_ok-mark.ensures.made c.in_ok-instance_queue.ensures.made c.in_ok-caller.ensures.made c.in_ok-callers.ensures.made

pub returns-clause-under : goal.returns-clause-under
returns-clause-under c = c.in_ok-under.ensures.made.named

pub returns-clause-extends : goal.returns-clause-extends
returns-clause-extends c =
    thread_nodes_extend c.args.parts.now c.make_place_chain.new.parts c.make_place_node.new.parts c.new_wait_node.new.parts c.make_mark_node.new.parts c.make_instance_queue_node.new.parts c.make_caller_node.new.parts c.make_caller_chain.new.parts c.args.waits (record { node = c.in_ok-node.node; wait = c.in_ok-wait.wait; mark = c.in_ok-mark.mark; instance_queue = c.in_ok-instance_queue.instance_queue; caller = c.in_ok-caller.caller; callers = c.in_ok-callers.callers; under = c.in_ok-under.under })
    c.requires c.in_ok-under.ensures.sound c.in_ok-wait.ensures.sound c.in_ok-mark.ensures.sound c.in_ok-instance_queue.ensures.sound c.in_ok-caller.ensures.sound
    c.in_ok-under.ensures.only c.in_ok-node.ensures.only c.in_ok-wait.ensures.extends c.in_ok-wait.ensures.loose c.in_ok-mark.ensures.only c.in_ok-instance_queue.ensures.only c.in_ok-caller.ensures.only c.in_ok-callers.ensures.only
    c.in_ok-under.ensures.made c.in_ok-node.ensures.made c.in_ok-mark.ensures.made c.in_ok-instance_queue.ensures.made c.in_ok-caller.ensures.made c.in_ok-callers.ensures.made
