use Rattle.core_records.proofs.Core.{sym, ◌∙◌}
use Rattle.core_queues.proofs.LeaveLemmas.{mark_is_made, instance_queue_is_made, thread_leaves, work_leaves}
use Rattle.core_queues.proofs.removals.leave.Goals as goal

pub remove-requires : goal.remove-requires
remove-requires c = mark_is_made c.args.parts.now c.requires.sound c.args.queued c.requires.keyed

pub remove-requires-then-is_some : goal.remove-requires-then-is_some
remove-requires-then-is_some c = instance_queue_is_made c.args.parts.now c.requires.sound c.args.queued c.requires.keyed (sym c.is_some.ensures ∙ c.if-is_some.true)

pub returns-then-is_some-clause-rows : goal.returns-then-is_some-clause-rows
returns-then-is_some-clause-rows c = thread_leaves c.args.parts.now c.requires.sound c.args.queued c.requires.keyed c.no_node_is_twice.ensures c.remove.new.self c.remove.ensures.links (sym c.is_some.ensures ∙ c.if-is_some.true) c.no_node_is_twice-then-is_some.ensures c.remove-then-is_some.new.self c.remove-then-is_some.ensures.links

pub returns-else-is_some-clause-rows : goal.returns-else-is_some-clause-rows
returns-else-is_some-clause-rows c = work_leaves c.args.parts.now c.requires.sound c.args.queued c.requires.keyed c.no_node_is_twice.ensures c.remove.new.self c.remove.ensures.links (sym c.is_some.ensures ∙ c.if-is_some.false)
