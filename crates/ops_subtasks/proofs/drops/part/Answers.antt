use Rattle.ops_subtasks.proofs.DropLemmas.{freed_entries, freed_live, parted_core, parted_named, parted_tags, parted_thread}
use Rattle.ops_subtasks.proofs.drops.part.Goals as goal

pub free_handle-requires : goal.free_handle-requires
free_handle-requires g c =
    let v = g.W.View.view in
    parted_named c.args.thread c.args.subtask _ c.args.handle (v c.args.w.now) _ (v c.set_subtask_handle.new.self) (v c.set_subtask_handle.new.self) c.set_join.ensures c.set_subtask_handle.ensures c.instance_of-instance.ensures c.requires.names

pub settle-requires-clause-live : goal.settle-requires-clause-live
settle-requires-clause-live g c =
    let v = g.W.View.view in
    freed_live c.args.thread c.args.subtask _ c.args.handle (v c.args.w.now) _ _ (v c.free_handle.new.self) c.set_join.ensures c.set_subtask_handle.ensures c.free_handle.ensures c.none_is_zero.ensures.calls c.requires.ended

pub settle-requires-clause-unqueued : goal.settle-requires-clause-unqueued
settle-requires-clause-unqueued g c =
    let v = g.W.View.view in
    freed_entries c.args.thread c.args.subtask _ c.args.handle (v c.args.w.now) _ _ (v c.free_handle.new.self) c.set_join.ensures c.set_subtask_handle.ensures c.free_handle.ensures c.requires.works c.requires.ended

pub returns-clause-core : goal.returns-clause-core
returns-clause-core g c =
    let v = g.W.View.view in
    parted_core c.args.thread c.args.subtask _ c.args.handle (v c.args.w.now) _ _ (v c.free_handle.new.self) c.set_join.ensures c.set_subtask_handle.ensures c.free_handle.ensures (v c.settle.new.w) c.settle.ensures.core c.settle.ensures.tags c.requires.live c.instance_of-instance.ensures

pub returns-clause-tags : goal.returns-clause-tags
returns-clause-tags g c =
    let v = g.W.View.view in
    parted_tags c.args.thread c.args.subtask _ c.args.handle (v c.args.w.now) _ _ (v c.free_handle.new.self) c.set_join.ensures c.set_subtask_handle.ensures c.free_handle.ensures (v c.settle.new.w) c.settle.ensures.core c.settle.ensures.tags c.requires.live

pub returns-clause-thread : goal.returns-clause-thread
returns-clause-thread g c =
    let v = g.W.View.view in
    parted_thread c.args.thread c.args.subtask _ c.args.handle (v c.args.w.now) _ _ (v c.free_handle.new.self) c.set_join.ensures c.set_subtask_handle.ensures c.free_handle.ensures (v c.settle.new.w) c.settle.ensures.core c.settle.ensures.tags c.requires.live
