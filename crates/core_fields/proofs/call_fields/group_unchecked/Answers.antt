use Rattle.core_fields.proofs.CallPlaceLemmas.{call_there, group_at}
use Rattle.core_fields.proofs.GroupLemmas.{call_has_group}
use Rattle.core_fields.proofs.call_fields.group_unchecked.Goals as goal
use Rattle.core_records.proofs.Core.{ap, if_tracked, tracked_in, parts_of, seen, task_of, thread_of, ◌∙◌}
use Rattle.core_records.proofs.HomeLemmas.{task_live, task_place}

pub there-item-requires : goal.there-item-requires
there-item-requires c =
    let a = c.args.parts.now in
    let g = c.thread_there-entry.result.now in
    let is = c.thread_there-entry.ensures.item in
    call_there a g.task (task_of (thread_of (seen a) c.args.thread) (seen a).core) (task_place a c.requires.sound c.args.thread g is) (task_live a c.requires.sound c.args.thread g is)

pub if_tracked-requires-clause-record : goal.if_tracked-requires-clause-record
if_tracked-requires-clause-record c =
    let a = c.args.parts.now in
    let g = c.thread_there-entry.result.now in
    let is = c.thread_there-entry.ensures.item in
    call_has_group a c.requires.sound g.task (task_of (thread_of (seen a) c.args.thread) (seen a).core) (task_place a c.requires.sound c.args.thread g is) (task_live a c.requires.sound c.args.thread g is) c.there-item.result.now c.there-item.ensures

pub returns : goal.returns
unfolding seen
returns c =
    let a = c.args.parts.now in
    let g = c.thread_there-entry.result.now in
    let is = c.thread_there-entry.ensures.item in
    c.if_tracked.ensures
    ∙ ap (if_tracked (tracked_in (parts_of a)))
    (group_at a g.task (task_of (thread_of (seen a) c.args.thread) (seen a).core) (task_place a c.requires.sound c.args.thread g is) (task_live a c.requires.sound c.args.thread g is) c.requires.sound c.there-item.result.now c.there-item.ensures)
