use Rattle.core_fields.proofs.CallPlaceLemmas.{call_stands, group_at}
use Rattle.core_fields.proofs.GroupLemmas.{call_has_group}
use Rattle.core_fields.proofs.call_fields.thread_group.Goals as goal
use Rattle.core_records.proofs.Core.{ap, Call, call_group, if_tracked, tracked_in, option_map_or, parts_of, seen, sym, task_of, Thread, thread_of, ◌∙◌}
use Rattle.core_records.proofs.HomeLemmas.{no_call, task_live, task_place}
use Rattle.core_fields.proofs.GroupLemmas.{none_known}

pub if_tracked-requires-clause-record : goal.if_tracked-requires-clause-record
if_tracked-requires-clause-record c =
    let a = c.args.parts.now in
    let g = c.in-Some.entry.now in
    let is = c.in-Some.ensures.item in
    call_has_group a c.requires g.task (task_of (thread_of (seen a) c.args.thread) (seen a).core) (task_place a c.requires c.args.thread g is) (task_live a c.requires c.args.thread g is) c.in-Some-item_at.item.now c.in-Some-item_at.ensures

pub returns-in-Some-item_at : goal.returns-in-Some-item_at
unfolding seen
returns-in-Some-item_at c =
    let a = c.args.parts.now in
    let g = c.in-Some.entry.now in
    let is = c.in-Some.ensures.item in
    c.if_tracked.ensures
    ∙ ap (if_tracked (tracked_in (parts_of a)))
    (group_at a g.task (task_of (thread_of (seen a) c.args.thread) (seen a).core) (task_place a c.requires c.args.thread g is) (task_live a c.requires c.args.thread g is) c.requires c.in-Some-item_at.item.now c.in-Some-item_at.ensures)

pub returns-in-None-item_at : goal.returns-in-None-item_at
returns-in-None-item_at c =
    let a = c.args.parts.now in
    let g = c.in-Some.entry.now in
    let is = c.in-Some.ensures.item in
    absurd (call_stands a g.task (task_of (thread_of (seen a) c.args.thread) (seen a).core) (task_place a c.requires c.args.thread g is) (task_live a c.requires c.args.thread g is) c.in-None-item_at.ensures)

pub returns-in-None : goal.returns-in-None
unfolding seen
returns-in-None c =
    let a = c.args.parts.now in
    none_known a c.requires
    ∙ ap (if_tracked (tracked_in (parts_of a)))
    (sym (ap (λ o. call_group (option_map_or (λ (t : Thread). t.call) o 0) (seen a).core) (sym c.in-None.ensures.is) ∙ ap (λ o. option_map_or (λ (k : Call). k.group) o 0) (no_call a c.requires)))
