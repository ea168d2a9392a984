use Rattle.core_fields.proofs.CallPlaceLemmas.{call_there, callee_at}
use Rattle.core_fields.proofs.thread_fields.at.Goals as goal
use Rattle.core_records.proofs.Core.{seen, task_of, thread_of}
use Rattle.core_records.proofs.HomeLemmas.{task_live, task_place}

pub there-item-requires : goal.there-item-requires
there-item-requires c =
    let a = c.args.parts.now in
    let g = c.thread_there-entry.result.now in
    let is = c.thread_there-entry.ensures.item in
    call_there a g.task (task_of (thread_of (seen a) c.args.thread) (seen a).core) (task_place a c.requires.sound c.args.thread g is) (task_live a c.requires.sound c.args.thread g is)

pub returns-clause-callee : goal.returns-clause-callee
returns-clause-callee c =
    let a = c.args.parts.now in
    let g = c.thread_there-entry.result.now in
    let is = c.thread_there-entry.ensures.item in
    callee_at a g.task (task_of (thread_of (seen a) c.args.thread) (seen a).core) (task_place a c.requires.sound c.args.thread g is) (task_live a c.requires.sound c.args.thread g is) c.requires.sound c.there-item.result.now c.there-item.ensures
