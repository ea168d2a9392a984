use Rattle.core_removals.proofs.thread_removals.with_call.Goals as goal
use Rattle.core_records.proofs.Core.{subst, sym, ℕ, ◌<◌, ◌∙◌}
use Rattle.core_records.proofs.HomeLemmas.{task_live, task_place, thread_task}

pub call_at_unchecked-task-requires : goal.call_at_unchecked-task-requires
call_at_unchecked-task-requires c =
    let a = c.args.parts.now in
    let g = c.thread_there-found.result.now in
    let is = c.thread_there-found.ensures.item in
    subst (λ (k : ℕ). 0 < k) (sym (task_place a c.requires.sound c.args.thread g is)) (task_live a c.requires.sound c.args.thread g is)

pub call_there-requires-clause-live : goal.call_there-requires-clause-live
call_there-requires-clause-live c =
    let a = c.args.parts.now in
    let g = c.thread_there-found.result.now in
    let is = c.thread_there-found.ensures.item in
    subst (λ (k : ℕ). 0 < k) (sym (c.call_at_unchecked-task.ensures ∙ task_place a c.requires.sound c.args.thread g is)) (task_live a c.requires.sound c.args.thread g is)

pub returns-clause-of : goal.returns-clause-of
returns-clause-of c =
    let a = c.args.parts.now in
    let g = c.thread_there-found.result.now in
    let is = c.thread_there-found.ensures.item in
    c.call_there.ensures.number ∙ (c.call_at_unchecked-task.ensures ∙ (task_place a c.requires.sound c.args.thread g is ∙ thread_task a c.requires.sound c.args.thread g is))
