use Rattle.core_fields.proofs.thread_fields.task_unchecked.Goals as goal
use Rattle.core_records.proofs.Core.{seen, subst, sym, task_of, thread_of, ℕ, ◌<◌, ◌∙◌}
use Rattle.core_records.proofs.HomeLemmas.{task_live, task_place}

pub call_at_unchecked-requires : goal.call_at_unchecked-requires
call_at_unchecked-requires c =
    let a = c.args.parts.now in
    let g = c.thread_there-entry.result.now in
    let is = c.thread_there-entry.ensures.item in
    subst (λ (k : ℕ). 0 < k) (sym (task_place a c.requires.sound c.args.thread g is)) (task_live a c.requires.sound c.args.thread g is)

pub returns-clause-is : goal.returns-clause-is
returns-clause-is c =
    let a = c.args.parts.now in
    let g = c.thread_there-entry.result.now in
    let is = c.thread_there-entry.ensures.item in
    c.call_at_unchecked.ensures ∙ task_place a c.requires.sound c.args.thread g is

pub returns-clause-live : goal.returns-clause-live
returns-clause-live c =
    let a = c.args.parts.now in
    let g = c.thread_there-entry.result.now in
    let is = c.thread_there-entry.ensures.item in
    subst (λ (k : ℕ). 0 < k) (sym (c.call_at_unchecked.ensures ∙ task_place a c.requires.sound c.args.thread g is)) (task_live a c.requires.sound c.args.thread g is)
