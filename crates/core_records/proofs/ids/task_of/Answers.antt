use Rattle.core_records.proofs.Core.{ap, arith, call_number, IsSoundCore, option_map_or, seen, subst, sym, Thread, ℕ, ◌<◌, ◌∙◌}
use Rattle.core_records.specs.declared.{call_records.GuestTask.GuestTask}
use Rattle.core_records.proofs.HomeLemmas.{task_live, task_place}
use Rattle.core_records.proofs.StandLemmas.{shown_beyond}
use Rattle.core_records.proofs.ids.task_of.Goals as goal

pub call_at_unchecked-requires : goal.call_at_unchecked-requires
call_at_unchecked-requires c =
    let a = c.args.parts.now in
    subst (λ (k : ℕ). 0 < k) (sym (task_place a c.requires c.args.thread c.in-Some.entry.now c.in-Some.ensures.item)) (task_live a c.requires c.args.thread c.in-Some.entry.now c.in-Some.ensures.item)

pub returns-in-Some-clause-is : goal.returns-in-Some-clause-is
returns-in-Some-clause-is c = c.call_at_unchecked.ensures ∙ task_place c.args.parts.now c.requires c.args.thread c.in-Some.entry.now c.in-Some.ensures.item

pub returns-in-None-clause-is : goal.returns-in-None-clause-is
unfolding seen IsSoundCore call_number
returns-in-None-clause-is c =
    let a = c.args.parts.now in
    shown_beyond (λ (g : GuestTask). g.number) (λ (g : GuestTask). g.call) a.calls c.nowhere.result.rep c.nowhere.result.serial a.made.threads c.requires.tables.calls c.nowhere.ensures
    ∙ ap (λ o. option_map_or (λ (t : Thread). t.call) o 0) c.in-None.ensures.is

pub returns-in-Some-clause-live : goal.returns-in-Some-clause-live
returns-in-Some-clause-live c there =
    let a = c.args.parts.now in
    let at = c.call_at_unchecked.ensures ∙ task_place a c.requires c.args.thread c.in-Some.entry.now c.in-Some.ensures.item in
    subst (λ (k : ℕ). 0 < k) (sym at) (task_live a c.requires c.args.thread c.in-Some.entry.now c.in-Some.ensures.item)

pub returns-in-None-clause-live : goal.returns-in-None-clause-live
returns-in-None-clause-live c there = let none = c.in-None.ensures.nothing in absurd (omega (arith, none, there))
