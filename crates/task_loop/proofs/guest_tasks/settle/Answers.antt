-- In a trapped store all groups have ended.
use Rattle.std.proofs.Common.{arith, refl, subst, sym, ◌∙◌}
use Rattle.std.specs.Prelude.{Bool}
use Rattle.task_loop.proofs.HookLemmas.{always_hook_is_ok, silent, if_hook_ok_failed}
use Rattle.task_loop.proofs.guest_tasks.settle.Goals as goal
use Rattle.task_loop.specs.Begun.{SettlesGroups}

pub returns-then-not-trapped-clause-answer : goal.returns-then-not-trapped-clause-answer
returns-then-not-trapped-clause-answer g c = always_hook_is_ok g.G.TaskGroupHook.listens c.args.listeners.now c.args.listeners.now _ refl

pub returns-then-not-trapped-clause-settles : goal.returns-then-not-trapped-clause-settles
returns-then-not-trapped-clause-settles g c =
    let s = c.args.core.now in
    subst (λ (b : Bool). SettlesGroups b s s c.args.listeners.now c.args.listeners.now) (sym (sym c.trapped.ensures ∙ c.if-not-trapped.true)) (refl, refl)

pub returns-in_default-clause-answer : goal.returns-in_default-clause-answer
returns-in_default-clause-answer g c =
    let a = c.args.listeners.now in
    let b = c.finish_ended.new.listeners in
    let hooked = c.is_hooked-hooked.ensures in
    if_hook_ok_failed g.G.TaskGroupHook.listens a b _
    (λ off err. silent g.G.TaskGroupHook.listens c.is_hooked-hooked.result a b hooked.listens hooked.hook c.in_default.ensures.hook.hook off err)
    c.in_default.ensures.hook.failed

pub returns-in_default-clause-settles : goal.returns-in_default-clause-settles
returns-in_default-clause-settles g c =
    subst (λ (b : Bool). SettlesGroups b c.args.core.now c.finish_ended.new.core c.args.listeners.now c.finish_ended.new.listeners) (sym (sym c.trapped.ensures ∙ c.if-not-trapped.false))
    (c.finish_ended.ensures.asked, c.finish_ended.ensures.told)

pub returns-clause-answer : goal.returns-clause-answer
returns-clause-answer g c = always_hook_is_ok g.G.TaskGroupHook.listens c.args.listeners.now c.finish_ended.new.listeners _ refl

pub returns-clause-failed : goal.returns-clause-failed
returns-clause-failed g c = λ err. let same = c.in-Ok.ensures.hook.hook_is_ok in absurd (omega (arith, err, same))

pub returns-clause-settles : goal.returns-clause-settles
returns-clause-settles g c =
    subst (λ (b : Bool). SettlesGroups b c.args.core.now c.finish_ended.new.core c.args.listeners.now c.finish_ended.new.listeners) (sym (sym c.trapped.ensures ∙ c.if-not-trapped.false))
    (c.finish_ended.ensures.asked, c.finish_ended.ensures.told)
