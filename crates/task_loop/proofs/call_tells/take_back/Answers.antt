-- What was told is taken back.
use Rattle.std.proofs.Common.{refl, sym, ◌∙◌}
use Rattle.task_loop.proofs.HookLemmas.{always_hook_is_ok, silent, if_hook_ok_failed}
use Rattle.task_loop.proofs.HookStartLemmas.{told_hook_is_ok, told_failed}
use Rattle.task_loop.proofs.call_tells.take_back.Goals as goal

pub returns-then-is_err-clause-answer : goal.returns-then-is_err-clause-answer
returns-then-is_err-clause-answer g c =
    let a = c.args.listeners.now in
    let b = c.tell.new.self in
    let hooked = c.is_hooked-hooked.ensures in
    if_hook_ok_failed g.G.TaskGroupHook.listens a b _
    (λ off err. silent g.G.TaskGroupHook.listens c.is_hooked-hooked.result a b hooked.listens hooked.hook c.tell.ensures.told.same_hook off err)
    (told_failed c.tell.result a b c.tell.ensures.answer (sym c.is_err.ensures.value ∙ c.if-is_err.true))

pub returns-clause-answer : goal.returns-clause-answer
returns-clause-answer g c = always_hook_is_ok g.G.TaskGroupHook.listens c.args.listeners.now c.tell.new.self _ refl

pub returns-clause-failed : goal.returns-clause-failed
returns-clause-failed g c = λ err. absurd (told_hook_is_ok c.tell.result c.args.listeners.now c.tell.new.self c.tell.ensures.answer (sym c.is_err.ensures.value ∙ c.if-is_err.false) err)
