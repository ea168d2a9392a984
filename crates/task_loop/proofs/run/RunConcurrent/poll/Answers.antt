-- What the turns gave, a poll gives.
use Rattle.std.proofs.Common.{ap, refl}
use Rattle.task_loop.proofs.HasRunLemmas.{has_failed, has_lost, polls_failed, polls_on}
use Rattle.task_loop.proofs.run.RunConcurrent.poll.Goals as goal
use Rattle.task_store.specs.declared.store.Store.{Store}

pub returns-in-Ok-clause-polls : goal.returns-in-Ok-clause-polls
returns-in-Ok-clause-polls g c =
    rw (← c.trace.view_is) (rw c.answer_of.ensures (polls_on _ _ _ _ _ c.args.steps g.G.TaskGroupHook.listens c.in-Ok.stop c.args.self.now.yield_budget c.go_on.new.self.yield_budget c.in-Ok.ensures.gone))

pub returns-in-Err-NoMemory-clause-polls : goal.returns-in-Err-NoMemory-clause-polls
returns-in-Err-NoMemory-clause-polls g c =
    rw (← c.trace.view_is) (has_lost _ _ _ _ _ c.args.steps c.trace.inside.labels.spare c.go_on.new.store (rw c.in-Err-NoMemory.field-0-is at c.in-Err-NoMemory.ensures.gone) c.set_trapped.ensures.told (ap (λ (st : Store _ _ _). st.state) c.set_trapped.ensures.rest))

pub returns-in-Err-HookFailed-clause-polls : goal.returns-in-Err-HookFailed-clause-polls
returns-in-Err-HookFailed-clause-polls g c =
    let trapped = c.set_trapped-in-Err-HookFailed.ensures in
    let q = rw c.in-Err-HookFailed.field-0-is at c.in-Err-HookFailed.ensures.gone in
    let main = c.go_on.new.main in
    let m = c.go_on.new.store in
    rw (← c.trace.view_is) (polls_failed _ _ _ _ _ c.args.steps g.G.TaskGroupHook.listens c.is_hooked-hooked.result m c.args.self.now.yield_budget c.go_on.new.self.yield_budget c.is_hooked-hooked.ensures.hook c.is_hooked-hooked.ensures.listens q.0
    (has_failed _ _ _ _ _ c.args.steps m trapped.rest q.0 trapped.told (λ u last. g.met.M.MainTask.stays main m.state u last) q.1.0 q.1.1 refl))
