-- What the turns gave, a drive gives.
use Rattle.std.proofs.Common.{ap, refl}
use Rattle.task_loop.proofs.HasRunLemmas.{counted_on, drives_failed, has_failed, has_lost, never_rests, never_yields, none_on}
use Rattle.task_loop.proofs.run.RunConcurrent.drive.Goals as goal
use Rattle.task_loop.proofs.run.RunConcurrent.drive.Goals.{in-Idle, in_default}
use Rattle.task_loop.specs.HasRun.{at}
use Rattle.task_store.specs.declared.store.Store.{Store}

pub returns-in-Ends-clause-drives : goal.returns-in-Ends-clause-drives
returns-in-Ends-clause-drives g c =
    let o = c.in-Ends.outcome in
    let listens = g.G.TaskGroupHook.listens in
    let yield_budget = c.args.self.now.yield_budget in
    let gone = rw c.in-Ends.is at c.in-Ok.ensures.gone in
    rw (← c.trace.view_is) (elim c.match-outcome.branch [
      | in-Idle w ↦
          rw w.trace-inside-is (counted_on _ _ _ _ _ c.args.steps listens o yield_budget c.match-outcome.self gone w.in-Idle.is
          (rw (w.self-is, w.driven-self.ensures.since, c.go_on.ensures.kept refl, c.len-from.ensures) refl) (rw w.self-is w.driven-self.ensures.passes))
      | in_default w ↦
          rw w.trace-inside-is (none_on _ _ _ _ _ c.args.steps listens o yield_budget c.match-outcome.self gone w.in_default.not-Idle (rw w.self-is w.new-self.ensures.since) (rw w.self-is w.new-self.ensures.passes))
    ])

-- a drive isn't stopped before the run
pub unreachable-requires : goal.unreachable-requires
unreachable-requires g c = absurd (never_rests g.M.MainTask.says g.H.HostWork.course c.args.component.now _ _ c.args.steps c.in-Ok.stop c.args.self.now.yield_budget c.go_on.new.self.yield_budget c.in-Rests.is c.in-Ok.ensures.gone)

pub unreachable-requires-in-Yields : goal.unreachable-requires-in-Yields
unreachable-requires-in-Yields g c = absurd (never_yields g.M.MainTask.says g.H.HostWork.course c.args.component.now _ _ c.args.steps c.in-Ok.stop c.args.self.now.yield_budget c.go_on.new.self.yield_budget c.in-Yields.is c.in-Ok.ensures.gone)

pub returns-in-Err-NoMemory-clause-drives : goal.returns-in-Err-NoMemory-clause-drives
returns-in-Err-NoMemory-clause-drives g c =
    rw (← c.trace.view_is) (has_lost _ _ _ _ _ c.args.steps c.trace.inside.labels.spare c.go_on.new.store (rw c.in-Err-NoMemory.field-0-is at c.in-Err-NoMemory.ensures.gone) c.set_trapped.ensures.told (ap (λ (st : Store _ _ _). st.state) c.set_trapped.ensures.rest), c.go_on.ensures.kept refl)

pub returns-in-Err-HookFailed-clause-drives : goal.returns-in-Err-HookFailed-clause-drives
returns-in-Err-HookFailed-clause-drives g c =
    let trapped = c.set_trapped-in-Err-HookFailed.ensures in
    let q = rw c.in-Err-HookFailed.field-0-is at c.in-Err-HookFailed.ensures.gone in
    let main = c.go_on.new.main in
    let m = c.go_on.new.store in
    rw (← c.trace.view_is) (drives_failed _ _ _ _ _ c.args.steps g.G.TaskGroupHook.listens c.is_hooked-hooked.result m c.args.self.now.yield_budget c.go_on.new.self.yield_budget c.is_hooked-hooked.ensures.hook c.is_hooked-hooked.ensures.listens q.0
    (has_failed _ _ _ _ _ c.args.steps m trapped.rest q.0 trapped.told (λ u last. g.met.M.MainTask.stays main m.state u last) q.1.0 q.1.1 refl))
