-- The thread that prepared a call runs still.
use Rattle.std.specs.Prelude.{[]}
use Rattle.tests_surface.proofs.AskLemmas.{can_start, can_start_asked}
use Rattle.tests_surface.proofs.instance_calls.starts.Goals as goal
use Rattle.ops_calls.specs.Prepared.{goal_for}
use Rattle.task_loop.proofs.InstanceCallLemmas.{results_in}
use Rattle.machine_data.specs.Read.{fits}
use Rattle.std.proofs.Common.{subst, true, ◌≡◌}
use Rattle.std.specs.Prelude.{IfSome, None}
use Rattle.ops_calls.specs.Prepared.{CanStart}
use Rattle.machine_data.specs.Maps.{get}
use Rattle.ops_turns.specs.Turn.{running_of}
use Rattle.core_primitives.specs.StateView.{StateView}

pub start_call-step-requires-clause-prepared : goal.start_call-step-requires-clause-prepared
start_call-step-requires-clause-prepared g c =
    let q = c.running-at.ensures.running in
    let s = c.running-at.result.store.state in
    let d = c.running-at.result.scenario.component in
    let id = c.in-Ok.id in
    results_in _ (λ (v : StateView). IfSome (running_of v) (λ k. CanStart k id v)) _ _ _ c.in-Ok.ensures.does.told
    (λ v is op_result.
    can_start_asked id v
    (can_start d q.number (record { instance = 0; export = 0 }) [] (goal_for true 3) s v (fits 3 s.core) id q.runs
    (subst (λ (w : StateView). get w.core.threads 0 ≡ None) is c.none_is_zero.ensures.threads) op_result))
