-- The thread runs on where its task holds borrows.
use Rattle.std.specs.Prelude.{ℕ}
use Rattle.tests_surface.proofs.AskLemmas.{at_running}
use Rattle.tests_surface.proofs.instance_calls.returns_lending.Goals as goal
use Rattle.machine_data.specs.declared.records.Turn.TheVariants as turn
use Rattle.ops_turns.specs.Turn.{CoreInOrder}

pub task_return-requires-clause-order : goal.task_return-requires-clause-order
task_return-requires-clause-order g c =
    let q = c.lend.ensures.running c.running-at.result.scenario.component c.running-at.ensures.running in
    at_running c.lend.new.store.state q.number (λ (n : ℕ). CoreInOrder c.running-at.result.scenario.component (turn.Run n) c.lend.new.store.state.core) q.runs q.order
