-- The run goes on.
use Rattle.std.proofs.Common.{◌*◌, ◌-◌, ◌≤◌}
use Rattle.tests_surface.proofs.polls.polled_by_steps.Given as goal
use Rattle.task_loop.specs.HasRun.{MayRun, at}
use Rattle.ops_turns.specs.Turn.{given}

abbrev pub invariant-polls : goal.invariant-polls
invariant-polls g l = record {
  may : MayRun g.M.MainTask.says g.H.HostWork.course l.component (at l.run l.main l.store l.trace);
  given : given l.store.state.core ≤ 2 * l.yields;
  few : l.yields ≤ 9;
}

abbrev pub decreases-polls : goal.decreases-polls
decreases-polls g l = 9 - l.yields
