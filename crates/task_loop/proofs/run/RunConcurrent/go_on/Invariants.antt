-- So far a run was made, and it can go on. A policy that stops the turns counts the entries.
use Rattle.std.proofs.Common.{◌+◌, ◌≡◌, ◌≤◌, ◌-◌}
use Rattle.std.specs.Prelude.{false, true}
use Rattle.task_loop.proofs.HasRunLemmas.{HasCome}
use Rattle.task_loop.proofs.PausedLemmas.{Spent}
use Rattle.task_loop.proofs.run.RunConcurrent.go_on.Given as goal
use Rattle.task_loop.specs.HasRun.{at}
use Rattle.task_loop.specs.Told.{group_running, turn_of}

abbrev pub invariant-turns : goal.invariant-turns
invariant-turns g l = record {
  come : HasCome g.M.MainTask.says g.H.HostWork.course l.component (at l.initial.self l.initial.main l.initial.store l.initial.trace.labels) (at l.self l.main l.store l.trace.labels) l.added;
  spare : l.initial.trace.spare ≤ l.trace.spare + l.added;
  kept : g.P.Policy.YIELDS ≡ false → l.self.yield_budget ≡ l.initial.self.yield_budget;
  spent : g.P.Policy.YIELDS ≡ true → Spent l.initial.self.yield_budget.passes l.initial.self.yield_budget.since l.initial.trace.labels l.trace.labels l.self.yield_budget.passes l.self.yield_budget.since;
  few : l.added ≤ l.steps;
  running : l.running ≡ group_running l.store.state (turn_of l.self.last);
}

abbrev pub decreases-turns : goal.decreases-turns
decreases-turns g l = l.steps - l.added
