-- The labels so far are counted.
use Rattle.run_trace.specs.YieldBudget.{passes_after, since_driven}
use Rattle.std.proofs.Common.{drop, take, ◌-◌, ◌≡◌}
use Rattle.run_trace.proofs.yield_budget.YieldBudget.driven.Given as goal

abbrev pub invariant-labels : goal.invariant-labels
invariant-labels l = record {
  since : l.yield_budget.since ≡ since_driven l.initial.yield_budget.passes l.initial.yield_budget.since (take (l.place - l.from) (drop l.from l.trace.labels));
  passes : l.yield_budget.passes ≡ passes_after l.initial.yield_budget.passes (take (l.place - l.from) (drop l.from l.trace.labels));
}
