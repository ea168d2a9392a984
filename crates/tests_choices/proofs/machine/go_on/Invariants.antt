-- Each step keeps the machine.
use Rattle.std.proofs.Common.{◌*◌, ◌-◌, ◌≤◌}
use Rattle.tests_choices.proofs.machine.go_on.Given as goal
use Rattle.tests_choices.specs.Going.{GoesTo}

abbrev pub invariant-labels : goal.invariant-labels
invariant-labels g l = record {
  goes : GoesTo (2 * l.labels) l.initial.machine l.machine;
  few : l.labels ≤ 100;
}

abbrev pub decreases-labels : goal.decreases-labels
decreases-labels g l = 100 - l.labels
