use Rattle.choice_offers.specs.Choices.{chosen_of}
use Rattle.choice_run.proofs.AtLemmas.{IsAt}
use Rattle.choice_run.proofs.run.run_on.Given as goal
use Rattle.std.specs.Prelude.{map, ◌-◌}
use Rattle.task_run.specs.Headline.{machine_scenario}

-- the labels so far were made by the first choices
abbrev pub invariant-steps : goal.invariant-steps
invariant-steps l = IsAt (machine_scenario l.scenario) (map chosen_of l.choices) l.steps l.machine l.trace.labels l.used l.labels

abbrev pub decreases-steps : goal.decreases-steps
decreases-steps l = l.steps - l.labels
