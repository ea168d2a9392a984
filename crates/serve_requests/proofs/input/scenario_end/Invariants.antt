use Rattle.serve_requests.proofs.InputLemmas.{Passed}
use Rattle.serve_requests.proofs.input.scenario_end.Given as goal
use Rattle.std.specs.Prelude.{length, ◌-◌}

-- the lines so far were passed
abbrev pub invariant-loop-end : goal.invariant-loop-end
invariant-loop-end l = Passed l.input l.at l.lines

abbrev pub decreases-loop-end : goal.decreases-loop-end
decreases-loop-end l = length l.input - l.at
