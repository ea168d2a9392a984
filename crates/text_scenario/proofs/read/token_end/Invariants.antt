use Rattle.std.proofs.Common.{◌-◌, ◌≤◌, length}
use Rattle.text_scenario.proofs.TokenEnd.{NoSpace}
use Rattle.text_scenario.proofs.read.token_end.Given as goal

abbrev pub invariant-fours : goal.invariant-fours
invariant-fours l = record {
  within : l.at ≤ length l.line;
  before : NoSpace l.line l.at;
}

abbrev pub decreases-fours : goal.decreases-fours
decreases-fours l = length l.line - l.at

abbrev pub invariant-ones : goal.invariant-ones
invariant-ones l = record {
  within : l.at ≤ length l.line;
  before : NoSpace l.line l.at;
}

abbrev pub decreases-ones : goal.decreases-ones
decreases-ones l = length l.line - l.at
