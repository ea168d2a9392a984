use Rattle.std.proofs.Common.{◌≡◌, ◌+◌, ◌≤◌, length}
use Rattle.text_scenario.specs.declared.state.State.TheVariants as state
use Rattle.text_scenario.specs.Grammar.{spelled}
use Rattle.text_scenario.specs.State.{read_from}
use Rattle.text_scenario.proofs.read.read.Given as goal

-- what is left reads as the whole does, and each line takes something of the text
abbrev pub invariant-loop-line : goal.invariant-loop-line
invariant-loop-line l = record {
  same : read_from l.state l.number (spelled l.rest) ≡ read_from state.Empty 1 (spelled l.fn.text);
  few : l.number + length l.rest ≤ length l.fn.text + 1;
}

abbrev pub decreases-loop-line : goal.decreases-loop-line
decreases-loop-line l = length l.rest
