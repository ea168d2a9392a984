use Rattle.std.proofs.Common.{◌≡◌, ◌++◌, ◌≤◌, length}
use Rattle.text_scenario.specs.Grammar.{tokens}
use Rattle.text_lines.proofs.TokenCounts.{bytes_of}
use Rattle.text_scenario.proofs.read.split_tokens.Given as goal

abbrev pub invariant-loop-end : goal.invariant-loop-end
invariant-loop-end l = record {
  whole : bytes_of l.list.items ++ tokens l.rest ≡ tokens l.fn.line;
  within : length l.rest ≤ length l.fn.line;
}

abbrev pub decreases-loop-end : goal.decreases-loop-end
decreases-loop-end l = length l.rest
