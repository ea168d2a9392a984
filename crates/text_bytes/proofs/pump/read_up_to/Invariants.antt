use Rattle.std.proofs.Common.{◌≡◌, ℕ, ◌+◌, ◌-◌, ◌≤◌, List, length, Some}
use Rattle.text_bytes.specs.Pump.{IsTaken}
use Rattle.text_bytes.proofs.pump.read_up_to.Given as goal

abbrev pub invariant-loop-buf : goal.invariant-loop-buf
invariant-loop-buf g l = record {
  count : g.S.Source.faults l.fn.source ≤ g.S.Source.faults l.source;
  short : length l.text.items ≤ l.limit + 1;
  told : (all : List ℕ) → g.S.Source.left l.fn.source ≡ Some all → IsTaken all l.text.items (g.S.Source.left l.source);
}

abbrev pub decreases-loop-buf : goal.decreases-loop-buf
decreases-loop-buf g l = l.limit + 1 - length l.text.items
