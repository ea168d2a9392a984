use Rattle.std.proofs.Common.{◌≡◌, ℕ, ◌≤◌, ◌++◌, List, length}
use Rattle.text_bytes.specs.Outside.{Appends}
use Rattle.text_bytes.proofs.pump.write_all.Given as goal

abbrev pub invariant-loop-rest : goal.invariant-loop-rest
invariant-loop-rest g l = record {
  count : g.K.Sink.faults l.fn.sink ≤ g.K.Sink.faults l.sink;
  told : (front : List ℕ) × ((front ++ l.rest ≡ l.bytes) × Appends (g.K.Sink.held l.fn.sink) (g.K.Sink.held l.sink) front);
}

abbrev pub decreases-loop-rest : goal.decreases-loop-rest
decreases-loop-rest g l = length l.rest
