use Rattle.serve_requests.proofs.LoopLemmas.{HasRead}
use Rattle.serve_requests.proofs.read.read_requests.Given as goal
use Rattle.std.specs.Prelude.{length}

-- the lines so far say the requests so far
abbrev pub invariant-loop-line : goal.invariant-loop-line
invariant-loop-line l = HasRead l.fn.scenario.instances l.fn.text l.fn.first l.number l.rest l.requests.items

abbrev pub decreases-loop-line : goal.decreases-loop-line
decreases-loop-line l = length l.rest
