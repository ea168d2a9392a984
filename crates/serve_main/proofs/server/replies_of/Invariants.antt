use Rattle.serve_requests.specs.Serving.{reply_of}
use Rattle.serve_main.proofs.server.replies_of.Given as goal
use Rattle.std.proofs.Common.{map, take, ◌≡◌}

abbrev pub invariant-loop-stage : goal.invariant-loop-stage
invariant-loop-stage l = l.replies.items ≡ map reply_of (take l.stage-index l.stages)
