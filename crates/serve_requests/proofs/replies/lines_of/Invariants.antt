use Rattle.serve_requests.proofs.replies.lines_of.Given as goal
use Rattle.serve_requests.specs.Replies.{reply_lines}
use Rattle.std.specs.Prelude.{drop, length, ◌++◌, ◌+◌, ◌-◌, ◌≡◌, ◌≤◌}

abbrev pub invariant-replies : goal.invariant-replies
invariant-replies l = record {
  within : l.at ≤ length l.replies;
  whole : l.out.items ++ reply_lines (l.at + 1) (drop l.at l.replies) ≡ reply_lines 1 l.replies;
}

abbrev pub decreases-replies : goal.decreases-replies
decreases-replies l = length l.replies - l.at
