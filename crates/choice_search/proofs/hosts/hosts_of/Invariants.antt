use Rattle.choice_search.proofs.hosts.hosts_of.Given as goal
use Rattle.choice_search.specs.Ways.{hosts_at}
use Rattle.std.specs.Prelude.{drop, length, ◌++◌, ◌-◌, ◌≡◌}

-- the hosts so far, and those that are still to be made
abbrev pub invariant-hosts : goal.invariant-hosts
invariant-hosts l = l.list ++ hosts_at l.polls (drop l.at l.hosts) l.left ≡ hosts_at l.polls l.hosts l.way

abbrev pub decreases-hosts : goal.decreases-hosts
decreases-hosts l = length l.hosts - l.at
