use Rattle.choice_search.proofs.hosts.ways.Given as goal
use Rattle.choice_search.specs.Numbered.{most}
use Rattle.choice_search.specs.Ways.{host_ways}
use Rattle.std.specs.Prelude.{drop, length, ◌≡◌, ◌≤◌}

-- the ways of the hosts from here on
abbrev pub invariant-hosts : goal.invariant-hosts
invariant-hosts l = (l.at ≤ length l.hosts) × (l.all ≡ most (host_ways l.polls (drop l.at l.hosts)))

abbrev pub decreases-hosts : goal.decreases-hosts
decreases-hosts l = l.at
