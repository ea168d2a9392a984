use Rattle.choice_search.proofs.orders.orders.Given as goal
use Rattle.choice_search.specs.Numbered.{most, orders}
use Rattle.std.specs.Prelude.{◌-◌, ◌≡◌, ◌≤◌}

-- the orders of so many
abbrev pub invariant-threads : goal.invariant-threads
invariant-threads l = (l.at ≤ l.count) × (l.all ≡ most (orders l.at))

abbrev pub decreases-threads : goal.decreases-threads
decreases-threads l = l.count - l.at
