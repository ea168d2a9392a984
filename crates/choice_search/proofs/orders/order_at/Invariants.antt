use Rattle.choice_search.proofs.orders.order_at.Given as goal
use Rattle.choice_search.specs.Numbered.{order_at, ordered}
use Rattle.std.specs.Prelude.{length, ◌++◌, ◌≡◌}

-- the threads so far, and those that are left in their order
abbrev pub invariant-threads : goal.invariant-threads
invariant-threads l = l.list ++ ordered (length l.left.items) l.left.items l.rest ≡ order_at l.threads l.number

abbrev pub decreases-threads : goal.decreases-threads
decreases-threads l = length l.left.items
