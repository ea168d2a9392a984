use Rattle.choice_offers.proofs.held.grow.Given as goal
use Rattle.std.proofs.Common.{length, slice_index, ◌+◌, ◌-◌, ◌≡◌, ℕ}

abbrev pub invariant-loop-times : goal.invariant-loop-times
invariant-loop-times l = (r : ℕ) → slice_index l.times.items r ≡ slice_index l.fn.times.items r

abbrev pub decreases-loop-times : goal.decreases-loop-times
decreases-loop-times l = l.place + 1 - length l.times.items
