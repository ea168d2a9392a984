use Rattle.choice_offers.proofs.offered.numbers_in.Given as goal
use Rattle.choice_offers.specs.Listings.{numbers_of}
use Rattle.std.proofs.Common.{take, ◌≡◌}

abbrev pub invariant-loop-thread : goal.invariant-loop-thread
invariant-loop-thread l = l.numbers ≡ numbers_of (take l.thread-index l.list)
