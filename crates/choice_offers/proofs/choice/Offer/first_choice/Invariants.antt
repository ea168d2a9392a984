use Rattle.choice_offers.proofs.choice.Offer.first_choice.Given as goal
use Rattle.std.proofs.Common.{take, ◌≡◌}

abbrev pub invariant-loop-thread : goal.invariant-loop-thread
invariant-loop-thread l = l.release ≡ take l.thread-index l.self.held
