use Rattle.choice_offers.proofs.offered.handles_of.Given as goal
use Rattle.choice_offers.specs.Listings.{handles_in}
use Rattle.std.proofs.Common.{take, ◌≡◌}

abbrev pub invariant-loop-member : goal.invariant-loop-member
invariant-loop-member l = l.handles ≡ handles_in (take l.member-index l.list)
