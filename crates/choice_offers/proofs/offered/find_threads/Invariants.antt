use Rattle.choice_offers.proofs.offered.find_threads.Given as goal
use Rattle.choice_offers.specs.Listings.{id_in}
use Rattle.std.proofs.Common.{take, ◌≡◌}
use Rattle.std.specs.List.{filter_map}

abbrev pub invariant-loop-number : goal.invariant-loop-number
invariant-loop-number l = l.ids.items ≡ filter_map (id_in l.list) (take l.number-index l.numbers)
