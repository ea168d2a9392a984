use Rattle.choice_offers.proofs.offered.named_threads.Given as goal
use Rattle.choice_offers.specs.Listings.{AreNamed, numbers_of}
use Rattle.core_primitives.specs.StateView.{thread_of}
use Rattle.std.proofs.Common.{map, take, ◌≡◌}

abbrev pub invariant-loop-id : goal.invariant-loop-id
invariant-loop-id l = record {
  numbers : numbers_of l.list.items ≡ map (λ id. thread_of l.core id) (take l.id-index l.ids);
  named : AreNamed l.core l.list.items;
}
