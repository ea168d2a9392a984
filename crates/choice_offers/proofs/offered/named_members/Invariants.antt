use Rattle.choice_offers.proofs.offered.named_members.Given as goal
use Rattle.choice_offers.specs.Listings.{handle_or_none, handles_in}
use Rattle.core_primitives.specs.Names.{subtask_in}
use Rattle.std.proofs.Common.{map, take, ◌≡◌}
use Rattle.std.specs.List.{All}

abbrev pub invariant-loop-id : goal.invariant-loop-id
invariant-loop-id l = record {
  handles : handles_in l.list.items ≡ map (λ id. handle_or_none (subtask_in l.core.tags id) l.core.core) (take l.id-index l.ids);
  known : All (λ m. m.handle ≡ handle_or_none (subtask_in l.core.tags m.subtask) l.core.core) l.list.items;
  subtasks : map (λ m. m.subtask) l.list.items ≡ take l.id-index l.ids;
}
