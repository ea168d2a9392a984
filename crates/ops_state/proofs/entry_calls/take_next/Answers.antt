use Rattle.ops_state.proofs.TakeLemmas.{taken_named}
use Rattle.ops_state.proofs.entry_calls.take_next.Goals as goal

pub item_of-item-requires : goal.item_of-item-requires
item_of-item-requires g c = taken_named c.in-Thread.thread _ _ c.next_entry.result (g.W.View.view c.args.w.now) c.next_entry.ensures c.in-Some.is c.in-Thread.is c.requires c.none_is_zero.ensures.threads
