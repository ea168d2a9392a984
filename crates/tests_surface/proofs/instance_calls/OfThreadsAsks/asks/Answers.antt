use Rattle.tests_surface.proofs.StateLemmas.{core_in_order_placed}
use Rattle.tests_surface.proofs.instance_calls.OfThreadsAsks.asks.Goals as goal

pub is_queued-requires : goal.is_queued-requires
is_queued-requires c = core_in_order_placed _ _ _ c.requires.running.order

pub ends-requires : goal.ends-requires
ends-requires c = core_in_order_placed _ _ _ c.requires.running.order
