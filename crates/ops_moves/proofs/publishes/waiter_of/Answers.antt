use Rattle.std.proofs.Common.{ap}
use Rattle.core_primitives.specs.Names.{join_in}
use Rattle.core_primitives.specs.StateView.{set_of}
use Rattle.ops_moves.proofs.FirstLemmas.{first_to_wake}
use Rattle.ops_moves.proofs.PublishLemmas.{waiter_waits}
use Rattle.ops_moves.proofs.publishes.waiter_of.Goals as goal

pub returns-in-Set-clause-waits : goal.returns-in-Set-clause-waits
returns-in-Set-clause-waits g c = waiter_waits _ c.first_waiter.result (g.W.View.view c.args.w.now) c.first_waiter.ensures.some

pub first_waiter-requires : goal.first_waiter-requires
first_waiter-requires g c = let s = g.W.View.view c.args.w.now in c.requires (set_of s c.in-Set.set) (ap (join_in s.tags) c.in-Set.is)

pub returns-in-Set-clause-first : goal.returns-in-Set-clause-first
returns-in-Set-clause-first g c = first_to_wake _ c.first_waiter.result (g.W.View.view c.args.w.now) c.first_waiter.ensures.some c.first_waiter.ensures.first
