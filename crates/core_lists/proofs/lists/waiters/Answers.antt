use Rattle.core_lists.proofs.lists.waiters.Goals as goal
use Rattle.core_lists.specs.Listed.{ListsThreads}
use Rattle.core_primitives.specs.StateView.{StateView, set_of}
use Rattle.laws_choices.specs.Offers.{waiters_of}
use Rattle.core_records.proofs.Core.{OnOk, subst, sym, ◌<◌}

pub list_waiters-requires-clause-live : goal.list_waiters-requires-clause-live
list_waiters-requires-clause-live c = subst (λ (s : StateView). 0 < set_of s c.args.set) (sym c.parts.ensures.seen) c.requires

pub returns : goal.returns
returns c = subst (λ (s : StateView). OnOk c.list_waiters.result (ListsThreads s (waiters_of (set_of s c.args.set) s.core) c.list_waiters.new.list.items)) c.parts.ensures.seen c.list_waiters.ensures
