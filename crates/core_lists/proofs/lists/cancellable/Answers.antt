use Rattle.core_lists.proofs.lists.cancellable.Goals as goal
use Rattle.core_lists.specs.Listed.{ListsThreads}
use Rattle.core_primitives.specs.StateView.{StateView, call_of}
use Rattle.machine_rules.specs.Cancels.{cancellable}
use Rattle.core_records.proofs.Core.{OnOk, subst, sym, ◌<◌}

pub list_cancellable-requires-clause-live : goal.list_cancellable-requires-clause-live
list_cancellable-requires-clause-live c = subst (λ (s : StateView). 0 < call_of s c.args.call) (sym c.parts.ensures.seen) c.requires

pub returns : goal.returns
returns c = subst (λ (s : StateView). OnOk c.list_cancellable.result (ListsThreads s (cancellable (call_of s c.args.call) s.core) c.list_cancellable.new.list.items)) c.parts.ensures.seen c.list_cancellable.ensures
