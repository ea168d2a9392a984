use Rattle.core_lists.proofs.lists.ready_members.Goals as goal
use Rattle.core_lists.specs.Listed.{ListsSubtasks, ready_of}
use Rattle.core_primitives.specs.StateView.{StateView, set_of}
use Rattle.core_records.proofs.Core.{OnOk, subst, sym, ◌<◌}

pub list_members-requires-clause-live : goal.list_members-requires-clause-live
list_members-requires-clause-live c = subst (λ (s : StateView). 0 < set_of s c.args.set) (sym c.parts.ensures.seen) c.requires

pub returns : goal.returns
returns c = subst (λ (s : StateView). OnOk c.list_members.result (ListsSubtasks s (ready_of (set_of s c.args.set) s.core) c.list_members.new.list.items)) c.parts.ensures.seen c.list_members.ensures
