use Rattle.core_lists.proofs.lists.held_by_counter.Goals as goal
use Rattle.core_lists.specs.Listed.{ListsThreads}
use Rattle.core_primitives.specs.StateView.{StateView}
use Rattle.machine_rules.specs.Task.{held_by_counter}
use Rattle.core_records.proofs.Core.{OnOk, subst}

pub returns : goal.returns
returns c = subst (λ (s : StateView). OnOk c.list_by_counter.result (ListsThreads s (held_by_counter c.args.instance s.core) c.list_by_counter.new.list.items)) c.parts.ensures.seen c.list_by_counter.ensures
