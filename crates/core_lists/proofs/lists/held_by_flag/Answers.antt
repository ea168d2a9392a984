use Rattle.core_lists.proofs.lists.held_by_flag.Goals as goal
use Rattle.core_lists.specs.Listed.{ListsThreads}
use Rattle.core_primitives.specs.StateView.{StateView}
use Rattle.machine_rules.specs.Ends.{held_by_flag}
use Rattle.core_records.proofs.Core.{OnOk, subst}

pub returns : goal.returns
returns c = subst (λ (s : StateView). OnOk c.list_by_flag.result (ListsThreads s (held_by_flag c.args.instance s.core) c.list_by_flag.new.list.items)) c.parts.ensures.seen c.list_by_flag.ensures
