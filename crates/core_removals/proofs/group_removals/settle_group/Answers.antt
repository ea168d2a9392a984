use Rattle.core_removals.proofs.group_removals.settle_group.Goals as goal
use Rattle.core_records.proofs.KindLemmas.{live_item, live_there}
use Rattle.core_records.specs.declared.{call_records.TaskGroup.TaskGroup}

pub there-found-requires : goal.there-found-requires
there-found-requires c = live_there (λ (r : TaskGroup). r.number) (λ (r : TaskGroup). r.calls) c.args.parts.now.groups c.args.group.rep c.args.group.serial c.requires.live

pub settle_counted-requires-clause-item : goal.settle_counted-requires-clause-item
settle_counted-requires-clause-item c = live_item (λ (r : TaskGroup). r.number) (λ (r : TaskGroup). r.calls) c.args.parts.now.groups c.args.group.rep c.args.group.serial c.requires.live c.there-found.result.now c.there-found.ensures
