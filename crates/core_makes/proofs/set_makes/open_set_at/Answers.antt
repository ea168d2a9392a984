use Rattle.core_makes.proofs.set_makes.open_set_at.Goals as goal
use Rattle.core_records.proofs.Core.{ap, get, is_some, StateView, ◌∙◌}
use Rattle.core_records.proofs.InstanceReads.{instance_unchecked}

pub name_set-requires-clause-there : goal.name_set-requires-clause-there
name_set-requires-clause-there c = instance_unchecked c.new_set.new.parts c.args.instance (ap (λ (v : StateView). is_some (get v.core.handles c.args.instance)) c.in-Ok.ensures.seen ∙ c.requires.there)

pub name_set-requires-clause-next : goal.name_set-requires-clause-next
name_set-requires-clause-next c = record {
  number = c.in-Ok.ensures.number;
  loose = c.in-Ok.ensures.loose;
  members = c.in-Ok.ensures.members;
  entries = c.in-Ok.ensures.entries;
}
