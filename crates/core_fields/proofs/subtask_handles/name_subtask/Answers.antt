use Rattle.core_fields.proofs.NameLemmas.{subtask_named}
use Rattle.core_fields.proofs.subtask_handles.name_subtask.Goals as goal
use Rattle.core_records.proofs.Core.{ap, give_handle, Named, on_core, seen, ◌∙◌}
use Rattle.core_records.proofs.InstanceReads.{instance_unchecked}

pub insert_handle-requires-clause-there : goal.insert_handle-requires-clause-there
insert_handle-requires-clause-there c = instance_unchecked c.args.parts.now c.args.instance c.requires.there

pub returns-in-Ok-clause-new : goal.returns-in-Ok-clause-new
returns-in-Ok-clause-new c =
    subtask_named (seen c.args.parts.now) (seen c.insert_handle.new.parts) c.args.subtask c.args.instance c.in-Ok.handle
    (c.in-Ok.ensures.new ∙ ap (λ (x : Named). on_core (give_handle c.args.instance x) (seen c.args.parts.now)) c.subtask_held-item.ensures.named)
    (seen c.set_subtask_handle.new.parts) c.set_subtask_handle.ensures.new c.in-Ok.ensures.handle
