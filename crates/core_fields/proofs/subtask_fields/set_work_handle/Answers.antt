use Rattle.core_fields.proofs.subtask_fields.set_work_handle.Goals as goal
use Rattle.core_records.proofs.Core.{refl, set_subtask_handle}
use Rattle.core_records.proofs.WriteLemmas.{work_nowhere, work_sound, work_writes}

pub returns-in-Ok-clause-sound : goal.returns-in-Ok-clause-sound
returns-in-Ok-clause-sound c =
    let g = c.in-Ok.entry.now in
    work_sound c.args.parts.now c.requires c.args.work g c.in-Ok.ensures.value (record g { work = record g.work { handle = c.args.handle } }) refl

pub returns-in-Ok-clause-new : goal.returns-in-Ok-clause-new
unfolding set_subtask_handle
returns-in-Ok-clause-new c =
    let g = c.in-Ok.entry.now in
    work_writes c.args.parts.now c.requires c.args.work g c.in-Ok.ensures.value (record g { work = record g.work { handle = c.args.handle } }) refl _ refl

pub returns-in_default-clause-new : goal.returns-in_default-clause-new
unfolding set_subtask_handle
returns-in_default-clause-new c = work_nowhere c.args.parts.now c.requires c.args.work _ c.in_default.ensures.value _
