use Rattle.core_state.proofs.borrows.set_work_borrows.Goals as goal
use Rattle.std.proofs.Common.{refl}
use Rattle.core_records.proofs.WriteLemmas.{work_nowhere, work_sound, work_writes}

pub returns-in-Ok-clause-sound : goal.returns-in-Ok-clause-sound
returns-in-Ok-clause-sound c =
    let g = c.in-Ok.entry.now in
    work_sound c.args.parts.now c.requires c.args.work g c.in-Ok.ensures.value (record g { work = record g.work { borrows = c.args.borrows } }) refl

pub returns-in-Ok-clause-new : goal.returns-in-Ok-clause-new
returns-in-Ok-clause-new c =
    let g = c.in-Ok.entry.now in
    work_writes c.args.parts.now c.requires c.args.work g c.in-Ok.ensures.value (record g { work = record g.work { borrows = c.args.borrows } }) refl _ refl

pub returns-in_default-clause-new : goal.returns-in_default-clause-new
returns-in_default-clause-new c = work_nowhere c.args.parts.now c.requires c.args.work _ c.in_default.ensures.value _
