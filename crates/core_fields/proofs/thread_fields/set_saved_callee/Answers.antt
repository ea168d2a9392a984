use Rattle.core_fields.proofs.thread_fields.set_saved_callee.Goals as goal
use Rattle.core_records.proofs.Core.{refl, set_saved_callee}
use Rattle.core_records.proofs.WriteLemmas.{thread_nowhere, thread_sound, thread_writes}

pub returns-in-Ok-clause-sound : goal.returns-in-Ok-clause-sound
returns-in-Ok-clause-sound c =
    let g = c.in-Ok.entry.now in
    thread_sound c.args.parts.now c.requires c.args.thread g c.in-Ok.ensures.value (record g { thread = record g.thread { saved_callee = c.args.flag } }) refl

pub returns-in-Ok-clause-new : goal.returns-in-Ok-clause-new
unfolding set_saved_callee
returns-in-Ok-clause-new c =
    let g = c.in-Ok.entry.now in
    thread_writes c.args.parts.now c.requires c.args.thread g c.in-Ok.ensures.value (record g { thread = record g.thread { saved_callee = c.args.flag } }) refl _ refl

pub returns-in_default-clause-new : goal.returns-in_default-clause-new
unfolding set_saved_callee
returns-in_default-clause-new c = thread_nowhere c.args.parts.now c.requires c.args.thread _ c.in_default.ensures.value _
