use Rattle.core_fields.proofs.call_fields.set_cancel_asked.Goals as goal
use Rattle.core_records.proofs.Core.{refl, true}
use Rattle.machine_data.specs.Write.{set_cancel_asked}
use Rattle.core_records.proofs.WriteLemmas.{call_nowhere, call_sound, call_writes}

pub returns-in-Ok-clause-sound : goal.returns-in-Ok-clause-sound
returns-in-Ok-clause-sound c =
    let g = c.in-Ok.entry.now in
    call_sound c.args.parts.now c.requires c.args.call g c.in-Ok.ensures.value (record g { call = record g.call { cancel_asked = true } }) refl

pub returns-in-Ok-clause-new : goal.returns-in-Ok-clause-new
unfolding set_cancel_asked
returns-in-Ok-clause-new c =
    let g = c.in-Ok.entry.now in
    call_writes c.args.parts.now c.requires c.args.call g c.in-Ok.ensures.value (record g { call = record g.call { cancel_asked = true } }) refl _ refl

pub returns-in_default-clause-new : goal.returns-in_default-clause-new
unfolding set_cancel_asked
returns-in_default-clause-new c = call_nowhere c.args.parts.now c.requires c.args.call _ c.in_default.ensures.value _
