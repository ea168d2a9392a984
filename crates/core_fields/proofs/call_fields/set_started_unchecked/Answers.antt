use Rattle.core_fields.proofs.KnownLemmas.{call_known}
use Rattle.core_fields.proofs.call_fields.set_started_unchecked.Goals as goal
use Rattle.core_records.proofs.Core.{refl, set_started, true}
use Rattle.core_records.proofs.WriteLemmas.{call_sound, call_writes}

pub get_mut_unchecked-requires : goal.get_mut_unchecked-requires
get_mut_unchecked-requires c = call_known c.args.parts.now c.args.call c.requires.live

pub returns-clause-sound : goal.returns-clause-sound
returns-clause-sound c =
    let g = c.get_mut_unchecked.result.now in
    call_sound c.args.parts.now c.requires.sound c.args.call g c.get_mut_unchecked.ensures.value (record g { call = record g.call { started = true } }) refl

pub returns-clause-new : goal.returns-clause-new
unfolding set_started
returns-clause-new c =
    let g = c.get_mut_unchecked.result.now in
    call_writes c.args.parts.now c.requires.sound c.args.call g c.get_mut_unchecked.ensures.value (record g { call = record g.call { started = true } }) refl _ refl
