use Rattle.core_fields.proofs.thread_fields.set_register.Goals as goal
use Rattle.core_records.proofs.Core.{ap, List, refl, set_register, sym, ℕ}
use Rattle.core_records.proofs.WriteLemmas.{thread_nowhere, thread_sound, thread_writes}

pub returns-in-Ok-clause-sound : goal.returns-in-Ok-clause-sound
returns-in-Ok-clause-sound c =
    let g = c.in-Ok.entry.now in
    thread_sound c.args.parts.now c.requires c.args.thread g c.in-Ok.ensures.value (record g { thread = record g.thread { registers = c.put_number.new.numbers } }) refl

pub returns-in-Ok-clause-new : goal.returns-in-Ok-clause-new
unfolding set_register
returns-in-Ok-clause-new c =
    let g = c.in-Ok.entry.now in
    thread_writes c.args.parts.now c.requires c.args.thread g c.in-Ok.ensures.value (record g { thread = record g.thread { registers = c.put_number.new.numbers } }) refl _
    (ap (λ (ws : List ℕ). record g.thread { registers = ws }) (sym c.put_number.ensures))

pub returns-in_default-clause-new : goal.returns-in_default-clause-new
unfolding set_register
returns-in_default-clause-new c = thread_nowhere c.args.parts.now c.requires c.args.thread _ c.in_default.ensures.value _
