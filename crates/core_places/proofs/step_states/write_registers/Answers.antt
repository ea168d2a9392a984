use Rattle.core_records.proofs.Core.{refl}
use Rattle.core_records.proofs.WriteLemmas.{thread_nowhere, thread_sound, thread_writes}
use Rattle.core_places.proofs.step_states.write_registers.Goals as goal
use Rattle.core_places.specs.Moved.{with_registers}

pub returns-in-Ok-clause-sound : goal.returns-in-Ok-clause-sound
returns-in-Ok-clause-sound c =
    let g = c.in-Ok.entry.now in
    thread_sound c.args.parts.now c.requires c.args.thread g c.in-Ok.ensures.value (record g { thread = with_registers c.args.registers.now g.thread }) refl

pub returns-in-Ok-clause-new : goal.returns-in-Ok-clause-new
returns-in-Ok-clause-new c =
    let g = c.in-Ok.entry.now in
    thread_writes c.args.parts.now c.requires c.args.thread g c.in-Ok.ensures.value (record g { thread = with_registers c.args.registers.now g.thread }) refl _ refl

pub returns-in_default-clause-new : goal.returns-in_default-clause-new
returns-in_default-clause-new c = thread_nowhere c.args.parts.now c.requires c.args.thread _ c.in_default.ensures.value _
