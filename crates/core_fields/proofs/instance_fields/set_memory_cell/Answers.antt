use Rattle.core_fields.proofs.instance_fields.set_memory_cell.Goals as goal
use Rattle.core_records.proofs.Core.{ap, arith, List, refl, set_memory_cell, sym, ℕ}
use Rattle.core_records.proofs.InstanceReads.{instance_nowhere, instance_sound, instance_writes, read_at, read_past}

pub returns-then-instance-len-clause-sound : goal.returns-then-instance-len-clause-sound
returns-then-instance-len-clause-sound c =
    let a = c.args.parts.now in
    let g = c.index_mut-entry.result.now in
    let same = a.instances.ok.0 in
    instance_sound a c.args.instance g (record g { instance = record g.instance { memory_cells = c.put_number.new.numbers } }) (read_at a.instances.items c.args.instance g (omega (arith, c.if-instance-len.true, c.len.ensures, same)) c.index_mut-entry.ensures.value) refl _ refl c.requires

pub returns-then-instance-len-clause-new : goal.returns-then-instance-len-clause-new
unfolding set_memory_cell
returns-then-instance-len-clause-new c =
    let a = c.args.parts.now in
    let g = c.index_mut-entry.result.now in
    let same = a.instances.ok.0 in
    instance_writes a c.args.instance g (record g { instance = record g.instance { memory_cells = c.put_number.new.numbers } }) (read_at a.instances.items c.args.instance g (omega (arith, c.if-instance-len.true, c.len.ensures, same)) c.index_mut-entry.ensures.value) refl _ refl _ (ap (λ (ws : List ℕ). record g.instance { memory_cells = ws }) (sym c.put_number.ensures))

pub returns-else-instance-len-clause-new : goal.returns-else-instance-len-clause-new
unfolding set_memory_cell
returns-else-instance-len-clause-new c =
    let a = c.args.parts.now in
    let same = a.instances.ok.0 in
    instance_nowhere a c.args.instance (read_past a.instances.items c.args.instance (omega (arith, c.if-instance-len.false, c.len.ensures, same))) _
