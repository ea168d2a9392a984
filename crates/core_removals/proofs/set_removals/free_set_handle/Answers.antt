use Rattle.core_removals.proofs.HandleLemmas.{set_held, set_instance}
use Rattle.core_removals.proofs.set_removals.free_set_handle.Goals as goal
use Rattle.core_records.proofs.Core.{HandleError, OnOk, refl, Removes, Rep, Result, subst, sym, ℕ, ◌<◌, ◌∙◌}
use Rattle.core_records.proofs.HandleTaken.{item_counted, item_taken_sound, item_taken_writes}
use Rattle.core_records.proofs.InstanceReads.{read_at}

pub index_mut-entry-requires : goal.index_mut-entry-requires
index_mut-entry-requires c = subst (λ (n : ℕ). c.args.instance < n) (sym c.args.parts.now.instances.ok.0) (set_instance c.args.parts.now c.args.instance c.args.handle c.requires.names)

pub waitable_set_remove-requires : goal.waitable_set_remove-requires
waitable_set_remove-requires c =
    let a = c.args.parts.now in
    let r = c.index_mut-entry.result.now in
    let at = read_at a.instances.items c.args.instance r (set_instance a c.args.instance c.args.handle c.requires.names) c.index_mut-entry.ensures.value in
    let one = set_held a c.args.instance c.args.handle c.requires.names c.requires.sound r at in
    record { counted = λ some. item_counted a c.requires.sound c.args.instance r at c.args.handle one.0 one.1.0 }

pub returns-clause-sound : goal.returns-clause-sound
returns-clause-sound c =
    let a = c.args.parts.now in
    let r = c.index_mut-entry.result.now in
    let at = read_at a.instances.items c.args.instance r (set_instance a c.args.instance c.args.handle c.requires.names) c.index_mut-entry.ensures.value in
    let one = set_held a c.args.instance c.args.handle c.requires.names c.requires.sound r at in
    item_taken_sound a c.requires.sound c.args.instance r at c.args.handle one.0 one.1.0 c.waitable_set_remove.new.self _ refl c.waitable_set_remove.new.counter
    (subst (λ (o : Result Rep HandleError). OnOk o (Removes c.args.handle r.handles c.waitable_set_remove.new.self a.counter c.waitable_set_remove.new.counter)) (c.waitable_set_remove.ensures.answer ∙ one.1.1.1) c.waitable_set_remove.ensures.ok)

pub returns-clause-new : goal.returns-clause-new
returns-clause-new c =
    let a = c.args.parts.now in
    let r = c.index_mut-entry.result.now in
    let at = read_at a.instances.items c.args.instance r (set_instance a c.args.instance c.args.handle c.requires.names) c.index_mut-entry.ensures.value in
    let one = set_held a c.args.instance c.args.handle c.requires.names c.requires.sound r at in
    item_taken_writes a c.requires.sound c.args.instance r at c.args.handle one.0 one.1.0 c.waitable_set_remove.new.self _ refl c.waitable_set_remove.new.counter
    (subst (λ (o : Result Rep HandleError). OnOk o (Removes c.args.handle r.handles c.waitable_set_remove.new.self a.counter c.waitable_set_remove.new.counter)) (c.waitable_set_remove.ensures.answer ∙ one.1.1.1) c.waitable_set_remove.ensures.ok)
