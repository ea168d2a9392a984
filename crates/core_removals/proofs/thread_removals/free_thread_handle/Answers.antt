use Rattle.core_removals.proofs.ThreadHandleLemmas.{named_one, thread_handle_counted, thread_held, thread_instance, thread_taken_sound, thread_taken_writes}
use Rattle.core_removals.proofs.thread_removals.free_thread_handle.Goals as goal
use Rattle.core_records.proofs.Core.{ap, HandleError, OnOk, refl, Removes, Rep, Result, subst, sym, ℕ, ◌<◌, ◌∙◌}
use Rattle.task_handles.specs.HeldItem.{thread_of}
use Rattle.core_records.proofs.InstanceReads.{read_at}

pub index_mut-entry-requires : goal.index_mut-entry-requires
index_mut-entry-requires c = let one = named_one _ c.requires.names in subst (λ (n : ℕ). c.args.instance < n) (sym c.args.parts.now.instances.ok.0) (thread_instance c.args.parts.now c.args.instance c.args.handle one.0 one.1)

pub guest_thread_remove-requires : goal.guest_thread_remove-requires
guest_thread_remove-requires c =
    let a = c.args.parts.now in
    let r = c.index_mut-entry.result.now in
    let one = named_one _ c.requires.names in
    let at = read_at a.instances.items c.args.instance r (thread_instance a c.args.instance c.args.handle one.0 one.1) c.index_mut-entry.ensures.value in
    record { counted = λ some. thread_handle_counted a c.requires.sound c.args.instance r at c.args.handle one.0 one.1 (c.requires.gone one.0 one.1) }

pub returns-clause-sound : goal.returns-clause-sound
returns-clause-sound c =
    let a = c.args.parts.now in
    let r = c.index_mut-entry.result.now in
    let one = named_one _ c.requires.names in
    let at = read_at a.instances.items c.args.instance r (thread_instance a c.args.instance c.args.handle one.0 one.1) c.index_mut-entry.ensures.value in
    thread_taken_sound a c.requires.sound c.args.instance r at c.args.handle one.0 one.1 (c.requires.gone one.0 one.1) c.guest_thread_remove.new.self _ refl c.guest_thread_remove.new.counter
    (subst (λ (o : Result Rep HandleError). OnOk o (Removes c.args.handle r.thread_handles c.guest_thread_remove.new.self a.counter c.guest_thread_remove.new.counter)) (c.guest_thread_remove.ensures.answer ∙ ap thread_of (thread_held a c.args.instance c.args.handle one.0 one.1 r at).1.0) c.guest_thread_remove.ensures.ok)

pub returns-clause-new : goal.returns-clause-new
returns-clause-new c =
    let a = c.args.parts.now in
    let r = c.index_mut-entry.result.now in
    let one = named_one _ c.requires.names in
    let at = read_at a.instances.items c.args.instance r (thread_instance a c.args.instance c.args.handle one.0 one.1) c.index_mut-entry.ensures.value in
    thread_taken_writes a c.requires.sound c.args.instance r at c.args.handle one.0 one.1 (c.requires.gone one.0 one.1) c.guest_thread_remove.new.self _ refl c.guest_thread_remove.new.counter
    (subst (λ (o : Result Rep HandleError). OnOk o (Removes c.args.handle r.thread_handles c.guest_thread_remove.new.self a.counter c.guest_thread_remove.new.counter)) (c.guest_thread_remove.ensures.answer ∙ ap thread_of (thread_held a c.args.instance c.args.handle one.0 one.1 r at).1.0) c.guest_thread_remove.ensures.ok)
