use Rattle.core_fields.proofs.ItemLemmas.{nothing_parts}
use Rattle.core_fields.proofs.thread_handles.insert_thread_handle.Goals as goal
use Rattle.core_records.proofs.Core.{ap, Handles, refl, Rep, set, with_item}
use Rattle.core_records.proofs.HandleWrites.{counts_threads, nothing_given, nothing_seen, thread_handle_is, thread_handle_names, thread_handle_sound, thread_handle_writes}
use Rattle.core_records.proofs.InstanceReads.{read_at}

pub guest_thread_insert-requires : goal.guest_thread_insert-requires
guest_thread_insert-requires c = counts_threads c.args.parts.now c.requires.sound c.args.index c.index_mut-entry.result.now (read_at c.args.parts.now.instances.items c.args.index c.index_mut-entry.result.now c.requires.there c.index_mut-entry.ensures.value)

pub returns-in-Ok-clause-sound : goal.returns-in-Ok-clause-sound
returns-in-Ok-clause-sound c = thread_handle_sound c.args.parts.now c.requires.sound c.args.index c.index_mut-entry.result.now (read_at c.args.parts.now.instances.items c.args.index c.index_mut-entry.result.now c.requires.there c.index_mut-entry.ensures.value) c.args.rep _ _ refl _ _ c.in-Ok.ensures.ok c.requires.stands

pub returns-in-Ok-clause-handle : goal.returns-in-Ok-clause-handle
returns-in-Ok-clause-handle c = thread_handle_is c.args.parts.now c.requires.sound c.args.index c.index_mut-entry.result.now (read_at c.args.parts.now.instances.items c.args.index c.index_mut-entry.result.now c.requires.there c.index_mut-entry.ensures.value) c.args.rep c.guest_thread_insert.new.self (with_item c.args.parts.now.instances c.args.index (record c.index_mut-entry.result.now { thread_handles = c.guest_thread_insert.new.self })) refl _ _ c.in-Ok.ensures.ok

pub returns-in-Ok-clause-names : goal.returns-in-Ok-clause-names
returns-in-Ok-clause-names c = thread_handle_names c.args.parts.now c.requires.sound c.args.index c.index_mut-entry.result.now (read_at c.args.parts.now.instances.items c.args.index c.index_mut-entry.result.now c.requires.there c.index_mut-entry.ensures.value) c.args.rep _ _ refl _ _ c.in-Ok.ensures.ok

pub returns-in-Ok-clause-new : goal.returns-in-Ok-clause-new
returns-in-Ok-clause-new c = thread_handle_writes c.args.parts.now c.requires.sound c.args.index c.index_mut-entry.result.now (read_at c.args.parts.now.instances.items c.args.index c.index_mut-entry.result.now c.requires.there c.index_mut-entry.ensures.value) c.args.rep _ _ refl _ _ c.in-Ok.ensures.ok

pub returns-in-Err-clause-sound : goal.returns-in-Err-clause-sound
returns-in-Err-clause-sound c =
    let g = c.index_mut-entry.result.now in
    nothing_given c.args.parts.now c.args.index g (read_at c.args.parts.now.instances.items c.args.index g c.requires.there c.index_mut-entry.ensures.value) _
    (ap (λ (t : Handles Rep). set c.args.parts.now.instances.items c.args.index (record g { thread_handles = t })) c.in-Err.ensures.err.0) _ c.in-Err.ensures.err.1 c.requires.sound

pub returns-in-Err-clause-err : goal.returns-in-Err-clause-err
returns-in-Err-clause-err c =
    let g = c.index_mut-entry.result.now in
    nothing_seen c.args.parts.now c.args.index g (read_at c.args.parts.now.instances.items c.args.index g c.requires.there c.index_mut-entry.ensures.value) _
    (ap (λ (t : Handles Rep). set c.args.parts.now.instances.items c.args.index (record g { thread_handles = t })) c.in-Err.ensures.err.0) _ c.in-Err.ensures.err.1

pub returns-in-Err-clause-same : goal.returns-in-Err-clause-same
returns-in-Err-clause-same c =
    let g = c.index_mut-entry.result.now in
    nothing_parts c.args.parts.now c.args.index g (read_at c.args.parts.now.instances.items c.args.index g c.requires.there c.index_mut-entry.ensures.value) (with_item c.args.parts.now.instances c.args.index (record g { thread_handles = c.guest_thread_insert.new.self }))
    (ap (λ (t : Handles Rep). set c.args.parts.now.instances.items c.args.index (record g { thread_handles = t })) c.in-Err.ensures.err.0) _ c.in-Err.ensures.err.1
