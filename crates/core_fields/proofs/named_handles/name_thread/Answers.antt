use Rattle.core_fields.proofs.NameLemmas.{named, owns}
use Rattle.core_fields.proofs.named_handles.name_thread.Goals as goal
use Rattle.core_records.proofs.HomeLemmas.{thread_at_place, thread_within}
use Rattle.core_records.proofs.Core.{AtPlace, parts_of, seen, StateView, subst, sym, thread_of, ThreadOf, ℕ, ◌<◌}

pub insert_thread_handle-requires-clause-there : goal.insert_thread_handle-requires-clause-there
insert_thread_handle-requires-clause-there c = thread_within c.args.parts.now c.requires.sound c.args.thread c.thread_there-entry.result.now c.thread_there-entry.ensures.item

pub insert_thread_handle-requires-clause-stands : goal.insert_thread_handle-requires-clause-stands
insert_thread_handle-requires-clause-stands c =
    let a = c.args.parts.now in
    subst (λ (n : ℕ). AtPlace (parts_of a) c.args.thread.rep (ThreadOf n)) (sym c.thread_there-entry.ensures.number) (thread_at_place a c.requires.sound c.args.thread)

pub write_handle-requires-clause-owns : goal.write_handle-requires-clause-owns
write_handle-requires-clause-owns c = owns (seen c.args.parts.now) (seen c.insert_thread_handle.new.parts) c.args.thread c.thread_there-entry.result.now.instance c.thread_there-entry.result.now.number c.in-Ok.handle c.in-Ok.ensures.new c.thread_there-entry.ensures.number c.thread_there-entry.ensures.instance c.in-Ok.ensures.names

pub returns-in-Ok-clause-new : goal.returns-in-Ok-clause-new
returns-in-Ok-clause-new c = named (seen c.args.parts.now) (seen c.insert_thread_handle.new.parts) c.args.thread c.thread_there-entry.result.now.instance c.thread_there-entry.result.now.number c.in-Ok.handle c.in-Ok.ensures.new c.thread_there-entry.ensures.number c.thread_there-entry.ensures.instance (seen c.write_handle.new.parts) c.write_handle.ensures.new c.in-Ok.ensures.handle

pub write_handle-requires-clause-live : goal.write_handle-requires-clause-live
write_handle-requires-clause-live c = subst (λ (v : StateView). 0 < thread_of v c.args.thread) (sym c.in-Ok.ensures.new) c.requires.live
