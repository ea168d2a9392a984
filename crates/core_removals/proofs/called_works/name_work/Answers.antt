use Rattle.core_fields.proofs.NameLemmas.{subtask_named}
use Rattle.core_records.proofs.Core.{ap, AtPlace, give_handle, Named, on_core, parts_of, seen, subst, Subtask, SubtaskId, sym, WorkOf, ℕ, ◌∙◌}
use Rattle.core_records.proofs.HomeLemmas.{place_in_bare, work_at_place}
use Rattle.core_removals.proofs.called_works.name_work.Goals as goal

pub insert_handle-requires-clause-stands : goal.insert_handle-requires-clause-stands
insert_handle-requires-clause-stands c =
    let a = c.args.parts.now in
    let id = c.args.work in
    place_in_bare a id.rep (WorkOf c.work_number.result) (subst (λ (n : ℕ). AtPlace (parts_of a) id.rep (WorkOf n)) (sym c.work_number.ensures) (work_at_place a c.requires.sound id))

pub returns-in-Ok-clause-new : goal.returns-in-Ok-clause-new
returns-in-Ok-clause-new c =
    subtask_named (seen c.args.parts.now) (seen c.insert_handle.new.parts) (SubtaskId.Host c.args.work) c.args.instance c.in-Ok.handle
    (c.in-Ok.ensures.new ∙ ap (λ (n : ℕ). on_core (give_handle c.args.instance (Named.Subtask (Subtask.Host n))) (seen c.args.parts.now)) c.work_number.ensures)
    (seen c.set_subtask_handle.new.parts) c.set_subtask_handle.ensures.new c.in-Ok.ensures.handle
