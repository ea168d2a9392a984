use Rattle.core_fields.proofs.subtask_handles.subtask_held.Goals as goal
use Rattle.core_records.proofs.Core.{AtPlace, CallOf, parts_of, subst, sym, WorkOf, ℕ}
use Rattle.core_records.proofs.HomeLemmas.{call_at_place, place_in_bare, work_at_place}

pub returns-in-Guest-clause-stands : goal.returns-in-Guest-clause-stands
returns-in-Guest-clause-stands c =
    let a = c.args.parts.now in
    let id = c.in-Guest.call in
    place_in_bare a id.rep (CallOf c.call_number.result) (subst (λ (n : ℕ). AtPlace (parts_of a) id.rep (CallOf n)) (sym c.call_number.ensures) (call_at_place a c.requires id))

pub returns-in-Host-clause-stands : goal.returns-in-Host-clause-stands
returns-in-Host-clause-stands c =
    let a = c.args.parts.now in
    let id = c.in-Host.work in
    place_in_bare a id.rep (WorkOf c.work_number.result) (subst (λ (n : ℕ). AtPlace (parts_of a) id.rep (WorkOf n)) (sym c.work_number.ensures) (work_at_place a c.requires id))
