use Rattle.core_records.proofs.Core.{refl, set_op_progress}
use Rattle.core_places.proofs.FitLemmas.{may_recount}
use Rattle.core_places.proofs.PlacedLemmas.{placed_becomes, stays_filed, waits_stay}
use Rattle.core_places.proofs.ThreadLemmas.{op_progress_at, becomes_none}
use Rattle.core_places.proofs.moves.put_there_counted.Goals as goal
use Rattle.core_places.specs.Moved.{arrived}
use Rattle.core_records.proofs.HomeLemmas.{place_bare, thread_home}

pub entry_set-from-requires-clause-place : goal.entry_set-from-requires-clause-place
entry_set-from-requires-clause-place c = place_bare c.args.parts.now _ _ (thread_home c.args.parts.now c.requires.sound c.args.id c.in-Some.found.now c.in-Some.ensures.item).place

pub entry_set-from-requires-clause-op_progress : goal.entry_set-from-requires-clause-op_progress
entry_set-from-requires-clause-op_progress c = op_progress_at c.args.parts.now c.requires.sound c.args.id c.in-Some.found.now c.in-Some.ensures.item

pub entry_set-to-requires-clause-place : goal.entry_set-to-requires-clause-place
entry_set-to-requires-clause-place c = place_bare c.args.parts.now _ _ (thread_home c.args.parts.now c.requires.sound c.args.id c.in-Some.found.now c.in-Some.ensures.item).place

pub recount-requires : goal.recount-requires
recount-requires c = may_recount c.args.parts.now c.requires.sound c.args.id c.in-Some.found.now c.in-Some.ensures.item (arrived c.in-Some.found.now c.args.op_progress c.args.op_target) refl refl c.entry_set-from.result c.entry_set-to.result c.entry_set-from.ensures c.entry_set-to.ensures

pub returns-in-Some : goal.returns-in-Some
unfolding set_op_progress
returns-in-Some c =
    let a = c.args.parts.now in
    let g = c.in-Some.found.now in
    let item = c.in-Some.ensures.item in
    placed_becomes a c.requires.sound c.args.id g item (arrived g c.args.op_progress c.args.op_target) refl refl c.entry_set-from.result c.entry_set-to.result c.entry_set-from.ensures c.entry_set-to.ensures a.places a.waits
    (place_bare a _ _ (thread_home a c.requires.sound c.args.id g item).place) c.requires.op_progress
    (stays_filed a c.requires.sound c.args.id g item (arrived g c.args.op_progress c.args.op_target) refl refl refl refl)
    (waits_stay a c.requires.sound c.args.id g item (arrived g c.args.op_progress c.args.op_target) refl refl refl)
    (λ t. record t { op_progress = c.args.op_progress }) refl _ (c.write_point.ensures g item) _ c.recount.ensures

pub returns-in_default : goal.returns-in_default
unfolding set_op_progress
returns-in_default c = becomes_none _ c.requires.sound _ c.in_default.ensures.is _
