use Rattle.core_records.proofs.Core.{refl}
use Rattle.core_places.proofs.FitLemmas.{may_recount}
use Rattle.core_places.proofs.PlacedLemmas.{placed_becomes, stays_filed, waits_stay}
use Rattle.core_places.proofs.ThreadLemmas.{op_progress_at, becomes_none}
use Rattle.core_places.proofs.moves.put_op_counted.Goals as goal
use Rattle.core_places.specs.Moved.{at_op, to_op}
use Rattle.core_records.proofs.HomeLemmas.{place_bare, thread_home}

pub entry_set-from-requires-clause-place : goal.entry_set-from-requires-clause-place
entry_set-from-requires-clause-place c = place_bare c.args.parts.now _ _ (thread_home c.args.parts.now c.requires c.args.id c.in-Some.found.now c.in-Some.ensures.item).place

pub entry_set-from-requires-clause-op_progress : goal.entry_set-from-requires-clause-op_progress
entry_set-from-requires-clause-op_progress c = op_progress_at c.args.parts.now c.requires c.args.id c.in-Some.found.now c.in-Some.ensures.item

pub entry_set-to-requires-clause-place : goal.entry_set-to-requires-clause-place
entry_set-to-requires-clause-place c = place_bare c.args.parts.now _ _ (thread_home c.args.parts.now c.requires c.args.id c.in-Some.found.now c.in-Some.ensures.item).place

pub recount-requires : goal.recount-requires
recount-requires c = may_recount c.args.parts.now c.requires c.args.id c.in-Some.found.now c.in-Some.ensures.item (at_op c.in-Some.found.now c.args.position) refl refl c.entry_set-from.result c.entry_set-to.result c.entry_set-from.ensures c.entry_set-to.ensures

pub returns-in-Some : goal.returns-in-Some
returns-in-Some c =
    let a = c.args.parts.now in
    let g = c.in-Some.found.now in
    let item = c.in-Some.ensures.item in
    placed_becomes a c.requires c.args.id g item (at_op g c.args.position) refl refl c.entry_set-from.result c.entry_set-to.result c.entry_set-from.ensures c.entry_set-to.ensures a.places a.waits
    (place_bare a _ _ (thread_home a c.requires c.args.id g item).place) tt
    (stays_filed a c.requires c.args.id g item (at_op g c.args.position) refl refl refl refl)
    (waits_stay a c.requires c.args.id g item (at_op g c.args.position) refl refl refl)
    (to_op c.args.position) refl _ (c.write_op.ensures g item) _ c.recount.ensures

pub returns-in_default : goal.returns-in_default
returns-in_default c = becomes_none _ c.requires _ c.in_default.ensures.is _
