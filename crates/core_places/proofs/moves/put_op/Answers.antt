use Rattle.core_records.proofs.Core.{OpProgress, refl}
use Rattle.core_places.proofs.FitLemmas.{may_recount}
use Rattle.core_places.proofs.PlacedLemmas.{placed_becomes, stays_filed, waits_stay}
use Rattle.core_places.proofs.ThreadLemmas.{runs_unset, becomes_none}
use Rattle.core_places.proofs.moves.put_op.Goals as goal
use Rattle.core_places.specs.Moved.{at_op, to_op}
use Rattle.core_records.proofs.HomeLemmas.{place_bare, thread_home}

pub recount-requires : goal.recount-requires
recount-requires c = may_recount c.args.parts.now c.requires c.args.id c.in-Some.found.now c.in-Some.ensures.item (at_op c.in-Some.found.now c.args.position) refl refl c.no_set-from.result c.no_set-to.result (runs_unset c.args.parts.now c.no_set-from.result c.in-Some.found.now.thread.place c.in-Some.found.now.thread.op_progress c.no_set-from.ensures c.in-Running.is) (runs_unset c.args.parts.now c.no_set-to.result c.in-Some.found.now.thread.place OpProgress.Fresh c.no_set-to.ensures c.in-Running.is)

pub returns-in-Running : goal.returns-in-Running
returns-in-Running c =
    let a = c.args.parts.now in
    let g = c.in-Some.found.now in
    let item = c.in-Some.ensures.item in
    placed_becomes a c.requires c.args.id g item (at_op g c.args.position) refl refl c.no_set-from.result c.no_set-to.result (runs_unset a c.no_set-from.result g.thread.place g.thread.op_progress c.no_set-from.ensures c.in-Running.is) (runs_unset a c.no_set-to.result g.thread.place OpProgress.Fresh c.no_set-to.ensures c.in-Running.is) a.places a.waits
    (place_bare a _ _ (thread_home a c.requires c.args.id g item).place) tt
    (stays_filed a c.requires c.args.id g item (at_op g c.args.position) refl refl refl refl)
    (waits_stay a c.requires c.args.id g item (at_op g c.args.position) refl refl refl)
    (to_op c.args.position) refl _ (c.write_op.ensures g item) _ c.recount.ensures

pub returns-in_default : goal.returns-in_default
returns-in_default c = becomes_none _ c.requires _ c.in_default.ensures.is _
