use Rattle.core_records.proofs.Core.{refl, set_op_progress}
use Rattle.core_places.proofs.FitLemmas.{may_recount}
use Rattle.core_places.proofs.PlacedLemmas.{placed_becomes, stays_filed, waits_stay}
use Rattle.core_places.proofs.ThreadLemmas.{runs_unset, becomes_none}
use Rattle.core_places.proofs.moves.put_there.Goals as goal
use Rattle.core_places.specs.Moved.{arrived}
use Rattle.core_records.proofs.HomeLemmas.{place_bare, thread_home}

pub recount-requires : goal.recount-requires
recount-requires c = may_recount c.args.parts.now c.requires.sound c.args.id c.in-Some.found.now c.in-Some.ensures.item (arrived c.in-Some.found.now c.args.op_progress c.args.op_target) refl refl c.no_set-from.result c.no_set-to.result (runs_unset c.args.parts.now c.no_set-from.result c.in-Some.found.now.thread.place c.in-Some.found.now.thread.op_progress c.no_set-from.ensures c.in-Running.is) (runs_unset c.args.parts.now c.no_set-to.result c.in-Some.found.now.thread.place c.args.op_progress c.no_set-to.ensures c.in-Running.is)

pub returns-in-Running : goal.returns-in-Running
unfolding set_op_progress
returns-in-Running c =
    let a = c.args.parts.now in
    let g = c.in-Some.found.now in
    let item = c.in-Some.ensures.item in
    placed_becomes a c.requires.sound c.args.id g item (arrived g c.args.op_progress c.args.op_target) refl refl c.no_set-from.result c.no_set-to.result (runs_unset a c.no_set-from.result g.thread.place g.thread.op_progress c.no_set-from.ensures c.in-Running.is) (runs_unset a c.no_set-to.result g.thread.place c.args.op_progress c.no_set-to.ensures c.in-Running.is) a.places a.waits
    (place_bare a _ _ (thread_home a c.requires.sound c.args.id g item).place) c.requires.op_progress
    (stays_filed a c.requires.sound c.args.id g item (arrived g c.args.op_progress c.args.op_target) refl refl refl refl)
    (waits_stay a c.requires.sound c.args.id g item (arrived g c.args.op_progress c.args.op_target) refl refl refl)
    (λ t. record t { op_progress = c.args.op_progress }) refl _ (c.write_point.ensures g item) _ c.recount.ensures

pub returns-in_default : goal.returns-in_default
unfolding set_op_progress
returns-in_default c = becomes_none _ c.requires.sound _ c.in_default.ensures.is _
