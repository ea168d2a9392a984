use Rattle.core_records.proofs.Core.{ap, refl, subst, sym, ◌∙◌}
use Rattle.core_places.proofs.FitLemmas.{may_recount}
use Rattle.core_places.proofs.PlacedLemmas.{chain_live, node_made, placed_becomes, refiled, node_unlinked, wait_may}
use Rattle.core_places.proofs.ThreadLemmas.{alone_unset, becomes_none}
use Rattle.core_places.proofs.moves.put_stand.Goals as goal
use Rattle.core_places.specs.Moved.{standing, to_stand}
use Rattle.core_records.specs.RecordPlaces.{thread_order_key}
use Rattle.core_places.specs.Waits.{MayRefile, RefilesWait}

pub recount-requires : goal.recount-requires
recount-requires c = may_recount c.args.parts.now c.requires.sound c.args.id c.in-Some.found.now c.in-Some.ensures.item (standing c.in-Some.found.now c.args.place c.args.state_target c.args.op_progress c.args.op_target) refl refl c.no_set-from.result c.entry_set-to.result (alone_unset c.args.parts.now c.no_set-from.result c.in-Some.found.now.thread.place c.in-Some.found.now.thread.op_progress c.no_set-from.ensures (c.stands_alone.ensures c.if-stands_alone.true)) c.entry_set-to.ensures

pub file_in-requires-clause-made : goal.file_in-requires-clause-made
file_in-requires-clause-made c = node_made c.args.parts.now c.requires.sound c.args.id c.in-Some.found.now c.in-Some.ensures.item (standing c.in-Some.found.now c.args.place c.args.state_target c.args.op_progress c.args.op_target) refl refl

pub file_in-requires-clause-live : goal.file_in-requires-clause-live
file_in-requires-clause-live c = chain_live c.args.parts.now c.requires.sound c.args.id c.in-Some.found.now c.in-Some.ensures.item (standing c.in-Some.found.now c.args.place c.args.state_target c.args.op_progress c.args.op_target) refl refl c.in-Some.found.now.instance c.in-Some.found.now.barred c.args.place c.args.chain (c.requires.chain c.in-Some.found.now c.in-Some.ensures.item)

pub file_in-requires-clause-unlinked : goal.file_in-requires-clause-unlinked
file_in-requires-clause-unlinked c = node_unlinked c.args.parts.now c.requires.sound c.args.id c.in-Some.found.now c.in-Some.ensures.item (standing c.in-Some.found.now c.args.place c.args.state_target c.args.op_progress c.args.op_target) refl refl ((c.stands_alone.ensures c.if-stands_alone.true).1)

pub refile_wait-requires : goal.refile_wait-requires
refile_wait-requires c = subst (MayRefile c.args.parts.now.waits) (sym c.wait_filing-wait.ensures) (wait_may c.args.parts.now c.requires.sound c.args.id c.in-Some.found.now c.in-Some.ensures.item (standing c.in-Some.found.now c.args.place c.args.state_target c.args.op_progress c.args.op_target) refl refl c.args.place)

pub returns-then-stands_alone : goal.returns-then-stands_alone
returns-then-stands_alone c =
    let a = c.args.parts.now in
    let g = c.in-Some.found.now in
    let item = c.in-Some.ensures.item in
    placed_becomes a c.requires.sound c.args.id g item (standing g c.args.place c.args.state_target c.args.op_progress c.args.op_target) refl refl c.no_set-from.result c.entry_set-to.result (alone_unset a c.no_set-from.result g.thread.place g.thread.op_progress c.no_set-from.ensures (c.stands_alone.ensures c.if-stands_alone.true)) c.entry_set-to.ensures c.file_in.new.links c.refile_wait.new.waits
    c.requires.place c.requires.op_progress
    (refiled a c.requires.sound c.args.id g item (standing g c.args.place c.args.state_target c.args.op_progress c.args.op_target) refl refl c.args.place c.args.chain c.thread_order_key-order_key.result c.file_in.new.links (c.thread_order_key-order_key.ensures ∙ ap (λ r. thread_order_key a.version r g) c.rep.ensures) (c.requires.chain g item) c.file_in.ensures.links)
    (subst (RefilesWait a.waits c.refile_wait.new.waits) c.wait_filing-wait.ensures c.refile_wait.ensures)
    (to_stand c.args.place c.args.op_progress) refl _ (c.write_stand.ensures g item) _ c.recount.ensures

pub returns-in_default : goal.returns-in_default
returns-in_default c = becomes_none _ c.requires.sound _ c.in_default.ensures.is _
