use Rattle.core_records.proofs.Core.{Place, refl, subst, sym}
use Rattle.core_places.proofs.FitLemmas.{may_recount}
use Rattle.core_places.proofs.PlacedLemmas.{node_made, placed_becomes, wait_may}
use Rattle.core_places.proofs.ThreadLemmas.{op_progress_at, becomes_none}
use Rattle.core_places.proofs.moves.put_begun_counted.Goals as goal
use Rattle.core_places.specs.Moved.{begun, to_begun}
use Rattle.core_records.proofs.HomeLemmas.{place_bare, thread_home}
use Rattle.core_places.specs.Waits.{MayRefile, RefilesWait}

pub entry_set-from-requires-clause-place : goal.entry_set-from-requires-clause-place
entry_set-from-requires-clause-place c = place_bare c.args.parts.now _ _ (thread_home c.args.parts.now c.requires c.args.id c.in-Some.found.now c.in-Some.ensures.item).place

pub entry_set-from-requires-clause-op_progress : goal.entry_set-from-requires-clause-op_progress
entry_set-from-requires-clause-op_progress c = op_progress_at c.args.parts.now c.requires c.args.id c.in-Some.found.now c.in-Some.ensures.item

pub recount-requires : goal.recount-requires
recount-requires c = may_recount c.args.parts.now c.requires c.args.id c.in-Some.found.now c.in-Some.ensures.item (begun c.in-Some.found.now c.args.words.0 c.args.words.1 c.args.words.2) refl refl c.entry_set-from.result c.no_set-to.result c.entry_set-from.ensures c.no_set-to.ensures

pub refresh_key-requires-clause-made : goal.refresh_key-requires-clause-made
refresh_key-requires-clause-made c = node_made c.args.parts.now c.requires c.args.id c.in-Some.found.now c.in-Some.ensures.item (begun c.in-Some.found.now c.args.words.0 c.args.words.1 c.args.words.2) refl refl

pub refile_wait-requires : goal.refile_wait-requires
refile_wait-requires c = subst (MayRefile c.args.parts.now.waits) (sym c.wait_filing-wait.ensures) (wait_may c.args.parts.now c.requires c.args.id c.in-Some.found.now c.in-Some.ensures.item (begun c.in-Some.found.now c.args.words.0 c.args.words.1 c.args.words.2) refl refl Place.Running)

pub returns-in-Some : goal.returns-in-Some
returns-in-Some c =
    let a = c.args.parts.now in
    let g = c.in-Some.found.now in
    let item = c.in-Some.ensures.item in
    placed_becomes a c.requires c.args.id g item (begun g c.args.words.0 c.args.words.1 c.args.words.2) refl refl c.entry_set-from.result c.no_set-to.result c.entry_set-from.ensures c.no_set-to.ensures c.refresh_key.new.links c.refile_wait.new.waits
    tt tt
    c.refresh_key.ensures.links
    (subst (RefilesWait a.waits c.refile_wait.new.waits) c.wait_filing-wait.ensures c.refile_wait.ensures)
    (to_begun c.args.words.0 c.args.words.1 c.args.words.2) refl _ (c.write_begun.ensures g item) _ c.recount.ensures

pub returns-in_default : goal.returns-in_default
returns-in_default c = becomes_none _ c.requires _ c.in_default.ensures.is _
