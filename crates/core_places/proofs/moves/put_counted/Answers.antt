use Rattle.core_records.proofs.Core.{ap, refl, removed, set_place, subst, sym, ◌∙◌}
use Rattle.core_records.specs.declared.{thread_records.GuestThread.GuestThread}
use Rattle.core_places.proofs.FitLemmas.{may_recount}
use Rattle.core_places.proofs.PlacedLemmas.{chain_live, node_made, placed_becomes, refiled, wait_may}
use Rattle.core_places.proofs.ThreadLemmas.{op_progress_at, same_item, put_none}
use Rattle.core_places.proofs.moves.put_counted.Goals as goal
use Rattle.core_places.specs.Moved.{placed}
use Rattle.core_records.proofs.HomeLemmas.{place_bare, thread_home}
use Rattle.core_records.specs.RecordPlaces.{thread_order_key}
use Rattle.core_places.specs.Waits.{MayRefile, RefilesWait}

pub entry_set-from-requires-clause-place : goal.entry_set-from-requires-clause-place
entry_set-from-requires-clause-place c = place_bare c.args.parts.now _ _ (thread_home c.args.parts.now c.requires.sound c.args.id c.in-Some.found.now c.in-Some.ensures.item).place

pub entry_set-from-requires-clause-op_progress : goal.entry_set-from-requires-clause-op_progress
entry_set-from-requires-clause-op_progress c = op_progress_at c.args.parts.now c.requires.sound c.args.id c.in-Some.found.now c.in-Some.ensures.item

pub entry_set-to-requires-clause-op_progress : goal.entry_set-to-requires-clause-op_progress
entry_set-to-requires-clause-op_progress c = op_progress_at c.args.parts.now c.requires.sound c.args.id c.in-Some.found.now c.in-Some.ensures.item

pub recount-requires : goal.recount-requires
recount-requires c = may_recount c.args.parts.now c.requires.sound c.args.id c.in-Some.found.now c.in-Some.ensures.item (placed c.in-Some.found.now c.args.place c.args.state_target) refl refl c.entry_set-from.result c.entry_set-to.result c.entry_set-from.ensures c.entry_set-to.ensures

pub refresh_key-requires-clause-made : goal.refresh_key-requires-clause-made
refresh_key-requires-clause-made c = node_made c.args.parts.now c.requires.sound c.args.id c.in-Some.found.now c.in-Some.ensures.item (placed c.in-Some.found.now c.args.place c.args.state_target) refl refl

pub refresh_key-requires-clause-live : goal.refresh_key-requires-clause-live
refresh_key-requires-clause-live c = chain_live c.args.parts.now c.requires.sound c.args.id c.in-Some.found.now c.in-Some.ensures.item (placed c.in-Some.found.now c.args.place c.args.state_target) refl refl c.in-Some.found.now.instance c.in-Some.found.now.barred c.args.place c.args.chain (c.requires.chain c.in-Some.found.now c.in-Some.ensures.item)

pub refile_wait-requires : goal.refile_wait-requires
refile_wait-requires c = subst (MayRefile c.args.parts.now.waits) (sym c.wait_filing-wait.ensures) (wait_may c.args.parts.now c.requires.sound c.args.id c.in-Some.found.now c.in-Some.ensures.item (placed c.in-Some.found.now c.args.place c.args.state_target) refl refl c.args.place)

pub returns-in-Some : goal.returns-in-Some
unfolding set_place
returns-in-Some c =
    let a = c.args.parts.now in
    let g = c.in-Some.found.now in
    let item = c.in-Some.ensures.item in
    let moved = placed_becomes a c.requires.sound c.args.id g item (placed g c.args.place c.args.state_target) refl refl c.entry_set-from.result c.entry_set-to.result c.entry_set-from.ensures c.entry_set-to.ensures c.refresh_key.new.links c.refile_wait.new.waits
    c.requires.place (op_progress_at a c.requires.sound c.args.id g item)
    (refiled a c.requires.sound c.args.id g item (placed g c.args.place c.args.state_target) refl refl c.args.place c.args.chain c.thread_order_key-order_key.result c.refresh_key.new.links (c.thread_order_key-order_key.ensures ∙ ap (λ r. thread_order_key a.version r g) c.rep.ensures) (c.requires.chain g item) c.refresh_key.ensures.links)
    (subst (RefilesWait a.waits c.refile_wait.new.waits) c.wait_filing-wait.ensures c.refile_wait.ensures)
    (λ t. record t { place = c.args.place }) refl _ (c.write_place.ensures g item) _ c.recount.ensures in
    record {
      sound = moved.sound;
      new = moved.new;
      threads = λ k is. c.write_place.ensures k is;
      left = λ k is none. c.refresh_key.ensures.left none ∙ ap (λ (x : GuestThread). removed x.node.index a.places) (same_item item is);
    }

pub returns-in_default : goal.returns-in_default
returns-in_default c = put_none _ c.requires.sound _ _ _ _ c.in_default.ensures.is
