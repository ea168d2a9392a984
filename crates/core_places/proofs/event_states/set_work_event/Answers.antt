use Rattle.std.proofs.Common.{is_ok}
use Rattle.core_records.proofs.Core.{ap, entry_of, IsSoundCore, Option, option_map, Refiles, refl, seen, set_event, subst, sym, with_entry, ℕ, ◌∙◌}
use Rattle.core_records.specs.declared.{work_records.WorkRecord.WorkRecord}
use Rattle.core_places.proofs.GoneLemmas.{work_gone}
use Rattle.core_places.proofs.ThreadLemmas.{same_item}
use Rattle.core_places.proofs.HearLemmas.{is_whole, work_join_at, ready_live, ready_made, kept_same, same_sets, stays_live, heard_seen, heard_sound}
use Rattle.core_places.proofs.event_states.set_work_event.Goals as goal
use Rattle.table_lists.specs.declared.ordered_lists.OrderKey.{OrderKey}
use Rattle.core_records.specs.RecordPlaces.{member_order_key}

pub work_chain-chain-requires-clause-at : goal.work_chain-chain-requires-clause-at
work_chain-chain-requires-clause-at c = work_join_at c.args.parts.now c.requires c.args.work c.in-Some.found.now c.in-Some.ensures.item

pub refresh_key-requires-clause-made : goal.refresh_key-requires-clause-made
refresh_key-requires-clause-made c = ready_made c.args.parts.now c.requires c.args.work c.in-Some.found.now c.in-Some.ensures.item

pub refresh_key-requires-clause-live : goal.refresh_key-requires-clause-live
refresh_key-requires-clause-live c = ready_live c.args.parts.now c.requires c.args.work c.in-Some.found.now c.in-Some.ensures.item _ _ _ c.work_chain-chain.ensures

pub get_mut_unchecked-entry-requires : goal.get_mut_unchecked-entry-requires
get_mut_unchecked-entry-requires c = sym (ap is_ok c.in-Some.ensures.item)

pub returns-in-Some-clause-sound : goal.returns-in-Some-clause-sound
returns-in-Some-clause-sound c =
    let a = c.args.parts.now in
    let g = c.in-Some.found.now in
    let h = record g { work = record g.work { event = c.args.event } } in
    subst (λ (x : WorkRecord). IsSoundCore (record a { works = with_entry c.args.work.rep (entry_of (record x { work = record x.work { event = c.args.event } })) a.works; ready_works = c.refresh_key.new.links })) (same_item c.in-Some.ensures.item c.get_mut_unchecked-entry.ensures.value)
    (heard_sound a c.requires c.args.work g c.in-Some.ensures.item h refl a.sets refl c.refresh_key.new.links a.polled a.kept.live a.kept.moving (work_join_at a c.requires c.args.work g c.in-Some.ensures.item) (same_sets a c.requires c.args.work g c.in-Some.ensures.item h refl)
    (kept_same a c.requires c.args.work g c.in-Some.ensures.item h refl refl c.refresh_key.new.links a.polled a.kept.live a.kept.moving) refl refl (stays_live a c.requires c.args.work g c.in-Some.ensures.item h refl refl) (is_whole a c.requires c.args.work g c.in-Some.ensures.item).chained.rising
    (subst (λ (l : Option (ℕ × OrderKey)). Refiles a.ready_works c.refresh_key.new.links g.ready.index l)
    (ap (λ r. option_map (λ k. (k, r)) c.work_chain-chain.result) (c.member_order_key.ensures ∙ ap (member_order_key g.entry) c.rep.ensures) ∙ ap (option_map (λ k. (k, member_order_key g.entry c.args.work.rep))) (sym c.work_chain-chain.ensures)) c.refresh_key.ensures.links))

pub returns-in-Some-clause-new : goal.returns-in-Some-clause-new
unfolding set_event
returns-in-Some-clause-new c =
    let a = c.args.parts.now in
    let g = c.in-Some.found.now in
    ap (λ (x : WorkRecord). seen (record a { works = with_entry c.args.work.rep (entry_of (record x { work = record x.work { event = c.args.event } })) a.works; ready_works = c.refresh_key.new.links })) (sym (same_item c.in-Some.ensures.item c.get_mut_unchecked-entry.ensures.value))
    ∙ heard_seen a c.requires c.args.work g c.in-Some.ensures.item (record g { work = record g.work { event = c.args.event } }) refl a.sets refl c.refresh_key.new.links a.polled a.kept.live a.kept.moving _ refl

pub returns-in_default-clause-new : goal.returns-in_default-clause-new
unfolding set_event
returns-in_default-clause-new c = work_gone _ _ c.in_default.ensures.is _
