use Rattle.std.proofs.Common.{is_ok}
use Rattle.core_records.proofs.Core.{ap, entry_of, IsSoundCore, Option, option_map, Refiles, refl, seen, set_event, subst, sym, with_entry, ℕ, ◌∙◌}
use Rattle.core_records.specs.declared.{call_records.GuestTask.GuestTask}
use Rattle.core_places.proofs.GoneLemmas.{call_gone}
use Rattle.core_places.proofs.ThreadLemmas.{same_item}
use Rattle.core_places.proofs.TellLemmas.{join_at, ready_live, ready_made, kept_same, same_sets, told_seen, told_sound}
use Rattle.core_places.proofs.event_states.set_call_event.Goals as goal
use Rattle.table_lists.specs.declared.ordered_lists.OrderKey.{OrderKey}
use Rattle.core_records.specs.RecordPlaces.{member_order_key}

pub call_chain-chain-requires-clause-at : goal.call_chain-chain-requires-clause-at
call_chain-chain-requires-clause-at c = join_at c.args.parts.now c.requires c.args.call c.in-Some.found.now c.in-Some.ensures.item

pub refresh_key-requires-clause-made : goal.refresh_key-requires-clause-made
refresh_key-requires-clause-made c = ready_made c.args.parts.now c.requires c.args.call c.in-Some.found.now c.in-Some.ensures.item

pub refresh_key-requires-clause-live : goal.refresh_key-requires-clause-live
refresh_key-requires-clause-live c = ready_live c.args.parts.now c.requires c.args.call c.in-Some.found.now c.in-Some.ensures.item _ _ _ c.call_chain-chain.ensures

pub get_mut_unchecked-entry-requires : goal.get_mut_unchecked-entry-requires
get_mut_unchecked-entry-requires c = sym (ap is_ok c.in-Some.ensures.item)

pub returns-in-Some-clause-sound : goal.returns-in-Some-clause-sound
returns-in-Some-clause-sound c =
    let a = c.args.parts.now in
    let g = c.in-Some.found.now in
    let h = record g { call = record g.call { event = c.args.event } } in
    subst (λ (x : GuestTask). IsSoundCore (record a { calls = with_entry c.args.call.rep (entry_of (record x { call = record x.call { event = c.args.event } })) a.calls; ready_calls = c.refresh_key.new.links })) (same_item c.in-Some.ensures.item c.get_mut_unchecked-entry.ensures.value)
    (told_sound a c.requires c.args.call g c.in-Some.ensures.item h refl a.sets refl c.refresh_key.new.links (join_at a c.requires c.args.call g c.in-Some.ensures.item) (same_sets a c.requires c.args.call g c.in-Some.ensures.item h refl)
    (kept_same a c.requires c.args.call g c.in-Some.ensures.item h refl refl c.refresh_key.new.links) refl
    (subst (λ (l : Option (ℕ × OrderKey)). Refiles a.ready_calls c.refresh_key.new.links g.ready.index l)
    (ap (λ r. option_map (λ k. (k, r)) c.call_chain-chain.result) (c.member_order_key.ensures ∙ ap (member_order_key g.entry) c.rep.ensures) ∙ ap (option_map (λ k. (k, member_order_key g.entry c.args.call.rep))) (sym c.call_chain-chain.ensures)) c.refresh_key.ensures.links))

pub returns-in-Some-clause-new : goal.returns-in-Some-clause-new
unfolding set_event
returns-in-Some-clause-new c =
    let a = c.args.parts.now in
    let g = c.in-Some.found.now in
    ap (λ (x : GuestTask). seen (record a { calls = with_entry c.args.call.rep (entry_of (record x { call = record x.call { event = c.args.event } })) a.calls; ready_calls = c.refresh_key.new.links })) (sym (same_item c.in-Some.ensures.item c.get_mut_unchecked-entry.ensures.value))
    ∙ told_seen a c.requires c.args.call g c.in-Some.ensures.item (record g { call = record g.call { event = c.args.event } }) refl a.sets refl c.refresh_key.new.links _ refl

pub returns-in_default-clause-new : goal.returns-in_default-clause-new
unfolding set_event
returns-in_default-clause-new c = call_gone _ _ c.in_default.ensures.is _
