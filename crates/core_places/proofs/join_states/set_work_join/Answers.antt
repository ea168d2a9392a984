use Rattle.std.proofs.Common.{is_ok}
use Rattle.core_records.proofs.Core.{ap, entry_of, IsSoundCore, item_at, item_of, Join, on_core, on_work, Option, option_map, Refiles, refl, seen, set_join, subst, sym, Table, with_entry, Work, work_of, ℕ, ◌+◌, ◌∙◌, ◌≡◌}
use Rattle.core_records.specs.declared.{set_records.WaitSet.WaitSet, single.Single.Single, work_records.WorkRecord.WorkRecord}
use Rattle.core_places.proofs.ThreadLemmas.{same_item}
use Rattle.core_places.proofs.GoneLemmas.{work_gone}
use Rattle.core_places.proofs.JoinLemmas.{in_is, less_fits, more_fits, sets_sound}
use Rattle.core_places.proofs.HearLemmas.{is_whole, heard_seen, heard_sound, joined_alike, joined_now, kept_joined, ready_live, ready_made, some_member, stays_live, work_join_at}
use Rattle.core_places.proofs.join_states.set_work_join.Goals as goal
use Rattle.core_places.specs.Moved.{joined_set, rejoined}
use Rattle.table_lists.specs.declared.ordered_lists.OrderKey.{OrderKey}
use Rattle.core_records.specs.RecordPlaces.{member_order_key}

pub joined_set-from-requires-clause-at : goal.joined_set-from-requires-clause-at
joined_set-from-requires-clause-at c = work_join_at c.args.parts.now c.requires c.args.work c.in-Some.found.now c.in-Some.ensures.item

pub leave-requires : goal.leave-requires
leave-requires c = let a = c.args.parts.now in let g = c.in-Some.found.now in less_fits a c.requires (joined_set g.work.join) (joined_set c.join_from_id-named.result.0) c.joined_set-from.result c.joined_set-to.result c.joined_set-from.ensures c.joined_set-to.ensures (λ n in_set. some_member a c.requires c.args.work g c.in-Some.ensures.item n (in_is n g.work.join ∙ in_set))

pub enter-requires : goal.enter-requires
enter-requires c x is =
    let a = c.args.parts.now in
    let g = c.in-Some.found.now in
    more_fits a c.requires (joined_set g.work.join) (joined_set c.join_from_id-named.result.0) c.joined_set-from.result c.joined_set-to.result c.joined_set-from.ensures c.joined_set-to.ensures x (is ∙ ap (λ (t : Table (Single WaitSet)). item_at item_of t c.joined_set-to.result.rep c.joined_set-to.result.serial) c.leave.ensures)

pub refresh_key-requires-clause-made : goal.refresh_key-requires-clause-made
refresh_key-requires-clause-made c = ready_made c.args.parts.now c.requires c.args.work c.in-Some.found.now c.in-Some.ensures.item

pub refresh_key-requires-clause-live : goal.refresh_key-requires-clause-live
refresh_key-requires-clause-live c = ready_live c.args.parts.now c.requires c.args.work c.in-Some.found.now c.in-Some.ensures.item _ _ _ c.work_chain-chain.ensures

pub get_mut_unchecked-entry-requires : goal.get_mut_unchecked-entry-requires
get_mut_unchecked-entry-requires c = sym (ap is_ok c.in-Some.ensures.item)

pub returns-in-Some-clause-sound : goal.returns-in-Some-clause-sound
returns-in-Some-clause-sound c =
    let a = c.args.parts.now in
    let g = c.in-Some.found.now in
    let h = record g { work = record g.work { join = c.join_from_id-named.result.0 }; joined = c.join_from_id-named.result.1 } in
    let links = c.refresh_key.new.links in
    subst (λ (x : WorkRecord). IsSoundCore (record a { works = with_entry c.args.work.rep (entry_of (record x { work = record x.work { join = c.join_from_id-named.result.0 }; joined = c.join_from_id-named.result.1 })) a.works; sets = c.enter.new.sets; ready_works = links })) (same_item c.in-Some.ensures.item c.get_mut_unchecked-entry.ensures.value)
    (subst (λ (t : Table (Single WaitSet)). IsSoundCore (record a { works = with_entry c.args.work.rep (entry_of h) a.works; sets = t; ready_works = links })) (sym (c.enter.ensures ∙ ap (rejoined (λ n. n + 1) c.joined_set-to.result.rep c.joined_set-to.result.serial) c.leave.ensures))
    (heard_sound a c.requires c.args.work g c.in-Some.ensures.item h refl (joined_now a c.requires c.args.work g c.in-Some.ensures.item h refl c.joined_set-from.result c.joined_set-to.result c.joined_set-from.ensures c.joined_set-to.ensures links) (joined_alike a c.requires c.args.work g c.in-Some.ensures.item h refl c.joined_set-from.result c.joined_set-to.result c.joined_set-from.ensures c.joined_set-to.ensures links) links a.polled a.kept.live a.kept.moving c.join_from_id-named.ensures.at (sets_sound a c.requires (joined_set g.work.join) (joined_set c.join_from_id-named.result.0) c.joined_set-from.result c.joined_set-to.result c.joined_set-from.ensures c.joined_set-to.ensures) (kept_joined a c.requires c.args.work g c.in-Some.ensures.item h refl c.joined_set-from.result c.joined_set-to.result c.joined_set-from.ensures c.joined_set-to.ensures links) refl refl (stays_live a c.requires c.args.work g c.in-Some.ensures.item h refl refl) (is_whole a c.requires c.args.work g c.in-Some.ensures.item).chained.rising
    (subst (λ (l : Option (ℕ × OrderKey)). Refiles a.ready_works links g.ready.index l)
    (ap (λ r. option_map (λ k. (k, r)) c.work_chain-chain.result) (c.member_order_key.ensures ∙ ap (member_order_key g.entry) c.rep.ensures) ∙ ap (option_map (λ k. (k, member_order_key g.entry c.args.work.rep))) (sym c.work_chain-chain.ensures)) c.refresh_key.ensures.links)))

pub returns-in-Some-clause-new : goal.returns-in-Some-clause-new
unfolding set_join
returns-in-Some-clause-new c =
    let a = c.args.parts.now in
    let g = c.in-Some.found.now in
    let h = record g { work = record g.work { join = c.join_from_id-named.result.0 }; joined = c.join_from_id-named.result.1 } in
    let links = c.refresh_key.new.links in
    ap (λ (x : WorkRecord). seen (record a { works = with_entry c.args.work.rep (entry_of (record x { work = record x.work { join = c.join_from_id-named.result.0 }; joined = c.join_from_id-named.result.1 })) a.works; sets = c.enter.new.sets; ready_works = links })) (sym (same_item c.in-Some.ensures.item c.get_mut_unchecked-entry.ensures.value))
    ∙ (subst (λ (t : Table (Single WaitSet)). seen (record a { works = with_entry c.args.work.rep (entry_of h) a.works; sets = t; ready_works = links }) ≡ on_core (on_work (work_of (seen a) c.args.work) (λ (x : Work). record x { join = c.join_from_id-named.result.0 })) (seen a)) (sym (c.enter.ensures ∙ ap (rejoined (λ n. n + 1) c.joined_set-to.result.rep c.joined_set-to.result.serial) c.leave.ensures))
    (heard_seen a c.requires c.args.work g c.in-Some.ensures.item h refl (joined_now a c.requires c.args.work g c.in-Some.ensures.item h refl c.joined_set-from.result c.joined_set-to.result c.joined_set-from.ensures c.joined_set-to.ensures links) (joined_alike a c.requires c.args.work g c.in-Some.ensures.item h refl c.joined_set-from.result c.joined_set-to.result c.joined_set-from.ensures c.joined_set-to.ensures links) links a.polled a.kept.live a.kept.moving (λ (x : Work). record x { join = c.join_from_id-named.result.0 }) refl)
    ∙ ap (λ (j : Join). on_core (on_work (work_of (seen a) c.args.work) (λ (x : Work). record x { join = j })) (seen a)) (sym c.join_from_id-named.ensures.is))

pub returns-in_default-clause-new : goal.returns-in_default-clause-new
unfolding set_join
returns-in_default-clause-new c = work_gone _ _ c.in_default.ensures.is _
