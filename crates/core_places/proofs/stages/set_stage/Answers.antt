use Rattle.std.proofs.Common.{is_ok}
use Rattle.core_records.proofs.Core.{ap, Bool, cond, entry_of, IsSoundCore, live_value, Option, option_map, Refiles, refl, seen, set_stage, subst, sym, with_entry, ℕ, ◌+◌, ◌∙◌, ◌≤◌}
use Rattle.core_records.specs.declared.{work_records.WorkRecord.WorkRecord, work_records.LiveWork.LiveWork}
use Rattle.core_places.proofs.ThreadLemmas.{same_item}
use Rattle.core_places.proofs.GoneLemmas.{work_gone}
use Rattle.core_places.proofs.HearLemmas.{is_whole, heard_seen, heard_sound, kept_same, live_made, same_sets, work_join_at}
use Rattle.core_places.proofs.StageLemmas.{live_few, live_some, moving_some, recounted_is, stage_live, stays_ready}
use Rattle.core_places.proofs.stages.set_stage.Goals as goal
use Rattle.core_records.proofs.KeptLemmas.{moving_few}

pub file_live-requires-clause-made : goal.file_live-requires-clause-made
file_live-requires-clause-made c = live_made c.args.parts.now c.requires c.args.work c.in-Some.found.now c.in-Some.ensures.item

pub file_live-requires-clause-live : goal.file_live-requires-clause-live
file_live-requires-clause-live c = stage_live c.args.parts.now c.requires c.args.work c.in-Some.found.now c.in-Some.ensures.item c.args.stage _ c.stage_chain-chain.ensures

pub recounted-parts-requires-clause-some : goal.recounted-parts-requires-clause-some
recounted-parts-requires-clause-some c some =
    let a = c.args.parts.now in
    let g = c.in-Some.found.now in
    subst (λ (b : Bool). 1 ≤ a.kept.live + cond b 1 0) (sym c.is_live-in-Some.ensures) (live_some a c.requires c.args.work g c.in-Some.ensures.item (record g { work = record g.work { stage = c.args.stage } }) refl (sym c.is_live.ensures ∙ some))

pub recounted-parts-requires-clause-few : goal.recounted-parts-requires-clause-few
recounted-parts-requires-clause-few c = live_few c.args.parts.now c.requires

pub recounted-parts-requires-in-Some-clause-some : goal.recounted-parts-requires-in-Some-clause-some
recounted-parts-requires-in-Some-clause-some c some =
    let a = c.args.parts.now in
    let g = c.in-Some.found.now in
    subst (λ (b : Bool). 1 ≤ a.kept.moving + cond b 1 0) (sym c.is_moving-in-Some.ensures) (moving_some a c.requires c.args.work g c.in-Some.ensures.item (record g { work = record g.work { stage = c.args.stage } }) refl (sym c.is_moving.ensures ∙ some))

pub recounted-parts-requires-in-Some-clause-few : goal.recounted-parts-requires-in-Some-clause-few
recounted-parts-requires-in-Some-clause-few c = moving_few c.args.parts.now c.requires

pub get_mut_unchecked-entry-requires : goal.get_mut_unchecked-entry-requires
get_mut_unchecked-entry-requires c = sym (ap is_ok c.in-Some.ensures.item)

pub returns-in-Some-clause-sound : goal.returns-in-Some-clause-sound
returns-in-Some-clause-sound c =
    let a = c.args.parts.now in
    let g = c.in-Some.found.now in
    let h = record g { work = record g.work { stage = c.args.stage } } in
    let links = c.file_live.new.links in
    subst (λ (x : WorkRecord). IsSoundCore (record a { works = with_entry c.args.work.rep (entry_of (record x { work = record x.work { stage = c.args.stage } })) a.works; polled = c.file_live.new.links; kept = record a.kept { live = c.recounted-parts.result; moving = c.recounted-parts-in-Some.result } })) (same_item c.in-Some.ensures.item c.get_mut_unchecked-entry.ensures.value)
    (heard_sound a c.requires c.args.work g c.in-Some.ensures.item h refl a.sets refl a.ready_works links c.recounted-parts.result c.recounted-parts-in-Some.result (work_join_at a c.requires c.args.work g c.in-Some.ensures.item) (same_sets a c.requires c.args.work g c.in-Some.ensures.item h refl)
    (kept_same a c.requires c.args.work g c.in-Some.ensures.item h refl refl a.ready_works links c.recounted-parts.result c.recounted-parts-in-Some.result)
    (recounted_is a.kept.live c.recounted-parts.result _ _ _ _ c.is_live.ensures c.is_live-in-Some.ensures c.recounted-parts.ensures)
    (recounted_is a.kept.moving c.recounted-parts-in-Some.result _ _ _ _ c.is_moving.ensures c.is_moving-in-Some.ensures c.recounted-parts-in-Some.ensures)
    (subst (λ (l : Option (ℕ × LiveWork)). Refiles a.polled links g.live.index l) (ap (λ r. option_map (λ k. (k, live_value r g)) c.stage_chain-chain.result) c.rep.ensures ∙ ap (option_map (λ k. (k, live_value c.args.work.rep g))) (sym c.stage_chain-chain.ensures)) c.file_live.ensures.links)
    (c.file_live.ensures.rising a.live (is_whole a c.requires c.args.work g c.in-Some.ensures.item).chained.rising)
    (stays_ready a c.requires c.args.work g c.in-Some.ensures.item))

pub returns-in-Some-clause-new : goal.returns-in-Some-clause-new
unfolding set_stage
returns-in-Some-clause-new c =
    let a = c.args.parts.now in
    let g = c.in-Some.found.now in
    ap (λ (x : WorkRecord). seen (record a { works = with_entry c.args.work.rep (entry_of (record x { work = record x.work { stage = c.args.stage } })) a.works; polled = c.file_live.new.links; kept = record a.kept { live = c.recounted-parts.result; moving = c.recounted-parts-in-Some.result } })) (sym (same_item c.in-Some.ensures.item c.get_mut_unchecked-entry.ensures.value))
    ∙ heard_seen a c.requires c.args.work g c.in-Some.ensures.item (record g { work = record g.work { stage = c.args.stage } }) refl a.sets refl a.ready_works c.file_live.new.links c.recounted-parts.result c.recounted-parts-in-Some.result _ refl

pub returns-in_default-clause-new : goal.returns-in_default-clause-new
unfolding set_stage
returns-in_default-clause-new c = work_gone _ _ c.in_default.ensures.is _
