use Rattle.std.proofs.Common.{is_ok}
use Rattle.core_removals.proofs.WorkLemmas.{blocked_live, group_counted, group_named, live_free, mark_unlinked, ready_made, removed_core, removed_sound, removed_tags, use_counted}
use Rattle.core_removals.proofs.work_removals.drop_work.Goals as goal
use Rattle.core_records.proofs.Core.{ap, arith, cond, is_host_call, IsSoundCore, refl, seen, subst, sym, ℕ, ◌-◌, ◌∙◌, ◌≡◌, ◌≤◌}
use Rattle.core_records.specs.declared.{work_records.WorkRecord.WorkRecord}
use Rattle.core_records.proofs.HomeLemmas.{work_names}
use Rattle.core_places.proofs.ThreadLemmas.{same_item}
use Rattle.table_lists.specs.GivenPlaces.{given}

pub lower_group-group-requires-clause-named : goal.lower_group-group-requires-clause-named
lower_group-group-requires-clause-named c = (work_names c.args.parts.now c.requires.sound c.args.work c.work_there.result.now c.work_there.ensures.item).group

pub lower_group-group-requires-clause-some : goal.lower_group-group-requires-clause-some
lower_group-group-requires-clause-some c = group_counted c.args.parts.now c.requires.sound c.args.work c.work_there.result.now c.work_there.ensures.item

pub close_order_keys-requires : goal.close_order_keys-requires
close_order_keys-requires c = blocked_live c.args.parts.now c.requires.sound c.args.work c.work_there.result.now c.work_there.ensures.item

pub drop_order_key-requires : goal.drop_order_key-requires
drop_order_key-requires c = ready_made c.args.parts.now c.requires.sound c.args.work c.work_there.result.now c.work_there.ensures.item

pub drop_node-requires : goal.drop_node-requires
drop_node-requires c = live_free c.args.parts.now c.requires.sound c.args.work c.work_there.result.now c.work_there.ensures.item c.requires.stage

pub drop_node-requires-2 : goal.drop_node-requires-2
drop_node-requires-2 c = mark_unlinked c.args.parts.now c.requires.sound c.args.work c.work_there.result.now c.work_there.ensures.item c.requires.unqueued c.no_node_is_twice.ensures

pub take-requires : goal.take-requires
take-requires c = sym (ap is_ok c.work_there.ensures.item)

pub overflow_sub-parts : goal.overflow_sub-parts
overflow_sub-parts c = subst (λ (n : ℕ). n ≤ c.args.parts.now.kept.used) (sym (c.one_if.ensures ∙ ap (λ b. cond b 1 0) c.is_some.ensures)) (use_counted c.args.parts.now c.requires.sound c.args.work c.work_there.result.now c.work_there.ensures.item)

pub returns-clause-sound : goal.returns-clause-sound
unfolding IsSoundCore
returns-clause-sound c =
    removed_sound c.args.parts.now c.requires.sound c.args.work c.work_there.result.now c.work_there.ensures.item c.requires.unqueued c.requires.join c.requires.stage c.lower_group-group.new.groups c.lower_group-group.result c.lower_group-group.ensures
    c.close_order_keys.new.links c.drop_order_key.new.links c.drop_node.new.self c.close_order_keys.ensures c.drop_order_key.ensures c.drop_node.ensures c.drop_node-2.new.self c.drop_node-2.ensures (c.args.parts.now.kept.used - c.one_if.result)
    (let few = use_counted c.args.parts.now c.requires.sound c.args.work c.work_there.result.now c.work_there.ensures.item in let one : c.one_if.result ≡ cond {A = ℕ} (is_host_call c.work_there.result.now.work) 1 0 = c.one_if.ensures ∙ ap (λ b. cond b 1 0) c.is_some.ensures in omega arith)
    c.take.new.self c.take.ensures.deleted c.take.ensures.sound

pub returns-clause-new : goal.returns-clause-new
unfolding seen
returns-clause-new c =
    record {
      core =
          removed_core c.args.parts.now c.requires.sound c.args.work c.work_there.result.now c.work_there.ensures.item c.requires.unqueued c.requires.join c.requires.stage c.lower_group-group.new.groups c.lower_group-group.result c.lower_group-group.ensures
          c.close_order_keys.new.links c.drop_order_key.new.links c.drop_node.new.self c.close_order_keys.ensures c.drop_order_key.ensures c.drop_node.ensures c.drop_node-2.new.self c.drop_node-2.ensures (c.args.parts.now.kept.used - c.one_if.result)
          (let few = use_counted c.args.parts.now c.requires.sound c.args.work c.work_there.result.now c.work_there.ensures.item in let one : c.one_if.result ≡ cond {A = ℕ} (is_host_call c.work_there.result.now.work) 1 0 = c.one_if.ensures ∙ ap (λ b. cond b 1 0) c.is_some.ensures in omega arith)
          c.take.new.self c.take.ensures.deleted;
      current = refl;
      tags =
          removed_tags c.args.parts.now c.requires.sound c.args.work c.work_there.result.now c.work_there.ensures.item c.requires.unqueued c.requires.join c.requires.stage c.lower_group-group.new.groups c.lower_group-group.result c.lower_group-group.ensures
          c.close_order_keys.new.links c.drop_order_key.new.links c.drop_node.new.self c.close_order_keys.ensures c.drop_order_key.ensures c.drop_node.ensures c.drop_node-2.new.self c.drop_node-2.ensures (c.args.parts.now.kept.used - c.one_if.result)
          (let few = use_counted c.args.parts.now c.requires.sound c.args.work c.work_there.result.now c.work_there.ensures.item in let one : c.one_if.result ≡ cond {A = ℕ} (is_host_call c.work_there.result.now.work) 1 0 = c.one_if.ensures ∙ ap (λ b. cond b 1 0) c.is_some.ensures in omega arith)
          c.take.new.self c.take.ensures.deleted;
    }

pub returns-clause-group : goal.returns-clause-group
returns-clause-group c = group_named c.args.parts.now c.requires.sound c.args.work c.work_there.result.now c.work_there.ensures.item c.requires.unqueued c.requires.join c.requires.stage c.lower_group-group.new.groups c.lower_group-group.result c.lower_group-group.ensures

pub returns-clause-places : goal.returns-clause-places
returns-clause-places c w is =
    let p = c.args.parts.now.table_places in
    c.give_if.ensures
    ∙ (ap (λ b. cond b (given c.work_there.result.now.entry p) p) c.is_some-2.ensures ∙ ap (λ (u : WorkRecord). cond (is_host_call u.work) (given u.entry p) p) (same_item c.work_there.ensures.item is))
