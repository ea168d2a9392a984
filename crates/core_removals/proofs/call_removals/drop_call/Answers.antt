use Rattle.std.proofs.Common.{is_ok}
use Rattle.core_removals.proofs.CallLemmas.{blocked_live, call_counted, group_counted, group_named, group_positive, interest_counted, ready_made, removed_core, removed_sound, removed_tags, waits_live}
use Rattle.core_removals.proofs.RewriteLemmas.{item_written}
use Rattle.core_removals.proofs.call_removals.drop_call.Goals as goal
use Rattle.core_records.proofs.Core.{ap, arith, Call, cond, IsSoundCore, option_map_or, refl, seen, subst, sym, ℕ, ◌-◌, ◌<◌, ◌∙◌, ◌≡◌, ◌≤◌}
use Rattle.core_records.specs.declared.{call_records.GuestTask.GuestTask}
use Rattle.core_records.proofs.HomeLemmas.{call_names}
use Rattle.core_places.proofs.ThreadLemmas.{same_item}
use Rattle.table_lists.specs.GivenPlaces.{given}

pub group_unchecked-requires : goal.group_unchecked-requires
group_unchecked-requires c = subst (λ (n : ℕ). 0 < n) (sym (call_names c.args.parts.now c.requires.sound c.args.call c.call_there-found.result.now c.call_there-found.ensures.item).group) (call_names c.args.parts.now c.requires.sound c.args.call c.call_there-found.result.now c.call_there-found.ensures.item).positive

pub overflow_sub-counted : goal.overflow_sub-counted
overflow_sub-counted c = group_counted c.args.parts.now c.requires.sound c.args.call c.call_there-found.result.now c.call_there-found.ensures.item c.group_unchecked.result.0 c.group_unchecked.result.1 c.group_unchecked.ensures.item (c.group_unchecked.ensures.number ∙ (call_names c.args.parts.now c.requires.sound c.args.call c.call_there-found.result.now c.call_there-found.ensures.item).group)

pub take-requires : goal.take-requires
take-requires c = sym (ap is_ok c.call_there-found.ensures.item)

pub get_mut_unchecked-requires : goal.get_mut_unchecked-requires
get_mut_unchecked-requires c = sym (ap is_ok c.group_unchecked.ensures.item)

pub close_order_keys-requires : goal.close_order_keys-requires
close_order_keys-requires c = blocked_live c.args.parts.now c.requires.sound c.args.call c.call_there-found.result.now c.call_there-found.ensures.item

pub drop_order_key-requires : goal.drop_order_key-requires
drop_order_key-requires c = ready_made c.args.parts.now c.requires.sound c.args.call c.call_there-found.result.now c.call_there-found.ensures.item

pub close_waits-requires : goal.close_waits-requires
close_waits-requires c = waits_live c.args.parts.now c.requires.sound c.args.call c.call_there-found.result.now c.call_there-found.ensures.item

pub overflow_sub-parts : goal.overflow_sub-parts
overflow_sub-parts c = call_counted c.args.parts.now c.requires.sound c.args.call c.call_there-found.result.now c.call_there-found.ensures.item

pub overflow_sub-parts-2 : goal.overflow_sub-parts-2
overflow_sub-parts-2 c = subst (λ (n : ℕ). n ≤ c.args.parts.now.kept.interesting) (sym c.one_if.ensures) (interest_counted c.args.parts.now c.requires.sound c.args.call c.call_there-found.result.now c.call_there-found.ensures.item)

pub returns-clause-sound : goal.returns-clause-sound
unfolding IsSoundCore
returns-clause-sound c =
    removed_sound c.args.parts.now c.requires.sound c.args.call c.call_there-found.result.now c.call_there-found.ensures.item c.group_unchecked.result.0 c.group_unchecked.result.1 c.group_unchecked.ensures.item (c.group_unchecked.ensures.number ∙ (call_names c.args.parts.now c.requires.sound c.args.call c.call_there-found.result.now c.call_there-found.ensures.item).group) c.requires.last c.requires.join
    c.close_order_keys.new.links c.drop_order_key.new.links c.close_waits.new.waits c.close_order_keys.ensures c.drop_order_key.ensures c.close_waits.ensures (c.args.parts.now.kept.interesting - c.one_if.result) (let few = interest_counted c.args.parts.now c.requires.sound c.args.call c.call_there-found.result.now c.call_there-found.ensures.item in let one : c.one_if.result ≡ cond {A = ℕ} c.call_there-found.result.now.call.interesting 1 0 = c.one_if.ensures in omega arith)
    c.take.new.self c.take.ensures.deleted c.take.ensures.sound

pub returns-clause-new : goal.returns-clause-new
unfolding seen
returns-clause-new c =
    record {
      core =
          removed_core c.args.parts.now c.requires.sound c.args.call c.call_there-found.result.now c.call_there-found.ensures.item c.group_unchecked.result.0 c.group_unchecked.result.1 c.group_unchecked.ensures.item (c.group_unchecked.ensures.number ∙ (call_names c.args.parts.now c.requires.sound c.args.call c.call_there-found.result.now c.call_there-found.ensures.item).group) c.requires.last c.requires.join
          c.close_order_keys.new.links c.drop_order_key.new.links c.close_waits.new.waits c.close_order_keys.ensures c.drop_order_key.ensures c.close_waits.ensures (c.args.parts.now.kept.interesting - c.one_if.result) (let few = interest_counted c.args.parts.now c.requires.sound c.args.call c.call_there-found.result.now c.call_there-found.ensures.item in let one : c.one_if.result ≡ cond {A = ℕ} c.call_there-found.result.now.call.interesting 1 0 = c.one_if.ensures in omega arith)
          c.take.new.self c.take.ensures.deleted;
      current = refl;
      tags =
          removed_tags c.args.parts.now c.requires.sound c.args.call c.call_there-found.result.now c.call_there-found.ensures.item c.group_unchecked.result.0 c.group_unchecked.result.1 c.group_unchecked.ensures.item (c.group_unchecked.ensures.number ∙ (call_names c.args.parts.now c.requires.sound c.args.call c.call_there-found.result.now c.call_there-found.ensures.item).group) c.requires.last c.requires.join
          c.close_order_keys.new.links c.drop_order_key.new.links c.close_waits.new.waits c.close_order_keys.ensures c.drop_order_key.ensures c.close_waits.ensures (c.args.parts.now.kept.interesting - c.one_if.result) (let few = interest_counted c.args.parts.now c.requires.sound c.args.call c.call_there-found.result.now c.call_there-found.ensures.item in let one : c.one_if.result ≡ cond {A = ℕ} c.call_there-found.result.now.call.interesting 1 0 = c.one_if.ensures in omega arith)
          c.take.new.self c.take.ensures.deleted;
    }

pub returns-clause-group : goal.returns-clause-group
returns-clause-group c = group_named c.args.parts.now c.requires.sound c.args.call c.call_there-found.result.now c.call_there-found.ensures.item c.group_unchecked.result.0 c.group_unchecked.result.1 c.group_unchecked.ensures.item (c.group_unchecked.ensures.number ∙ (call_names c.args.parts.now c.requires.sound c.args.call c.call_there-found.result.now c.call_there-found.ensures.item).group)

pub returns-clause-positive : goal.returns-clause-positive
returns-clause-positive c = subst (λ (n : ℕ). 0 < n) (ap (λ o. option_map_or (λ (x : Call). x.group) o 0) c.call_there-found.ensures.is) (group_positive c.args.parts.now c.requires.sound c.args.call c.call_there-found.result.now c.call_there-found.ensures.item)

pub returns-clause-places : goal.returns-clause-places
returns-clause-places c g is = c.give.ensures ∙ ap (λ (h : GuestTask). given h.entry c.args.parts.now.table_places) (same_item c.call_there-found.ensures.item is)

pub returns-clause-item : goal.returns-clause-item
returns-clause-item c = item_written c.args.parts.now.groups c.group_unchecked.result.0.rep c.group_unchecked.result.0.serial c.group_unchecked.result.1 (record c.group_unchecked.result.1 { calls = c.group_unchecked.result.1.calls - 1 }) c.group_unchecked.ensures.item
