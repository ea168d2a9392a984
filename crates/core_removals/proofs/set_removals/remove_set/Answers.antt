use Rattle.std.proofs.Common.{is_ok}
use Rattle.core_removals.proofs.SetLemmas.{calls_live, removed_core, removed_sound, removed_tags, set_counted, waiters_live, works_live}
use Rattle.core_removals.proofs.set_removals.remove_set.Goals as goal
use Rattle.core_records.proofs.Core.{ap, IsSoundCore, refl, seen, sym, ◌∙◌}
use Rattle.core_records.specs.declared.{set_records.WaitSet.WaitSet}
use Rattle.core_places.proofs.ThreadLemmas.{same_item}
use Rattle.table_lists.specs.GivenPlaces.{given}

pub close_order_keys-requires : goal.close_order_keys-requires
close_order_keys-requires c = waiters_live c.args.parts.now c.requires.sound c.args.set c.set_there-found.result.now c.set_there-found.ensures.item

pub close_order_keys-requires-2 : goal.close_order_keys-requires-2
close_order_keys-requires-2 c = calls_live c.args.parts.now c.requires.sound c.args.set c.set_there-found.result.now c.set_there-found.ensures.item

pub close_order_keys-requires-3 : goal.close_order_keys-requires-3
close_order_keys-requires-3 c = works_live c.args.parts.now c.requires.sound c.args.set c.set_there-found.result.now c.set_there-found.ensures.item

pub take-requires : goal.take-requires
take-requires c = sym (ap is_ok c.set_there-found.ensures.item)

pub overflow_sub-parts : goal.overflow_sub-parts
overflow_sub-parts c = set_counted c.args.parts.now c.requires.sound c.args.set c.set_there-found.result.now c.set_there-found.ensures.item

pub returns-clause-sound : goal.returns-clause-sound
unfolding IsSoundCore
returns-clause-sound c = removed_sound c.args.parts.now c.requires.sound c.args.set c.set_there-found.result.now c.set_there-found.ensures.item _ _ _ c.close_order_keys.ensures c.close_order_keys-2.ensures c.close_order_keys-3.ensures _ c.take.ensures.deleted c.take.ensures.sound

pub returns-clause-new : goal.returns-clause-new
unfolding seen
returns-clause-new c =
    record {
      core = removed_core c.args.parts.now c.requires.sound c.args.set c.set_there-found.result.now c.set_there-found.ensures.item _ _ _ c.close_order_keys.ensures c.close_order_keys-2.ensures c.close_order_keys-3.ensures _ c.take.ensures.deleted;
      current = refl;
      tags = removed_tags c.args.parts.now c.requires.sound c.args.set c.set_there-found.result.now c.set_there-found.ensures.item _ _ _ c.close_order_keys.ensures c.close_order_keys-2.ensures c.close_order_keys-3.ensures _ c.take.ensures.deleted;
    }

pub returns-clause-places : goal.returns-clause-places
returns-clause-places c x is = c.give.ensures ∙ ap (λ (y : WaitSet). given y.entry c.args.parts.now.table_places) (same_item c.set_there-found.ensures.item is)
