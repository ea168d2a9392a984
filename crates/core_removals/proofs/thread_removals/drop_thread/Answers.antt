use Rattle.std.proofs.Common.{is_ok}
use Rattle.core_removals.proofs.CloseLemmas.{closed_free}
use Rattle.core_removals.proofs.ThreadLemmas.{call_counted, caller_unlinked, callers_live, mark_unlinked, node_made, removed_core, removed_sound, removed_tags, instance_queue_unlinked, thread_counted, under_live, wait_made}
use Rattle.core_removals.proofs.thread_removals.drop_thread.Goals as goal
use Rattle.core_records.proofs.Core.{ap, entry_of, IsSoundCore, KeepsBut, lost_thread, refl, seen, subst, sym, thread_of, with_entry, ◌-◌, ◌∙◌}
use Rattle.core_records.specs.declared.{call_records.GuestTask.GuestTask, thread_records.GuestThread.GuestThread}
use Rattle.core_places.proofs.ThreadLemmas.{same_item}
use Rattle.table_lists.specs.GivenPlaces.{given}

pub overflow_sub-threads : goal.overflow_sub-threads
overflow_sub-threads c = call_counted c.args.parts.now c.requires.sound c.args.thread c.with_call.result.0 c.with_call.ensures.thread c.with_call.result.1 c.with_call.result.2 c.with_call.ensures.call c.with_call.ensures.of

pub get_mut_unchecked-requires : goal.get_mut_unchecked-requires
get_mut_unchecked-requires c = sym (ap is_ok c.with_call.ensures.call)

pub take-requires : goal.take-requires
take-requires c = sym (ap is_ok c.with_call.ensures.thread)

pub close_order_keys-requires : goal.close_order_keys-requires
close_order_keys-requires c = under_live c.args.parts.now c.requires.sound c.args.thread c.with_call.result.0 c.with_call.ensures.thread c.with_call.result.1 c.with_call.result.2 c.with_call.ensures.call c.with_call.ensures.of c.requires.apart c.requires.place

pub drop_order_key-requires : goal.drop_order_key-requires
drop_order_key-requires c = c.close_order_keys.ensures.made _ (node_made c.args.parts.now c.requires.sound c.args.thread c.with_call.result.0 c.with_call.ensures.thread c.with_call.result.1 c.with_call.result.2 c.with_call.ensures.call c.with_call.ensures.of c.requires.apart c.requires.place)

pub drop_wait-requires : goal.drop_wait-requires
drop_wait-requires c = wait_made c.args.parts.now c.requires.sound c.args.thread c.with_call.result.0 c.with_call.ensures.thread c.with_call.result.1 c.with_call.result.2 c.with_call.ensures.call c.with_call.ensures.of c.requires.apart c.requires.place

pub close-requires : goal.close-requires
close-requires c = callers_live c.args.parts.now c.requires.sound c.args.thread c.with_call.result.0 c.with_call.ensures.thread c.with_call.result.1 c.with_call.result.2 c.with_call.ensures.call c.with_call.ensures.of c.requires.apart c.requires.place

pub drop_node-requires : goal.drop_node-requires
drop_node-requires c = closed_free c.args.parts.now.behind c.close.new.links c.with_call.result.0.callers c.with_call.result.0.caller.index c.close.ensures (caller_unlinked c.args.parts.now c.requires.sound c.args.thread c.with_call.result.0 c.with_call.ensures.thread c.with_call.result.1 c.with_call.result.2 c.with_call.ensures.call c.with_call.ensures.of c.requires.apart c.requires.place c.no_node_is_twice.ensures)

pub drop_node-requires-2 : goal.drop_node-requires-2
drop_node-requires-2 c = mark_unlinked c.args.parts.now c.requires.sound c.args.thread c.with_call.result.0 c.with_call.ensures.thread c.with_call.result.1 c.with_call.result.2 c.with_call.ensures.call c.with_call.ensures.of c.requires.apart c.requires.place c.no_node_is_twice-2.ensures

pub drop_node-requires-3 : goal.drop_node-requires-3
drop_node-requires-3 c = instance_queue_unlinked c.args.parts.now c.requires.sound c.args.thread c.with_call.result.0 c.with_call.ensures.thread c.with_call.result.1 c.with_call.result.2 c.with_call.ensures.call c.with_call.ensures.of c.requires.apart c.requires.place c.no_node_is_twice-3.ensures

pub overflow_sub-parts : goal.overflow_sub-parts
overflow_sub-parts c = thread_counted c.args.parts.now c.requires.sound c.args.thread c.with_call.result.0 c.with_call.ensures.thread c.with_call.result.1 c.with_call.result.2 c.with_call.ensures.call c.with_call.ensures.of

pub returns-clause-sound : goal.returns-clause-sound
unfolding IsSoundCore
returns-clause-sound c =
    let a = c.args.parts.now in
    subst (λ (x : GuestTask). IsSoundCore (record a { threads = c.take.new.self; calls = with_entry c.with_call.result.1.rep (entry_of (record x { threads = c.with_call.result.2.threads - 1 })) a.calls; places = c.drop_order_key.new.links; waits = c.drop_wait.new.waits; marks = c.drop_node-2.new.self; instance_queues = c.drop_node-3.new.self; behind = c.drop_node.new.self; kept = record a.kept { used = a.kept.used - 2 } })) (same_item c.with_call.ensures.call c.get_mut_unchecked.ensures.value)
    (removed_sound c.args.parts.now c.requires.sound c.args.thread c.with_call.result.0 c.with_call.ensures.thread c.with_call.result.1 c.with_call.result.2 c.with_call.ensures.call c.with_call.ensures.of c.requires.apart c.requires.place
    c.close_order_keys.new.links c.drop_order_key.new.links c.close_order_keys.ensures c.drop_order_key.ensures c.drop_wait.new.waits c.drop_wait.ensures c.drop_node-2.new.self c.drop_node-2.ensures c.drop_node-3.new.self c.drop_node-3.ensures c.close.new.links c.drop_node.new.self c.close.ensures c.drop_node.ensures c.take.new.self c.take.ensures.deleted c.take.ensures.sound)

pub returns-clause-new : goal.returns-clause-new
unfolding seen
returns-clause-new c =
    record {
      core =
          let a = c.args.parts.now in
          ap (λ (x : GuestTask). (seen (record a { threads = c.take.new.self; calls = with_entry c.with_call.result.1.rep (entry_of (record x { threads = c.with_call.result.2.threads - 1 })) a.calls; places = c.drop_order_key.new.links; waits = c.drop_wait.new.waits; marks = c.drop_node-2.new.self; instance_queues = c.drop_node-3.new.self; behind = c.drop_node.new.self; kept = record a.kept { used = a.kept.used - 2 } })).core) (sym (same_item c.with_call.ensures.call c.get_mut_unchecked.ensures.value))
          ∙ removed_core c.args.parts.now c.requires.sound c.args.thread c.with_call.result.0 c.with_call.ensures.thread c.with_call.result.1 c.with_call.result.2 c.with_call.ensures.call c.with_call.ensures.of c.requires.apart c.requires.place
          c.close_order_keys.new.links c.drop_order_key.new.links c.close_order_keys.ensures c.drop_order_key.ensures c.drop_wait.new.waits c.drop_wait.ensures c.drop_node-2.new.self c.drop_node-2.ensures c.drop_node-3.new.self c.drop_node-3.ensures c.close.new.links c.drop_node.new.self c.close.ensures c.drop_node.ensures c.take.new.self c.take.ensures.deleted;
      current = refl;
      tags =
          let a = c.args.parts.now in
          subst (λ (x : GuestTask). KeepsBut (lost_thread (thread_of (seen a) c.args.thread)) (seen a).tags (seen (record a { threads = c.take.new.self; calls = with_entry c.with_call.result.1.rep (entry_of (record x { threads = c.with_call.result.2.threads - 1 })) a.calls; places = c.drop_order_key.new.links; waits = c.drop_wait.new.waits; marks = c.drop_node-2.new.self; instance_queues = c.drop_node-3.new.self; behind = c.drop_node.new.self; kept = record a.kept { used = a.kept.used - 2 } })).tags) (same_item c.with_call.ensures.call c.get_mut_unchecked.ensures.value)
          (removed_tags c.args.parts.now c.requires.sound c.args.thread c.with_call.result.0 c.with_call.ensures.thread c.with_call.result.1 c.with_call.result.2 c.with_call.ensures.call c.with_call.ensures.of c.requires.apart c.requires.place
          c.close_order_keys.new.links c.drop_order_key.new.links c.close_order_keys.ensures c.drop_order_key.ensures c.drop_wait.new.waits c.drop_wait.ensures c.drop_node-2.new.self c.drop_node-2.ensures c.drop_node-3.new.self c.drop_node-3.ensures c.close.new.links c.drop_node.new.self c.close.ensures c.drop_node.ensures c.take.new.self c.take.ensures.deleted);
    }

pub returns-clause-places : goal.returns-clause-places
returns-clause-places c g is = c.give-2.ensures ∙ (ap (given c.with_call.result.0.set_entry) c.give.ensures ∙ ap (λ (h : GuestThread). given h.set_entry (given h.entry c.args.parts.now.table_places)) (same_item c.with_call.ensures.thread is))
