-- The names of std, of the machine, of the crates below and of the records that the proofs of the core cite, in one place.
pub use Rattle.std.specs.declared.{cmp.Ordering.Ordering}
pub use Rattle.task_handles.specs.declared.{counter.HandleCounter.HandleCounter, kinds.HandleError.HandleError, kinds.HandleKind.HandleKind, kinds.HeldItem.HeldItem, kinds.Rep.Rep, kinds.WaitableKind.WaitableKind}
pub use Rattle.table_links.specs.declared.{links.Node.Node}
pub use Rattle.machine_data.specs.declared.{component.Callee.Callee, component.ExportKind.ExportKind, records.Call.Call, records.Caller.Caller, records.Delivery.Delivery, records.Entry.Entry, records.Goal.Goal, records.OpProgress.OpProgress, records.Instance.Instance, records.Join.Join, records.MadeCounts.MadeCounts, records.Named.Named, records.Place.Place, records.Script.Script, records.Set.Set, records.Stage.Stage, records.Subtask.Subtask, records.Thread.Thread, records.Why.Why, records.Work.Work, statuses.Mark.Mark, statuses.Status.Status}
pub use Rattle.task_table.specs.declared.{error.ResourceTableError.ResourceTableError, id.TableId.TableId}
pub use Rattle.task_wait.specs.declared.{keys.GroupKey.GroupKey, keys.GuestTaskKey.GuestTaskKey, keys.HostTaskKey.HostTaskKey, keys.SetKey.SetKey, keys.ThreadKey.ThreadKey}
pub use Rattle.core_primitives.specs.declared.{names.SubtaskId.SubtaskId}
pub use Rattle.std.proofs.Common.{[], ap, append-nil, ap₂, arith, cond, count_by, drop, Equal, false, filter, get_or, Greater, inl, inr, length, Less, List, ltb-true, nat_le, nat_lt, not, refl, rules, set, subst, suc, sum_by, sym, T, tests, true, zero, ◌*◌, ◌++◌, ◌+◌, ◌-◌, ◌<◌, ◌^◌, ◌||◌, ◌∙◌, ◌∷◌, ◌≡◌, ◌⊎◌}
pub use Rattle.std.proofs.lemmas.Bool.{cases_eq, eq-eqb, eqb-true, ne_eqb, or_left}
pub use Rattle.std.proofs.lemmas.List.{append_assoc, length-append, length-map, map-append, map-set}
pub use Rattle.std.proofs.lemmas.List.Sums.{count_by-le-length, sum_by-cons}
pub use Rattle.std.proofs.lemmas.Map.Keys.{ge_from_not_lt, le_from_is_le}
pub use Rattle.std.proofs.lemmas.Option.{same_Some, slice_get-get_or, slice_get-map, slice_get_past, slice_get_within, some_pair_parts}
pub use Rattle.std.specs.BTreeMap.{BTreeMap, is_at}
pub use Rattle.std.specs.Cmp.{eq_by_cmp_equiv, nat_cmp_total, ranked, unsigned_tied}
pub use Rattle.std.specs.FinMap.Entries.{below_all, by_order, find, is_sorted, put}
pub use Rattle.std.specs.Global.{Global}
pub use Rattle.std.specs.List.{list_any}
pub use Rattle.std.specs.Map.{lookup}
pub use Rattle.std.specs.Option.{option_and_then, option_map, option_map_or, unwrap_or}
pub use Rattle.std.specs.Ordering.{eq_by_cmp, is_eq, is_le, is_lt, nat_cmp, ordering_then}
pub use Rattle.std.specs.Prelude.{Bool, Err, IfSome, if◌then◌else◌, is_some, IsPermutation, IsSome, map, None, Ok, OnErr, OnOk, Option, Result, slice_get, slice_set, Some, Vec, ℕ, ◌&&◌, ◌==◌, ◌≤◌}
pub use Rattle.std.specs.Vec.{with_item}
pub use Rattle.task_handles.specs.Counted.{Inserts, Removes}
pub use Rattle.task_handles.specs.Counter.{Counter}
pub use Rattle.task_handles.specs.Handles.{Handles, held_by, with_held}
pub use Rattle.task_handles.specs.HeldItem.{set_in, subtask_of}
pub use Rattle.table_lists.proofs.Counts.{passing-with_at}
pub use Rattle.table_lists.proofs.Entries.{IsIndex-pushed, IsIndex-with_entry, IsIndex-with_entry_same}
pub use Rattle.table_lists.proofs.Indexes.{filed_held, IsIndex-made, IsIndex-nothing, IsIndex-rechained, IsIndex-same, IsIndex-same_chains, link_says, new_for_chains}
pub use Rattle.table_lists.proofs.Lists.{Each-less_by, Each-more, filter-append, filter-none, filter-one}
pub use Rattle.table_lists.proofs.Members.{admitted_permute, found_permute, IsMembers-filter, IsMembers-nothing, IsMembers-numbers}
pub use Rattle.table_lists.proofs.Refilings.{first_link, first_made, free_unlinked, refiled_free, Refiles-changed, Refiles-linked, Refiles-removed, Refiles-twice}
pub use Rattle.table_lists.proofs.Rows.{free_in_none, IsRows-made, IsRows-opened, IsRows-pushed, IsRows-pushed_first, IsRows-removed, IsRows-renamed, IsRows-same, less_elsewhere, no_chain, values_are}
pub use Rattle.table_lists.proofs.Tables.{filings-deleted_here, filings-deleted_other, filings-pushed_before, filings-pushed_here, filings-pushed_other, filings_at, held_passes, none_in_records, none_passes}
pub use Rattle.table_lists.proofs.Walks.{IsMembers-walked}
pub use Rattle.table_lists.specs.Counts.{one_if_passes, passing}
pub use Rattle.table_lists.specs.Index.{Filing, Holds, IsIndex, link_for, PassesAt, Refiles, said, Tests}
unfoldable pub use Rattle.table_lists.specs.Index.{filings}
pub use Rattle.table_lists.specs.Members.{has, is_held_in, IsMembers, Once}
pub use Rattle.table_lists.specs.Rows.{Each, IsRows, less_by, part, values, with_nodes}
pub use Rattle.table_lists.specs.Walks.{number_at, number_in_link, passes_at, passes_in}
pub use Rattle.table_links.proofs.Paths.{after-at, Apart-less, Apart-once, In-here, In-right, split, without-at}
pub use Rattle.table_links.proofs.ReadLemmas.{ChangesOnly-unlinked, entries-linked_other, entries-unlinked_other, entries-unlinked_same, made_free, made_linked}
pub use Rattle.table_links.specs.Links.{after, Apart, AreLinked, ChainOf, ChangesOnly, entries, following, FreeNode, head_of, In, in_list, is_free, is_made, IsLinks, last_of, last_or, link_of, LinkedNode, list_of, list_or_nil, removed, removed_by, Renames, Spot, spot_at, spot_is_free, spot_is_made, spot_link, spot_list, Unmade, without}
unfoldable pub use Rattle.table_links.specs.Links.{linked, unlinked}
pub use Rattle.machine_data.proofs.CommuteLemmas.{change-change_same, insert-insert_other, insert-insert_same, remove-change_same}
pub use Rattle.machine_data.proofs.MapLemmas.{get-change_other, get-change_same, get-insert_other, get-insert_same, get-remove_same}
pub use Rattle.machine_data.proofs.SizeLemmas.{size-change, size-empty, size-insert, size-insert_new, size-remove_present}
pub use Rattle.machine_data.proofs.SumLemmas.{sum_by-insert, sum_by-remove, value_in}
pub use Rattle.machine_data.specs.Core.{Core, no_handles, nothing_made, untouched}
unfoldable pub use Rattle.machine_data.specs.Core.{fresh}
pub use Rattle.machine_data.specs.Maps.{changed, get-empty, get-insert, get-remove, other_than, Records, same_map}
unfoldable pub use Rattle.machine_data.specs.Maps.{change, empty, get, insert, numbers, remove, size}
pub use Rattle.machine_data.specs.Moves.{first_low, freed_thread_handle, has_entry, held_why_of, is_deletable_call, newest, older, ready_why, released_one, stand, why_of}
unfoldable pub use Rattle.machine_data.specs.Moves.{first_entry, group_settled, is_deletable, is_group_done, put_high, released, unqueued}
pub use Rattle.machine_data.specs.Read.{admits, as_set, as_subtask, call_group, call_instance, callers_of, entry_thread, first_at, first_in, first_of, goal_of, held_why, instance_of, is_aborted, is_blocked_on, is_delivery_for, is_entry_in, is_entry_of, is_held_admitted, is_host_call, is_in_set, is_inside_wait, is_live, is_member, is_never, is_nil, is_ready_member, is_resumption, is_stage_live, is_sync, is_under, is_waiter, is_waiting_on, join_of, keeps_set, live_in, may_not_suspend, named_by, next_handle, no_callee, or_first, or_high, place_of, position_of, same_subtask, set_at, stage_of, subtask_at, subtasks, task_of, thread_at, thread_handle_of}
unfoldable pub use Rattle.machine_data.specs.Read.{admitted_held, at_handle_limit, blocked_on, fits, has_member, has_ready_member, has_thread, has_waiter, has_waiters, is_last_thread, live_count, new_handle, new_thread_handle, next_entry, table_use, under_of}
pub use Rattle.machine_data.specs.Write.{giving, less_one, taking, with_works_made}
unfoldable pub use Rattle.machine_data.specs.Write.{add_call, add_group, add_set, add_thread, add_work, count_work, free_handle, free_thread_handle, give_handle, give_result, give_thread_handle, on_call, on_instance, on_thread, on_work, push_high, push_high_first, push_low, remove_call, remove_group, remove_set, remove_thread, remove_work, set_backpressure, set_callers, set_cancel_delivered, set_cancelled, set_course, set_do_not_enter, set_do_not_suspend, set_end, set_event, set_exited, set_high, set_op_progress, set_join, set_low, set_task_event, set_phase, set_place, set_position, set_register, set_result, set_saved_callee, set_saved_own, set_script, set_stage, set_started, set_starting_published, set_subtask_handle, set_switch, set_thread_handle, set_trapped, set_uninteresting, set_memory_cell, take_result}
pub use Rattle.core_records.specs.Image.{callers_in, chained, core_of, given_results, HasRoom, image, tracked_in, CoreImage, tag_of, tags_in, trimmed, with_first, with_given}
pub use Rattle.core_records.specs.Instances.{by_place, handle_table, is_sorted-mapped, named_as, named_of}
unfoldable pub use Rattle.core_records.specs.Instances.{by_place_from, records_by}
pub use Rattle.core_records.specs.CachedCounts.{AreKept, calls_of, entries_for, is_of_group, IsCallKept, IsGroupKept, IsSetKept, members_of, threads_of}
pub use Rattle.core_records.specs.Keys.{blocked_key, call_key, callers_key, group_key, ready_calls_key, ready_works_key, set_key, thread_key, under_key, waiters_key, work_blocked_key, work_key, waits_key}
pub use Rattle.core_records.specs.Kinds.{entry_of, item_of, no_other, on_item}
pub use Rattle.core_records.specs.Groups.{AreEnded, is_tracked, tracked_of}
pub use Rattle.core_records.specs.Names.{AreHandlesNamed, AtPlace, caller_target, CallOf, HasHome, HasNumber, op_progress_target, IsCallNamed, IsHeldNamed, IsNamedAt, IsWorkNamed, join_target, Kinds, kinds, Nothing, OwnsHandle, place_target, SetOf, StandsAt, subtask_target, Target, ThreadOf, why_target, work_caller_target, WorkOf, keeps_waits}
pub use Rattle.core_records.specs.RecordPlaces.{BlockedOn, held_list, HeldIn, live_chain, live_order, live_value, live_work, place_chain, place_filing, wait_chain, wait_filing, waits_in, ready_call, ready_call_chain, ready_in, ready_work, ready_work_chain, Rises, StartsIn, UnderOf, WaitsOn, Where, where_at}
pub use Rattle.core_records.specs.Rows.{callers_chain, callers_row, entry_keyed, follower, HaveNodes, High, host_entry, is_of_instance, IsFollower, IsOfThread, IsKeyed, Low, push_entry, Row, row, row_chain, keyed, instance_queue_chain, instance_queue_in, thread_entry}
pub use Rattle.core_records.specs.Seen.{nothing, parts_of}
unfoldable pub use Rattle.core_records.specs.Seen.{IsSoundCore, seen}
pub use Rattle.core_records.specs.Sound.{AreChained, AreCounted, AreNamed, AreTables, bare, bare_call, bare_instance, bare_thread, bare_work, EachEntry, HaveRowNodes, IsWhole, loose_call, loose_thread, loose_work, Sound, SoundTable, uninterested, unmoved}
pub use Rattle.machine_rules.specs.Calls.{new_call, new_thread, settle_group_of, work_group}
unfoldable pub use Rattle.machine_rules.specs.Calls.{call_made, with_handle, with_thread_handle, work_deleted, work_queued}
unfoldable pub use Rattle.machine_rules.specs.Data.{advanced, assigned, moved_to}
pub use Rattle.machine_rules.specs.Places.{is_at_high, is_at_low, one_if, says, switch_entries, times}
pub use Rattle.machine_rules.specs.Scripts.{registers_for}
pub use Rattle.machine_rules.specs.Takes.{rest_of}
unfoldable pub use Rattle.machine_rules.specs.Takes.{popped}
pub use Rattle.machine_rules.specs.Works.{first_number, is_moving, live_after}
unfoldable pub use Rattle.machine_rules.specs.Works.{has_live_work, has_moving_work, next_polled}
pub use Rattle.task_table.proofs.ItemLemmas.{deletion_refused, get-item_number, number_of-item, number_of-refused, record_at-item}
pub use Rattle.task_table.proofs.Laws.{children_of-deleted, children_of-pushed, children_of-with_entry, found-with_entry, next_place_free, place_at-deleted, place_at-pushed, place_at-with_entry}
pub use Rattle.task_table.proofs.MappedLemmas.{children_of-mapped, found-mapped, IsTable-mapped, mapped-deleted, mapped-pushed, mapped-with_entry, mapped-with_entry_same, next_place-mapped, number_of-mapped, place_at-mapped}
pub use Rattle.task_table.proofs.NumberLemmas.{number_names, number_of-deleted_apart, number_of-le, number_of-pushed_kept, number_of-pushed_new, record_at-Names}
pub use Rattle.task_table.proofs.ReadLemmas.{set-slice_get, slice_get-set_other, slice_get-set_same}
pub use Rattle.task_table.proofs.RecordChangeLemmas.{AreApart-new_table, PutsRecord-pushed, PutsRecord-with_entry, TakesRecord-deleted}
pub use Rattle.task_table.proofs.RecordCountLemmas.{size-records, size-records-le}
pub use Rattle.task_table.proofs.RecordLemmas.{AreApart-rest, found_record_at, fresh_first, get-records, record_found}
pub use Rattle.task_table.proofs.TableLemmas.{found_at, found_here, IsTable-with_entry, item_found, place_at_there}
pub use Rattle.task_table.specs.TableAnswers.{deletion, item_at, item_in}
pub use Rattle.task_table.specs.Changes.{entry_put, next_place}
unfoldable pub use Rattle.task_table.specs.Changes.{deleted, pushed, with_capacity, with_entry}
pub use Rattle.task_table.specs.Mapped.{placed_as}
unfoldable pub use Rattle.task_table.specs.Mapped.{mapped}
pub use Rattle.task_table.specs.Records.{AreApart, is_of, key_in, number_in, or_record, PutsRecord, record_at, TakesRecord, with_record}
unfoldable pub use Rattle.task_table.specs.Records.{found_record, number_of, records}
pub use Rattle.task_table.specs.Table.{children_of, is_number, IsTable, new_table, of_serial, place_at, Placed, standing, Table, table_len}
unfoldable pub use Rattle.task_table.specs.Table.{found}
pub use Rattle.task_wait.specs.Sets.{IsAscending, IsLeast}
pub use Rattle.core_primitives.specs.Apart.{IsApart, IsBehindNobody, IsUnqueued, later_of, newest_of, older_of, work_entries}
pub use Rattle.core_primitives.specs.Live.{kept_in}
pub use Rattle.core_primitives.specs.Groups.{asked, IsAsked, ended_groups, if_tracked, tracked_group, tracked_work_group, some_if_tracked, with_group}
pub use Rattle.core_primitives.specs.Names.{subtask_in}
pub use Rattle.core_primitives.specs.StateView.{call_of, Keeps, KeepsBut, KeepsTo, KeepsWith, lost_call, lost_set, lost_thread, lost_work, named, on_core, set_of, StateView, Tag, Tags, thread_of, with_core, work_of}
unfoldable pub use Rattle.core_primitives.specs.StateView.{call_number, set_number, thread_number, work_number}
