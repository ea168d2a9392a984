-- What the laws cite of the rules, of their lemmas and of what the laws say, in one place.
pub use Rattle.machine_rules.proofs.Machine.{[], AbortsOwn, act_of, AddGroup, admits, Advance, after_placing, after_primitive, All, Allowed, and_parts, answering, Answers, answers_return, any_thread, ap, arith, as_set, as_subtask, Asked, AtOp, AwaitsEvent, backpressure_of, base_at, base_without, begun_holder, behind, below_all, Blocks, Bool, ByDelivery, ByHandle, ByOp, BySetHandle, ByWait, Call, call_instance, Callee, callee_of, callee_of_op, CallEnd, Caller, callers_of, CallLabel, CallOp, calls_host, can_come, cancel_was_delivered, CanCome, change-change_same, change-field, changes_end, Choice, choice_of, chosen, CloseSet, Collapses, ComesAgain, Component, component_of, cond, Core, count_by, CountWork, Course, course_of, course_value, covers_end, DeadlockStep, Delivery, delivery_rule, Departs, direct_answered, direct_return, displaced, Doer, Does, EmptyFor, end_code, end_for, end_of, EndCall, ended_as, Ends, ends_activation, EndsActivation, EndsByExit, EndsCall, EndsOnce, EndsOver, EndsOwn, EndsSubtask, EndTells, EndPrimitives, EndWork, Enter, entries, Entry, entry_number, event_label, event_of, Exits, export_kind, ExportKind, FailsNow, Unwinds, false, filled, filter, filter_passes, FindsEvent, finish, FinishWork, first_number, foot_from, Frees, FuturesStep, get-change, get-empty, get-insert, get-insert_same, get-remove, PickedEvent, Given, GiveResult, GivesUp, giving, Goal, goal_of, GoBehind, Continues, goes_open, goes_to, GoesBack, Halted, Halts, handed, handed_as, handed_by, handed_in, handed_out, handle_of_table, hands_out_written, HandsAtOnce, HandsOut, has_end, has_ended, has_entry, HasCalled, HasOpen, HasPlace, HasSet, HasSubtask, heard, held_label, held_why, history, Holds, holds_one, host_at, host_label, host_status, host_taken, HostDef, HostPoll, op_progress_of, OpProgress, IfSome, if◌then◌else◌, inl, InOp, inr, Instance, instance_of, is_aborted, is_among, is_answered, is_async_lifted, is_async_work, is_at, is_at_high, is_at_low, is_at_switch, is_at_wait, is_begun, is_behind, is_behind_of, is_blocked_on_end, is_callback, is_callback_waiter, is_delivery_for, is_direct, is_done_host, is_end_of, is_ended_work, is_entry_of, is_exit, is_explicit, is_for_main, is_for_start, is_free, is_fresh, is_guest_call, is_held_admitted, is_held_for, is_in_set, is_inside, is_inside_wait, is_join, is_joined, is_known, is_live, is_lt, is_member, is_nil, is_none, is_other, is_over, is_passed_over, is_ready_member, is_resumption, is_some, is_sorted, is_spawn, is_stage_ended, is_stage_live, is_sync_call, is_take, is_there, is_told, is_under, is_unended_take, is_wait, is_waiter, is_waiting_on, is_woken_for, is_written, IsCalled, IsUnwind, IsFoot, IsLaid, IsNamed, IsNew, IsPolled, IsReadyAtOnce, IsRunner, IsSettling, IsStarting, IsWithdrawn, Join, join_done, join_done_by, join_label, join_of, join_rule, join_to, join_to_by, joins, keeps_set, kind_of, Label, Lands, lands_alone, lands_inside, LandsAt, last_return, LastPrimitives, LaterBy, le_refl, le_trans, Leaves, leaving, length, less, less_holder, less_one, less_switch, line_of, List, list_any, list_any-append, live_after, LoopLabel, MadeCounts, Main, main_opening, main_rule, MainOpDef, MainPlace, MainProgress, MainProgresses, MainStep, MakeCall, MakeThread, map, Mark, may, may_not_enter, may_wake_new, MayAbort, MayAdvance, MayCall, MayClose, MayCome, MayDeliver, MayEnd, MayFinish, MayGo, MayJoin, MayLand, MayMake, MayMakeCall, MayMove, MayNameCall, MayOwe, MayPut, MayQueue, MayRemoveCall, MayRemoveWork, MayRestart, MayStart, MayTakeEvent, MayTell, MayWithdraw, MayYield, PickedMember, Moment, Move, NameCall, Named, named_by, NameWork, nat_cmp, nat_cmp_total, nat_lt, nat_tests, new_call, new_thread, new_work, newest, next_handle, next_thread, next_work, no_handles, NoAnswer, NothingPicked, None, NoneCame, NoneHeldIn, not, older, one_if, Op, op_at, op_at_place, op_in, op_of_thread, op_rule, opening, OpenSet, Operand, ops_of, Option, option_and_then, option_map, option_map_or, or_high, or_never, or_trap, task_event_of, own_script, TaskEvent, PickedTaskEvent, OwnScript, passed_on, Pend, Pends, Phase, phase_of, Place, place_of, Placed, Places, Placing, Poll, Polled, polled_again, polled_course, polled_in, Pop, ProgramAborts, Progress, Progresses, Promote, Put, put_at, Queues, queues_work, QueueWork, Quits, received_by, received_woken_by, Records, refl, registers_for, Remains, RemoveCall, RemoveThread, RemoveWork, rest_of, Restart, RestStep, resumed_all, resumed_callers, returned_holder, ReturnsNow, Run, runner_at, Runs, same_subtask, SameMain, SameThread, says, SaysEnd, Scene, scene_as, scene_of, Script, script_in, script_of_thread, ScriptAborts, Scripted, ScriptStep, Set, set_at, set_delivered, SetBackpressure, SetCallEvent, SetCallJoin, SetDoNotEnter, SetDoNotSuspend, SetOpProgress, SetOp, SetPhase, Setting, settled_turn, Settles, SetTrapped, SetUninteresting, SetMemoryCell, SetWorkJoin, slice_get, Some, SomeHost, spawned_at, Stage, stage_of, stand, start_admitted, start_of, start_rule, start_sets_flags, starting_is_published, State, Status, status_of_end, Stay, Stays, Steady, StillPends, Stop, Stops, subst, Subtask, subtask_at, subtask_ended, subtask_handle, subtask_under_way, SubtaskEnd, suc, sum_by-cons, Suspends, switch_entries, sym, sync_answered, T, NameTable, take_label, take_rule, TakeHost, TakePush, TakeResult, TakesCalled, TakesCancelled, TakesEvent, TakesNamed, TakesResult, TakeStep, TakeWorkEvent, taking, task_of, TaskLabel, TellsLater, TellsNever, TellsNone, TellsNow, Thread, thread_of_entry, thread_taken, thread_taken_for, times, Trap, trap_if, Trip, true, Turn, TurnStep, TurnStepAs, unblocked, Unblocking, Uncovers, undelivered_end, UnnameCall, UnnameWork, Unscripted, unsigned_tied, untouched, unwrap_or, value_of, wait_goes_on, wait_goes_on_by, wait_label, wait_rule, Waits, WaitsAgain, wake_joined, wake_why, waken_by, wakes_joined, WakesOne, Walk, Walked, WalkedAs, was_started, WasReady, WasUnder, watches, Why, why_of, with_end, with_holder, with_return, Withdraw, Primitive, Work, work_caller_of, WorkCaller, Writes, writes_end, WritesAtOnce, WritesCall, WritesNever, WritesPolled, WritesToo, written, written_as, written_by, Yields, zero, ℕ, ⊎_elim, ◌&&◌, ◌++◌, ◌+◌, ◌-◌, ◌<◌, ◌==◌, ◌||◌, ◌∙◌, ◌∷◌, ◌≡◌, ◌≤◌, ◌⊎◌}
unfoldable pub use Rattle.machine_rules.proofs.Machine.{activated, activated_woken, add_call, add_group, add_set, add_thread, add_work, admitted_held, advanced, at_handle_limit, at_turn, behind_one, blocked_on, call_made, change, count_work, did, empty, foot_of, free_handle, free_thread_handle, fresh, get, picked_event, give_handle, give_result, give_thread_handle, handed_on, has_member, has_moving_work, has_ready_member, has_waiter, has_waiters, insert, is_deletable, is_stalled, joined, may_deadlock, may_hand_on, may_tell, may_tell_starting, may_wake, moved_over, moved_to, new_handle, next_entry, next_polled, numbers, on_call, on_instance, on_thread, on_work, op_of, poll_of, poll_pends, popped, promoted, published, push_high, push_high_first, push_low, put_high, put_low, put_switch, received, received_woken, remove, remove_call, remove_group, remove_set, remove_thread, remove_work, running, script_of, set_backpressure, set_callers, set_cancel_delivered, set_cancelled, set_course, set_do_not_enter, set_do_not_suspend, set_end, set_event, set_exited, set_given, set_high, set_op_progress, set_join, set_low, set_task_event, set_phase, set_place, set_position, set_register, set_result, set_saved_callee, set_saved_own, set_script, set_stage, set_started, set_starting_published, set_subtask_handle, set_switch, set_thread_handle, set_trapped, set_uninteresting, set_memory_cell, size, start_begins, start_holds, starting_told, Step, StepAs, stopped, take_holds, take_result, taken, told, under_of, unqueued, wake, with_handle, with_thread_handle, woken, work_queued}
pub use Rattle.laws_states.specs.{Courses.CallsHost, Courses.MakesWork, Courses.SameCourse, Courses.Spawns, Ends.MayBeAborted, Ends.is_sync_work, Exports.CallsExported, Exports.ExportsExist, Exports.HandleTablesStay, Exports.InstancesStay, Exports.IsExported, Exports.StepsKeepExports, Holders.CalleesExist, Holders.RunsHoldOne, Order.Awake, Order.CallKinds, Order.CallsAwaited, Order.CallsNamed, Order.CallsThere, Order.CallsTold, Order.CancelsNamed, Order.CancelsWatched, Order.DeliveredByCallback, Order.DirectsOnTop, Order.FitsAs, Order.HasNotRun, Order.HostsAwaited, Order.InOrder, Order.InOrderAs, Order.InOrderFor, Order.InPlace, Order.InsideOps, Order.IsOf, Order.JoinNamed, Order.JoinsNamed, Order.MakesFew, Order.NamesKnown, Order.Numbered, Order.OnlyCalled, Order.RunsAlone, Order.SetsNamed, Order.StartsAwaited, Order.StartsFirst, Order.StartsFree, Order.StartsThere, Order.StepInOrder, Order.StepsMakeFew, Order.Strands, Order.TableKept, Order.ThreadNumbered, Order.WaitsAtHome, Order.WaitsPlaced, Order.WasCall, Order.WorksKnown, Order.WorksNamed, Order.WorksQueued, Order.WorksTold, Order.at_most_returned, Order.cancelled_by, Order.cancelled_call, Order.has_one_on_top, Order.is_awaited, Order.is_cancelled, Order.is_delivered, Order.is_delivery, Order.is_finishing, Order.is_host_of, Order.is_late, Order.is_open, Order.is_push_of, Order.is_queued, Order.is_returned, Order.is_unbegun, Order.is_uncancelled, Order.names_script, Order.set_of_op, Order.set_of_place, Order.set_of_why, Order.stands, Rises.CallsRise, Rises.Rises, Settings.CalleesAre, Settings.CodesInCallbacks, Settings.Reached, Settled.HasAnswered, Settled.IsKnown, Settled.IsSettled, Settled.NoneOpen, Settled.is_asked, WakeTable.Change, WakeTable.Changes, WakeTable.Fewer, WakeTable.HasDelivery, WakeTable.More, WakeTable.WakeRow, WakeTable.RunsInWait, WakeTable.Same, WakeTable.joins_set, WakeLaw.BehindFeet, WakeLaw.CallersGoOn, WakeLaw.NoneAdmitted, WakeLaw.NoneBlockedOnEnd, WakeLaw.WakesCounted, WakeLaw.goes_on_at, WakeLaw.goes_on_within, WakeLaw.is_ready_in, Written.NewResultsAreSaid, Written.WrittenEndsAreNew}
pub use Rattle.machine_rules.proofs.{CallThreads.any_found, CallThreads.found_any, CallThreads.no_thread_left, ChainLemmas.allowed_put, ChainLemmas.along, ChainLemmas.unwind_allowed, ChainLemmas.keep_stay, ChainLemmas.land_allowed, ChainLemmas.settle_stays, ChainLemmas.shift_keeps, ChainLemmas.stays_allowed, ChainLemmas.stays_put, ChainLemmas.weaken, FreeLemmas.published_wakes, FreeLemmas.wakes_one, LawLemmas.never_fewer, LawLemmas.run_goes_on, LawLemmas.steady, LawLemmas.step_over, MoveLemmas.all_of, MoveLemmas.at_place, MoveLemmas.gone_place, MoveLemmas.idle_loose, MoveLemmas.is_busy, MoveLemmas.is_idle, MoveLemmas.is_parked, MoveLemmas.loose_idle, MoveLemmas.no_time, MoveLemmas.one_time, MoveLemmas.other_place, MoveLemmas.put_stand, MoveLemmas.removed_all, MoveLemmas.removed_gone, MoveLemmas.removed_is, MoveLemmas.removed_loose, MoveLemmas.removed_placed, MoveLemmas.stand_of, PlacingLemmas.SameWorks, PlacingLemmas.member_same, PlacingLemmas.placing_shifted, PlacingLemmas.placing_works, PlacingLemmas.ready_same, PlacingLemmas.shifted_calls, PlacingLemmas.shifted_far, PlacingLemmas.shifted_works, PlacingLemmas.shifts_shifted, PlacingLemmas.unplaced, PlacingLemmas.unqueued_works, PlacingLemmas.work_entries, SayLemmas.found_none, StandLemmas.Adds, StandLemmas.Awaits, StandLemmas.Covered, StandLemmas.Drops, StandLemmas.Left, StandLemmas.Loose, StandLemmas.Nothing, StandLemmas.Pauses, StandLemmas.Stand, StandLemmas.Stuck, StandLemmas.Watch, StandLemmas.adds_all, StandLemmas.by_number, StandLemmas.callers_say, StandLemmas.entries-append, StandLemmas.entries-less, StandLemmas.eq_refl, StandLemmas.is_eq_of, StandLemmas.is_so, StandLemmas.is_watched, StandLemmas.left_loose, StandLemmas.left_placed, StandLemmas.moves_stand, StandLemmas.nobody, StandLemmas.not_eq, StandLemmas.place_kept, StandLemmas.place_written, StandLemmas.put_high_adds, StandLemmas.put_low_adds, StandLemmas.set_place_adds, StandLemmas.set_place_is, StandLemmas.set_place_there, StandLemmas.times-newest, StandLemmas.watching, StandLemmas.zero_one, StopLemmas.Untouched, StopLemmas.behind_adds, StopLemmas.foot_there, StopLemmas.fresh_apart, StopLemmas.given_unchecked, StopLemmas.quiet_placed, StopLemmas.quiet_stand, StopLemmas.so_again, StopLemmas.stopped_stand, StopLemmas.switch_adds, StopLemmas.switch_there, WalkMoves.ToldSpares, WalkMoves.ToldTo, WalkMoves.blocked_at, WalkMoves.blocked_place, WalkMoves.none_waits, WalkMoves.settle_threads, WalkMoves.told_spares, WalkMoves.told_to, WalkParts.cancels_own, WalkParts.picked_event_none, WalkParts.withdraws, WalkSteps.step_walks, WalkTask.moved_passes, WalkTask.not_main, WalkTask.one_runner, WalkTask.under_place}
unfoldable pub use Rattle.laws_states.specs.{Courses.CoursesStay, Courses.WorksAreCalled, Handles.SetsNamedAtHome, Handles.SetsNamedOnce, Order.OpeningInOrder, Rises.ExplicitNamesNoCall, Rises.RunsRise, Rises.StepsRise, Rises.SyncEndsLast, Rises.SyncNeverCancelled, Settled.NoneIsAsked, Settled.OpenWorksAnswer, Settled.RunsStaySettled, Settled.SettledStays, WakeTable.BeginsToWait, WakeTable.CallbackFinds, WakeTable.CancelTakes, WakeTable.DeliveryHeld, WakeTable.EventReplaced, WakeTable.MemberLeaves, WakeTable.ReadyAndWakes, WakeTable.ReadyUnawaited, WakeTable.WokenHandsOn, WakeTable.WokenTakes, WakeTable.WokenTakesOwn, WakeTable.WokenWaits, WakeTable.waiters, WakeLaw.ready_members, Written.EndsHandedAsTold, Written.EndsToldAsRecorded, Written.EndsWrittenOnce, Written.NewEndsAreSaid, Written.NoEndIsCovered}
