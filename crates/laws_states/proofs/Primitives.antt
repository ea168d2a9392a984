-- What is known of each primitive, and what else the laws cite, in one place.
pub use Rattle.laws_states.proofs.Rules.{[], AddGroup, admits, after_primitive, Allowed, along, and_parts, answering, Answers, answers_return, any_found, ap, arith, as_subtask, Asked, at_most_returned, AtOp, AwaitsEvent, backpressure_of, base_at, begun_holder, blocked_at, Blocks, Bool, by_number, ByDelivery, ByHandle, ByOp, BySetHandle, ByWait, Call, call_instance, Callee, callee_of, callee_of_op, CalleesExist, CallEnd, Caller, CallLabel, CallOp, calls_host, CallsAwaited, CallsExported, CallsHost, CallsNamed, CallsThere, CallsTold, can_come, cancel_was_delivered, cancelled_by, cancelled_call, cancels_own, CancelsNamed, CancelsWatched, Change, Changes, changes_end, CloseSet, CodesInCallbacks, ComesAgain, Component, component_of, cond, Core, count_by, Course, course_of, course_value, covers_end, Delivery, Departs, direct_answered, direct_return, displaced, end_code, end_for, end_of, EndCall, ended_as, ends_activation, EndsActivation, EndsByExit, EndsCall, EndsOnce, EndsOver, EndsOwn, EndsSubtask, EndPrimitives, EndWork, event_of, Exits, ExportsExist, Unwinds, false, Fewer, filled, filter, FindsEvent, FinishWork, FitsAs, found_any, FuturesStep, get-change, get-empty, get-insert, get-remove, PickedEvent, Given, GiveResult, GivesUp, giving, Goal, goal_of, goes_open, handed, handed_as, handed_by, handed_in, handle_of_table, HandleTablesStay, hands_out_written, HandsAtOnce, HandsOut, has_end, has_ended, has_one_on_top, HasAnswered, HasCalled, HasDelivery, HasNotRun, HasOpen, HasPlace, HasSet, HasSubtask, heard, history, Holds, holds_one, host_at, host_label, host_status, host_taken, HostDef, HostPoll, op_progress_of, OpProgress, IfSome, if◌then◌else◌, inl, InOp, inr, InsideOps, instance_of, InstancesStay, is_aborted, is_among, is_answered, is_asked, is_async_work, is_at_wait, is_awaited, is_callback_waiter, is_cancelled, is_delivered, is_delivery, is_delivery_for, is_direct, is_end_of, is_explicit, is_finishing, is_for_main, is_fresh, is_guest_call, is_in_set, is_inside, is_inside_wait, is_join, is_joined, is_known, is_late, is_member, is_none, is_other, is_over, is_ready_in, is_ready_member, is_resumption, is_returned, is_some, is_stage_ended, is_sync_call, is_sync_work, is_there, is_told, is_unbegun, is_uncancelled, is_wait, is_waiter, is_waiting_on, is_woken_for, is_written, IsCalled, IsExported, IsKnown, IsLaid, IsNamed, IsNew, IsOf, IsPolled, IsReadyAtOnce, IsRunner, IsSettled, IsStarting, IsWithdrawn, Join, join_of, JoinNamed, joins_set, JoinsNamed, keeps_set, kind_of, Label, last_return, LastPrimitives, LaterBy, le_refl, le_trans, length, less_holder, List, list_any, list_any-append, LoopLabel, MadeCounts, Main, MakeCall, MakesWork, map, Mark, may_not_enter, MayAbort, MayBeAborted, MayCall, MayClose, MayCome, MayDeliver, MayEnd, MayGo, MayJoin, MayMove, MayNameCall, MayOwe, MayPut, MayQueue, MayRemoveCall, MayRemoveWork, MayTakeEvent, MayTell, MayYield, member_same, PickedMember, Moment, More, NameCall, Named, named_by, names_script, NamesKnown, NameWork, nat_cmp, nat_tests, never_fewer, new_thread, NewResultsAreSaid, next_handle, next_thread, next_work, no_handles, no_thread_left, NothingPicked, None, NoneAdmitted, NoneHeldIn, NoneOpen, not, Numbered, one_runner, OnlyCalled, Op, op_at_place, op_in, op_of_thread, OpenSet, ops_of, Option, option_and_then, option_map, option_map_or, task_event_of, TaskEvent, PickedTaskEvent, Pend, Phase, phase_of, Place, place_of, Placed, Places, placing_shifted, Poll, Polled, polled_again, polled_course, polled_in, Queues, queues_work, QueueWork, Reached, Records, refl, registers_for, RemoveCall, RemoveThread, RemoveWork, returned_holder, ReturnsNow, Rises, WakeRow, Run, Runs, RunsHoldOne, RunsInWait, Same, same_subtask, SameCourse, SameMain, SaysEnd, Scene, scene_as, scene_of, Script, script_in, script_of_thread, Scripted, Set, set_of_op, set_of_place, set_of_why, SetBackpressure, SetCallEvent, SetCallJoin, SetDoNotEnter, SetDoNotSuspend, SetsNamed, Setting, SetMemoryCell, SetWorkJoin, slice_get, Some, Spawns, Stage, stage_of, StartsAwaited, StartsFirst, State, Status, status_of_end, step_walks, StepsKeepExports, subst, Subtask, subtask_at, subtask_handle, subtask_under_way, SubtaskEnd, suc, sum_by-cons, Suspends, sym, sync_answered, NameTable, TableKept, TakeHost, TakePush, TakeResult, TakesCalled, TakesCancelled, TakesEvent, TakesNamed, TakesResult, taking, task_of, TaskLabel, Thread, true, Turn, TurnStep, unblocked, Uncovers, undelivered_end, UnnameCall, UnnameWork, Unscripted, unsigned_tied, untouched, Waits, WaitsAgain, WaitsAtHome, WaitsPlaced, wake_joined, waken_by, wakes_joined, Walk, Walked, WalkedAs, WasCall, WasReady, WasUnder, watches, Why, why_of, with_end, with_holder, with_return, Withdraw, Primitive, Work, work_caller_of, WorkCaller, WorksKnown, WorksNamed, WorksTold, Writes, writes_end, WritesAtOnce, WritesCall, WritesNever, WritesPolled, WritesToo, written, written_as, written_by, WrittenEndsAreNew, Yields, zero, ℕ, ⊎_elim, ◌&&◌, ◌+◌, ◌<◌, ◌==◌, ◌||◌, ◌∙◌, ◌∷◌, ◌≡◌, ◌≤◌, ◌⊎◌}
unfoldable pub use Rattle.laws_states.proofs.Rules.{activated, activated_woken, add_call, add_group, add_set, add_thread, add_work, advanced, BeginsToWait, blocked_on, call_made, CallbackFinds, CancelTakes, change, count_work, CoursesStay, DeliveryHeld, EndsHandedAsTold, EndsToldAsRecorded, EndsWrittenOnce, EventReplaced, free_handle, free_thread_handle, fresh, get, give_handle, give_result, give_thread_handle, handed_on, has_member, has_ready_member, has_waiters, insert, is_deletable, MemberLeaves, moved_to, new_handle, NewEndsAreSaid, NoEndIsCovered, NoneIsAsked, numbers, on_call, on_instance, on_thread, on_work, op_of, OpenWorksAnswer, poll_of, poll_pends, published, push_high, push_high_first, put_high, put_switch, ready_members, ReadyAndWakes, ReadyUnawaited, received, remove, remove_call, remove_group, remove_set, remove_thread, remove_work, RunsStaySettled, script_of, set_backpressure, set_cancel_delivered, set_cancelled, set_course, set_do_not_enter, set_do_not_suspend, set_end, set_event, set_exited, set_given, set_op_progress, set_join, set_task_event, set_phase, set_place, set_position, set_register, set_result, set_saved_callee, set_saved_own, set_script, set_stage, set_started, set_starting_published, set_subtask_handle, set_switch, set_thread_handle, set_trapped, set_uninteresting, set_memory_cell, SettledStays, Step, take_result, taken, under_of, waiters, wake, with_handle, with_thread_handle, woken, WokenHandsOn, WokenTakes, WokenTakesOwn, WokenWaits, work_queued, WorksAreCalled}
pub use Rattle.laws_states.proofs.{Basics.no_way, Basics.some_none, Basics.too_high, CallsCame.CallAfter, CallsCame.Ends, CallsCame.Grown, CallsCame.IsBeside, CallsCame.IsFirst, CallsCame.IsGone, CallsCame.IsSame, CallsCame.NewCall, CallsCame.NoCall, CallsCame.RunsOn, CallsCame.ThreadAfter, CallsCame.call_came, CallsCame.op_came, CallsCame.thread_came, CallsLaw.CallsGo, CallsLaw.CallsHold, CallsLaw.Codes, CallsLaw.code_callback, CallsLaw.delivered_in, CallsLaw.exits_unended, CallsLaw.later_after, CallsLaw.later_same, CallsLaw.shifted_delivers, CallsLaw.turned_silent, CallsSteps.CodesAt, CallsSteps.calls_begin, CallsSteps.codes_at, CallsSteps.codes_in, CallsSteps.codes_plain, CallsSteps.of_base, CallsSteps.opening_holds, CallsSteps.plain, CallsSteps.plain_as, CallsSteps.plain_scene, CallsSteps.reached_holds, CallsSteps.step_goes, CallsSteps.primitive_goes, CameLemmas.Came, CameLemmas.Comes, CameLemmas.Entered, CameLemmas.Enters, CameLemmas.IsMade, CameLemmas.Leaves, CameLemmas.MayStand, CameLemmas.Moved, CameLemmas.PlaceAfter, CameLemmas.Shifts, CameLemmas.Turned, CameLemmas.Turns, CameLemmas.came_primitive, CountLemmas.made_threads_primitive, CountLemmas.made_works_primitive, EachLemmas.after_change, EachLemmas.after_insert, EachLemmas.after_remove, EachLemmas.at_test, HandleTables.giving_kept, HandleTables.next_dead, HandleTables.taking_kept, HousedLemmas.RunnerHoused, PolledWorks.polled_is_live, ReachLemmas.filled_with, ReachLemmas.reached_keeps, ReachLemmas.reached_step, SceneLemmas.ops_at, SceneLemmas.ops_plain, SceneLemmas.popped_threads, SetHandles.given_names, SetHandles.home_in, SetHandles.none_named, SetHandles.subtask_in, WorksCame.Doing, WorksCame.WorkAfter, WorksCame.WorkCame, WorksCame.WorksStand, WorksCame.doing, WorksCame.doing_of, WorksCame.stand_primitive, WorksCame.work_came}
