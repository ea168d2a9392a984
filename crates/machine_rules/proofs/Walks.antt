-- What the walks over the rules cite, in one place.
pub use Rattle.machine_rules.proofs.Machine.{[], Abort, aborted_phase, AbortsOwn, act_of, AddGroup, admits, Advance, advanced_main, after_placing, after_primitive, AlreadyEnded, and_parts, Answer, answered, answered_by, Answers, ap, ap₂, arith, Asked, Asks, Async, AtOnce, AtOp, Await, AwaitsEvent, backpressure_of, base_at, base_without, Began, begun_holder, behind_switch, blocked_code, blocking_exit_rule, blocking_returned, Blocks, Bool, ByHandle, ByOp, ByProgram, ByScript, BySetHandle, ByThread, ByWait, Call, call_answer, call_begins, call_clears_flag, call_host_by, call_instance, call_of_op, call_pending, call_rule, call_status, call_status_by, call_sync_begins, call_sync_host_by, call_sync_host_rule, call_sync_rule, call_sync_status, call_sync_status_by, AskedBefore, ThreadWaits, CallbackYields, Callee, callee_of_op, CallEnd, Caller, caller_of, CallLabel, CallOp, calls_host, can_come, cancel_by, cancel_by_end, cancel_case, cancel_ended_by, cancel_ended_rule, cancel_guest, cancel_guest_by, cancel_label, cancel_rule, cancel_subtask, cancel_subtask_by, cancel_target, cancel_was_delivered, CancelCase, cancelled_of_op, Cancelling, Cancels, Chain, change-change_same, Choice, choice_of, chosen, CloseSet, code_kind_rule, code_rule, code_wait_rule, Collapses, ComesAgain, Component, component_of, cond, Core, CountWork, Course, course_for, course_of, course_value, data_rule, DataLabel, DataOp, deadlock_trap, DeadlockStep, delivered, Delivery, delivery_rule, direct_exit_to, direct_return, Doer, Does, dropped, EmptyFor, end_for, end_of, EndCall, Ends, ends_activation, EndsActivation, EndsByExit, EndsCall, EndsOwn, EndsSubtask, EndTells, EndPrimitives, EndWork, Enter, Entry, entry_number, event_label, event_of, exit_label, exit_rule_for, Exits, export_kind, ExportKind, Failing, Fails, FailsNow, Unwinds, false, FindsEvent, Finish, finish, finish_act, finish_result, finished_call, FinishWork, first_polled, FirstPoll, followed, Frees, FuturesStep, get-change, get-insert, get-insert_same, get-remove, get-remove_same, PickedEvent, Given, given_code, given_handle, given_result, GivesUp, Goal, goal_of, GoBehind, Continues, goes_open, goes_to, GoesBack, Halt, halt_rule, Halted, halting, halting_by, Halts, halts, halts_by, handed_as, handed_by_cancel, handed_by_event, handed_by_main, handed_out, HandsAtOnce, HandsOut, has_end, has_ended, HasCalled, HasSet, HasSubtask, heard, heard_first, held_label, holder_at_exit, holder_at_start, Holds, host_at, host_end, host_label, host_result, host_status, host_taken, HostDef, HostPoll, op_progress_of, OpProgress, if◌then◌else◌, implicit_exit_rule, inl, InOp, inr, instance_of, is_aborted, is_async_lifted, is_async_work, is_at, is_at_wait, is_begun, is_blocked_on, is_callback_yield, is_calling_host, is_cancel, is_code_op, is_complete, is_data_op, is_deletable_call, is_direct, is_ended_work, is_ending_exit, is_exit, is_exit_op, is_explicit, is_for_main, is_free, is_guest_call, is_holding, is_join, is_joined, is_none, is_open, is_over, is_ready_to_resume, is_running, is_script, is_some, is_spawn, is_stage_ended, is_start, is_sync_call, is_sync_cancel, is_sync_host_call, is_thread_op, is_told, is_under, is_unended_take, is_wait, is_waiting_on, is_watched, is_yielded, IsUnwind, IsLaid, IsNamed, IsNew, IsPermutation, IsReadyAtOnce, IsRunner, IsWithdrawn, Join, join_done, join_done_by, join_label, join_of, join_to, join_to_by, joins, kind_exit_rule, kind_of, Label, lands_alone, LastPrimitives, Later, Leaves, leaving, length, less_switch, line_of, List, LoopLabel, MadeCounts, Main, main_outcome, main_rule, MainAct, MainLabel, MainOpDef, MainPlace, MainProgress, MainProgresses, MainStep, MakeCall, makes_set, MakeThread, Mark, may, may_act, may_not_enter, may_not_suspend, may_wake_new, MayAbort, MayBar, MayBeOpen, MayCall, MayCancel, MayCome, MayDeliver, MayEnd, MayFinish, MayJoin, MayMakeCall, MayMove, MayOwe, MayRemoveWork, MayWithdraw, PickedMember, min, Mode, Move, NameCall, NameThread, NameWork, nat_le, nat_lt, nat_tests, Never, new_thread, new_work, next_thread, next_work, NoAnswer, NothingPicked, None, NoneCame, NoneHeldIn, not, NoPrimitive, OneEvent, OneNumber, Op, op_at, op_at_place, op_in, scripted_op_rule, op_rule, OpAnswer, OpenAct, OpenProgresses, OpenSet, ops_of, Option, option_and_then, option_map, option_map_or, or_never, or_trap, Ordered, OtherwiseRuns, Outcome, outcome_of_label, own_delivered, task_event_of, picked_task_event_of, own_or_none, own_or_nothing, TaskEvent, PickedTaskEvent, OwnScript, packed, pauses, Pend, Pends, Phase, phase_of, Place, place_of, Poll, Polled, polled_again, polled_course, polled_first, polled_in, Pop, position_of, ProgramAborts, Progress, Progresses, Promote, Put, put_back, queues_work, QueueWork, Quiet, Ready, received_by, received_woken_by, Records, refl, Refused, register_of, registers_for, registers_of, Remains, remove_threads, RemoveThread, RemoveWork, Restart, RestStep, result_of, resume_why, resumed_by, Resumes, ret_label, returned_holder, returned_of_op, ReturnsNow, runner_at, Runs, SameMain, saved_callee_of, saved_own_of, says, SaysEnd, Scene, Script, ScriptAborts, Scripted, ScriptStep, set_answer, set_at, set_delivered, set_rule, SetBackpressure, SetCallEvent, SetCallJoin, SetCancelled, SetDoNotEnter, SetDoNotSuspend, SetExited, SetOpProgress, SetLabel, SetOp, SetTaskEvent, SetPhase, SetRegister, SetResult, SetSavedCallee, SetSavedOwn, SetStarted, SetStartingPublished, Setting, settle_group_of, settled_turn, SetTrapped, SetUninteresting, SetMemoryCell, SetWorkJoin, Shifts, skip_rule, slice_get, Slot, slot_at, Some, SomeHost, Spawn, spawned_at, SpawnOpen, SpawnsNamed, Stage, stage_of, Start, start_act, start_admitted, start_of, start_rule, start_sets_flags, Started, started_at, started_end, starting_is_published, StartNotRun, Starts, State, Status, status_code, status_found, Stay, StepsAreWalks, StillPends, Stop, Stops, strand_from, subst, Subtask, subtask_at, subtask_ended, subtask_handle, subtask_instance, subtask_rule, subtask_under_way, SubtaskEnd, suc, Suspends, suspends, Suspension, sym, Sync, sync_answered, sync_exit_rule, sync_sets_flag, T, take_label, take_rule, TakeHost, TakeLabel, TakePush, TakeResult, TakesCalled, TakesCancelled, TakesEvent, TakesNamed, TakesResult, TakeStep, TakeWorkEvent, taking, task_cancel_label, task_end, task_of, TaskLabel, TaskOp, TellsLater, TellsNever, TellsNone, Then, then_promote, then_promote_by, scripted_then_promote_rule, then_promote_rule, then_resume_rule, Thread, thread_answer, thread_at, thread_exit_rule, thread_group, thread_handle_of, thread_new_rule, thread_of_entry, thread_rule, thread_taken, ThreadLabel, ThreadOp, Trap, trap_if, trap_label, Traps, Trip, true, Turn, TurnStep, Unblocking, Uncovers, undelivered_end, unless_pending, UnnameCall, UnnameWork, Unscripted, unwrap_or, value_of, values_in, wait_begins, wait_begins_by, wait_goes_on, wait_goes_on_by, wait_label, wait_rule, Waits, WaitsAgain, wakes_joined, Walk, WalkedAs, was_cancelled, was_started, WasReady, watches, Why, Withdraw, woken_of, Work, work_caller_of, work_group, work_value, WorkCaller, Writes, WritesAtOnce, WritesCall, WritesNever, WritesPolled, WritesToo, written_as, written_by_cancel, Yielding, Yields, yields, zero, ℕ, ⊎_elim, ◌%◌, ◌&&◌, ◌*◌, ◌++◌, ◌+◌, ◌-◌, ◌/◌, ◌==◌, ◌||◌, ◌∙◌, ◌∷◌, ◌≡◌, ◌≤◌, ◌⊎◌}
unfoldable pub use Rattle.machine_rules.proofs.Machine.{activated, activated_woken, add_call, add_group, add_thread, add_work, advanced, assigned, at_handle_limit, at_turn, behind_one, blocked_on, blocking_exits, call_let_go, call_made, call_queues, call_resumes, call_settled, call_stops, call_sync_host_stops, call_sync_stops, call_taken, call_with_handle, cancel_aborts_host, cancel_asks, cancel_goes_behind, cancel_promotes_yield, cancel_resumed, cancel_stops, cancel_wakes, cancelled, checked, code_exits, code_finds, code_stops, code_waits, code_yields, count_work, did, direct_exits, end_reopens, ended, enter_runs, exit_restores, exit_stops, finds_nothing, fits, foot_of, free_handle, get, picked_event, give_handle, give_thread_handle, given_for, group_settled, halted, halted_checked, halted_promoting, halted_resuming, handed_on, has_event_for, has_interesting, has_member, has_moving_work, has_ready_member, has_waiters, has_yielded, held_by_flag, host_done, host_valued, host_with_handle, HostRulesAreWalks, is_deletable, is_group_done, is_ready_for_call, joined, leaves_no_result, main_aborted, main_spawned, main_started, may_deadlock, may_hand_on, may_publish, may_tell, may_tell_starting, moved_over, moved_to, new_handle, new_thread_handle, next_entry, next_polled, numbers, on_call, on_instance, on_thread, on_work, op_of, open_spawned, picked_task_event_only, passes_after_return, passes_after_stop, passes_check, poll_ends, poll_of, poll_pends, popped, promoted, promoted_unless, push_high, pushed, put_high, put_low, put_switch, received, received_woken, remove_call, remove_group, remove_thread, remove_work, returned, RulesAreWalks, running, script_of, set_backpressure, set_cancelled, set_closed, set_course, set_do_not_enter, set_do_not_suspend, set_end, set_event, set_exited, set_given, set_high, set_op_progress, set_join, set_low, set_opened, set_task_event, set_phase, set_place, set_position, set_register, set_result, set_saved_callee, set_saved_own, set_script, set_stage, set_started, set_starting_published, set_subtask_handle, set_switch, set_thread_handle, set_trapped, set_uninteresting, size, skipped, start_begins, start_holds, start_refusal, starting_told, Step, stopped, stored, strand_of, unwound, sync_exits, take_holds, take_result, taken, thread_added, told, under_of, unnamed, unqueued, wait_again, wait_stops, wait_stops_checked, with_handle, with_thread_handle, withdrawn, work_deleted, work_queued}
pub use Rattle.machine_rules.proofs.{CallThreads.LastEnds, CallThreads.has_same, CallThreads.last_of, CallThreads.last_shifted, ChainLemmas.Going, ChainLemmas.Keep, ChainLemmas.chain_if, ChainLemmas.join, ChainLemmas.keep_stay, ChainLemmas.stay_walk, ChainLemmas.trip_walk, FreeLemmas.published_frees, FreeLemmas.unblocked_stuck, MuteLemmas.answers_by, MuteLemmas.both_none, MuteLemmas.hands_by, MuteLemmas.is_mute, MuteLemmas.is_other, MuteLemmas.mute_primitives, MuteLemmas.none_said, MuteLemmas.says_by, MuteLemmas.takes_by, MuteLemmas.writes_by, PlacingLemmas.Shifted, PlacingLemmas.placed, PlacingLemmas.placing_shifted, PlacingLemmas.popped_shifted, PlacingLemmas.ready_same, PlacingLemmas.shifted_after, PlacingLemmas.shifted_calls, PlacingLemmas.shifted_explicit, PlacingLemmas.shifted_far, PlacingLemmas.shifted_instance, PlacingLemmas.shifted_made, PlacingLemmas.shifted_ready, PlacingLemmas.shifted_task, PlacingLemmas.shifts_shifted, ReleaseLemmas.release_leaves, ReleaseLemmas.released_on, ReleaseLemmas.shifted_admits, SayLemmas.HasNoEnd, SayLemmas.cancel_hands_of, SayLemmas.cancel_writes_of, SayLemmas.event_gone, SayLemmas.finished_is, SayLemmas.given_out, SayLemmas.result_gone, SayLemmas.result_taken, SayLemmas.said_is, SayLemmas.settled_gone, StandLemmas.by_number, StopLemmas.find_passes, WalkEnds.call_ends, WalkEnds.cancelled_rest, WalkEnds.cancelled_tells, WalkEnds.ended_last, WalkEnds.ends_untold, WalkEnds.returned_last, WalkEnds.returned_rest, WalkEnds.returned_tells, WalkMoves.Gone, WalkMoves.Left, WalkMoves.MayTake, WalkMoves.StillAt, WalkMoves.ToldSpares, WalkMoves.ToldTo, WalkMoves.blocked_at, WalkMoves.call_done_walks, WalkMoves.call_settles, WalkMoves.checked_shifts, WalkMoves.chosen_in_of, WalkMoves.chosen_of, WalkMoves.chosen_released, WalkMoves.ended_halts, WalkMoves.ended_walks, WalkMoves.exits_trip, WalkMoves.group_settles, WalkMoves.halted_at, WalkMoves.halted_from, WalkMoves.halted_on, WalkMoves.handed_on_shifts, WalkMoves.keep_at, WalkMoves.keep_position, WalkMoves.keep_still, WalkMoves.lands, WalkMoves.lands_at, WalkMoves.left_gone, WalkMoves.left_walk, WalkMoves.promoted_walks, WalkMoves.published_shifts, WalkMoves.released_shifts, WalkMoves.settled, WalkMoves.shifted, WalkMoves.spared_released, WalkMoves.spares_of, WalkMoves.still_first, WalkMoves.stopped_on, WalkMoves.taken_walks, WalkMoves.told_shifts, WalkMoves.told_spares, WalkMoves.told_to, WalkMoves.told_walks, WalkMoves.unblocked_shifts, WalkMoves.wake_shifts, WalkMoves.primitive}
