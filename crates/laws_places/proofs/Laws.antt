-- What the laws of places cite, in one place.
pub use Rattle.laws_states.proofs.Rules.{[], AbortsOwn, act_of, Adds, adds_all, admits, after_placing, after_primitive, All, all_of, Allowed, along, and_parts, any_found, any_thread, ap, arith, Asked, at_place, Awaits, AwaitsEvent, Awake, base_at, base_without, begun_holder, behind, behind_adds, BehindFeet, blocked_place, Blocks, Bool, by_number, ByHandle, ByOp, Call, Callee, callee_of, callee_of_op, CalleesAre, Caller, callers_of, callers_say, CallersGoOn, CallsAwaited, CallsNamed, CallsThere, CallsTold, can_come, cancelled_by, cancelled_call, CancelsWatched, Choice, choice_of, chosen, Collapses, Component, component_of, Core, Course, course_of, course_value, Covered, DeadlockStep, Delivery, delivery_rule, Departs, DirectsOnTop, displaced, Doer, Does, Drops, EmptyFor, Ends, EndsOver, EndTells, EndPrimitives, Enter, entries, entries-append, entries-less, Entry, entry_number, eq_refl, event_label, event_of, ExportKind, FailsNow, unwind_allowed, Unwinds, false, filter_passes, finish, FitsAs, foot_from, foot_there, found_any, found_none, Frees, fresh_apart, FuturesStep, get-change, get-empty, get-insert, get-remove, PickedEvent, picked_event_none, given_unchecked, goal_of, GoBehind, Continues, goes_on_at, goes_on_within, goes_to, GoesBack, gone_place, Halted, Halts, handed_out, has_end, has_entry, HasNotRun, HasPlace, HasSubtask, held_label, held_why, history, Holds, holds_one, host_label, host_status, host_taken, HostsAwaited, op_progress_of, OpProgress, idle_loose, if◌then◌else◌, inl, InOrder, InOrderAs, InOrderFor, InPlace, inr, InsideOps, Instance, instance_of, is_async_work, is_at, is_at_high, is_at_low, is_at_switch, is_at_wait, is_awaited, is_begun, is_behind, is_behind_of, is_blocked_on_end, is_busy, is_callback_waiter, is_delivery_for, is_direct, is_done_host, is_ended_work, is_entry_of, is_explicit, is_finishing, is_for_start, is_free, is_fresh, is_held_admitted, is_held_for, is_host_of, is_idle, is_in_set, is_inside, is_inside_wait, is_join, is_late, is_nil, is_none, is_open, is_parked, is_passed_over, is_ready_member, is_resumption, is_so, is_some, is_spawn, is_stage_ended, is_sync_call, is_sync_work, is_take, is_there, is_told, is_under, is_unended_take, is_wait, is_waiter, is_waiting_on, is_watched, is_woken_for, IsUnwind, IsFoot, IsRunner, IsSettling, Join, join_done, join_done_by, join_label, join_of, join_rule, join_to, join_to_by, joins, JoinsNamed, keep_stay, kind_of, Label, land_allowed, Lands, lands_alone, lands_inside, LandsAt, LastPrimitives, le_refl, le_trans, Leaves, leaving, Left, left_loose, left_placed, length, less, less_holder, less_switch, line_of, List, list_any, LoopLabel, Loose, loose_idle, MadeCounts, Main, main_opening, main_rule, MainOpDef, MainPlace, MainProgress, MainProgresses, MainStep, MakeCall, MakesFew, MakeThread, Mark, may, may_wake_new, MayAbort, MayBeAborted, MayCome, MayGo, MayLand, MayMove, MayPut, MayRemoveWork, MayWithdraw, MayYield, member_same, PickedMember, Move, moved_passes, moves_stand, nat_cmp, nat_lt, nat_tests, new_thread, newest, next_thread, no_time, NoAnswer, nobody, NothingPicked, None, none_waits, NoneAdmitted, NoneBlockedOnEnd, NoneCame, not, not_main, Nothing, Numbered, older, one_if, one_runner, one_time, Op, op_at, op_at_place, op_in, op_rule, opening, Operand, ops_of, Option, option_and_then, option_map, option_map_or, or_never, or_trap, other_place, own_script, TaskEvent, PickedTaskEvent, OwnScript, passed_on, Pauses, Pends, Place, place_kept, place_of, place_written, Placed, Places, Placing, placing_shifted, placing_works, Poll, Polled, Pop, ProgramAborts, Progress, Progresses, Promote, published_wakes, Put, put_at, put_high_adds, put_low_adds, put_stand, Queues, quiet_placed, quiet_stand, Quits, ready_same, received_by, received_woken_by, Records, refl, registers_for, Remains, removed_all, removed_gone, removed_is, removed_loose, removed_placed, RemoveThread, rest_of, RestStep, resumed_all, resumed_callers, returned_holder, Run, runner_at, Runs, RunsAlone, same_subtask, SameMain, SameWorks, says, Scene, scene_as, scene_of, Script, script_in, ScriptAborts, Scripted, ScriptStep, set_at, set_delivered, set_of_op, set_place_adds, set_place_is, set_place_there, SetOpProgress, SetOp, SetsNamed, Setting, settle_stays, settle_threads, settled_turn, Settles, SetTrapped, SetUninteresting, shift_keeps, shifted_calls, shifted_far, shifted_works, shifts_shifted, slice_get, so_again, Some, SomeHost, spawned_at, Stage, stage_of, Stand, stand, stand_of, stands, start_admitted, start_of, start_rule, start_sets_flags, starting_is_published, StartsAwaited, StartsFirst, StartsFree, StartsThere, State, Status, status_of_end, Stay, Stays, stays_allowed, stays_put, Steady, steady, step_over, step_walks, StepInOrder, StepsMakeFew, StillPends, Stop, stopped_stand, Stops, Strands, Stuck, subst, Subtask, subtask_at, subtask_ended, subtask_handle, subtask_under_way, SubtaskEnd, suc, Suspends, switch_adds, switch_entries, switch_there, sym, T, take_label, take_rule, TakeHost, TakePush, TakeStep, task_of, TellsLater, TellsNever, TellsNone, TellsNow, Thread, thread_of_entry, thread_taken, thread_taken_for, times, times-newest, told_spares, told_to, ToldSpares, ToldTo, Trap, trap_if, Trip, true, Turn, TurnStep, TurnStepAs, Unblocking, Uncovers, undelivered_end, under_place, Unscripted, unsigned_tied, Untouched, unwrap_or, value_of, wait_goes_on, wait_goes_on_by, wait_label, wait_rule, Waits, WaitsAgain, WaitsAtHome, WaitsPlaced, wake_why, waken_by, wakes_joined, wakes_one, WakesCounted, WakesOne, Walk, Walked, WalkedAs, was_started, WasCall, WasReady, WasUnder, Watch, watching, weaken, Why, why_of, Withdraw, withdraws, Primitive, Work, work_caller_of, WorkCaller, WorksKnown, WorksNamed, WorksQueued, WorksTold, Writes, WritesAtOnce, WritesCall, WritesNever, WritesPolled, written_as, written_by, zero, zero_one, ℕ, ⊎_elim, ◌+◌, ◌-◌, ◌<◌, ◌==◌, ◌||◌, ◌∙◌, ◌∷◌, ◌≡◌, ◌≤◌, ◌⊎◌}
unfoldable pub use Rattle.laws_states.proofs.Rules.{activated, activated_woken, add_call, add_group, add_set, add_thread, add_work, admitted_held, advanced, at_handle_limit, at_turn, behind_one, call_made, count_work, did, empty, foot_of, free_handle, free_thread_handle, fresh, get, picked_event, give_handle, give_result, give_thread_handle, handed_on, has_moving_work, has_ready_member, has_waiter, insert, is_stalled, joined, may_deadlock, may_hand_on, may_tell, may_tell_starting, may_wake, moved_over, moved_to, next_entry, next_polled, numbers, on_call, on_instance, on_thread, on_work, op_of, OpeningInOrder, poll_of, poll_pends, popped, promoted, published, push_high, push_high_first, push_low, put_high, put_low, put_switch, ready_members, received, received_woken, remove_call, remove_group, remove_set, remove_thread, remove_work, running, script_of, set_backpressure, set_callers, set_cancel_delivered, set_cancelled, set_course, set_do_not_enter, set_do_not_suspend, set_end, set_event, set_exited, set_given, set_high, set_op_progress, set_join, set_low, set_task_event, set_phase, set_place, set_position, set_register, set_result, set_saved_callee, set_saved_own, set_script, set_stage, set_started, set_starting_published, set_subtask_handle, set_switch, set_thread_handle, set_trapped, set_uninteresting, set_memory_cell, size, start_begins, start_holds, starting_told, Step, StepAs, stopped, take_holds, take_result, taken, told, under_of, unqueued, wake, with_handle, with_thread_handle, woken, work_queued}
pub use Rattle.laws_states.proofs.{AwaitedCalls.CallsInside, AwaitedCalls.DirectsRun, AwaitedCalls.Inside, AwaitedCalls.apart_after, AwaitedCalls.directs_primitive, AwaitedCalls.inside_primitive, Basics.no_way, Basics.some_none, CallEnds.EndsTold, CallEnds.ends_go, CallEnds.opening_ends_told, CallsCame.CallAfter, CallsCame.Grown, CallsCame.IsBeside, CallsCame.IsFirst, CallsCame.IsGone, CallsCame.IsSame, CallsCame.NewCall, CallsCame.NoCall, CallsCame.ThreadAfter, CallsCame.call_came, CallsCame.op_came, CallsCame.thread_came, CallsLaw.CallsGo, CallsLaw.CallsHold, CallsLaw.Codes, CallsSteps.CodesAt, CallsSteps.calls_begin, CallsSteps.codes_at, CallsSteps.codes_plain, CallsSteps.of_base, CallsSteps.opening_holds, CallsSteps.plain, CallsSteps.plain_as, CallsSteps.plain_scene, CallsSteps.walked_goes, CallsSteps.primitive_goes, CameLemmas.Came, CameLemmas.Comes, CameLemmas.MayStand, CameLemmas.Moved, CameLemmas.Shifts, CameLemmas.Turned, CameLemmas.Turns, CameLemmas.behind_shifted, CameLemmas.came_primitive, CameLemmas.moved_there, CameLemmas.promoted_shifted, CameLemmas.put_shifted, CameLemmas.read_same, CameLemmas.stopped_shifted, CancelLemmas.CancelsGo, CancelLemmas.KnownCancels, CancelLemmas.cancels_primitive, CancelLemmas.queued_handle, CountLemmas.few_primitive, CountLemmas.made_threads_primitive, CountLemmas.made_works_primitive, Counts.any_at, Counts.at_number, Counts.one, Counts.one_counted, EndedWorks.Coming, EndedWorks.HasCome, EndedWorks.coming_primitive, EventLemmas.TellingGoes, EventLemmas.TellsEnd, EventLemmas.calls_told_primitive, EventLemmas.host_event_primitive, EventLemmas.telling_primitive, EventLemmas.works_hold, EventLemmas.works_told, FitLemmas.AllFit, FitLemmas.OfBase, FitLemmas.SameOp, FitLemmas.fits_primitive, FitLemmas.op_same, FitLemmas.op_there, HeldLemmas.held_primitive, HousedLemmas.RunnerHoused, HousedLemmas.housed_primitive, Joins.joins_primitive, Joins.now_joined, Joins.opening_joins, KnownWorks.WorksSaid, KnownWorks.abort_kept, KnownWorks.named_other, KnownWorks.opening_works_known, KnownWorks.works_said_primitive, NamedCalls.InsideThere, NamedCalls.NamesGo, NamedCalls.NamesHold, NamedCalls.names_go_primitive, NamedCalls.opening_names_known, OnceLemmas.Due, OnceLemmas.EndStep, OnceLemmas.HasValue, OnceLemmas.Over, OnceLemmas.due_over, OnceLemmas.ends_once, OneHolder.op_callee, OneHolder.runs_hold_one, ReadyCounts.found_ready, ReadyCounts.is_woken_at, ReadyCounts.none_ready, ReadyCounts.ready_counts, ReadyCounts.ready_weighs, ReadyCounts.some_ready, ReadyCounts.woken_weighs, ReadyLemmas.EndTold, ReadyLemmas.Gains, ReadyLemmas.HostTold, ReadyLemmas.JoinsSet, ReadyLemmas.ReadyGoes, ReadyLemmas.StartTold, ReadyLemmas.in_set_is, ReadyLemmas.ready_goes_primitive, ReturnSteps.return_step, SaidEnds.said_plain, SaidEnds.written_at, SceneLemmas.base_is, SceneLemmas.ops_plain, SceneLemmas.popped_is, SceneLemmas.popped_threads, SceneLemmas.runner_there, SetHandles.opening_sets, SetHandles.sets_named_primitive, StartLemmas.StartsGo, StartLemmas.starts_primitive, StartLemmas.writes_over, StepEnds.Answered, StepEnds.CallsFound, StepEnds.step_ends, StrandLemmas.Layered, StrandLemmas.layered_primitive, Subtasks.Traced, Subtasks.opening_named, Subtasks.opening_works_named, Subtasks.traced_primitive, Subtasks.works_named_primitive, UnbegunCalls.Unbegun, UnbegunCalls.Waited, UnbegunCalls.first_waits, UnbegunCalls.unbegun_primitive, WaitLemmas.Homed, WaitLemmas.KnownHome, WaitLemmas.homed_primitive, WakeCounts.woken_at, WakeCounts.woken_place, WakeTableLemmas.join_others, WakeTableLemmas.waiting_of, WatchLemmas.queued_watched, WatchLemmas.watched_primitive, Works.WorksGo, Works.WorksHold, Works.first_works, Works.opening_works, Works.works_go, Works.works_primitive, WorksCame.Doing, WorksCame.High, WorksCame.WorkCame, WorksCame.WorksStand, WorksCame.doing_of, WorksCame.entries_for, WorksCame.same_standing, WorksCame.stand_primitive, WorksCame.work_came}
