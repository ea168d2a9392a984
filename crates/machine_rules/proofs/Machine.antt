-- The names of std, of the machine and of its rules that the proofs cite, in one place.
pub use Rattle.machine_data.specs.declared.{component.Callee.Callee, component.Component.Component, component.ExportKind.ExportKind, component.HostDef.HostDef, component.Slot.Slot, label.CallLabel.CallLabel, label.DataLabel.DataLabel, label.Label.Label, label.LoopLabel.LoopLabel, label.MainLabel.MainLabel, label.SetLabel.SetLabel, label.TakeLabel.TakeLabel, label.TaskLabel.TaskLabel, label.ThreadLabel.ThreadLabel, op.CallOp.CallOp, op.DataOp.DataOp, op.Op.Op, op.Operand.Operand, op.SetOp.SetOp, op.TaskOp.TaskOp, op.ThreadOp.ThreadOp, outcome.Outcome.Outcome, records.Call.Call, records.CallEnd.CallEnd, records.Caller.Caller, records.Course.Course, records.Delivery.Delivery, records.Entry.Entry, records.Goal.Goal, records.OpProgress.OpProgress, records.Instance.Instance, records.Join.Join, records.MadeCounts.MadeCounts, records.Named.Named, records.Place.Place, records.Script.Script, records.Set.Set, records.Stage.Stage, records.Subtask.Subtask, records.Thread.Thread, records.Turn.Turn, records.Why.Why, records.Work.Work, records.WorkCaller.WorkCaller, scenario.MainOpDef.MainOpDef, trap.Trap.Trap, statuses.Given.Given, statuses.HostPoll.HostPoll, statuses.Mark.Mark, statuses.TaskEvent.TaskEvent, statuses.Phase.Phase, statuses.Status.Status}
pub use Rattle.std.proofs.Common.{ap, ap₂, arith, inl, inr, le_refl, le_trans, refl, subst, sym, T, ⊎_elim, ◌∙◌}
pub use Rattle.std.proofs.lemmas.Bool.{and_parts, eq-eqb, eqb-false, eqb-true, not-true}
pub use Rattle.std.proofs.lemmas.Bool.Decides.{nat_tests}
pub use Rattle.std.proofs.lemmas.List.{Elements.filter_passes, Folds.list_any-append, Sorted.All-permutation, Sorted.IsPermutation-refl, Sorted.length_permutation, Sorted.list_any-IsPermutation, Sums.sum_by-cons}
pub use Rattle.std.specs.{Cmp.nat_cmp_total, Cmp.unsigned_tied, List.All, List.count_by, List.list_any, Option.option_map_or, Option.option_or, Ordering.is_lt, Ordering.nat_cmp, Prelude.Bool, Prelude.IfSome, Prelude.IsPermutation, Prelude.List, Prelude.None, Prelude.Option, Prelude.Some, Prelude.cond, Prelude.false, Prelude.filter, Prelude.find, Prelude.is_none, Prelude.is_some, Prelude.length, Prelude.map, Prelude.min, Prelude.nat_le, Prelude.nat_lt, Prelude.not, Prelude.option_and_then, Prelude.option_map, Prelude.slice_get, Prelude.suc, Prelude.true, Prelude.unwrap_or, Prelude.zero, Prelude.ℕ}
pub use Rattle.std.specs.FinMap.Entries.{below_all, is_sorted}
pub use Rattle.std.specs.Prelude.{[], if◌then◌else◌, ◌%◌, ◌&&◌, ◌*◌, ◌++◌, ◌+◌, ◌-◌, ◌/◌, ◌<◌, ◌==◌, ◌||◌, ◌∷◌, ◌≡◌, ◌≢◌, ◌≤◌, ◌⊎◌}
pub use Rattle.machine_data.proofs.{CommuteLemmas.change-change_same, CommuteLemmas.get-change, MapLemmas.change-field, MapLemmas.get-insert_same, MapLemmas.get-remove_other, MapLemmas.get-remove_same}
pub use Rattle.machine_data.specs.{Core.Began, Core.Core, Core.Main, Core.MainPlace, Core.Queues, Core.Refused, Core.Scripted, Core.Started, Core.State, Core.NameTable, Core.Unscripted, Core.filled, Core.no_handles, Core.untouched, Labels.Choice, Labels.choice_of, Labels.event_label, Labels.exit_label, Labels.held_label, Labels.host_label, Labels.join_label, Labels.ret_label, Labels.take_label, Labels.task_cancel_label, Labels.wait_label, Labels.woken_of, Maps.Records, Maps.get-empty, Maps.get-insert, Maps.get-remove, Maps.same_map, Moves.PickedEvent, Moves.PickedMember, Moves.NothingPicked, Moves.PickedTaskEvent, Moves.behind, Moves.departed, Moves.displaced, Moves.exited_if, Moves.freed_thread_handle, Moves.picked_event_after_own, Moves.hands_on, Moves.has_entry, Moves.held_why_of, Moves.is_callback_waiter, Moves.is_deletable_call, Moves.is_finished, Moves.less, Moves.less_switch, Moves.may_wake_joined, Moves.newest, Moves.older, Moves.picked_task_event_of, Moves.own_or_nothing, Moves.passed_on, Moves.promoted_first, Moves.released_one, Moves.resumed_all, Moves.resumed_callers, Moves.stand, Moves.unblocked, Moves.wake_joined, Moves.waken_by, Moves.why_of, Read.admits, Read.any_thread, Read.as_set, Read.as_subtask, Read.backpressure_of, Read.call_group, Read.call_instance, Read.callee_of, Read.caller_of, Read.callers_of, Read.cancel_was_delivered, Read.course_of, Read.course_value, Read.end_of, Read.event_of, Read.first_at, Read.first_in, Read.foot_from, Read.goal_of, Read.goes_open, Read.handle_of_table, Read.has_ended, Read.held_why, Read.op_progress_of, Read.instance_of, Read.is_aborted, Read.is_async_lifted, Read.is_at, Read.is_behind, Read.is_blocked_on, Read.is_callback, Read.is_callback_yield, Read.is_delivery_for, Read.is_direct, Read.is_entry_in, Read.is_entry_of, Read.is_explicit, Read.is_guest_call, Read.is_held_admitted, Read.is_holding, Read.is_in_set, Read.is_inside_wait, Read.is_joined, Read.is_live, Read.is_member, Read.is_nil, Read.is_open, Read.is_ready_member, Read.is_ready_to_resume, Read.is_resumption, Read.is_stage_ended, Read.is_stage_live, Read.is_under, Read.is_waiter, Read.is_waiting_on, Read.is_watched, Read.is_woken_for, Read.is_yielded, Read.join_of, Read.keeps_set, Read.kind_of, Read.may_not_enter, Read.may_not_suspend, Read.named_by, Read.next_handle, Read.or_high, Read.task_event_of, Read.phase_of, Read.place_of, Read.position_of, Read.register_of, Read.registers_of, Read.result_of, Read.same_subtask, Read.saved_callee_of, Read.saved_own_of, Read.set_at, Read.stage_of, Read.strand_from, Read.subtask_at, Read.subtask_ended, Read.subtask_handle, Read.subtasks, Read.task_of, Read.thread_at, Read.thread_group, Read.thread_handle_of, Read.undelivered_end, Read.waits_by_callback, Read.was_cancelled, Read.was_started, Read.work_caller_of, Statuses.packed, Statuses.status_code, Write.giving, Write.less_one, Write.remove_threads, Write.taking}
pub use Rattle.machine_rules.specs.{Allowed.AbortsOwn, Allowed.Allowed, Allowed.AtOp, Allowed.AwaitsEvent, Allowed.Blocks, Allowed.ByDelivery, Allowed.ByHandle, Allowed.ByOp, Allowed.ByProgram, Allowed.ByScript, Allowed.BySetHandle, Allowed.ByThread, Allowed.ByWait, Allowed.CanCome, Allowed.Cancelling, Allowed.Cancels, Allowed.ComesAgain, Allowed.Departs, Allowed.EndsActivation, Allowed.EndsOver, Allowed.Exits, Allowed.Unwinds, Allowed.FindsEvent, Allowed.GivesUp, Allowed.HasCalled, Allowed.HasSet, Allowed.HasSubtask, Allowed.Holds, Allowed.InOp, Allowed.IsCalled, Allowed.IsUnwind, Allowed.IsFoot, Allowed.IsLaid, Allowed.IsNamed, Allowed.IsNew, Allowed.IsPolled, Allowed.IsRunner, Allowed.IsSettling, Allowed.IsStarting, Allowed.IsWithdrawn, Allowed.Leaves, Allowed.MayAbort, Allowed.MayAdvance, Allowed.MayBar, Allowed.MayBeOpen, Allowed.MayCall, Allowed.MayCancel, Allowed.MayClose, Allowed.MayCome, Allowed.MayDeliver, Allowed.MayEnd, Allowed.MayFinish, Allowed.MayGo, Allowed.MayJoin, Allowed.MayLand, Allowed.MayLeave, Allowed.MayMake, Allowed.MayMakeCall, Allowed.MayMove, Allowed.MayNameCall, Allowed.MayOwe, Allowed.MayPut, Allowed.MayQueue, Allowed.MayRemoveCall, Allowed.MayRemoveWork, Allowed.MayRestart, Allowed.MayShift, Allowed.MayStart, Allowed.MayTakeEvent, Allowed.MayTell, Allowed.MayWithdraw, Allowed.MayYield, Allowed.NoneCame, Allowed.NoneHeldIn, Allowed.ProgramAborts, Allowed.Releases, Allowed.Resumes, Allowed.ReturnsNow, Allowed.Runs, Allowed.SaysEnd, Allowed.ScriptAborts, Allowed.Starts, Allowed.Stays, Allowed.Suspends, Allowed.TakesCalled, Allowed.TakesCancelled, Allowed.TakesNamed, Allowed.Tells, Allowed.Unblocks, Allowed.Uncovers, Allowed.Waits, Allowed.WaitsAgain, Allowed.Wakes, Allowed.WasReady, Allowed.WasUnder, Allowed.Yields, Allowed.is_async_work, Allowed.is_begun, Allowed.is_done_host, Allowed.is_exit, Allowed.is_for_main, Allowed.subtask_under_way, Allowed.wake_why, Allowed.watches, Calls.AtOnce, Calls.Failing, Calls.FirstPoll, Calls.Later, Calls.answered, Calls.answered_by, Calls.call_begins, Calls.call_clears_flag, Calls.call_host_by, Calls.call_pending, Calls.call_rule, Calls.call_status, Calls.call_status_by, Calls.call_sync_begins, Calls.call_sync_host_by, Calls.call_sync_host_rule, Calls.call_sync_rule, Calls.call_sync_status, Calls.call_sync_status_by, Calls.first_polled, Calls.heard_first, Calls.new_call, Calls.new_thread, Calls.new_work, Calls.next_thread, Calls.next_work, Calls.polled_first, Calls.put_back, Calls.settle_group_of, Calls.status_found, Calls.sync_sets_flag, Calls.work_group, Calls.work_value, Cancels.AlreadyEnded, Cancels.Async, Cancels.AskedBefore, Cancels.ThreadWaits, Cancels.CallbackYields, Cancels.CancelCase, Cancels.Mode, Cancels.OtherwiseRuns, Cancels.StartNotRun, Cancels.Sync, Cancels.aborted_phase, Cancels.behind_switch, Cancels.blocked_code, Cancels.call_answer, Cancels.cancel_by, Cancels.cancel_by_end, Cancels.cancel_case, Cancels.cancel_ended_by, Cancels.cancel_ended_rule, Cancels.cancel_guest, Cancels.cancel_guest_by, Cancels.cancel_label, Cancels.cancel_rule, Cancels.cancel_subtask, Cancels.cancel_subtask_by, Cancels.dropped, Cancels.pauses, Cancels.subtask_instance, Cancels.subtask_rule, Chains.Answers, Chains.Chain, Chains.Collapses, Chains.EndTells, Chains.EndPrimitives, Chains.EndsByExit, Chains.EndsCall, Chains.EndsOwn, Chains.EndsSubtask, Chains.Frees, Chains.GoesBack, Chains.Halted, Chains.Halts, Chains.HandsAtOnce, Chains.HandsOut, Chains.IsReadyAtOnce, Chains.IsShift, Chains.Lands, Chains.LandsAt, Chains.LastPrimitives, Chains.NoPrimitive, Chains.Quits, Chains.Remains, Chains.SameMain, Chains.Settles, Chains.Shifts, Chains.SpawnsNamed, Chains.Stay, Chains.StepsAreWalks, Chains.TakesEvent, Chains.TakesResult, Chains.TellsLater, Chains.TellsNever, Chains.TellsNone, Chains.TellsNow, Chains.Then, Chains.Trip, Chains.Unblocking, Chains.WakesOne, Chains.Walk, Chains.Walked, Chains.WalkedAs, Chains.Writes, Chains.WritesAtOnce, Chains.WritesCall, Chains.WritesNever, Chains.WritesPolled, Chains.WritesToo, Chains.host_taken, Chains.is_over, Chains.is_running, Chains.is_take, Chains.lands_alone, Chains.lands_inside, Chains.leaving, Chains.start_of, Data.data_rule, Data.skip_rule, Ends.blocking_exit_rule, Ends.blocking_returned, Ends.code_kind_rule, Ends.code_rule, Ends.code_wait_rule, Ends.direct_exit_to, Ends.exit_rule_for, Ends.first_waiter, Ends.implicit_exit_rule, Ends.is_told, Ends.kind_exit_rule, Ends.own_or_none, Ends.result_given, Ends.sync_exit_rule, Ends.thread_exit_rule, Ends.waiter_told, Finish.Doer, Finish.NoAnswer, Finish.OneEvent, Finish.OneNumber, Finish.OpAnswer, Finish.OwnScript, Finish.SomeHost, Finish.finish, History.Moment, History.history, Laws.BlockingCheckIsAfter, Laws.CallbackCheckIsAfter, Laws.CheckMovesOne, Laws.EachStep, Laws.KeptByRuns, Laws.LaterBy, Laws.LaterCall, Laws.LaterWork, Laws.NeverFewer, Laws.OutcomeEnds, Laws.OutcomeIsLast, Laws.OverIsLast, Laws.Promotes, Laws.PromotionMovesOne, Laws.RunGoesOn, Laws.RunsJoin, Laws.SameLimits, Laws.SameThread, Laws.Steady, Laws.Takes, Laws.is_free, MainOps.Abort, MainOps.Answer, MainOps.Await, MainOps.Does, MainOps.Finish, MainOps.MainAct, MainOps.MainProgress, MainOps.Pends, MainOps.Quiet, MainOps.Ready, MainOps.Spawn, MainOps.SpawnOpen, MainOps.Start, MainOps.act_of, MainOps.advanced_main, MainOps.finish_act, MainOps.finish_result, MainOps.is_complete, MainOps.is_spawn, MainOps.line_of, MainOps.main_rule, MainOps.may_act, MainOps.op_at, MainOps.spawned_at, MainOps.start_act, MainOps.started_at, MainOps.unless_pending, Once.EndsOnce, Once.answering, Once.answers_return, Once.begun_holder, Once.changes_end, Once.covers_end, Once.end_code, Once.handed, Once.handed_in, Once.hands_out_written, Once.holder_at_exit, Once.holder_at_start, Once.holds_one, Once.is_among, Once.is_end_of, Once.is_known, Once.is_other, Once.is_start, Once.is_written, Once.last_return, Once.less_holder, Once.returned_holder, Once.with_end, Once.with_holder, Once.with_return, Once.writes_end, Once.written, OpParts.callee_of_op, OpParts.calls_host, OpParts.can_come, OpParts.ends_activation, OpParts.is_calling_host, OpParts.is_cancel, OpParts.is_code_op, OpParts.is_data_op, OpParts.is_exit_op, OpParts.is_join, OpParts.is_sync_call, OpParts.is_sync_cancel, OpParts.is_sync_host_call, OpParts.is_thread_op, OpParts.is_wait, OpParts.makes_set, OpParts.queues_work, OpParts.suspends, OpParts.yields, Outcome.main_outcome, Outcome.outcome_of_label, Places.HasPlace, Places.Placed, Places.entries, Places.is_at_high, Places.is_at_low, Places.is_at_switch, Places.is_at_wait, Places.is_behind_of, Places.is_for_start, Places.is_fresh, Places.is_inside, Places.is_there, Places.one_if, Places.says, Places.switch_entries, Places.times, Progress.Asks, Progress.Fails, Progress.Continues, Progress.Never, Progress.Ordered, Progress.Progress, Progress.Stops, Progress.Traps, Progress.may, Progress.or_never, Progress.or_trap, Progress.trap_if, Run.Run, Run.main_opening, Run.opening, Scenes.Scene, Scenes.base_at, Scenes.base_without, Scenes.component_of, Scenes.op_in, Scenes.runner_at, Scenes.scene_as, Scenes.scene_of, Scenes.thread_of_entry, Scripts.HasOpen, Scripts.export_kind, Scripts.host_at, Scripts.is_script, Scripts.op_at_place, Scripts.op_of_thread, Scripts.ops_of, Scripts.registers_for, Scripts.script_in, Scripts.script_of_thread, Scripts.slot_at, Scripts.value_of, Scripts.values_in, Sets.chosen, Sets.given_code, Sets.given_handle, Sets.given_result, Sets.handed_out, Sets.join_done, Sets.join_done_by, Sets.join_rule, Sets.join_to, Sets.join_to_by, Sets.joins, Sets.may_wake_new, Sets.received_by, Sets.received_woken_by, Sets.set_answer, Sets.set_rule, Sets.wait_begins, Sets.wait_begins_by, Sets.wait_goes_on, Sets.wait_goes_on_by, Sets.wait_rule, Sets.wakes_joined, Stalled.Setting, Stalled.deadlock_trap, Stalled.is_blocked_on_end, Stalled.is_held_for, Stalled.is_passed_over, Stalled.is_unended_take, Step.DeadlockStep, Step.EmptyFor, Step.FuturesStep, Step.MainProgresses, Step.MainStep, Step.OpenAct, Step.OpenProgresses, Step.Polled, Step.Progresses, Step.RestStep, Step.ScriptStep, Step.TakeStep, Step.TurnStep, Step.TurnStepAs, Step.entry_number, Step.scripted_op_rule, Step.op_rule, Step.own_script, Step.trap_label, SubtaskEnds.SubtaskEnd, SubtaskEnds.call_of_op, SubtaskEnds.cancel_target, SubtaskEnds.cancelled_of_op, SubtaskEnds.direct_answered, SubtaskEnds.direct_return, SubtaskEnds.end_answered, SubtaskEnds.end_for, SubtaskEnds.finished_call, SubtaskEnds.handed_as, SubtaskEnds.handed_by, SubtaskEnds.handed_by_cancel, SubtaskEnds.handed_by_event, SubtaskEnds.handed_by_main, SubtaskEnds.has_result, SubtaskEnds.host_end, SubtaskEnds.is_answered, SubtaskEnds.is_ending_exit, SubtaskEnds.is_handed_end, SubtaskEnds.returned_of_op, SubtaskEnds.started_end, SubtaskEnds.sync_answered, SubtaskEnds.task_end, SubtaskEnds.written_as, SubtaskEnds.written_by, SubtaskEnds.written_by_cancel, Takes.delivered, Takes.delivery_rule, Takes.host_result, Takes.host_status, Takes.own_delivered, Takes.rest_of, Takes.set_delivered, Takes.start_admitted, Takes.start_rule, Takes.start_sets_flags, Takes.starting_is_published, Takes.take_rule, Takes.thread_taken, Takes.thread_taken_for, Threads.Halt, Threads.Suspension, Threads.Yielding, Threads.halt_rule, Threads.halting, Threads.halting_by, Threads.halts, Threads.halts_by, Threads.resume_why, Threads.resumed_by, Threads.then_promote, Threads.then_promote_by, Threads.scripted_then_promote_rule, Threads.then_promote_rule, Threads.then_resume_rule, Threads.thread_answer, Threads.thread_new_rule, Threads.thread_rule, Turns.goes_to, Turns.settled_turn, Primitives.AddGroup, Primitives.Advance, Primitives.CloseSet, Primitives.CountWork, Primitives.EndCall, Primitives.EndWork, Primitives.Enter, Primitives.FinishWork, Primitives.FreeThreadHandle, Primitives.GiveResult, Primitives.GoBehind, Primitives.MakeCall, Primitives.MakeThread, Primitives.Move, Primitives.NameCall, Primitives.NameThread, Primitives.NameWork, Primitives.OpenSet, Primitives.Pend, Primitives.Places, Primitives.Placing, Primitives.Pop, Primitives.Promote, Primitives.Put, Primitives.QueueWork, Primitives.RemoveCall, Primitives.RemoveGroup, Primitives.RemoveThread, Primitives.RemoveWork, Primitives.Restart, Primitives.SetBackpressure, Primitives.SetCallEvent, Primitives.SetCallJoin, Primitives.SetCancelDelivered, Primitives.SetCancelled, Primitives.SetDoNotEnter, Primitives.SetDoNotSuspend, Primitives.SetExited, Primitives.SetOpProgress, Primitives.SetTaskEvent, Primitives.SetPhase, Primitives.SetRegister, Primitives.SetResult, Primitives.SetSavedCallee, Primitives.SetSavedOwn, Primitives.SetStarted, Primitives.SetStartingPublished, Primitives.SetTrapped, Primitives.SetUninteresting, Primitives.SetMemoryCell, Primitives.SetWorkJoin, Primitives.Stop, Primitives.TakeHost, Primitives.TakePush, Primitives.TakeResult, Primitives.TakeWorkEvent, Primitives.UnnameCall, Primitives.UnnameWork, Primitives.Withdraw, Primitives.Primitive, Primitives.after_placing, Primitives.after_primitive, Primitives.ended_as, Primitives.placed_as, Primitives.put_at, Primitives.status_of_end, Works.Asked, Works.Ends, Works.FailsNow, Works.Poll, Works.StillPends, Works.course_for, Works.first_number, Works.followed, Works.has_end, Works.heard, Works.is_ended_work, Works.live_after, Works.polled_again, Works.polled_course, Works.polled_in}
unfoldable pub use Rattle.machine_data.specs.{Core.fresh, Maps.change, Maps.empty, Maps.get, Maps.insert, Maps.numbers, Maps.remove, Maps.size, Moves.behind_one, Moves.call_settled, Moves.checked, Moves.ended, Moves.first_entry, Moves.picked_event, Moves.given_for, Moves.group_settled, Moves.handed_on, Moves.interest_settled, Moves.is_deletable, Moves.is_group_done, Moves.may_hand_on, Moves.may_publish, Moves.may_wake, Moves.picked_task_event_only, Moves.passes_check, Moves.promoted, Moves.promoted_unless, Moves.published, Moves.put_high, Moves.put_low, Moves.put_switch, Moves.released, Moves.stopped, Moves.taken, Moves.unqueued, Moves.wake, Moves.withdrawn, Read.admitted_held, Read.at_handle_limit, Read.blocked_on, Read.fits, Read.foot_of, Read.has_member, Read.has_ready_member, Read.has_thread, Read.has_waiter, Read.has_waiters, Read.is_last_thread, Read.new_handle, Read.new_thread_handle, Read.next_entry, Read.strand_of, Read.under_of, Read.woken, Write.add_call, Write.add_group, Write.add_set, Write.add_thread, Write.add_work, Write.count_work, Write.free_handle, Write.free_thread_handle, Write.give_handle, Write.give_result, Write.give_thread_handle, Write.on_call, Write.on_instance, Write.on_thread, Write.on_work, Write.push_high, Write.push_high_first, Write.push_low, Write.remove_call, Write.remove_group, Write.remove_set, Write.remove_thread, Write.remove_work, Write.set_backpressure, Write.set_callers, Write.set_cancel_delivered, Write.set_cancelled, Write.set_course, Write.set_do_not_enter, Write.set_do_not_suspend, Write.set_end, Write.set_event, Write.set_exited, Write.set_high, Write.set_op_progress, Write.set_join, Write.set_low, Write.set_task_event, Write.set_phase, Write.set_place, Write.set_position, Write.set_register, Write.set_result, Write.set_saved_callee, Write.set_saved_own, Write.set_script, Write.set_stage, Write.set_started, Write.set_starting_published, Write.set_subtask_handle, Write.set_switch, Write.set_thread_handle, Write.set_trapped, Write.set_uninteresting, Write.set_memory_cell, Write.take_result}
unfoldable pub use Rattle.machine_rules.specs.{Calls.call_let_go, Calls.call_made, Calls.call_queues, Calls.call_resumes, Calls.call_stops, Calls.call_sync_host_stops, Calls.call_sync_stops, Calls.call_taken, Calls.call_with_handle, Calls.enter_runs, Calls.host_valued, Calls.host_with_handle, Calls.with_handle, Calls.with_thread_handle, Calls.work_deleted, Calls.work_queued, Cancels.cancel_aborts_host, Cancels.cancel_asks, Cancels.cancel_goes_behind, Cancels.cancel_promotes_yield, Cancels.cancel_resumed, Cancels.cancel_stops, Cancels.cancel_wakes, Cancels.unnamed, Chains.HostRulesAreWalks, Chains.RulesAreWalks, Data.advanced, Data.assigned, Data.moved_to, Data.skipped, Data.stored, Ends.blocking_exits, Ends.cancelled, Ends.code_exits, Ends.code_finds, Ends.code_stops, Ends.code_waits, Ends.code_yields, Ends.direct_exits, Ends.end_reopens, Ends.exit_restores, Ends.exit_stops, Ends.has_event_for, Ends.held_by_flag, Ends.leaves_no_result, Ends.may_tell, Ends.passes_after_return, Ends.passes_after_stop, Ends.returned, Ends.sync_exits, Ends.told, Laws.ReleaseKeepsPlaces, Laws.RemovalKeepsPlaces, Laws.StopKeepsPlaces, Laws.WakeKeepsPlaces, MainOps.has_interesting, MainOps.is_ready_for_call, MainOps.main_aborted, MainOps.main_spawned, MainOps.main_started, MainOps.open_spawned, MainOps.start_refusal, Scripts.op_of, Scripts.script_of, Sets.finds_nothing, Sets.joined, Sets.moved_over, Sets.received, Sets.received_woken, Sets.set_closed, Sets.set_given, Sets.set_opened, Sets.wait_stops, Sets.wait_stops_checked, Stalled.is_idle, Stalled.is_stalled, Stalled.may_deadlock, Step.Step, Step.StepAs, Step.did, Step.unwound, Takes.activated, Takes.activated_woken, Takes.host_done, Takes.may_tell_starting, Takes.popped, Takes.pushed, Takes.running, Takes.start_begins, Takes.start_holds, Takes.starting_told, Takes.take_holds, Takes.wait_again, Threads.halted, Threads.halted_checked, Threads.halted_promoting, Threads.halted_resuming, Threads.has_yielded, Threads.thread_added, Turns.at_turn, Works.has_moving_work, Works.next_polled, Works.poll_ends, Works.poll_of, Works.poll_pends}
