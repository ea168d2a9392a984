-- All definitions of the machine, opened at once by `unfolding the_definitions`.
use Rattle.machine_data.specs.Maps.{get, empty, insert, remove, size, numbers, change}
use Rattle.machine_data.specs.Core.{fresh}
use Rattle.machine_data.specs.Read.{new_handle, new_thread_handle, live_count, at_handle_limit, table_use, fits, under_of, foot_of, strand_of, blocked_on, has_thread, is_last_thread, has_waiter, has_member, has_ready_member, woken, has_waiters, next_entry, admitted_held}
use Rattle.machine_data.specs.Write.{arrive, set_cancel_asked, on_thread, set_register, set_position, set_op_progress, set_script, set_thread_handle, set_saved_own, set_saved_callee, set_place, set_callers, add_thread, remove_thread, on_call, add_call, remove_call, set_started, set_starting_published, set_end, set_task_event, set_cancel_delivered, set_exited, set_uninteresting, set_result, on_work, count_work, add_work, remove_work, set_course, set_phase, set_stage, set_cancelled, set_event, set_join, set_subtask_handle, add_set, remove_set, on_instance, set_backpressure, set_do_not_enter, set_do_not_suspend, set_memory_cell, give_handle, free_handle, give_thread_handle, free_thread_handle, set_switch, push_high, push_high_first, push_low, set_high, set_low, give_result, take_result, add_group, remove_group, set_trapped}
use Rattle.machine_data.specs.Moves.{put_switch, put_high, put_low, unqueued, promoted, promoted_unless, first_entry, passes_check, checked, behind_one, stopped, wake, may_wake, published, may_publish, picked_event, picked_task_event_only, taken, given_for, handed_on, may_hand_on, released, is_deletable, is_group_done, group_settled, call_settled, interest_settled, ended, withdrawn}
use Rattle.machine_rules.specs.Scripts.{script_of, op_of}
use Rattle.machine_rules.specs.Data.{moved_to, advanced, assigned, stored, skipped}
use Rattle.machine_rules.specs.Ends.{told, may_tell, returned, cancelled, leaves_no_result, passes_after_stop, passes_after_return, end_reopens, held_by_flag, exit_restores, exit_stops, sync_exits, blocking_exits, direct_exits, code_stops, code_exits, code_yields, code_finds, code_waits, has_event_for}
use Rattle.machine_rules.specs.Task.{dec_lowers, dec_opens, held_by_counter, inc_raises, pressure_gone, pressure_lowered, pressure_raised, ret_done, task_cancel_done}
use Rattle.machine_rules.specs.Sets.{finds_nothing, joined, moved_over, received, received_woken, set_closed, set_dropped, set_given, set_made, set_opened, wait_stops, wait_stops_checked}
use Rattle.machine_rules.specs.Calls.{answered, call_answered, call_let_go, call_made, call_pending, call_queues, call_resumes, call_returned, call_stops, call_sync_host_stops, call_sync_stops, call_taken, call_with_handle, enter_runs, host_answered, host_pending, host_ready, host_valued, host_with_handle, with_handle, with_thread_handle, work_answered, work_deleted, work_queued}
use Rattle.machine_rules.specs.Cancels.{cancel_aborts_host, cancel_asks, cancel_goes_behind, cancel_promotes_yield, cancel_resumed, cancel_stops, cancel_takes_end, cancel_wakes, cancel_withdraws, dropped, unnamed}
use Rattle.machine_rules.specs.Threads.{halted, halted_checked, halted_promoting, halted_resuming, has_yielded, resumed_later, thread_added, thread_made}
use Rattle.machine_rules.specs.Takes.{popped, pushed, host_done, starting_told, may_tell_starting, take_holds, start_holds, start_begins, running, activated, activated_woken, wait_again}
use Rattle.machine_rules.specs.Works.{next_polled, poll_of, poll_pends, poll_ends, has_moving_work, has_live_work}
use Rattle.machine_rules.specs.MainOps.{main_started, start_refusal, main_spawned, main_aborted, has_interesting, is_ready_for_call}
use Rattle.machine_rules.specs.Turns.{at_turn}
use Rattle.machine_rules.specs.Stalled.{is_idle, is_stalled, may_deadlock}
use Rattle.machine_rules.specs.Step.{did, unwound, Step}
use Rattle.machine_rules.specs.Run.{opens}
use Rattle.machine_rules.specs.Outcome.{is_at_rest, outcome_of}
use Rattle.laws_examples.specs.Play.{play}

unfoldable pub the_definitions : Unit {0}
unfolding arrive set_cancel_asked get empty insert remove size numbers change fresh new_handle new_thread_handle live_count at_handle_limit table_use fits under_of foot_of strand_of blocked_on has_thread is_last_thread has_waiter has_member has_ready_member woken has_waiters next_entry admitted_held on_thread set_register set_position set_op_progress set_script set_thread_handle set_saved_own set_saved_callee set_place set_callers add_thread remove_thread on_call add_call remove_call set_started set_starting_published set_end set_task_event set_cancel_delivered set_exited set_uninteresting set_result on_work count_work add_work remove_work set_course set_phase set_stage set_cancelled set_event set_join set_subtask_handle add_set remove_set on_instance set_backpressure set_do_not_enter set_do_not_suspend set_memory_cell give_handle free_handle give_thread_handle free_thread_handle set_switch push_high push_high_first push_low set_high set_low give_result take_result add_group remove_group set_trapped put_switch put_high put_low unqueued promoted promoted_unless first_entry passes_check checked behind_one stopped wake may_wake published may_publish picked_event picked_task_event_only taken given_for handed_on may_hand_on released is_deletable is_group_done group_settled call_settled interest_settled ended withdrawn script_of op_of moved_to advanced assigned stored skipped told may_tell returned cancelled leaves_no_result passes_after_stop passes_after_return end_reopens held_by_flag exit_restores exit_stops sync_exits blocking_exits direct_exits code_stops code_exits code_yields code_finds code_waits has_event_for pressure_raised pressure_lowered pressure_gone held_by_counter set_opened set_closed set_given wait_stops wait_stops_checked finds_nothing moved_over call_made call_queues call_resumes call_let_go with_handle call_with_handle call_taken call_stops call_sync_stops with_thread_handle enter_runs work_queued host_valued host_with_handle call_sync_host_stops work_deleted cancel_stops cancel_aborts_host cancel_asks cancel_goes_behind cancel_wakes cancel_promotes_yield cancel_resumed unnamed thread_added halted halted_checked halted_resuming has_yielded halted_promoting popped pushed host_done starting_told may_tell_starting take_holds start_holds start_begins running activated activated_woken wait_again next_polled poll_of poll_pends poll_ends has_moving_work has_live_work main_started start_refusal main_spawned main_aborted has_interesting is_ready_for_call at_turn is_idle is_stalled may_deadlock did unwound Step opens is_at_rest outcome_of play
the_definitions = tt
