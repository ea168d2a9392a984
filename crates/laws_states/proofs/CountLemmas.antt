-- A step makes few: of threads, works, sets and groups at most one each.
use Rattle.laws_states.proofs.Rules.{add_call, add_group, add_set, add_thread, add_work, AddGroup, after_primitive, Allowed, ap, arith, call_made, Core, count_work, CountWork, free_handle, free_thread_handle, give_handle, give_result, give_thread_handle, MadeCounts, MakeCall, MakesFew, MakeThread, on_call, on_instance, on_thread, on_work, OpenSet, poll_pends, push_high, QueueWork, remove_call, remove_group, remove_set, remove_thread, remove_work, Scene, set_backpressure, set_cancel_delivered, set_cancelled, set_course, set_do_not_enter, set_do_not_suspend, set_end, set_event, set_exited, set_op_progress, set_join, set_task_event, set_phase, set_position, set_register, set_result, set_saved_callee, set_saved_own, set_script, set_stage, set_started, set_starting_published, set_subtask_handle, set_thread_handle, set_trapped, set_uninteresting, set_memory_cell, take_result, with_handle, with_thread_handle, Primitive, work_queued, ◌≡◌, ◌≤◌}
unfoldable use Rattle.machine_data.specs.Write.{arrive, set_cancel_asked}

none_made : (b s : Core) → s.made ≡ b.made →
    (s.made.threads ≡ b.made.threads) × ((s.made.works ≡ b.made.works) × ((s.made.sets ≡ b.made.sets) × (s.made.groups ≡ b.made.groups)))
none_made b s e = (ap (λ (m : MadeCounts). m.threads) e, (ap (λ (m : MadeCounts). m.works) e, (ap (λ (m : MadeCounts). m.sets) e, ap (λ (m : MadeCounts). m.groups) e)))

pub few_primitive : (a : Scene) (w : Primitive) (s : Core) → Allowed a w s → MakesFew a.base s → MakesFew a.base (after_primitive w s)
unfolding arrive set_cancel_asked add_call add_group add_set add_thread add_work count_work free_handle free_thread_handle give_handle give_result give_thread_handle on_call on_instance on_thread on_work push_high remove_call remove_group remove_set remove_thread remove_work set_backpressure set_cancel_delivered set_cancelled set_course set_do_not_enter set_do_not_suspend set_end set_event set_exited set_op_progress set_join set_task_event set_phase set_position set_register set_result set_saved_callee set_saved_own set_script set_stage set_started set_starting_published set_subtask_handle set_thread_handle set_trapped set_uninteresting set_memory_cell take_result call_made with_handle with_thread_handle work_queued poll_pends
few_primitive a (MakeThread t) s ok q = let e = none_made a.base s ok.1.1.0 in omega (arith, e.0, e.1.0, e.1.1.0, e.1.1.1)
few_primitive a (MakeCall f e x g group words) s ok q = let i = ok.1.0 in let j = ok.1.1.1.1.1 in omega (arith, i, j.0, j.1)
few_primitive a (QueueWork f host group) s ok q = let e = none_made a.base s ok.0 in omega (arith, e.0, e.1.0, e.1.1.0, e.1.1.1)
few_primitive a CountWork s ok q = let e = none_made a.base s ok in omega (arith, e.0, e.1.0, e.1.1.0, e.1.1.1)
few_primitive a (OpenSet i) s ok q = let e = none_made a.base s ok.0 in omega (arith, e.0, e.1.0, e.1.1.0, e.1.1.1)
few_primitive a AddGroup s ok q = let e = none_made a.base s ok in omega (arith, e.0, e.1.0, e.1.1.0, e.1.1.1)
few_primitive a w s ok q = omega arith

-- no primitive lowers the count of threads
pub made_threads_primitive : (a : Scene) (w : Primitive) (s : Core) → s.made.threads ≤ (after_primitive w s).made.threads
unfolding arrive set_cancel_asked add_call add_group add_set add_thread add_work count_work free_handle free_thread_handle give_handle give_result give_thread_handle on_call on_instance on_thread on_work push_high remove_call remove_group remove_set remove_thread remove_work set_backpressure set_cancel_delivered set_cancelled set_course set_do_not_enter set_do_not_suspend set_end set_event set_exited set_op_progress set_join set_task_event set_phase set_position set_register set_result set_saved_callee set_saved_own set_script set_stage set_started set_starting_published set_subtask_handle set_thread_handle set_trapped set_uninteresting set_memory_cell take_result call_made with_handle with_thread_handle work_queued poll_pends
made_threads_primitive a AddGroup s = omega arith
made_threads_primitive a w s = omega arith

-- nor that of works
pub made_works_primitive : (a : Scene) (w : Primitive) (s : Core) → s.made.works ≤ (after_primitive w s).made.works
unfolding arrive set_cancel_asked add_call add_group add_set add_thread add_work count_work free_handle free_thread_handle give_handle give_result give_thread_handle on_call on_instance on_thread on_work push_high remove_call remove_group remove_set remove_thread remove_work set_backpressure set_cancel_delivered set_cancelled set_course set_do_not_enter set_do_not_suspend set_end set_event set_exited set_op_progress set_join set_task_event set_phase set_position set_register set_result set_saved_callee set_saved_own set_script set_stage set_started set_starting_published set_subtask_handle set_thread_handle set_trapped set_uninteresting set_memory_cell take_result call_made with_handle with_thread_handle work_queued poll_pends
made_works_primitive a AddGroup s = omega arith
made_works_primitive a w s = omega arith
