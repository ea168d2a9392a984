-- An op that is left for a host to end leaves its thread no farther in its script than it was, and most where it was, with its registers.
use Rattle.machine_data.specs.Statuses.{status_code}
use Rattle.ops_guests.specs.Shown.{shown}
use Rattle.std.proofs.Common.{ap, refl, ◌∙◌}
use Rattle.std.specs.Prelude.{Bool, List, None, Option, Some, [], false, if◌then◌else◌, is_some, nat_le, not, suc, true, zero, ℕ, ◌&&◌, ◌==◌, ◌∷◌, ◌≡◌}
use Rattle.ops_dispatch.proofs.InPlaceLemmas.{at_behind, at_cancelled, at_checked, at_deleted, at_done, at_event, at_far, at_handed, at_handle, at_join, at_low, at_place, at_released, at_saved_callee, at_saved_own, at_settled, at_stopped, at_stopped_at, at_stopped_last, at_switch, at_taken, at_thread_handle, at_unless, at_wake, kept, left_made, left_new, left_returned, left_valued, left_withdrawn, then_same}
use Rattle.ops_dispatch.specs.InPlace.{ANumber, AnEvent, AnswerKind, CallsItself, HostLeavesInPlace, IsInPlace, IsUnderWay, KeepsPlace, LeavesPlace, LeftAt, NoNumber, OpsLeavePlaces, answers_of, call_answers, in_script, is_finished, is_return, may_answer, set_answers, thread_answers}
use Rattle.machine_data.specs.Core.{Core}
use Rattle.machine_data.specs.Labels.{Choice, join_label, ret_label, task_cancel_label, wait_label}
use Rattle.machine_data.specs.Moves.{PickedEvent, PickedMember, NothingPicked, PickedTaskEvent, behind, picked_event, may_hand_on, passes_check, put_switch, waits_cancellable}
use Rattle.machine_data.specs.Read.{at_handle_limit, backpressure_of, cancel_was_asked, cancel_was_delivered, event_of, fits, foot_of, has_ended, has_member, has_waiters, op_progress_of, instance_of, is_async_lifted, is_at, is_callback_yield, is_joined, is_nil, is_second, is_watched, join_of, kind_of, registers_of, saved_callee_of, set_at, subtask_at, subtask_ended, task_of, thread_at, thread_group, undelivered_end, was_cancelled, was_started}
use Rattle.machine_data.specs.Write.{add_set, add_work, count_work, free_handle, give_handle, give_thread_handle, on_call, on_instance, on_work, push_high, remove_set, set_backpressure, set_cancel_asked, set_cancelled, set_do_not_suspend, set_join, set_task_event, set_phase, set_result, set_started}
use Rattle.machine_data.specs.declared.component.Callee.{Callee}
use Rattle.machine_data.specs.declared.component.Component.{Component}
use Rattle.machine_data.specs.declared.component.ExportKind.{ExportKind}
use Rattle.machine_data.specs.declared.component.ExportKind.TheVariants as kind
use Rattle.machine_data.specs.declared.component.HostDef.{HostDef}
use Rattle.machine_data.specs.declared.component.HostDef.TheVariants as host_def
use Rattle.machine_data.specs.declared.component.Slot.{Slot}
use Rattle.machine_data.specs.declared.component.Slot.TheVariants as slot
use Rattle.machine_data.specs.declared.label.ThreadLabel.{ThreadLabel}
use Rattle.machine_data.specs.declared.label.Label.TheVariants as label
use Rattle.machine_data.specs.declared.label.ThreadLabel.TheVariants as thread_label
use Rattle.machine_data.specs.declared.op.CallOp.{CallOp}
use Rattle.machine_data.specs.declared.op.CallOp.TheVariants as call_op
use Rattle.machine_data.specs.declared.op.Op.TheVariants as op
use Rattle.machine_data.specs.declared.op.SetOp.{SetOp}
use Rattle.machine_data.specs.declared.op.SetOp.TheVariants as set_op
use Rattle.machine_data.specs.declared.op.TaskOp.{TaskOp}
use Rattle.machine_data.specs.declared.op.TaskOp.TheVariants as task_op
use Rattle.machine_data.specs.declared.op.ThreadOp.{ThreadOp}
use Rattle.machine_data.specs.declared.op.ThreadOp.TheVariants as thread_op
use Rattle.machine_data.specs.declared.records.Caller.TheVariants as caller
use Rattle.machine_data.specs.declared.records.Goal.{Goal}
use Rattle.machine_data.specs.declared.records.Goal.TheVariants as goal
use Rattle.machine_data.specs.declared.records.OpProgress.{OpProgress}
use Rattle.machine_data.specs.declared.records.OpProgress.TheVariants as op_progress
use Rattle.machine_data.specs.declared.records.Join.TheVariants as join
use Rattle.machine_data.specs.declared.records.Subtask.{Subtask}
use Rattle.machine_data.specs.declared.records.Subtask.TheVariants as subtask
use Rattle.machine_data.specs.declared.records.Why.{Why}
use Rattle.machine_data.specs.declared.records.Why.TheVariants as why
use Rattle.machine_data.specs.declared.records.WorkCaller.{WorkCaller}
use Rattle.machine_data.specs.declared.trap.Trap.{Trap}
use Rattle.machine_data.specs.declared.trap.Trap.TheVariants as trap
use Rattle.machine_data.specs.declared.statuses.Given.{Given}
use Rattle.machine_data.specs.declared.statuses.Status.{Status}
use Rattle.machine_data.specs.declared.statuses.Status.TheVariants as status
use Rattle.machine_rules.specs.Calls.{AtOnce, Failing, FirstPoll, Later, call_begins, call_clears_flag, call_host_by, call_let_go, call_made, call_queues, call_resumes, call_rule, call_status_by, call_stops, call_sync_begins, call_sync_host_by, call_sync_host_rule, call_sync_host_stops, call_sync_rule, call_sync_status_by, call_sync_stops, call_taken, call_with_handle, enter_runs, first_polled, heard_first, host_with_handle, next_thread, polled_first, put_back, status_found, sync_sets_flag, with_handle, with_thread_handle, work_queued}
use Rattle.machine_rules.specs.Cancels.{AlreadyEnded, AskedBefore, Async, CallbackYields, CancelCase, Mode, OtherwiseRuns, StartNotRun, Sync, ThreadWaits, after_cancel_by, behind_switch, cancel_aborts_host, cancel_asks, cancel_by, cancel_case, cancel_ended_by, cancel_found_by, cancel_goes_behind, cancel_guest_by, cancel_label, cancel_promotes_yield, cancel_resumed, cancel_rule, cancel_stops, cancel_subtask_by, cancel_unended_by, cancel_wakes, cancellable, drop_by, subtask_rule, subtask_settled, unnamed}
use Rattle.machine_rules.specs.Ends.{may_tell}
use Rattle.machine_rules.specs.Finish.{SomeHost}
use Rattle.machine_rules.specs.OpParts.{calls_host}
use Rattle.machine_rules.specs.Progress.{Asks, Fails, Continues, Never, OneOf, Ordered, Progress, Stops, Traps, may, or_never, or_trap, trap_if}
use Rattle.machine_rules.specs.Scripts.{export_kind, host_at, slot_at, value_of, values_in}
use Rattle.machine_rules.specs.Sets.{chosen, finds_nothing, join_done_by, join_to_by, may_wake_new, moved_over, poll_takes_by, set_closed, set_drop_by, set_opened, set_rule, wait_begins_by, wait_goes_on_by, wait_rule, wait_stops, wait_stops_checked, wait_takes_by, wakes_joined}
use Rattle.machine_rules.specs.Step.{op_rule}
use Rattle.machine_rules.specs.Task.{dec_by, pressure_gone, pressure_lowered, pressure_raised, task_rule}
use Rattle.machine_rules.specs.Threads.{Halt, Suspension, Yielding, halted, halted_checked, halted_promoting, halted_resuming, halts_by, has_yielded, resume_later_by, resume_why, resumed_by, then_promote_by, then_promote_found_by, then_promote_rule, then_resume_found, then_resume_rule, thread_added, thread_new_rule, thread_rule}

-- ---- What the rules write

module _ (n : ℕ) where
  at_opened : (s : Core) → in_script n (set_opened n s) ≡ in_script n s
  unfolding set_opened give_handle add_set
  at_opened s = refl

  at_closed : (h x : ℕ) (s : Core) → in_script n (set_closed n h x s) ≡ in_script n s
  unfolding set_closed remove_set free_handle
  at_closed h x s = refl

  at_waits : (x : ℕ) (s : Core) → in_script n (wait_stops n x s) ≡ in_script n s
  unfolding wait_stops
  at_waits x s = at_far n n _ _ ∙ at_stopped_last n n _ s

  at_waits_checked : (x : ℕ) (s : Core) → in_script n (wait_stops_checked n x s) ≡ in_script n s
  unfolding wait_stops_checked
  at_waits_checked x s = at_waits x _ ∙ at_checked n _ s

  at_wakes : (e : Option Status) (x w : Option ℕ) (s : Core) → in_script n (wakes_joined e x w s) ≡ in_script n s
  at_wakes (Some e) (Some x) w s = at_wake n x w s
  at_wakes (Some e) None w s = refl
  at_wakes None (Some x) w s = refl
  at_wakes None None w s = refl

  at_moved : (sub : Subtask) (x w : Option ℕ) (s : Core) → in_script n (moved_over sub x w s) ≡ in_script n s
  unfolding moved_over
  at_moved sub x w s = at_wakes (event_of sub s) x w _ ∙ at_join n sub _ s

  at_raised : (s : Core) → in_script n (pressure_raised n s) ≡ in_script n s
  unfolding pressure_raised set_backpressure on_instance
  at_raised s = refl

  at_lowered : (s : Core) → in_script n (pressure_lowered n s) ≡ in_script n s
  unfolding pressure_lowered set_backpressure on_instance
  at_lowered s = refl

  at_gone : (order : List ℕ) (s : Core) → in_script n (pressure_gone n order s) ≡ in_script n s
  unfolding pressure_gone set_backpressure on_instance
  at_gone order s = at_released n order _

  -- ---- Calls

  at_clears : (j : ℕ) (x : ExportKind) (s : Core) → in_script n (call_clears_flag n j x s) ≡ in_script n s
  unfolding set_do_not_suspend on_instance
  at_clears j kind.Sync s = refl
  at_clears j kind.Blocking s = at_saved_callee n n _ s
  at_clears j kind.Stackful s = at_saved_callee n n _ s
  at_clears j kind.Callback s = at_saved_callee n n _ s

  at_queues : (e : Callee) (x : ExportKind) (g : Goal) (words : List ℕ) (s : Core) → in_script n (call_queues n e x g words s) ≡ in_script n (call_made (caller.Thread n) e x g (thread_group n s) words s)
  unfolding call_queues
  at_queues e x g words s =
      let m = next_thread s in
      let made = call_made (caller.Thread n) e x g (thread_group n s) words s in
      let queued = put_switch m why.Start made in
      let cleared = call_clears_flag n e.instance x queued in
      at_far n n (op_progress.Calls (subtask.Guest m)) (behind m (n ∷ []) cleared) ∙ (at_behind n m (n ∷ []) cleared ∙ (at_clears e.instance x queued ∙ at_switch n m why.Start made))

  at_back : (o : Option Bool) (j : ℕ) (s : Core) → in_script n (put_back o j s) ≡ in_script n s
  unfolding set_do_not_suspend on_instance
  at_back None j s = refl
  at_back (Some b) j s = refl

  at_resumes : (k : ℕ) (s : Core) → in_script n (call_resumes n k s) ≡ in_script n s
  unfolding call_resumes
  at_resumes k s = at_event n _ _ _ ∙ at_back (saved_callee_of n s) _ s

  at_let_go : (k : ℕ) (s : Core) → in_script n (call_let_go n k s) ≡ in_script n s
  unfolding call_let_go
  at_let_go k s = at_settled n k _ ∙ at_resumes k s

  at_with_handle : (i : ℕ) (sub : Subtask) (s : Core) → in_script n (with_handle i sub s) ≡ in_script n s
  unfolding with_handle give_handle
  at_with_handle i sub s = at_handle n sub _ _

  at_call_handle : (k : ℕ) (s : Core) → in_script n (call_with_handle n k s) ≡ in_script n s
  unfolding call_with_handle
  at_call_handle k s = at_with_handle _ _ _ ∙ at_resumes k s

  at_call_taken : (k : ℕ) (s : Core) → in_script n (call_taken n k s) ≡ in_script n s
  unfolding call_taken set_result on_call
  at_call_taken k s = at_settled n k _ ∙ at_resumes k s

  at_stops : (sub : Subtask) (s : Core) → in_script n (call_stops n sub s) ≡ in_script n s
  unfolding call_stops
  at_stops sub s = at_far n n _ _ ∙ at_stopped_at n n _ s

  at_sync_stops : (k : ℕ) (s : Core) → in_script n (call_sync_stops n k s) ≡ in_script n s
  unfolding call_sync_stops
  at_sync_stops k s = at_stops _ _ ∙ (at_checked n _ _ ∙ at_resumes k s)

  at_flag : (m j : ℕ) (x : ExportKind) (s : Core) → in_script n (sync_sets_flag m j x s) ≡ in_script n s
  unfolding set_do_not_suspend on_instance
  at_flag m j kind.Sync s = at_saved_own n m _ s
  at_flag m j kind.Blocking s = refl
  at_flag m j kind.Stackful s = refl
  at_flag m j kind.Callback s = refl

  at_thread_named : (i m : ℕ) (s : Core) → in_script n (with_thread_handle i m s) ≡ in_script n s
  unfolding with_thread_handle give_thread_handle
  at_thread_named i m s = at_thread_handle n m _ _

  at_enters : (e : Callee) (x : ExportKind) (words : List ℕ) (s : Core) → in_script n (enter_runs n e x words s) ≡ in_script n (call_made (caller.Thread n) e x goal.Direct (thread_group n s) words s)
  unfolding enter_runs set_started on_call
  at_enters e x words s = at_far n n _ _ ∙ (at_place n n _ _ ∙ (at_place n _ _ _ ∙ (at_flag _ e.instance x _ ∙ at_thread_named e.instance _ _)))

  at_counted : (s : Core) → in_script n (count_work s) ≡ in_script n s
  unfolding count_work
  at_counted s = refl

  at_work : (f : WorkCaller) (host : HostDef) (group : Option ℕ) (s : Core) → in_script n (work_queued f host group s) ≡ in_script n s
  unfolding work_queued push_high add_work count_work
  at_work f host group s = refl

  at_host_stops : (host : HostDef) (s : Core) → in_script n (call_sync_host_stops n host s) ≡ in_script n s
  unfolding call_sync_host_stops
  at_host_stops host s = at_stops _ _ ∙ (at_work _ host _ _ ∙ at_checked n _ s)

  at_host_handle : (q : ℕ) (host : HostDef) (s : Core) → in_script n (host_with_handle n q host s) ≡ in_script n s
  unfolding host_with_handle
  at_host_handle q host s = at_with_handle _ _ _ ∙ at_work _ host _ s

  -- ---- Cancels and drops

  at_cancel_stops : (sub : Subtask) (s : Core) → in_script n (cancel_stops n sub s) ≡ in_script n s
  unfolding cancel_stops
  at_cancel_stops sub s = at_far n n _ _ ∙ (at_stopped_at n n _ _ ∙ (at_checked n _ _ ∙ (at_join n sub _ _ ∙ at_saved_callee n n None s)))

  at_asks : (k : ℕ) (s : Core) → in_script n (cancel_asks k s) ≡ in_script n s
  unfolding cancel_asks set_task_event set_cancel_asked on_call
  at_asks k s = refl

  at_cancel_resumed : (sub : Subtask) (s : Core) → in_script n (cancel_resumed n sub s) ≡ in_script n s
  unfolding cancel_resumed
  at_cancel_resumed sub s = at_join n sub _ _ ∙ (at_saved_callee n n None _ ∙ at_back (saved_callee_of n s) _ s)

  at_aborts : (i : ℕ) (s : Core) → in_script n (cancel_aborts_host i s) ≡ in_script n s
  unfolding cancel_aborts_host set_cancelled set_phase on_work
  at_aborts i s = refl

  at_behind_switch : (o : Option ℕ) (s : Core) → in_script n (behind_switch n o s) ≡ in_script n s
  at_behind_switch None s = refl
  at_behind_switch (Some m) s = at_behind n (foot_of m s) (n ∷ []) s

  at_goes_behind : (k : ℕ) (s : Core) → in_script n (cancel_goes_behind n k s) ≡ in_script n s
  unfolding cancel_goes_behind set_do_not_suspend on_instance
  at_goes_behind k s = at_far n n _ _ ∙ (at_behind_switch s.queues.switch _ ∙ (at_join n (subtask.Guest k) _ _ ∙ at_saved_callee n n _ s))

  at_woken : (k m : ℕ) (s : Core) → in_script n (cancel_wakes n k m s) ≡ in_script n s
  unfolding cancel_wakes
  at_woken k m s = at_goes_behind k _ ∙ (at_switch n m _ _ ∙ at_asks k s)

  at_yield : (k : ℕ) (s : Core) → in_script n (cancel_promotes_yield n k s) ≡ in_script n s
  unfolding cancel_promotes_yield
  at_yield k s = at_goes_behind k _ ∙ (at_unless n k _ ∙ at_asks k s)

  at_subtask : (sub : Subtask) (s : Core) → in_script n (subtask_settled sub s) ≡ in_script n s
  at_subtask (subtask.Guest k) s = at_settled n k s
  at_subtask (subtask.Host i) s = at_deleted n i s

  at_unnamed : (h : ℕ) (sub : Subtask) (s : Core) → in_script n (unnamed n h sub s) ≡ in_script n s
  unfolding unnamed free_handle
  at_unnamed h sub s = at_subtask sub _ ∙ (at_handle n sub None _ ∙ at_join n sub _ s)

  -- ---- Threads

  at_halted : (x : Halt) (s : Core) → in_script n (halted x n s) ≡ in_script n s
  unfolding halted
  at_halted Suspension s = at_far n n _ _ ∙ at_stopped_at n n _ s
  at_halted Yielding s = at_far n n _ _ ∙ (at_low n n _ _ ∙ at_stopped n _ s)

  at_halted_checked : (x : Halt) (s : Core) → in_script n (halted_checked x n s) ≡ in_script n s
  unfolding halted_checked
  at_halted_checked x s = at_halted x _ ∙ at_checked n _ s

  at_resuming : (x : Halt) (m : ℕ) (w : Why) (s : Core) → in_script n (halted_resuming x n m w s) ≡ in_script n s
  unfolding halted_resuming
  at_resuming x m w s = at_halted x _ ∙ at_switch n m w s

  at_promoting : (x : Halt) (m : ℕ) (s : Core) → in_script n (halted_promoting x n m s) ≡ in_script n s
  unfolding halted_promoting
  at_promoting x m s = at_halted x _ ∙ at_unless n m s

-- a new thread is at the begin of its script
left_added : (A : Type 0) (n m x v : ℕ) (s : Core) → (A → (n == next_thread s) ≡ false) → LeftAt A n s (thread_added m x v s)
unfolding thread_added
left_added A n m x v s other = then_same A n s _ _ (at_thread_named n (instance_of m s) (next_thread s) _) (left_new A n _ s refl other)

-- ---- The rules

module _ (A : Type 0) (k : AnswerKind) (n : ℕ) (s : Core) where
  if_traps : (x : Bool) (why : Trap) (p : Progress) → LeavesPlace A k n s p → LeavesPlace A k n s (trap_if x why p)
  if_traps true why p h = tt
  if_traps false why p h = h

  if_lawful : (x : Bool) (p : Progress) → LeavesPlace A k n s p → LeavesPlace A k n s (may x p)
  if_lawful true p h = h
  if_lawful false p h = tt

  if_found : {X : Type 0} (o : Option X) (why : Trap) (f : X → Progress) → ((x : X) → LeavesPlace A k n s (f x)) → LeavesPlace A k n s (or_trap o why f)
  if_found None why f h = tt
  if_found (Some x) why f h = h x

  if_given : {X : Type 0} (o : Option X) (f : X → Progress) → ((x : X) → LeavesPlace A k n s (f x)) → LeavesPlace A k n s (or_never o f)
  if_given None f h = tt
  if_given (Some x) f h = h x

  -- whatever an open host answers
  firsts : (host : HostDef) (f : FirstPoll → Progress) → ((p : FirstPoll) → LeavesPlace A k n s (f p)) → LeavesPlace A k n s (first_polled host f)
  firsts (host_def.Settled polls value) f h = h (polled_first polls value)
  firsts host_def.Open f h = λ answer. h (heard_first answer)

-- ---- What labels answer

ret_said : (n v : ℕ) (w : Option ℕ) → may_answer NoNumber (shown (ret_label n v w)) ≡ true
ret_said n v None = refl
ret_said n v (Some k) = refl

cancelled_said : (n : ℕ) (w : Option ℕ) → may_answer NoNumber (shown (task_cancel_label n w)) ≡ true
cancelled_said n None = refl
cancelled_said n (Some k) = refl

joined_said : (n : ℕ) (w : Option ℕ) → may_answer NoNumber (shown (join_label n w)) ≡ true
joined_said n None = refl
joined_said n (Some k) = refl

waited_said : (n : ℕ) (v : Given) (w : Option ℕ) → may_answer AnEvent (shown (wait_label n v w)) ≡ true
waited_said n v None = refl
waited_said n v (Some k) = refl

cancel_said : (mode : Mode) (n v : ℕ) → may_answer ANumber (shown (cancel_label mode n v)) ≡ true
cancel_said Async n v = refl
cancel_said Sync n v = refl

-- ---- The rules, where the thread keeps its place if A holds

module _ (A : Type 0) (n : ℕ) (s : Core) where
  -- an op that answers no number, one that does, and one that receives an event
  abbrev Left : Progress → Type 0
  Left p = LeavesPlace A NoNumber n s p

  abbrev Gives : Progress → Type 0
  Gives p = LeavesPlace A ANumber n s p

  abbrev Hears : Progress → Type 0
  Hears p = LeavesPlace A AnEvent n s p

  at : {t : Core} → in_script n t ≡ in_script n s → LeftAt A n s t
  at e = kept A n s _ e

  -- after what has left it so, no place is changed
  from : {t u : Core} → in_script n u ≡ in_script n t → LeftAt A n s t → LeftAt A n s u
  from e l = then_same A n s _ _ e l

  lowers : (k : ℕ) → Left (dec_by SomeHost n s k)
  lowers zero = tt
  lowers (suc zero) = λ order. (at (at_done n _ ∙ at_gone n order s), refl)
  lowers (suc (suc k)) = (at (at_done n _ ∙ at_lowered n s), refl)

  tasks : (ch : Choice) (o : TaskOp) → is_finished (op.Task o) ≡ true → (A → is_return (op.Task o) ≡ true → CallsItself n s → ⊥) → Left (task_rule SomeHost n s ch o)
  tasks ch (task_op.Ret x) e h =
      let k = task_of n s in
      let v = value_of n s x in
      if_traps A NoNumber n s (has_ended k s) _ _ (if_traps A NoNumber n s (not (is_async_lifted (kind_of k s))) _ _
      (if_lawful A NoNumber n s (may_tell k ch.woken s) _ (from (at_done n _) (left_returned A n k v ch.woken s (λ a. h a refl)), ret_said n v ch.woken)))
  tasks ch (task_op.RetBad x) e h = if_traps A NoNumber n s (has_ended (task_of n s) s) _ _ tt
  tasks ch task_op.TaskCancel e h =
      let k = task_of n s in
      if_traps A NoNumber n s (not (cancel_was_delivered k s)) _ _ (if_traps A NoNumber n s (has_ended k s) _ _
      (if_lawful A NoNumber n s (may_tell k ch.woken s) _ (at (at_done n _ ∙ at_cancelled n k ch.woken s), cancelled_said n ch.woken)))
  tasks ch task_op.BpInc e h = if_traps A NoNumber n s (nat_le 65535 (backpressure_of (instance_of n s) s)) _ _ (at (at_done n _ ∙ at_raised n s), refl)
  tasks ch task_op.BpDec e h = lowers (backpressure_of (instance_of n s) s)
  tasks ch task_op.Exit e h = absurd (cc)
  tasks ch task_op.CbYield e h = absurd (cc)
  tasks ch (task_op.CbWait x) e h = absurd (cc)
  tasks ch (task_op.Code x) e h = absurd (cc)

  -- ---- Sets

  begins_by : (ch : Choice) (x : ℕ) (f : Bool) → Hears (wait_begins_by SomeHost n ch s x f)
  begins_by ch x true = if_traps A AnEvent n s (not (passes_check (instance_of n s) s)) _ _ (at (at_waits_checked n x s))
  begins_by ch x false = if_given A AnEvent n s (picked_event (waits_cancellable (task_of n s) s) (task_of n s) x (chosen n ch s) s) (wait_takes_by SomeHost n ch s) (λ g. (at (at_done n _ ∙ at_taken n g _ s), refl))

  goes_on : (x : ℕ) (ch : Choice) (g : PickedEvent) → Hears (wait_goes_on_by SomeHost n x ch s g)
  goes_on x ch NothingPicked = at (at_waits n x s)
  goes_on x ch (PickedTaskEvent e) = if_lawful A AnEvent n s (may_hand_on x (PickedTaskEvent e) ch.woken s) _ (at (at_done n _ ∙ (at_taken n (PickedTaskEvent e) _ _ ∙ at_handed n x (PickedTaskEvent e) ch.woken s)), waited_said n _ ch.woken)
  goes_on x ch (PickedMember sub) = if_lawful A AnEvent n s (may_hand_on x (PickedMember sub) ch.woken s) _ (at (at_done n _ ∙ (at_taken n (PickedMember sub) _ _ ∙ at_handed n x (PickedMember sub) ch.woken s)), waited_said n _ ch.woken)

  waits : (h : ℕ) (ch : Choice) (f : OpProgress) → Hears (wait_rule SomeHost n h ch s f)
  waits h ch (op_progress.Waits x) = if_given A AnEvent n s (picked_event (waits_cancellable (task_of n s) s) (task_of n s) x (chosen n ch s) s) (wait_goes_on_by SomeHost n x ch s) (goes_on x ch)
  waits h ch _ = if_found A AnEvent n s (set_at (instance_of n s) h s) _ (λ x. wait_begins_by SomeHost n ch s x (finds_nothing n x s)) (λ x. begins_by ch x (finds_nothing n x s))

  joined : (w : Option ℕ) (x : Option ℕ) (sub : Subtask) → Left (join_done_by SomeHost n sub w s x)
  joined w x sub = if_traps A NoNumber n s (is_watched (join_of sub s)) _ _ (if_lawful A NoNumber n s (may_wake_new (event_of sub s) x w s) _ (at (at_done n _ ∙ at_moved n sub x w s), joined_said n w))

  joins : (y : ℕ) (w : Option ℕ) (sub : Subtask) → Left (join_to_by SomeHost n y w s sub)
  joins zero w sub = joined w None sub
  joins (suc h) w sub = if_found A NoNumber n s (set_at (instance_of n s) (suc h) s) _ (λ x. join_done_by SomeHost n sub w s (Some x)) (λ x. joined w (Some x) sub)

  sets : (ch : Choice) (o : SetOp) → LeavesPlace A (set_answers o) n s (set_rule SomeHost n s ch o)
  sets ch (set_op.New r) = if_traps A ANumber n s (not (fits 1 s)) _ _ (if_traps A ANumber n s (at_handle_limit s) _ _ (at (at_done n _ ∙ at_opened n s), refl))
  sets ch (set_op.Drop x) =
      let h = value_of n s x in
      if_found A NoNumber n s (set_at (instance_of n s) h s) _ (set_drop_by SomeHost n h s)
      (λ y. if_traps A NoNumber n s (has_waiters y s) _ _ (if_traps A NoNumber n s (has_member y s) _ _ (at (at_done n _ ∙ at_closed n h y s), refl)))
  sets ch (set_op.Wait r x) = waits (value_of n s x) ch (op_progress_of n s)
  sets ch (set_op.Poll r x) =
      if_found A AnEvent n s (set_at (instance_of n s) (value_of n s x) s) _ (λ y. or_never (picked_event false (task_of n s) y (chosen n ch s) s) (poll_takes_by SomeHost n ch s))
      (λ y. if_given A AnEvent n s (picked_event false (task_of n s) y (chosen n ch s) s) (poll_takes_by SomeHost n ch s) (λ g. (at (at_done n _ ∙ at_taken n g _ s), refl)))
  sets ch (set_op.Join x y) =
      if_found A NoNumber n s (subtask_at (instance_of n s) (value_of n s x) s) _ (join_to_by SomeHost n (value_of n s y) ch.woken s) (joins (value_of n s y) ch.woken)

  -- ---- Calls

  hosts : (q : ℕ) (p : FirstPoll) → (A → ⊥) → Gives (call_host_by SomeHost n q s p)
  hosts q (AtOnce v) none = (from (at_done n _) (left_valued A n n q v s none), refl)
  hosts q Failing none = tt
  hosts q (Later host) none =
      if_traps A ANumber n s (not (fits 1 s)) _ _ (if_traps A ANumber n s (at_handle_limit s) _ _ (at (at_done n _ ∙ at_host_handle n q host s), refl))

  sync_hosts : (p : FirstPoll) → Gives (call_sync_host_by SomeHost n s p)
  sync_hosts (AtOnce v) = (at (at_done n _ ∙ at_counted n s), refl)
  sync_hosts Failing = tt
  sync_hosts (Later host) = if_traps A ANumber n s (not (fits 1 s)) _ _ (if_traps A ANumber n s (not (passes_check (instance_of n s) s)) _ _ (at (at_host_stops n host s)))

  sync_host_calls : (c : Component) (h : ℕ) (f : OpProgress) → Gives (call_sync_host_rule SomeHost c n h s f)
  sync_host_calls c h (op_progress.Calls (subtask.Host i)) = (at (at_done n _ ∙ at_deleted n i s), refl)
  sync_host_calls c h _ = firsts A ANumber n s (host_at c h) (call_sync_host_by SomeHost n s) sync_hosts

  statuses : (k : ℕ) (e : Status) → Gives (call_status_by SomeHost n k s e)
  statuses k status.Returned = (at (at_done n _ ∙ (at_saved_callee n n None _ ∙ at_let_go n k s)), refl)
  statuses k status.Starting = if_traps A ANumber n s (at_handle_limit s) _ _ (at (at_done n _ ∙ (at_saved_callee n n None _ ∙ at_call_handle n k s)), refl)
  statuses k status.Started = if_traps A ANumber n s (at_handle_limit s) _ _ (at (at_done n _ ∙ (at_saved_callee n n None _ ∙ at_call_handle n k s)), refl)
  statuses k status.StartCancelled = if_traps A ANumber n s (at_handle_limit s) _ _ (at (at_done n _ ∙ (at_saved_callee n n None _ ∙ at_call_handle n k s)), refl)
  statuses k status.ReturnCancelled = if_traps A ANumber n s (at_handle_limit s) _ _ (at (at_done n _ ∙ (at_saved_callee n n None _ ∙ at_call_handle n k s)), refl)

  sync_statuses : (k : ℕ) (e : Status) → Gives (call_sync_status_by SomeHost n k s e)
  sync_statuses k status.Returned = (at (at_done n _ ∙ (at_saved_callee n n None _ ∙ at_call_taken n k s)), refl)
  sync_statuses k status.Starting = if_traps A ANumber n s (not (passes_check (instance_of n s) (call_resumes n k s))) _ _ (at (at_sync_stops n k s))
  sync_statuses k status.Started = if_traps A ANumber n s (not (passes_check (instance_of n s) (call_resumes n k s))) _ _ (at (at_sync_stops n k s))
  sync_statuses k status.StartCancelled = if_traps A ANumber n s (not (passes_check (instance_of n s) (call_resumes n k s))) _ _ (at (at_sync_stops n k s))
  sync_statuses k status.ReturnCancelled = if_traps A ANumber n s (not (passes_check (instance_of n s) (call_resumes n k s))) _ _ (at (at_sync_stops n k s))

  -- ---- Cancels

  module _ (mode : Mode) where
    ended : (sub : Subtask) (t : Core) (o : Option Status) → in_script n t ≡ in_script n s → Gives (cancel_ended_by SomeHost mode n sub t o)
    ended sub t None h = tt
    ended sub t (Some e) h = (at (at_done n _ ∙ (at_saved_callee n n None _ ∙ (at_event n sub None t ∙ h))), cancel_said mode n (status_code e))

  unended : (mode : Mode) (sub : Subtask) (t : Core) → in_script n t ≡ in_script n s → Gives (cancel_unended_by SomeHost mode n sub t)
  unended Async sub t h = (at (at_done n _ ∙ (at_saved_callee n n None t ∙ h)), refl)
  unended Sync sub t h = if_traps A ANumber n s (not (passes_check (instance_of n t) t)) _ _ (at (at_cancel_stops n sub t ∙ h))

  module _ (mode : Mode) where
    by_end : (sub : Subtask) (t : Core) (x : Bool) → in_script n t ≡ in_script n s → Gives (cancel_by SomeHost mode n sub t x)
    by_end sub t true h = ended mode sub t (undelivered_end (event_of sub t)) h
    by_end sub t false h = unended mode sub t h

    afterwards : (sub : Subtask) (t : Core) → in_script n t ≡ in_script n s → Gives (after_cancel_by SomeHost mode n sub t)
    afterwards sub t h = by_end sub t (subtask_ended sub t) h

  drops : (h : ℕ) (sub : Subtask) → Left (drop_by SomeHost n h s sub)
  drops h sub = if_traps A NoNumber n s (is_watched (join_of sub s)) _ _ (if_traps A NoNumber n s (not (subtask_ended sub s)) _ _ (if_traps A NoNumber n s (is_some (event_of sub s)) _ _ (at (at_done n _ ∙ at_unnamed n h sub s), refl)))

  -- ---- Threads

  resumed : (x : ThreadLabel) (f : OpProgress) (p : Progress) → may_answer NoNumber (shown (label.Thread x)) ≡ true → Left p → Left (resumed_by SomeHost f n (label.Thread x) s p)
  resumed x op_progress.Suspends p said h = (at (at_done n s), said)
  resumed x op_progress.Yields p said h = (at (at_done n s), said)
  resumed x _ p said h = h

  halts : (x : Halt) (l : ThreadLabel) (o : Bool) → may_answer NoNumber (shown (label.Thread l)) ≡ true → Left (halts_by SomeHost x n (label.Thread l) s o)
  halts x l true said = at (at_halted_checked n x s)
  halts Suspension l false said = tt
  halts Yielding l false said = (at (at_done n s), said)

  then_resumes : (x : Halt) (h : ℕ) → Left (then_resume_rule x n h s)
  then_resumes x h = if_found A NoNumber n s (thread_at (instance_of n s) h s) _ (then_resume_found x n s)
      (λ m. if_traps A NoNumber n s (m == n) _ _ (if_found A NoNumber n s (resume_why m s) _ _ (λ w. at (at_resuming n x m w s))))

  promotes : (x : Halt) (l : ThreadLabel) (m : ℕ) (o : Bool) → may_answer NoNumber (shown (label.Thread l)) ≡ true → Left (then_promote_by SomeHost x n (label.Thread l) s m o)
  promotes x l m true said = at (at_promoting n x m s)
  promotes x l m false said = halts x l (passes_check (instance_of n s) s) said

  then_promotes : (x : Halt) (h : ℕ) (l : ThreadLabel) → may_answer NoNumber (shown (label.Thread l)) ≡ true → Left (then_promote_rule SomeHost x n h (label.Thread l) s)
  then_promotes x h l said = if_found A NoNumber n s (thread_at (instance_of n s) h s) _ (then_promote_found_by SomeHost x n (label.Thread l) s) (λ m. if_traps A NoNumber n s (m == n) _ _ (promotes x l m (has_yielded m s) said))

  -- ---- What the thread may have made, and what it may withdraw

  module _ (under : A → IsUnderWay n s) where
    queues : (c : Component) (e : Callee) (g : Goal) (words : List ℕ) → Gives (call_begins c n e g words s)
    queues c e g words =
        if_traps A ANumber n s (not (fits 3 s)) _ _ (from (at_queues n e (export_kind c e) g words s) (left_made A n (caller.Thread n) e (export_kind c e) g (thread_group n s) words s (λ a. (under a).made)))

    calls : (c : Component) (q : ℕ) (e : Callee) (words : List ℕ) (f : OpProgress) → Gives (call_rule SomeHost c n q e words s f)
    calls c q e words (op_progress.Calls (subtask.Guest k)) = statuses k (status_found k s)
    calls c q e words _ = queues c e (goal.Register q) words

    sync_begins : (c : Component) (e : Callee) (words : List ℕ) (x : Bool) → Gives (call_sync_begins c n e words s x)
    sync_begins c e words true = queues c e goal.Answer words
    sync_begins c e words false =
        if_traps A ANumber n s (not (fits 3 s)) _ _ (if_traps A ANumber n s (at_handle_limit s) _ _
        (from (at_enters n e (export_kind c e) words s) (left_made A n (caller.Thread n) e (export_kind c e) goal.Direct (thread_group n s) words s (λ a. (under a).made)), refl))

    sync_calls : (c : Component) (e : Callee) (words : List ℕ) (f : OpProgress) → Gives (call_sync_rule SomeHost c n e words s f)
    sync_calls c e words (op_progress.Answered v) = (at (at_done n s), refl)
    sync_calls c e words (op_progress.Calls (subtask.Guest k)) = sync_statuses k (status_found k s)
    sync_calls c e words _ = sync_begins c e words (is_async_lifted (export_kind c e))

    module _ (mode : Mode) where
      guests : (k : ℕ) (x : CancelCase) → (A → x ≡ StartNotRun → (n == k) ≡ false) → Gives (cancel_guest_by SomeHost mode n k s x)
      guests k AlreadyEnded own = ended mode (subtask.Guest k) s (undelivered_end (event_of (subtask.Guest k) s)) refl
      guests k StartNotRun own = (from (at_done n _ ∙ at_saved_callee n n None _) (left_withdrawn A n k s (λ a. own a refl)), cancel_said mode n 3)
      guests k AskedBefore own = tt
      guests k ThreadWaits own = λ m. at (at_woken n k m s)
      guests k CallbackYields own = at (at_yield n k s)
      guests k OtherwiseRuns own = afterwards mode (subtask.Guest k) (cancel_asks k s) (at_asks n k s)

      subtasks : (sub : Subtask) → (A → (k : ℕ) → sub ≡ subtask.Guest k → was_started k s ≡ false → (n == k) ≡ false) → Gives (cancel_subtask_by SomeHost mode n s sub)
      subtasks (subtask.Guest k) own = guests k (cancel_case k s) (λ a e. own a k refl (unstarted (has_ended k s) (was_started k s) (is_second s.version && cancel_was_asked k s) (is_nil (cancellable k s)) (is_at k s is_callback_yield) e))
        where
          unstarted : (a b x y z : Bool) → (if a then AlreadyEnded else if not b then StartNotRun else if x then AskedBefore else if not y then ThreadWaits else if z then CallbackYields else OtherwiseRuns) ≡ StartNotRun → b ≡ false
          unstarted true b x y z e = absurd (cc)
          unstarted false false x y z e = refl
          unstarted false true true y z e = absurd (cc)
          unstarted false true false false z e = absurd (cc)
          unstarted false true false true true e = absurd (cc)
          unstarted false true false true false e = absurd (cc)
      subtasks (subtask.Host i) own = if_traps A ANumber n s (was_cancelled i s) _ _ (afterwards mode (subtask.Host i) (cancel_aborts_host i s) (at_aborts n i s))

      found : (o : Option Subtask) → (A → (k : ℕ) → o ≡ Some (subtask.Guest k) → was_started k s ≡ false → (n == k) ≡ false) → Gives (or_trap o trap.BadHandle (cancel_found_by SomeHost mode n s))
      found None own = tt
      found (Some sub) own = if_traps A ANumber n s (is_joined (join_of sub s)) _ _ (subtasks sub (λ a k e. own a k (ap (λ (x : Subtask). Some x) e)))

      cancels : (h : ℕ) (f : OpProgress) → Gives (cancel_rule SomeHost mode n h s f)
      cancels h (op_progress.Cancels sub) = afterwards mode sub (cancel_resumed n sub s) (at_cancel_resumed n sub s)
      cancels h (op_progress.AwaitsEnd sub) = ended mode sub (set_join sub join.Nowhere s) (undelivered_end (event_of sub (set_join sub join.Nowhere s))) (at_join n sub join.Nowhere s)
      cancels h _ = found (subtask_at (instance_of n s) h s) (λ a. (under a).begun h)

    call_ops : (c : Component) (o : CallOp) → (A → calls_host (op.Call o) ≡ false) → LeavesPlace A (call_answers o) n s (subtask_rule SomeHost c n s o)
    call_ops c (call_op.Call r q e xs) apart = calls c q e (values_in (registers_of n s) xs) (op_progress_of n s)
    call_ops c (call_op.CallSync r e xs) apart = sync_calls c e (values_in (registers_of n s) xs) (op_progress_of n s)
    call_ops c (call_op.CallHost r q h) apart = firsts A ANumber n s (host_at c h) (call_host_by SomeHost n q s) (λ p. hosts q p (λ a. absurd (let e = apart a in cc)))
    call_ops c (call_op.CallSyncHost r h) apart = sync_host_calls c h (op_progress_of n s)
    call_ops c (call_op.Cancel r x) apart = cancels Async (value_of n s x) (op_progress_of n s)
    call_ops c (call_op.CancelSync r x) apart = cancels Sync (value_of n s x) (op_progress_of n s)
    call_ops c (call_op.Drop x) apart = if_found A NoNumber n s (subtask_at (instance_of n s) (value_of n s x) s) _ (drop_by SomeHost n (value_of n s x) s) (drops (value_of n s x))

    makes : (x v : ℕ) (o : Slot) → Gives (thread_new_rule SomeHost n x v s o)
    makes x v slot.Empty = tt
    makes x v slot.Bad = tt
    makes x v (slot.Script ops) =
        if_traps A ANumber n s (not (fits 2 s)) _ _ (if_traps A ANumber n s (at_handle_limit s) _ _ (from (at_done n _) (left_added A n n x v s (λ a. (under a).made)), refl))

    threads : (c : Component) (o : ThreadOp) → LeavesPlace A (thread_answers o) n s (thread_rule SomeHost c n s o)
    threads c (thread_op.New r x v) = makes x (value_of n s v) (slot_at c (instance_of n s) x)
    threads c (thread_op.Index r) = (at (at_done n s), refl)
    threads c (thread_op.ResumeLater x) = if_found A NoNumber n s (thread_at (instance_of n s) (value_of n s x) s) _ (resume_later_by SomeHost n s)
        (λ m. if_traps A NoNumber n s (m == n) _ _ (if_found A NoNumber n s (resume_why m s) _ _ (λ w. (at (at_done n _ ∙ at_low n m w s), refl))))
    threads c thread_op.Suspend = let l = thread_label.Suspend n in resumed l (op_progress_of n s) _ refl (halts Suspension l (passes_check (instance_of n s) s) refl)
    threads c thread_op.Yield = let l = thread_label.Yield n in resumed l (op_progress_of n s) _ refl (halts Yielding l (passes_check (instance_of n s) s) refl)
    threads c (thread_op.SuspendThenResume x) = resumed (thread_label.SuspendThenResume n) (op_progress_of n s) _ refl (then_resumes Suspension (value_of n s x))
    threads c (thread_op.YieldThenResume x) = resumed (thread_label.YieldThenResume n) (op_progress_of n s) _ refl (then_resumes Yielding (value_of n s x))
    threads c (thread_op.SuspendThenPromote x) = let l = thread_label.SuspendThenPromote n in resumed l (op_progress_of n s) _ refl (then_promotes Suspension (value_of n s x) l refl)
    threads c (thread_op.YieldThenPromote x) = let l = thread_label.YieldThenPromote n in resumed l (op_progress_of n s) _ refl (then_promotes Yielding (value_of n s x) l refl)

pub ops_leave_places : OpsLeavePlaces
unfolding OpsLeavePlaces
ops_leave_places c n s ch (op.Data o) e = absurd (cc)
ops_leave_places c n s ch (op.Task o) e = tasks (KeepsPlace n s (op.Task o)) n s ch o e (λ k. k.others)
ops_leave_places c n s ch (op.Set o) e = sets (KeepsPlace n s (op.Set o)) n s ch o
ops_leave_places c n s ch (op.Call o) e = call_ops (KeepsPlace n s (op.Call o)) n s (λ k. k.under_way) c o (λ k. k.apart)
ops_leave_places c n s ch (op.Thread o) e = threads (KeepsPlace n s (op.Thread o)) n s (λ k. k.under_way) c o

-- ---- A thread that keeps its place

in_place : (A : Type 0) (k : AnswerKind) (n : ℕ) (s : Core) (p : Progress) → A → LeavesPlace A k n s p → IsInPlace n (in_script n s) p
in_place A k n s (Continues l t m) a h = h.0.still a
in_place A k n s (Stops l t) a h = h.still a
in_place A k n s (Traps why) a h = tt
in_place A k n s (Fails i) a h = tt
in_place A k n s Never a h = tt
in_place A k n s (Ordered ns next) a h = λ order. in_place A k n s (next order) a (h order)
in_place A k n s (OneOf ns next) a h = λ m. in_place A k n s (next m) a (h m)
in_place A k n s (Asks next) a h = λ answer. in_place A k n s (next answer) a (h answer)

pub host_leaves_in_place : HostLeavesInPlace
unfolding HostLeavesInPlace OpsLeavePlaces
host_leaves_in_place c n s ch o e apart u h =
    in_place (KeepsPlace n s o) (answers_of o) n s (op_rule SomeHost c n s ch o) (record { under_way = u; apart = apart; others = h }) (ops_leave_places c n s ch o e)
