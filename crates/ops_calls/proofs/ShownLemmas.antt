-- Whoever has an op done, it shows the same, and is finished with what it shows.
use Rattle.std.proofs.Common.{refl}
use Rattle.std.specs.Prelude.{Bool, List, None, Option, Some, false, is_some, nat_le, not, suc, true, zero, ℕ, ◌==◌, ◌≡◌}
use Rattle.ops_calls.specs.Shown.{AnswersAreShown, IsAlike, finished_with, is_finished}
use Rattle.ops_guests.specs.Shown.{shown}
use Rattle.machine_data.specs.Core.{Core}
use Rattle.machine_data.specs.Labels.{Choice, join_label, ret_label, task_cancel_label, wait_label}
use Rattle.machine_data.specs.Moves.{PickedEvent, PickedMember, NothingPicked, PickedTaskEvent, picked_event, given_for, handed_on, may_hand_on, passes_check, put_low, taken, withdrawn, waits_cancellable}
use Rattle.machine_data.specs.Read.{at_handle_limit, backpressure_of, cancel_was_delivered, event_of, fits, has_ended, has_member, has_waiters, op_progress_of, instance_of, is_async_lifted, is_joined, is_watched, join_of, kind_of, result_of, set_at, subtask_at, subtask_ended, task_of, thread_at, undelivered_end, was_cancelled}
use Rattle.machine_data.specs.Write.{count_work, set_event, set_join, set_saved_callee}
use Rattle.machine_data.specs.declared.component.Callee.{Callee}
use Rattle.machine_data.specs.declared.component.Component.{Component}
use Rattle.machine_data.specs.declared.component.HostDef.{HostDef}
use Rattle.machine_data.specs.declared.component.HostDef.TheVariants as host_def
use Rattle.machine_data.specs.declared.component.Slot.{Slot}
use Rattle.machine_data.specs.declared.component.Slot.TheVariants as slot
use Rattle.machine_data.specs.declared.label.Label.{Label}
use Rattle.machine_data.specs.declared.label.Label.TheVariants as label
use Rattle.machine_data.specs.declared.label.ThreadLabel.TheVariants as thread_label
use Rattle.machine_data.specs.declared.op.CallOp.{CallOp}
use Rattle.machine_data.specs.declared.op.CallOp.TheVariants as call_op
use Rattle.machine_data.specs.declared.op.Op.{Op}
use Rattle.machine_data.specs.declared.op.Op.TheVariants as op
use Rattle.machine_data.specs.declared.op.SetOp.{SetOp}
use Rattle.machine_data.specs.declared.op.SetOp.TheVariants as set_op
use Rattle.machine_data.specs.declared.op.TaskOp.{TaskOp}
use Rattle.machine_data.specs.declared.op.TaskOp.TheVariants as task_op
use Rattle.machine_data.specs.declared.op.ThreadOp.{ThreadOp}
use Rattle.machine_data.specs.declared.op.ThreadOp.TheVariants as thread_op
use Rattle.machine_data.specs.declared.records.Goal.{Goal}
use Rattle.machine_data.specs.declared.records.Goal.TheVariants as goal
use Rattle.machine_data.specs.declared.records.OpProgress.{OpProgress}
use Rattle.machine_data.specs.declared.records.OpProgress.TheVariants as op_progress
use Rattle.machine_data.specs.declared.records.Join.TheVariants as join
use Rattle.machine_data.specs.declared.records.Subtask.{Subtask}
use Rattle.machine_data.specs.declared.records.Subtask.TheVariants as subtask
use Rattle.machine_data.specs.declared.trap.Trap.{Trap}
use Rattle.machine_data.specs.declared.statuses.TaskEvent.{TaskEvent}
use Rattle.machine_data.specs.declared.statuses.TaskEvent.TheVariants as own
use Rattle.machine_data.specs.declared.statuses.Status.{Status}
use Rattle.machine_data.specs.declared.statuses.Status.TheVariants as status
use Rattle.machine_rules.specs.Calls.{AtOnce, Failing, FirstPoll, Later, call_begins, call_host_by, call_let_go, call_resumes, call_rule, call_status_by, call_sync_begins, call_sync_host_by, call_sync_host_rule, call_sync_rule, call_sync_status_by, call_taken, call_with_handle, first_polled, heard_first, host_valued, host_with_handle, polled_first, status_found, work_deleted}
use Rattle.machine_rules.specs.Cancels.{AlreadyEnded, AskedBefore, Async, CallbackYields, CancelCase, Mode, OtherwiseRuns, StartNotRun, Sync, ThreadWaits, after_cancel_by, cancel_aborts_host, cancel_asks, cancel_by, cancel_case, cancel_ended_by, cancel_found_by, cancel_guest_by, cancel_host_by, cancel_label, cancel_resumed, cancel_rule, cancel_subtask_by, cancel_unended_by, drop_by, subtask_rule, unnamed}
use Rattle.machine_rules.specs.Ends.{cancelled, may_tell, returned}
use Rattle.machine_rules.specs.Finish.{Doer, NoAnswer, OneNumber, finish}
use Rattle.machine_rules.specs.Progress.{Continues, Progress, may, or_never, or_trap, trap_if}
use Rattle.machine_rules.specs.Scripts.{export_kind, host_at, slot_at, value_of, values_in}
use Rattle.machine_rules.specs.Sets.{chosen, finds_nothing, join_done_by, join_to_by, may_wake_new, moved_over, poll_takes_by, received_woken_by, set_closed, set_drop_by, set_opened, set_rule, wait_begins_by, wait_goes_on_by, wait_rule, wait_takes_by}
use Rattle.machine_rules.specs.Step.{op_rule}
use Rattle.machine_rules.specs.Task.{dec_by, pressure_gone, pressure_lowered, pressure_raised, task_rule}
use Rattle.machine_rules.specs.Threads.{Halt, Suspension, Yielding, halt_rule, halts_by, has_yielded, resume_later_by, resume_why, resumed_by, then_promote_by, then_promote_found_by, then_promote_rule, then_resume_found, then_resume_rule, thread_added, thread_new_rule, thread_rule}
use Rattle.machine_data.specs.Read.{registers_of}

module _ (d b : Doer) (n : ℕ) where
  if_traps : (x : Bool) (why : Trap) (p q : Progress) → IsAlike d b n p q → IsAlike d b n (trap_if x why p) (trap_if x why q)
  if_traps true why p q h = refl
  if_traps false why p q h = h

  if_lawful : (x : Bool) (p q : Progress) → IsAlike d b n p q → IsAlike d b n (may x p) (may x q)
  if_lawful true p q h = h
  if_lawful false p q h = tt

  if_found : {X : Type 0} (o : Option X) (why : Trap) (f g : X → Progress) → ((x : X) → IsAlike d b n (f x) (g x)) → IsAlike d b n (or_trap o why f) (or_trap o why g)
  if_found None why f g h = refl
  if_found (Some x) why f g h = h x

  if_given : {X : Type 0} (o : Option X) (f g : X → Progress) → ((x : X) → IsAlike d b n (f x) (g x)) → IsAlike d b n (or_never o f) (or_never o g)
  if_given None f g h = tt
  if_given (Some x) f g h = h x

  -- ---- Tasks

  ret_ends : (v : ℕ) (w : Option ℕ) (u : Core) → IsAlike d b n (Continues (ret_label n v w) (finish d n NoAnswer u) n) (Continues (ret_label n v w) (finish b n NoAnswer u) n)
  ret_ends v None u = (refl, (refl, (refl, (u, (refl, refl)))))
  ret_ends v (Some w) u = (refl, (refl, (refl, (u, (refl, refl)))))

  cancel_ends : (w : Option ℕ) (u : Core) → IsAlike d b n (Continues (task_cancel_label n w) (finish d n NoAnswer u) n) (Continues (task_cancel_label n w) (finish b n NoAnswer u) n)
  cancel_ends None u = (refl, (refl, (refl, (u, (refl, refl)))))
  cancel_ends (Some w) u = (refl, (refl, (refl, (u, (refl, refl)))))

  lowers : (s : Core) (k : ℕ) → IsAlike d b n (dec_by d n s k) (dec_by b n s k)
  lowers s zero = refl
  lowers s (suc zero) = (refl, λ order. (refl, (refl, (refl, (pressure_gone n order s, (refl, refl))))))
  lowers s (suc (suc k)) = (refl, (refl, (refl, (pressure_lowered n s, (refl, refl)))))

  tasks : (s : Core) (ch : Choice) (o : TaskOp) → is_finished (op.Task o) ≡ true → IsAlike d b n (task_rule d n s ch o) (task_rule b n s ch o)
  tasks s ch (task_op.Ret x) e =
      let k = task_of n s in
      if_traps (has_ended k s) _ _ _ (if_traps (not (is_async_lifted (kind_of k s))) _ _ _
      (if_lawful (may_tell k ch.woken s) _ _ (ret_ends (value_of n s x) ch.woken (returned k (value_of n s x) ch.woken s))))
  tasks s ch (task_op.RetBad x) e = if_traps (has_ended (task_of n s) s) _ _ _ refl
  tasks s ch task_op.TaskCancel e =
      let k = task_of n s in
      if_traps (not (cancel_was_delivered k s)) _ _ _ (if_traps (has_ended k s) _ _ _
      (if_lawful (may_tell k ch.woken s) _ _ (cancel_ends ch.woken (cancelled k ch.woken s))))
  tasks s ch task_op.BpInc e = if_traps (nat_le 65535 (backpressure_of (instance_of n s) s)) _ _ _ (refl, (refl, (refl, (pressure_raised n s, (refl, refl)))))
  tasks s ch task_op.BpDec e = lowers s (backpressure_of (instance_of n s) s)
  tasks s ch task_op.Exit e = absurd (cc)
  tasks s ch task_op.CbYield e = absurd (cc)
  tasks s ch (task_op.CbWait x) e = absurd (cc)
  tasks s ch (task_op.Code x) e = absurd (cc)

  -- ---- Sets

  begins_by : (ch : Choice) (s : Core) (x : ℕ) (f : Bool) → IsAlike d b n (wait_begins_by d n ch s x f) (wait_begins_by b n ch s x f)
  begins_by ch s x true = if_traps (not (passes_check (instance_of n s) s)) _ _ _ (refl, refl)
  begins_by ch s x false = if_given (picked_event (waits_cancellable (task_of n s) s) (task_of n s) x (chosen n ch s) s) (wait_takes_by d n ch s) (wait_takes_by b n ch s) (λ g. (refl, (refl, (refl, (taken g (task_of n s) s, (refl, refl))))))

  begins : (h : ℕ) (ch : Choice) (s : Core) → IsAlike d b n (wait_rule d n h ch s op_progress.Fresh) (wait_rule b n h ch s op_progress.Fresh)
  begins h ch s = if_found (set_at (instance_of n s) h s) _ (λ x. wait_begins_by d n ch s x (finds_nothing n x s)) (λ x. wait_begins_by b n ch s x (finds_nothing n x s)) (λ x. begins_by ch s x (finds_nothing n x s))

  -- the task event, which is shown as an event also where a wake is handed on
  own_goes : (x k : ℕ) (w : Option ℕ) (e : TaskEvent) (s : Core) → IsAlike d b n (Continues (wait_label n (given_for (PickedTaskEvent e) k s) w) (received_woken_by d n x w (PickedTaskEvent e) (given_for (PickedTaskEvent e) k s) s) n) (Continues (wait_label n (given_for (PickedTaskEvent e) k s) w) (received_woken_by b n x w (PickedTaskEvent e) (given_for (PickedTaskEvent e) k s) s) n)
  unfolding given_for
  own_goes x k None e s = let t = handed_on x (PickedTaskEvent e) None s in (refl, (refl, (refl, (taken (PickedTaskEvent e) (task_of n t) t, (refl, refl)))))
  own_goes x k (Some w) own.None s = let t = handed_on x (PickedTaskEvent own.None) (Some w) s in (refl, (refl, (refl, (taken (PickedTaskEvent own.None) (task_of n t) t, (refl, refl)))))
  own_goes x k (Some w) own.Cancelled s = let t = handed_on x (PickedTaskEvent own.Cancelled) (Some w) s in (refl, (refl, (refl, (taken (PickedTaskEvent own.Cancelled) (task_of n t) t, (refl, refl)))))

  -- only who takes the task event hands a wake on
  member_goes : (x k : ℕ) (w : Option ℕ) (sub : Subtask) (s : Core) → IsAlike d b n
      (may (may_hand_on x (PickedMember sub) w s) (Continues (wait_label n (given_for (PickedMember sub) k s) w) (received_woken_by d n x w (PickedMember sub) (given_for (PickedMember sub) k s) s) n))
      (may (may_hand_on x (PickedMember sub) w s) (Continues (wait_label n (given_for (PickedMember sub) k s) w) (received_woken_by b n x w (PickedMember sub) (given_for (PickedMember sub) k s) s) n))
  unfolding may_hand_on
  member_goes x k None sub s = let t = handed_on x (PickedMember sub) None s in (refl, (refl, (refl, (taken (PickedMember sub) (task_of n t) t, (refl, refl)))))
  member_goes x k (Some w) sub s = tt

  goes_on : (x : ℕ) (ch : Choice) (s : Core) (g : PickedEvent) → IsAlike d b n (wait_goes_on_by d n x ch s g) (wait_goes_on_by b n x ch s g)
  goes_on x ch s NothingPicked = (refl, refl)
  goes_on x ch s (PickedTaskEvent e) = if_lawful (may_hand_on x (PickedTaskEvent e) ch.woken s) _ _ (own_goes x _ ch.woken e s)
  goes_on x ch s (PickedMember sub) = member_goes x _ ch.woken sub s

  waits : (h : ℕ) (ch : Choice) (s : Core) (f : OpProgress) → IsAlike d b n (wait_rule d n h ch s f) (wait_rule b n h ch s f)
  waits h ch s (op_progress.Waits x) = if_given (picked_event (waits_cancellable (task_of n s) s) (task_of n s) x (chosen n ch s) s) (wait_goes_on_by d n x ch s) (wait_goes_on_by b n x ch s) (λ g. goes_on x ch s g)
  waits h ch s op_progress.Fresh = begins h ch s
  waits h ch s (op_progress.Calls sub) = begins h ch s
  waits h ch s (op_progress.Answered v) = begins h ch s
  waits h ch s (op_progress.Cancels sub) = begins h ch s
  waits h ch s (op_progress.AwaitsEnd sub) = begins h ch s
  waits h ch s op_progress.Suspends = begins h ch s
  waits h ch s op_progress.Yields = begins h ch s

  join_ends : (w : Option ℕ) (u : Core) → IsAlike d b n (Continues (join_label n w) (finish d n NoAnswer u) n) (Continues (join_label n w) (finish b n NoAnswer u) n)
  join_ends None u = (refl, (refl, (refl, (u, (refl, refl)))))
  join_ends (Some w) u = (refl, (refl, (refl, (u, (refl, refl)))))

  joined : (sub : Subtask) (w : Option ℕ) (s : Core) (x : Option ℕ) → IsAlike d b n (join_done_by d n sub w s x) (join_done_by b n sub w s x)
  joined sub w s x = if_traps (is_watched (join_of sub s)) _ _ _ (if_lawful (may_wake_new (event_of sub s) x w s) _ _ (join_ends w (moved_over sub x w s)))

  joins : (y : ℕ) (w : Option ℕ) (s : Core) (sub : Subtask) → IsAlike d b n (join_to_by d n y w s sub) (join_to_by b n y w s sub)
  joins zero w s sub = joined sub w s None
  joins (suc h) w s sub = if_found (set_at (instance_of n s) (suc h) s) _ (λ x. join_done_by d n sub w s (Some x)) (λ x. join_done_by b n sub w s (Some x)) (λ x. joined sub w s (Some x))

  sets : (s : Core) (ch : Choice) (o : SetOp) → IsAlike d b n (set_rule d n s ch o) (set_rule b n s ch o)
  sets s ch (set_op.New r) = if_traps (not (fits 1 s)) _ _ _ (if_traps (at_handle_limit s) _ _ _ (refl, (refl, (refl, (set_opened n s, (refl, refl))))))
  sets s ch (set_op.Drop x) =
      let h = value_of n s x in
      if_found (set_at (instance_of n s) h s) _ (set_drop_by d n h s) (set_drop_by b n h s)
      (λ y. if_traps (has_waiters y s) _ _ _ (if_traps (has_member y s) _ _ _ (refl, (refl, (refl, (set_closed n h y s, (refl, refl)))))))
  sets s ch (set_op.Wait r x) = waits (value_of n s x) ch s (op_progress_of n s)
  sets s ch (set_op.Poll r x) =
      let h = value_of n s x in
      if_found (set_at (instance_of n s) h s) _ (λ y. or_never (picked_event false (task_of n s) y (chosen n ch s) s) (poll_takes_by d n ch s)) (λ y. or_never (picked_event false (task_of n s) y (chosen n ch s) s) (poll_takes_by b n ch s))
      (λ y. if_given (picked_event false (task_of n s) y (chosen n ch s) s) (poll_takes_by d n ch s) (poll_takes_by b n ch s) (λ g. (refl, (refl, (refl, (taken g (task_of n s) s, (refl, refl)))))))
  sets s ch (set_op.Join x y) =
      let z = value_of n s y in
      if_found (subtask_at (instance_of n s) (value_of n s x) s) _ (join_to_by d n z ch.woken s) (join_to_by b n z ch.woken s) (λ sub. joins z ch.woken s sub)

  -- ---- Calls

  queues : (c : Component) (e : Callee) (g : Goal) (words : List ℕ) (s : Core) → IsAlike d b n (call_begins c n e g words s) (call_begins c n e g words s)
  queues c e g words s = if_traps (not (fits 3 s)) _ _ _ (refl, refl)

  pending : (k : ℕ) (s : Core) (e : Status) → (e ≡ status.Returned → ⊥) → IsAlike d b n (call_status_by d n k s e) (call_status_by b n k s e)
  pending k s status.Returned other = absurd (other refl)
  pending k s status.Starting other = if_traps (at_handle_limit s) _ _ _ (refl, (refl, (refl, (set_saved_callee n None (call_with_handle n k s), (refl, refl)))))
  pending k s status.Started other = if_traps (at_handle_limit s) _ _ _ (refl, (refl, (refl, (set_saved_callee n None (call_with_handle n k s), (refl, refl)))))
  pending k s status.StartCancelled other = if_traps (at_handle_limit s) _ _ _ (refl, (refl, (refl, (set_saved_callee n None (call_with_handle n k s), (refl, refl)))))
  pending k s status.ReturnCancelled other = if_traps (at_handle_limit s) _ _ _ (refl, (refl, (refl, (set_saved_callee n None (call_with_handle n k s), (refl, refl)))))

  statuses : (k : ℕ) (s : Core) (e : Status) → IsAlike d b n (call_status_by d n k s e) (call_status_by b n k s e)
  statuses k s status.Returned = (refl, (refl, (refl, (set_saved_callee n None (call_let_go n k s), (refl, refl)))))
  statuses k s status.Starting = pending k s status.Starting (λ e. cc)
  statuses k s status.Started = pending k s status.Started (λ e. cc)
  statuses k s status.StartCancelled = pending k s status.StartCancelled (λ e. cc)
  statuses k s status.ReturnCancelled = pending k s status.ReturnCancelled (λ e. cc)

  calls : (c : Component) (q : ℕ) (e : Callee) (words : List ℕ) (s : Core) (f : OpProgress) → IsAlike d b n (call_rule d c n q e words s f) (call_rule b c n q e words s f)
  calls c q e words s (op_progress.Calls (subtask.Guest k)) = statuses k s (status_found k s)
  calls c q e words s (op_progress.Calls (subtask.Host i)) = queues c e (goal.Register q) words s
  calls c q e words s op_progress.Fresh = queues c e (goal.Register q) words s
  calls c q e words s (op_progress.Waits x) = queues c e (goal.Register q) words s
  calls c q e words s (op_progress.Answered v) = queues c e (goal.Register q) words s
  calls c q e words s (op_progress.Cancels sub) = queues c e (goal.Register q) words s
  calls c q e words s (op_progress.AwaitsEnd sub) = queues c e (goal.Register q) words s
  calls c q e words s op_progress.Suspends = queues c e (goal.Register q) words s
  calls c q e words s op_progress.Yields = queues c e (goal.Register q) words s

  sync_statuses : (k : ℕ) (s : Core) (e : Status) → IsAlike d b n (call_sync_status_by d n k s e) (call_sync_status_by b n k s e)
  sync_statuses k s status.Returned = (refl, (refl, (refl, (set_saved_callee n None (call_taken n k s), (refl, refl)))))
  sync_statuses k s status.Starting = if_traps (not (passes_check (instance_of n s) (call_resumes n k s))) _ _ _ (refl, refl)
  sync_statuses k s status.Started = if_traps (not (passes_check (instance_of n s) (call_resumes n k s))) _ _ _ (refl, refl)
  sync_statuses k s status.StartCancelled = if_traps (not (passes_check (instance_of n s) (call_resumes n k s))) _ _ _ (refl, refl)
  sync_statuses k s status.ReturnCancelled = if_traps (not (passes_check (instance_of n s) (call_resumes n k s))) _ _ _ (refl, refl)

  sync_begins : (c : Component) (e : Callee) (words : List ℕ) (s : Core) (x : Bool) → IsAlike d b n (call_sync_begins c n e words s x) (call_sync_begins c n e words s x)
  sync_begins c e words s true = queues c e goal.Answer words s
  sync_begins c e words s false = if_traps (not (fits 3 s)) _ _ _ (if_traps (at_handle_limit s) _ _ _ (refl, (refl, refl)))

  sync_calls : (c : Component) (e : Callee) (words : List ℕ) (s : Core) (f : OpProgress) → IsAlike d b n (call_sync_rule d c n e words s f) (call_sync_rule b c n e words s f)
  sync_calls c e words s (op_progress.Answered v) = (refl, (refl, (refl, (s, (refl, refl)))))
  sync_calls c e words s (op_progress.Calls (subtask.Guest k)) = sync_statuses k s (status_found k s)
  sync_calls c e words s (op_progress.Calls (subtask.Host i)) = sync_begins c e words s (is_async_lifted (export_kind c e))
  sync_calls c e words s op_progress.Fresh = sync_begins c e words s (is_async_lifted (export_kind c e))
  sync_calls c e words s (op_progress.Waits x) = sync_begins c e words s (is_async_lifted (export_kind c e))
  sync_calls c e words s (op_progress.Cancels sub) = sync_begins c e words s (is_async_lifted (export_kind c e))
  sync_calls c e words s (op_progress.AwaitsEnd sub) = sync_begins c e words s (is_async_lifted (export_kind c e))
  sync_calls c e words s op_progress.Suspends = sync_begins c e words s (is_async_lifted (export_kind c e))
  sync_calls c e words s op_progress.Yields = sync_begins c e words s (is_async_lifted (export_kind c e))

  hosts : (q : ℕ) (s : Core) (p : FirstPoll) → IsAlike d b n (call_host_by d n q s p) (call_host_by b n q s p)
  hosts q s (AtOnce v) = (refl, (refl, (refl, (host_valued n q v s, (refl, refl)))))
  hosts q s Failing = refl
  hosts q s (Later host) = if_traps (not (fits 1 s)) _ _ _ (if_traps (at_handle_limit s) _ _ _ (refl, (refl, (refl, (host_with_handle n q host s, (refl, refl))))))

  sync_hosts : (s : Core) (p : FirstPoll) → IsAlike d b n (call_sync_host_by d n s p) (call_sync_host_by b n s p)
  sync_hosts s (AtOnce v) = (refl, (refl, (refl, (count_work s, (refl, refl)))))
  sync_hosts s Failing = refl
  sync_hosts s (Later host) = if_traps (not (fits 1 s)) _ _ _ (if_traps (not (passes_check (instance_of n s) s)) _ _ _ (refl, refl))

  -- whatever an open host answers
  firsts : (host : HostDef) (f g : FirstPoll → Progress) → ((p : FirstPoll) → IsAlike d b n (f p) (g p)) → IsAlike d b n (first_polled host f) (first_polled host g)
  firsts (host_def.Settled polls value) f g same = same (polled_first polls value)
  firsts host_def.Open f g same = λ answer. same (heard_first answer)

  sync_host_calls : (c : Component) (h : ℕ) (s : Core) (f : OpProgress) → IsAlike d b n (call_sync_host_rule d c n h s f) (call_sync_host_rule b c n h s f)
  sync_host_calls c h s (op_progress.Calls (subtask.Host i)) = (refl, (refl, (refl, (work_deleted i s, (refl, refl)))))
  sync_host_calls c h s (op_progress.Calls (subtask.Guest k)) = firsts (host_at c h) (call_sync_host_by d n s) (call_sync_host_by b n s) (λ p. sync_hosts s p)
  sync_host_calls c h s op_progress.Fresh = firsts (host_at c h) (call_sync_host_by d n s) (call_sync_host_by b n s) (λ p. sync_hosts s p)
  sync_host_calls c h s (op_progress.Waits x) = firsts (host_at c h) (call_sync_host_by d n s) (call_sync_host_by b n s) (λ p. sync_hosts s p)
  sync_host_calls c h s (op_progress.Answered v) = firsts (host_at c h) (call_sync_host_by d n s) (call_sync_host_by b n s) (λ p. sync_hosts s p)
  sync_host_calls c h s (op_progress.Cancels sub) = firsts (host_at c h) (call_sync_host_by d n s) (call_sync_host_by b n s) (λ p. sync_hosts s p)
  sync_host_calls c h s (op_progress.AwaitsEnd sub) = firsts (host_at c h) (call_sync_host_by d n s) (call_sync_host_by b n s) (λ p. sync_hosts s p)
  sync_host_calls c h s op_progress.Suspends = firsts (host_at c h) (call_sync_host_by d n s) (call_sync_host_by b n s) (λ p. sync_hosts s p)
  sync_host_calls c h s op_progress.Yields = firsts (host_at c h) (call_sync_host_by d n s) (call_sync_host_by b n s) (λ p. sync_hosts s p)

  -- ---- Cancels

  cancel_said : (mode : Mode) (v : ℕ) (u : Core) → IsAlike d b n (Continues (cancel_label mode n v) (finish d n (OneNumber v) u) n) (Continues (cancel_label mode n v) (finish b n (OneNumber v) u) n)
  cancel_said Async v u = (refl, (refl, (refl, (u, (refl, refl)))))
  cancel_said Sync v u = (refl, (refl, (refl, (u, (refl, refl)))))

  ended : (mode : Mode) (sub : Subtask) (s : Core) (o : Option Status) → IsAlike d b n (cancel_ended_by d mode n sub s o) (cancel_ended_by b mode n sub s o)
  ended mode sub s None = refl
  ended mode sub s (Some e) = cancel_said mode _ (set_saved_callee n None (set_event sub None s))

  unended : (mode : Mode) (sub : Subtask) (s : Core) → IsAlike d b n (cancel_unended_by d mode n sub s) (cancel_unended_by b mode n sub s)
  unended Async sub s = (refl, (refl, (refl, (set_saved_callee n None s, (refl, refl)))))
  unended Sync sub s = if_traps (not (passes_check (instance_of n s) s)) _ _ _ (refl, refl)

  by_end : (mode : Mode) (sub : Subtask) (s : Core) (x : Bool) → IsAlike d b n (cancel_by d mode n sub s x) (cancel_by b mode n sub s x)
  by_end mode sub s true = ended mode sub s (undelivered_end (event_of sub s))
  by_end mode sub s false = unended mode sub s

  afterwards : (mode : Mode) (sub : Subtask) (s : Core) → IsAlike d b n (after_cancel_by d mode n sub s) (after_cancel_by b mode n sub s)
  afterwards mode sub s = by_end mode sub s (subtask_ended sub s)

  guests : (mode : Mode) (k : ℕ) (s : Core) (x : CancelCase) → IsAlike d b n (cancel_guest_by d mode n k s x) (cancel_guest_by b mode n k s x)
  guests mode k s AlreadyEnded = ended mode (subtask.Guest k) s (undelivered_end (event_of (subtask.Guest k) s))
  guests mode k s StartNotRun = cancel_said mode 3 (set_saved_callee n None (withdrawn k s))
  guests mode k s AskedBefore = refl
  guests mode k s ThreadWaits = (refl, λ m. (refl, refl))
  guests mode k s CallbackYields = (refl, refl)
  guests mode k s OtherwiseRuns = afterwards mode (subtask.Guest k) (cancel_asks k s)

  subtasks : (mode : Mode) (s : Core) (sub : Subtask) → IsAlike d b n (cancel_subtask_by d mode n s sub) (cancel_subtask_by b mode n s sub)
  subtasks mode s (subtask.Guest k) = guests mode k s (cancel_case k s)
  subtasks mode s (subtask.Host i) = if_traps (was_cancelled i s) _ _ _ (afterwards mode (subtask.Host i) (cancel_aborts_host i s))

  cancels_begin : (mode : Mode) (h : ℕ) (s : Core) → IsAlike d b n (cancel_rule d mode n h s op_progress.Fresh) (cancel_rule b mode n h s op_progress.Fresh)
  cancels_begin mode h s = if_found (subtask_at (instance_of n s) h s) _ (cancel_found_by d mode n s) (cancel_found_by b mode n s) (λ sub. if_traps (is_joined (join_of sub s)) _ _ _ (subtasks mode s sub))

  cancels : (mode : Mode) (h : ℕ) (s : Core) (f : OpProgress) → IsAlike d b n (cancel_rule d mode n h s f) (cancel_rule b mode n h s f)
  cancels mode h s (op_progress.Cancels sub) = afterwards mode sub (cancel_resumed n sub s)
  cancels mode h s (op_progress.AwaitsEnd sub) = let t = set_join sub join.Nowhere s in ended mode sub t (undelivered_end (event_of sub t))
  cancels mode h s op_progress.Fresh = cancels_begin mode h s
  cancels mode h s (op_progress.Waits x) = cancels_begin mode h s
  cancels mode h s (op_progress.Calls sub) = cancels_begin mode h s
  cancels mode h s (op_progress.Answered v) = cancels_begin mode h s
  cancels mode h s op_progress.Suspends = cancels_begin mode h s
  cancels mode h s op_progress.Yields = cancels_begin mode h s

  call_ops : (c : Component) (s : Core) (o : CallOp) → IsAlike d b n (subtask_rule d c n s o) (subtask_rule b c n s o)
  call_ops c s (call_op.Call r q e xs) = calls c q e (values_in (registers_of n s) xs) s (op_progress_of n s)
  call_ops c s (call_op.CallSync r e xs) = sync_calls c e (values_in (registers_of n s) xs) s (op_progress_of n s)
  call_ops c s (call_op.CallHost r q h) = firsts (host_at c h) (call_host_by d n q s) (call_host_by b n q s) (λ p. hosts q s p)
  call_ops c s (call_op.CallSyncHost r h) = sync_host_calls c h s (op_progress_of n s)
  call_ops c s (call_op.Cancel r x) = cancels Async (value_of n s x) s (op_progress_of n s)
  call_ops c s (call_op.CancelSync r x) = cancels Sync (value_of n s x) s (op_progress_of n s)
  call_ops c s (call_op.Drop x) =
      let h = value_of n s x in
      if_found (subtask_at (instance_of n s) h s) _ (drop_by d n h s) (drop_by b n h s)
      (λ sub. if_traps (is_watched (join_of sub s)) _ _ _ (if_traps (not (subtask_ended sub s)) _ _ _ (if_traps (is_some (event_of sub s)) _ _ _ (refl, (refl, (refl, (unnamed n h sub s, (refl, refl))))))))

  -- ---- Threads

  makes : (x v : ℕ) (s : Core) (o : Slot) → IsAlike d b n (thread_new_rule d n x v s o) (thread_new_rule b n x v s o)
  makes x v s slot.Empty = refl
  makes x v s slot.Bad = refl
  makes x v s (slot.Script ops) = if_traps (not (fits 2 s)) _ _ _ (if_traps (at_handle_limit s) _ _ _ (refl, (refl, (refl, (thread_added n x v s, (refl, refl))))))

  module _ (l : Label) (s : Core) (done : IsAlike d b n (Continues l (finish d n NoAnswer s) n) (Continues l (finish b n NoAnswer s) n)) where
    resumed : (f : OpProgress) (p q : Progress) → IsAlike d b n p q → IsAlike d b n (resumed_by d f n l s p) (resumed_by b f n l s q)
    resumed op_progress.Suspends p q h = done
    resumed op_progress.Yields p q h = done
    resumed op_progress.Fresh p q h = h
    resumed (op_progress.Waits x) p q h = h
    resumed (op_progress.Calls sub) p q h = h
    resumed (op_progress.Answered v) p q h = h
    resumed (op_progress.Cancels sub) p q h = h
    resumed (op_progress.AwaitsEnd sub) p q h = h

    halts : (x : Halt) (o : Bool) → IsAlike d b n (halts_by d x n l s o) (halts_by b x n l s o)
    halts Suspension true = (refl, refl)
    halts Yielding true = (refl, refl)
    halts Suspension false = refl
    halts Yielding false = done

    plain : (x : Halt) → IsAlike d b n (halt_rule d x n l s) (halt_rule b x n l s)
    plain x = halts x (passes_check (instance_of n s) s)

    promotes : (x : Halt) (m : ℕ) (o : Bool) → IsAlike d b n (then_promote_by d x n l s m o) (then_promote_by b x n l s m o)
    promotes x m true = (refl, refl)
    promotes x m false = plain x

    then_promotes : (x : Halt) (h : ℕ) → IsAlike d b n (then_promote_rule d x n h l s) (then_promote_rule b x n h l s)
    then_promotes x h = if_found (thread_at (instance_of n s) h s) _ (then_promote_found_by d x n l s) (then_promote_found_by b x n l s) (λ m. if_traps (m == n) _ _ _ (promotes x m (has_yielded m s)))

  then_resumes : (x : Halt) (h : ℕ) (s : Core) → IsAlike d b n (then_resume_rule x n h s) (then_resume_rule x n h s)
  then_resumes x h s = if_found (thread_at (instance_of n s) h s) _ (then_resume_found x n s) (then_resume_found x n s)
      (λ m. if_traps (m == n) _ _ _ (if_found (resume_why m s) _ _ _ (λ w. (refl, refl))))

  threads : (c : Component) (s : Core) (o : ThreadOp) → IsAlike d b n (thread_rule d c n s o) (thread_rule b c n s o)
  threads c s (thread_op.New r x v) = makes x (value_of n s v) s (slot_at c (instance_of n s) x)
  threads c s (thread_op.Index r) = (refl, (refl, (refl, (s, (refl, refl)))))
  threads c s (thread_op.ResumeLater x) = if_found (thread_at (instance_of n s) (value_of n s x) s) _ (resume_later_by d n s) (resume_later_by b n s)
      (λ m. if_traps (m == n) _ _ _ (if_found (resume_why m s) _ _ _ (λ w. (refl, (refl, (refl, (put_low m w s, (refl, refl))))))))
  threads c s thread_op.Suspend = let l = label.Thread (thread_label.Suspend n) in resumed l s (refl, (refl, (refl, (s, (refl, refl))))) (op_progress_of n s) _ _ (plain l s (refl, (refl, (refl, (s, (refl, refl))))) Suspension)
  threads c s thread_op.Yield = let l = label.Thread (thread_label.Yield n) in resumed l s (refl, (refl, (refl, (s, (refl, refl))))) (op_progress_of n s) _ _ (plain l s (refl, (refl, (refl, (s, (refl, refl))))) Yielding)
  threads c s (thread_op.SuspendThenResume x) = let l = label.Thread (thread_label.SuspendThenResume n) in resumed l s (refl, (refl, (refl, (s, (refl, refl))))) (op_progress_of n s) _ _ (then_resumes Suspension (value_of n s x) s)
  threads c s (thread_op.YieldThenResume x) = let l = label.Thread (thread_label.YieldThenResume n) in resumed l s (refl, (refl, (refl, (s, (refl, refl))))) (op_progress_of n s) _ _ (then_resumes Yielding (value_of n s x) s)
  threads c s (thread_op.SuspendThenPromote x) = let l = label.Thread (thread_label.SuspendThenPromote n) in resumed l s (refl, (refl, (refl, (s, (refl, refl))))) (op_progress_of n s) _ _ (then_promotes l s (refl, (refl, (refl, (s, (refl, refl))))) Suspension (value_of n s x))
  threads c s (thread_op.YieldThenPromote x) = let l = label.Thread (thread_label.YieldThenPromote n) in resumed l s (refl, (refl, (refl, (s, (refl, refl))))) (op_progress_of n s) _ _ (then_promotes l s (refl, (refl, (refl, (s, (refl, refl))))) Yielding (value_of n s x))

  ops : (c : Component) (s : Core) (ch : Choice) (o : Op) → is_finished o ≡ true → IsAlike d b n (op_rule d c n s ch o) (op_rule b c n s ch o)
  ops c s ch (op.Data o) e = absurd (cc)
  ops c s ch (op.Task o) e = tasks s ch o e
  ops c s ch (op.Set o) e = sets s ch o
  ops c s ch (op.Call o) e = call_ops c s o
  ops c s ch (op.Thread o) e = threads c s o

pub answers_are_shown : AnswersAreShown
unfolding AnswersAreShown
answers_are_shown d b c n s ch o e = ops d b n c s ch o e
