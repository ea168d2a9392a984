-- What the rule of an op shows: the thread goes on or none does, and the label gives no outcome.
use Rattle.ops_dispatch.specs.InPlace.{is_finished_task}
use Rattle.std.proofs.Common.{refl}
use Rattle.std.specs.Prelude.{Bool, List, None, Option, Some, false, nat_le, nat_lt, not, suc, true, zero, ℕ, ◌%◌, ◌/◌, ◌==◌, ◌≡◌}
use Rattle.machine_data.specs.Core.{Core}
use Rattle.machine_data.specs.Labels.{Choice, exit_label, ret_label, task_cancel_label, wait_label}
use Rattle.machine_data.specs.Moves.{PickedEvent, PickedMember, NothingPicked, PickedTaskEvent, picked_event, may_hand_on, passes_check, put_low, waits_cancellable}
use Rattle.machine_data.specs.Read.{at_handle_limit, backpressure_of, cancel_was_delivered, fits, foot_of, has_ended, has_member, has_waiters, op_progress_of, instance_of, is_async_lifted, kind_of, new_handle, new_thread_handle, set_at, task_of, thread_at}
use Rattle.machine_data.specs.declared.component.Component.{Component}
use Rattle.machine_data.specs.declared.component.Slot.{Slot}
use Rattle.machine_data.specs.declared.component.Slot.TheVariants as slot
use Rattle.machine_data.specs.declared.label.Label.{Label}
use Rattle.machine_data.specs.declared.label.Label.TheVariants as label
use Rattle.machine_data.specs.declared.label.SetLabel.TheVariants as set_label
use Rattle.machine_data.specs.declared.label.TaskLabel.TheVariants as task_label
use Rattle.machine_data.specs.declared.label.ThreadLabel.{ThreadLabel}
use Rattle.machine_data.specs.declared.label.ThreadLabel.TheVariants as thread_label
use Rattle.machine_data.specs.declared.op.CallOp.TheVariants as call_op
use Rattle.machine_data.specs.declared.op.DataOp.{DataOp}
use Rattle.machine_data.specs.declared.op.DataOp.TheVariants as data_op
use Rattle.machine_data.specs.declared.op.Op.{Op}
use Rattle.machine_data.specs.declared.op.Op.TheVariants as op
use Rattle.machine_data.specs.declared.op.TaskOp.{TaskOp}
use Rattle.machine_data.specs.declared.op.TaskOp.TheVariants as task_op
use Rattle.machine_data.specs.declared.op.ThreadOp.{ThreadOp}
use Rattle.machine_data.specs.declared.op.ThreadOp.TheVariants as thread_op
use Rattle.machine_data.specs.declared.records.OpProgress.{OpProgress}
use Rattle.machine_data.specs.declared.records.OpProgress.TheVariants as op_progress
use Rattle.machine_data.specs.declared.records.Why.{Why}
use Rattle.machine_data.specs.declared.trap.Trap.TheVariants as trap
use Rattle.machine_data.specs.declared.statuses.Given.{Given}
use Rattle.machine_rules.specs.Cancels.{pauses}
use Rattle.machine_rules.specs.Data.{data_rule, skip_rule}
use Rattle.machine_rules.specs.Ends.{blocking_exit_rule, blocking_exits, cancelled, code_exits, code_kind_rule, code_rule, code_wait_rule, exit_stops, has_event_for, held_by_flag, leaves_no_result, may_tell, passes_after_return, passes_after_stop, returned, sync_exit_rule, sync_exits, thread_exit_rule}
use Rattle.machine_rules.specs.Finish.{Doer, NoAnswer, OneNumber, finish}
use Rattle.machine_rules.specs.Outcome.{outcome_of_label}
use Rattle.machine_rules.specs.Progress.{Continues, Ordered, Progress, Stops, Traps, may, or_never, or_trap}
use Rattle.machine_rules.specs.Scripts.{slot_at, value_of}
use Rattle.machine_rules.specs.Sets.{chosen, finds_nothing, handed_out, poll_rule, poll_takes_by, received_woken_by, set_closed, set_drop_by, set_drop_rule, set_new_rule, set_opened, wait_begins_by, wait_goes_on_by, wait_rule, wait_stops_checked, wait_takes_by}
use Rattle.machine_rules.specs.Task.{dec_by, inc_rule, pressure_raised, ret_bad_rule, ret_rule, task_cancel_rule, task_rule}
use Rattle.machine_rules.specs.Threads.{Halt, Suspension, Yielding, halt_rule, halted_resuming, halting_by, halts_by, has_yielded, resume_later_by, resume_later_rule, resume_why, resumed_by, then_promote_by, then_promote_found_by, then_promote_rule, then_resume_found, then_resume_rule, thread_added, thread_new_label, thread_new_rule, thread_rule}
pub use Rattle.ops_dispatch.proofs.Shows.{ShowsFor, here, ShowsAs, nobody, StopsAs, shows_of, stops_goes, if_traps, if_lawful, if_found, if_given, two_traps}
use Rattle.ops_dispatch.specs.Fits.{calls_host}
use Rattle.ops_dispatch.specs.Polls.{polled_host}

-- ---- Ops on registers and memory cells

skip_shows : (c : Component) (n ops : ℕ) (s : Core) (b : Bool) → ShowsAs n (skip_rule c n ops s b)
skip_shows c n ops s true = (refl, refl)
skip_shows c n ops s false = (refl, refl)

pub data_shows : (c : Component) (n : ℕ) (s : Core) (o : DataOp) → ShowsAs n (data_rule c n s o)
data_shows c n s (data_op.Set q x) = (refl, refl)
data_shows c n s (data_op.Add q x) = (refl, refl)
data_shows c n s (data_op.Handle q x) = (refl, refl)
data_shows c n s (data_op.Load q w) = (refl, refl)
data_shows c n s (data_op.Store w x) = (refl, refl)
data_shows c n s (data_op.SkipEq x y ops) = skip_shows c n ops s (value_of n s x == value_of n s y)

-- ---- The end of an activation

module _ (l : Label) (quiet : outcome_of_label l ≡ None) (n : ℕ) (s : Core) where
  wait_ends : (x : ℕ) (held : List ℕ) (b : Bool) → StopsAs (code_wait_rule l n x held s b)
  wait_ends x held true = λ order. quiet
  wait_ends x held false = λ order. quiet

  kind_ends : (held : List ℕ) (k rest : ℕ) → StopsAs (code_kind_rule l n held s k rest)
  kind_ends held zero rest =
      two_traps nobody (not (passes_after_stop (instance_of n s) (foot_of n s) held s)) (leaves_no_result n s) trap.CannotBlockSyncTask trap.NoAsyncResult
      (Ordered held (λ order. Stops l (code_exits n order s))) (λ order. quiet)
  kind_ends held (suc zero) rest = λ order. quiet
  kind_ends held (suc (suc zero)) rest =
      if_found nobody (set_at (instance_of n s) rest s) trap.BadHandle (λ x. code_wait_rule l n x held s (has_event_for (task_of n s) x s)) (λ x. wait_ends x held (has_event_for (task_of n s) x s))
  kind_ends held (suc (suc (suc k))) rest = tt

  pub code_stops : (code : ℕ) → StopsAs (code_rule l n s code)
  code_stops code =
      let held = held_by_flag (instance_of n s) s in
      if_traps nobody (nat_lt 4294967295 code) trap.UnsupportedCallbackCode (code_kind_rule l n held s (code % 16) (code / 16)) (kind_ends held (code % 16) (code / 16))

-- ---- Exits

exit_quiet : (n : ℕ) (w : Option ℕ) → outcome_of_label (exit_label n w) ≡ None
exit_quiet n None = refl
exit_quiet n (Some k) = refl

module _ (n : ℕ) (w : Option ℕ) (s : Core) where
  pub thread_exit_stops : StopsAs (thread_exit_rule n s)
  thread_exit_stops =
      two_traps nobody (not (passes_check (instance_of n s) s)) (leaves_no_result n s) trap.CannotBlockSyncTask trap.NoAsyncResult (Stops (exit_label n None) (exit_stops n s)) refl

  pub sync_exit_stops : StopsAs (sync_exit_rule n w s)
  sync_exit_stops = if_lawful nobody (may_tell (task_of n s) w s) (Stops (exit_label n w) (sync_exits n w s)) (exit_quiet n w)

  pub blocking_exit_stops : StopsAs (blocking_exit_rule n w s)
  blocking_exit_stops =
      let leaves = Ordered (held_by_flag (instance_of n s) s) (λ order. Stops (exit_label n w) (blocking_exits n w order s)) in
      if_traps nobody (not (passes_after_return n w s)) trap.CannotBlockSyncTask (may (may_tell (task_of n s) w s) leaves) (if_lawful nobody (may_tell (task_of n s) w s) leaves (λ order. exit_quiet n w))

-- ---- Ops of the task

ret_quiet : (n v : ℕ) (w : Option ℕ) → outcome_of_label (ret_label n v w) ≡ None
ret_quiet n v None = refl
ret_quiet n v (Some k) = refl

cancel_quiet : (n : ℕ) (w : Option ℕ) → outcome_of_label (task_cancel_label n w) ≡ None
cancel_quiet n None = refl
cancel_quiet n (Some k) = refl

module _ (d : Doer) (n : ℕ) (s : Core) where
  pub ret_shows : (v : ℕ) (w : Option ℕ) → ShowsAs n (ret_rule d n v w s)
  ret_shows v w =
      let b = may_tell (task_of n s) w s in
      let done = Continues (ret_label n v w) (finish d n NoAnswer (returned (task_of n s) v w s)) n in
      two_traps (here n) (has_ended (task_of n s) s) (not (is_async_lifted (kind_of (task_of n s) s))) trap.TaskCancelOrReturnTwice trap.TaskReturnInvalid (may b done)
      (if_lawful (here n) b done (refl, ret_quiet n v w))

  pub task_cancel_shows : (w : Option ℕ) → ShowsAs n (task_cancel_rule d n w s)
  task_cancel_shows w =
      let b = may_tell (task_of n s) w s in
      let done = Continues (task_cancel_label n w) (finish d n NoAnswer (cancelled (task_of n s) w s)) n in
      two_traps (here n) (not (cancel_was_delivered (task_of n s) s)) (has_ended (task_of n s) s) trap.TaskCancelNotCancelled trap.TaskCancelOrReturnTwice (may b done)
      (if_lawful (here n) b done (refl, cancel_quiet n w))

  pub ret_bad_shows : ShowsAs n (ret_bad_rule n s)
  ret_bad_shows = if_traps (here n) (has_ended (task_of n s) s) trap.TaskCancelOrReturnTwice (Traps trap.TaskReturnInvalid) tt

  inc_shows : ShowsAs n (inc_rule d n s)
  inc_shows = if_traps (here n) (nat_le 65535 (backpressure_of (instance_of n s) s)) trap.BackpressureOverflow (Continues (label.Task (task_label.BpInc n)) (finish d n NoAnswer (pressure_raised n s)) n) (refl, refl)

  dec_shows : (k : ℕ) → ShowsAs n (dec_by d n s k)
  dec_shows zero = tt
  dec_shows (suc zero) = λ order. (refl, refl)
  dec_shows (suc (suc k)) = (refl, refl)

-- an op that doesn't end its thread or its activation
pub task_shows : (d : Doer) (n : ℕ) (s : Core) (ch : Choice) (o : TaskOp) → is_finished_task o ≡ true → ShowsAs n (task_rule d n s ch o)
task_shows d n s ch (task_op.Ret x) e = ret_shows d n s (value_of n s x) ch.woken
task_shows d n s ch (task_op.RetBad x) e = ret_bad_shows d n s
task_shows d n s ch task_op.TaskCancel e = task_cancel_shows d n s ch.woken
task_shows d n s ch task_op.BpInc e = inc_shows d n s
task_shows d n s ch task_op.BpDec e = dec_shows d n s (backpressure_of (instance_of n s) s)
task_shows d n s ch task_op.Exit e = absurd (cc)
task_shows d n s ch task_op.CbYield e = absurd (cc)
task_shows d n s ch (task_op.CbWait x) e = absurd (cc)
task_shows d n s ch (task_op.Code x) e = absurd (cc)

-- ---- Ops on sets

wait_quiet : (n : ℕ) (v : Given) (w : Option ℕ) → outcome_of_label (wait_label n v w) ≡ None
wait_quiet n v None = refl
wait_quiet n v (Some k) = refl

module _ (d : Doer) (n : ℕ) (ch : Choice) (s : Core) where
  takes_shows : (x : ℕ) (g : PickedEvent) → ShowsAs n (may (may_hand_on x g ch.woken s) (Continues (wait_label n (handed_out ch s g) ch.woken) (received_woken_by d n x ch.woken g (handed_out ch s g) s) n))
  takes_shows x g =
      if_lawful (here n) (may_hand_on x g ch.woken s) (Continues (wait_label n (handed_out ch s g) ch.woken) (received_woken_by d n x ch.woken g (handed_out ch s g) s) n) (refl, wait_quiet n (handed_out ch s g) ch.woken)

  goes_on_shows : (x : ℕ) (g : PickedEvent) → ShowsAs n (wait_goes_on_by d n x ch s g)
  goes_on_shows x NothingPicked = refl
  goes_on_shows x (PickedTaskEvent e) = takes_shows x (PickedTaskEvent e)
  goes_on_shows x (PickedMember h) = takes_shows x (PickedMember h)

  begins_shows : (x : ℕ) (b : Bool) → ShowsAs n (wait_begins_by d n ch s x b)
  begins_shows x true = if_traps (here n) (not (passes_check (instance_of n s) s)) trap.CannotBlockSyncTask (Stops (label.Thread (thread_label.Pauses n)) (wait_stops_checked n x s)) refl
  begins_shows x false = if_given (here n) (picked_event (waits_cancellable (task_of n s) s) (task_of n s) x (chosen n ch s) s) (wait_takes_by d n ch s) (λ g. (refl, refl))

  fresh_shows : (h : ℕ) → ShowsAs n (wait_rule d n h ch s op_progress.Fresh)
  fresh_shows h = if_found (here n) (set_at (instance_of n s) h s) trap.BadHandle (λ x. wait_begins_by d n ch s x (finds_nothing n x s)) (λ x. begins_shows x (finds_nothing n x s))

  wait_shows : (h : ℕ) (f : OpProgress) → ShowsAs n (wait_rule d n h ch s f)
  wait_shows h (op_progress.Waits x) = if_given (here n) (picked_event (waits_cancellable (task_of n s) s) (task_of n s) x (chosen n ch s) s) (wait_goes_on_by d n x ch s) (goes_on_shows x)
  wait_shows h op_progress.Fresh = fresh_shows h
  wait_shows h (op_progress.Calls sub) = fresh_shows h
  wait_shows h (op_progress.Answered v) = fresh_shows h
  wait_shows h (op_progress.Cancels sub) = fresh_shows h
  wait_shows h (op_progress.AwaitsEnd sub) = fresh_shows h
  wait_shows h op_progress.Suspends = fresh_shows h
  wait_shows h op_progress.Yields = fresh_shows h

  pub new_set_shows : ShowsAs n (set_new_rule d n s)
  new_set_shows =
      two_traps (here n) (not (fits 1 s)) (at_handle_limit s) trap.TableFull trap.HandleLimit (Continues (label.Set (set_label.New (new_handle (instance_of n s) s) n)) (finish d n (OneNumber (new_handle (instance_of n s) s)) (set_opened n s)) n) (refl, refl)

  pub drop_set_shows : (h : ℕ) → ShowsAs n (set_drop_rule d n h s)
  drop_set_shows h = if_found (here n) (set_at (instance_of n s) h s) trap.BadHandle (set_drop_by d n h s)
      (λ x. two_traps (here n) (has_waiters x s) (has_member x s) trap.WaitableSetDropHasWaiters trap.TableHasChildren (Continues (label.Set (set_label.Drop n)) (finish d n NoAnswer (set_closed n h x s)) n) (refl, refl))

  pub poll_shows : (h : ℕ) → ShowsAs n (poll_rule d n h ch s)
  poll_shows h = if_found (here n) (set_at (instance_of n s) h s) trap.BadHandle (λ x. or_never (picked_event false (task_of n s) x (chosen n ch s) s) (poll_takes_by d n ch s))
      (λ x. if_given (here n) (picked_event false (task_of n s) x (chosen n ch s) s) (poll_takes_by d n ch s) (λ g. (refl, refl)))

  pub waiting_shows : (h : ℕ) → ShowsAs n (wait_rule d n h ch s (op_progress_of n s))
  waiting_shows h = wait_shows h (op_progress_of n s)

-- ---- Ops on threads

module _ (d : Doer) (n : ℕ) (s : Core) where
  new_shows : (x v : ℕ) (o : Slot) → ShowsAs n (thread_new_rule d n x v s o)
  new_shows x v slot.Empty = tt
  new_shows x v slot.Bad = tt
  new_shows x v (slot.Script ops) = two_traps (here n) (not (fits 2 s)) (at_handle_limit s) trap.TableFull trap.HandleLimit (Continues (thread_new_label n s) (finish d n (OneNumber (new_thread_handle (instance_of n s) s)) (thread_added n x v s)) n) (refl, refl)

  pub later_shows : (h : ℕ) → ShowsAs n (resume_later_rule d n h s)
  later_shows h = if_found (here n) (thread_at (instance_of n s) h s) trap.BadHandle (resume_later_by d n s) (λ m. found m)
    where
      found : (m : ℕ) → ShowsAs n (resume_later_by d n s m)
      found m =
          let why = resume_why m s in
          let next : Why → Progress = λ w. Continues (label.Thread (thread_label.ResumeLater n)) (finish d n NoAnswer (put_low m w s)) n in
          if_traps (here n) (m == n) trap.CannotResumeThread (or_trap why trap.CannotResumeThread next) (if_found (here n) why trap.CannotResumeThread next (λ w. (refl, refl)))

  halts_shows : (x : Halt) (l : ThreadLabel) (b : Bool) → ShowsAs n (halts_by d x n (label.Thread l) s b)
  halts_shows x l true = refl
  halts_shows Suspension l false = tt
  halts_shows Yielding l false = (refl, refl)

  halt_shows : (x : Halt) (l : ThreadLabel) → ShowsAs n (halt_rule d x n (label.Thread l) s)
  halt_shows x l = halts_shows x l (passes_check (instance_of n s) s)

  resume_shows : (x : Halt) (h : ℕ) → ShowsAs n (then_resume_rule x n h s)
  resume_shows x h = if_found (here n) (thread_at (instance_of n s) h s) trap.BadHandle (then_resume_found x n s) (λ m. found m)
    where
      found : (m : ℕ) → ShowsAs n (then_resume_found x n s m)
      found m =
          let why = resume_why m s in
          let next : Why → Progress = λ w. Stops (pauses n) (halted_resuming x n m w s) in
          if_traps (here n) (m == n) trap.CannotResumeThread (or_trap why trap.CannotResumeThread next) (if_found (here n) why trap.CannotResumeThread next (λ w. refl))

  promotes_shows : (x : Halt) (l : ThreadLabel) (m : ℕ) (b : Bool) → ShowsAs n (then_promote_by d x n (label.Thread l) s m b)
  promotes_shows x l m true = refl
  promotes_shows x l m false = halt_shows x l

  promote_shows : (x : Halt) (h : ℕ) (l : ThreadLabel) → ShowsAs n (then_promote_rule d x n h (label.Thread l) s)
  promote_shows x h l =
      if_found (here n) (thread_at (instance_of n s) h s) trap.BadHandle (then_promote_found_by d x n (label.Thread l) s)
      (λ m. if_traps (here n) (m == n) trap.CannotResumeThread (then_promote_by d x n (label.Thread l) s m (has_yielded m s)) (promotes_shows x l m (has_yielded m s)))

  far_shows : (f : OpProgress) (l : ThreadLabel) (p : Progress) → ShowsAs n p → ShowsAs n (resumed_by d f n (label.Thread l) s p)
  far_shows op_progress.Suspends l p g = (refl, refl)
  far_shows op_progress.Yields l p g = (refl, refl)
  far_shows op_progress.Fresh l p g = g
  far_shows (op_progress.Waits x) l p g = g
  far_shows (op_progress.Calls sub) l p g = g
  far_shows (op_progress.Answered v) l p g = g
  far_shows (op_progress.Cancels sub) l p g = g
  far_shows (op_progress.AwaitsEnd sub) l p g = g

  pub halting_shows : (l : ThreadLabel) (row : Label → Progress) → ShowsAs n (row (label.Thread l)) → ShowsAs n (halting_by d n s l row)
  halting_shows l row g = far_shows (op_progress_of n s) l (row (label.Thread l)) g

  pub thread_shows : (c : Component) (o : ThreadOp) → ShowsAs n (thread_rule d c n s o)
  thread_shows c (thread_op.New r x v) = new_shows x (value_of n s v) (slot_at c (instance_of n s) x)
  thread_shows c (thread_op.Index r) = (refl, refl)
  thread_shows c (thread_op.ResumeLater x) = later_shows (value_of n s x)
  thread_shows c thread_op.Suspend = halting_shows (thread_label.Suspend n) (λ l. halt_rule d Suspension n l s) (halt_shows Suspension (thread_label.Suspend n))
  thread_shows c thread_op.Yield = halting_shows (thread_label.Yield n) (λ l. halt_rule d Yielding n l s) (halt_shows Yielding (thread_label.Yield n))
  thread_shows c (thread_op.SuspendThenResume x) = halting_shows (thread_label.SuspendThenResume n) (λ l. then_resume_rule Suspension n (value_of n s x) s) (resume_shows Suspension (value_of n s x))
  thread_shows c (thread_op.YieldThenResume x) = halting_shows (thread_label.YieldThenResume n) (λ l. then_resume_rule Yielding n (value_of n s x) s) (resume_shows Yielding (value_of n s x))
  thread_shows c (thread_op.SuspendThenPromote x) = halting_shows (thread_label.SuspendThenPromote n) (λ l. then_promote_rule d Suspension n (value_of n s x) l s) (promote_shows Suspension (value_of n s x) (thread_label.SuspendThenPromote n))
  thread_shows c (thread_op.YieldThenPromote x) = halting_shows (thread_label.YieldThenPromote n) (λ l. then_promote_rule d Yielding n (value_of n s x) l s) (promote_shows Yielding (value_of n s x) (thread_label.YieldThenPromote n))

-- an op that calls no host polls none
pub plain_polls : (c : Component) (h : OpProgress) (o : Op) → calls_host o ≡ false → polled_host c h o ≡ None
plain_polls c h (op.Call (call_op.CallHost r q i)) e = absurd (cc)
plain_polls c h (op.Call (call_op.CallSyncHost r i)) e = absurd (cc)
plain_polls c h o e = refl
