-- Rows that leave no choice: their labels show none, and they release no thread.
use Rattle.std.proofs.Common.{refl, suc, zero}
use Rattle.std.specs.Prelude.{Bool, List, None, Option, Some, false, is_some, nat_le, nat_lt, not, true, ℕ, ◌%◌, ◌*◌, ◌+◌, ◌/◌, ◌==◌, ◌≡◌}
use Rattle.machine_data.specs.Core.{Core}
use Rattle.machine_data.specs.Labels.{Choice, exit_label, join_label, ret_label, task_cancel_label, wait_label}
use Rattle.machine_data.specs.Moves.{PickedEvent, PickedMember, NothingPicked, PickedTaskEvent, picked_event, may_hand_on, passes_check, waits_cancellable}
use Rattle.machine_data.specs.Read.{at_handle_limit, backpressure_of, cancel_was_delivered, event_of, fits, foot_of, goal_of, has_ended, has_member, has_waiters, op_progress_of, instance_of, is_async_lifted, is_direct, is_explicit, is_joined, is_watched, join_of, kind_of, registers_of, set_at, subtask_at, subtask_ended, task_of, thread_at, undelivered_end, under_of, was_cancelled}
use Rattle.machine_data.specs.Statuses.{status_code}
use Rattle.machine_data.specs.Write.{set_join}
use Rattle.machine_data.specs.declared.component.Callee.{Callee}
use Rattle.machine_data.specs.declared.component.Component.{Component}
use Rattle.machine_data.specs.declared.component.ExportKind.TheVariants as kind
use Rattle.machine_data.specs.declared.component.ExportKind.{ExportKind}
use Rattle.machine_data.specs.declared.component.Slot.TheVariants as slot
use Rattle.machine_data.specs.declared.component.Slot.{Slot}
use Rattle.machine_data.specs.declared.label.Label.TheVariants as label
use Rattle.machine_data.specs.declared.label.Label.{Label}
use Rattle.machine_data.specs.declared.label.TaskLabel.TheVariants as task_label
use Rattle.machine_data.specs.declared.label.ThreadLabel.TheVariants as thread_label
use Rattle.machine_data.specs.declared.label.ThreadLabel.{ThreadLabel}
use Rattle.machine_data.specs.declared.op.CallOp.TheVariants as call_op
use Rattle.machine_data.specs.declared.op.CallOp.{CallOp}
use Rattle.machine_data.specs.declared.op.DataOp.TheVariants as data_op
use Rattle.machine_data.specs.declared.op.DataOp.{DataOp}
use Rattle.machine_data.specs.declared.op.Op.TheVariants as op
use Rattle.machine_data.specs.declared.op.Op.{Op}
use Rattle.machine_data.specs.declared.op.SetOp.TheVariants as set_op
use Rattle.machine_data.specs.declared.op.SetOp.{SetOp}
use Rattle.machine_data.specs.declared.op.TaskOp.TheVariants as task_op
use Rattle.machine_data.specs.declared.op.TaskOp.{TaskOp}
use Rattle.machine_data.specs.declared.op.ThreadOp.TheVariants as thread_op
use Rattle.machine_data.specs.declared.op.ThreadOp.{ThreadOp}
use Rattle.machine_data.specs.declared.records.Goal.TheVariants as goal
use Rattle.machine_data.specs.declared.records.Goal.{Goal}
use Rattle.machine_data.specs.declared.records.OpProgress.TheVariants as op_progress
use Rattle.machine_data.specs.declared.records.OpProgress.{OpProgress}
use Rattle.machine_data.specs.declared.records.Join.TheVariants as join
use Rattle.machine_data.specs.declared.records.Subtask.TheVariants as subtask
use Rattle.machine_data.specs.declared.records.Subtask.{Subtask}
use Rattle.machine_data.specs.declared.trap.Trap.TheVariants as trap
use Rattle.machine_data.specs.declared.statuses.Given.{Given}
use Rattle.machine_data.specs.declared.statuses.Status.TheVariants as status
use Rattle.machine_data.specs.declared.statuses.Status.{Status}
use Rattle.machine_data.specs.declared.component.HostDef.{HostDef}
use Rattle.machine_data.specs.declared.component.HostDef.TheVariants as host_def
use Rattle.machine_rules.specs.Calls.{AtOnce, Failing, FirstPoll, Later, call_begins, call_host_by, call_resumes, call_rule, call_status_by, call_sync_begins, call_sync_host_by, call_sync_host_rule, call_sync_rule, call_sync_status_by, enter_rule, first_polled, heard_first, polled_first, status_found}
use Rattle.machine_rules.specs.Cancels.{AlreadyEnded, Async, AskedBefore, ThreadWaits, CallbackYields, CancelCase, Mode, OtherwiseRuns, StartNotRun, Sync, after_cancel_by, cancel_aborts_host, cancel_asks, cancel_by, cancel_case, cancel_ended_by, cancel_found_by, cancel_guest_by, cancel_label, cancel_resumed, cancel_rule, cancel_subtask_by, cancel_unended_by, drop_by, subtask_rule, cancel_host_by}
use Rattle.machine_rules.specs.Data.{data_rule, skip_rule}
use Rattle.machine_rules.specs.Ends.{blocking_exit_rule, code_kind_rule, code_rule, code_wait_rule, direct_exit_to, exit_rule_for, has_event_for, held_by_flag, implicit_exit_rule, kind_exit_rule, leaves_no_result, may_tell, passes_after_return, passes_after_stop, sync_exit_rule, thread_exit_rule}
use Rattle.machine_rules.specs.Finish.{Doer}
use Rattle.machine_rules.specs.OpParts.{is_data_op}
use Rattle.machine_rules.specs.Progress.{Progress, may, or_never, or_trap, trap_if}
use Rattle.machine_rules.specs.Scripts.{export_kind, host_at, op_of, slot_at, value_of, values_in}
use Rattle.machine_rules.specs.Sets.{chosen, finds_nothing, handed_out, join_done_by, join_to_by, may_wake_new, poll_rule, set_drop_by, set_new_rule, set_rule, wait_begins_by, wait_goes_on_by, wait_rule}
use Rattle.machine_rules.specs.Step.{did, op_rule, own_script}
use Rattle.machine_rules.specs.Task.{dec_by, inc_rule, ret_bad_rule, ret_rule, task_cancel_rule, task_rule}
use Rattle.machine_rules.specs.Threads.{Halt, Suspension, Yielding, halt_rule, halting_by, halts_by, has_yielded, resume_later_by, resume_why, resumed_by, then_promote_by, then_promote_found_by, then_promote_rule, then_resume_found, then_resume_rule, thread_new_rule, thread_rule}
use Rattle.machine_rules.specs.Picks.{LeavesNoChoice, ReleasesNone, Silent}
use Rattle.machine_data.specs.declared.trap.Trap.{Trap}

pub trap_if_calm : (b : Bool) (t : Trap) (p : Progress) → LeavesNoChoice p → LeavesNoChoice (trap_if b t p)
trap_if_calm true t p calm = tt
trap_if_calm false t p calm = calm

pub or_trap_calm : {X : Type 0} (o : Option X) (t : Trap) (next : X → Progress) → ((x : X) → LeavesNoChoice (next x)) → LeavesNoChoice (or_trap o t next)
or_trap_calm None t next calm = tt
or_trap_calm (Some x) t next calm = calm x

silent_cancel : (mode : Mode) (n v : ℕ) → Silent (cancel_label mode n v)
silent_cancel Async n v = (refl, refl)
silent_cancel Sync n v = (refl, refl)

-- ---- Registers and words

pub skip_calm : (c : Component) (n k : ℕ) (s : Core) (b : Bool) → LeavesNoChoice (skip_rule c n k s b)
skip_calm c n k s true = (refl, refl)
skip_calm c n k s false = (refl, refl)

pub data_calm : (c : Component) (n : ℕ) (s : Core) (o : DataOp) → LeavesNoChoice (data_rule c n s o)
data_calm c n s (data_op.Set r x) = (refl, refl)
data_calm c n s (data_op.Add r x) = (refl, refl)
data_calm c n s (data_op.Handle r x) = (refl, refl)
data_calm c n s (data_op.Load r w) = (refl, refl)
data_calm c n s (data_op.Store w x) = (refl, refl)
data_calm c n s (data_op.SkipEq x y k) = skip_calm c n k s (value_of n s x == value_of n s y)

-- ---- Ends

module _ (d : Doer) (n : ℕ) (s : Core) where
  abbrev fails_check : Bool
  fails_check = not (passes_check (instance_of n s) s)

  -- ---- Tasks

  pub ret_bad_calm : LeavesNoChoice (ret_bad_rule n s)
  ret_bad_calm = trap_if_calm (has_ended (task_of n s) s) _ _ tt

  pub inc_calm : LeavesNoChoice (inc_rule d n s)
  inc_calm = trap_if_calm (nat_le 65535 (backpressure_of (instance_of n s) s)) _ _ (refl, refl)

  -- ---- Sets

  pub set_new_calm : LeavesNoChoice (set_new_rule d n s)
  set_new_calm = trap_if_calm (not (fits 1 s)) _ _ (trap_if_calm (at_handle_limit s) _ _ (refl, refl))

  pub set_drop_calm : (h x : ℕ) → LeavesNoChoice (set_drop_by d n h s x)
  set_drop_calm h x = trap_if_calm (has_waiters x s) _ _ (trap_if_calm (has_member x s) _ _ (refl, refl))

  -- ---- Calls

  pub call_begins_calm : (c : Component) (e : Callee) (g : Goal) (words : List ℕ) → LeavesNoChoice (call_begins c n e g words s)
  call_begins_calm c e g words = trap_if_calm (not (fits 3 s)) _ _ (refl, refl)

  pub call_status_calm : (k : ℕ) (x : Status) → LeavesNoChoice (call_status_by d n k s x)
  call_status_calm k status.Returned = (refl, refl)
  call_status_calm k status.Starting = trap_if_calm (at_handle_limit s) _ _ (refl, refl)
  call_status_calm k status.Started = trap_if_calm (at_handle_limit s) _ _ (refl, refl)
  call_status_calm k status.StartCancelled = trap_if_calm (at_handle_limit s) _ _ (refl, refl)
  call_status_calm k status.ReturnCancelled = trap_if_calm (at_handle_limit s) _ _ (refl, refl)

  pub call_calm : (c : Component) (q : ℕ) (e : Callee) (words : List ℕ) (far : OpProgress) → LeavesNoChoice (call_rule d c n q e words s far)
  call_calm c q e words (op_progress.Calls (subtask.Guest k)) = call_status_calm k (status_found k s)
  call_calm c q e words _ = call_begins_calm c e (goal.Register q) words

  pub sync_status_calm : (k : ℕ) (x : Status) → LeavesNoChoice (call_sync_status_by d n k s x)
  sync_status_calm k status.Returned = (refl, refl)
  sync_status_calm k status.Starting = trap_if_calm (not (passes_check (instance_of n s) (call_resumes n k s))) _ _ (refl, refl)
  sync_status_calm k status.Started = trap_if_calm (not (passes_check (instance_of n s) (call_resumes n k s))) _ _ (refl, refl)
  sync_status_calm k status.StartCancelled = trap_if_calm (not (passes_check (instance_of n s) (call_resumes n k s))) _ _ (refl, refl)
  sync_status_calm k status.ReturnCancelled = trap_if_calm (not (passes_check (instance_of n s) (call_resumes n k s))) _ _ (refl, refl)

  pub enter_calm : (e : Callee) (x : ExportKind) (words : List ℕ) → LeavesNoChoice (enter_rule n e x words s)
  enter_calm e x words = trap_if_calm (not (fits 3 s)) _ _ (trap_if_calm (at_handle_limit s) _ _ (refl, refl))

  pub sync_begins_calm : (c : Component) (e : Callee) (words : List ℕ) (b : Bool) → LeavesNoChoice (call_sync_begins c n e words s b)
  sync_begins_calm c e words true = call_begins_calm c e goal.Answer words
  sync_begins_calm c e words false = enter_calm e (export_kind c e) words

  pub sync_calm : (c : Component) (e : Callee) (words : List ℕ) (far : OpProgress) → LeavesNoChoice (call_sync_rule d c n e words s far)
  sync_calm c e words (op_progress.Answered v) = (refl, refl)
  sync_calm c e words (op_progress.Calls (subtask.Guest k)) = sync_status_calm k (status_found k s)
  sync_calm c e words _ = sync_begins_calm c e words (is_async_lifted (export_kind c e))

  pub host_calm : (q : ℕ) (x : FirstPoll) → LeavesNoChoice (call_host_by d n q s x)
  host_calm q (AtOnce v) = (refl, refl)
  host_calm q Failing = tt
  host_calm q (Later host) = trap_if_calm (not (fits 1 s)) _ _ (trap_if_calm (at_handle_limit s) _ _ (refl, refl))

  pub sync_host_polled_calm : (x : FirstPoll) → LeavesNoChoice (call_sync_host_by d n s x)
  sync_host_polled_calm (AtOnce v) = (refl, refl)
  sync_host_polled_calm Failing = tt
  sync_host_polled_calm (Later host) = trap_if_calm (not (fits 1 s)) _ _ (trap_if_calm fails_check _ _ (refl, refl))

  pub first_polled_calm : (host : HostDef) (next : FirstPoll → Progress) → ((x : FirstPoll) → LeavesNoChoice (next x)) → LeavesNoChoice (first_polled host next)
  first_polled_calm (host_def.Settled polls value) next silent = silent (polled_first polls value)
  first_polled_calm host_def.Open next silent = λ answer. silent (heard_first answer)

  pub sync_host_calm : (c : Component) (h : ℕ) (far : OpProgress) → LeavesNoChoice (call_sync_host_rule d c n h s far)
  sync_host_calm c h (op_progress.Calls (subtask.Host i)) = (refl, refl)
  sync_host_calm c h _ = first_polled_calm (host_at c h) (call_sync_host_by d n s) (λ x. sync_host_polled_calm x)

-- ---- Cancels and drops

module _ (d : Doer) (mode : Mode) (n : ℕ) where
  pub ended_calm : (sub : Subtask) (s : Core) (e : Option Status) → LeavesNoChoice (cancel_ended_by d mode n sub s e)
  ended_calm sub s None = tt
  ended_calm sub s (Some e) = silent_cancel mode n (status_code e)

  pub unended_calm : (sub : Subtask) (s : Core) (m : Mode) → LeavesNoChoice (cancel_unended_by d m n sub s)
  unended_calm sub s Async = (refl, refl)
  unended_calm sub s Sync = trap_if_calm (not (passes_check (instance_of n s) s)) _ _ (refl, refl)

  pub by_end_calm : (sub : Subtask) (s : Core) (b : Bool) → LeavesNoChoice (cancel_by d mode n sub s b)
  by_end_calm sub s true = ended_calm sub s (undelivered_end (event_of sub s))
  by_end_calm sub s false = unended_calm sub s mode

  pub after_calm : (sub : Subtask) (s : Core) → LeavesNoChoice (after_cancel_by d mode n sub s)
  after_calm sub s = by_end_calm sub s (subtask_ended sub s)

  -- but where it takes one of several threads, which its label doesn't show
  pub guest_calm : (k : ℕ) (s : Core) (x : CancelCase) → (x ≡ ThreadWaits → ⊥) → LeavesNoChoice (cancel_guest_by d mode n k s x)
  guest_calm k s AlreadyEnded apart = ended_calm (subtask.Guest k) s (undelivered_end (event_of (subtask.Guest k) s))
  guest_calm k s StartNotRun apart = silent_cancel mode n 3
  guest_calm k s AskedBefore apart = tt
  guest_calm k s ThreadWaits apart = absurd (apart refl)
  guest_calm k s CallbackYields apart = (refl, refl)
  guest_calm k s OtherwiseRuns apart = after_calm (subtask.Guest k) (cancel_asks k s)

  pub host_cancel_calm : (s : Core) (i : ℕ) → LeavesNoChoice (cancel_host_by d mode n i s)
  host_cancel_calm s i = trap_if_calm (was_cancelled i s) _ _ (after_calm (subtask.Host i) (cancel_aborts_host i s))

  pub cancelling_calm : (h : ℕ) (s : Core) (sub : Subtask) → LeavesNoChoice (cancel_rule d mode n h s (op_progress.Cancels sub))
  cancelling_calm h s sub = after_calm sub (cancel_resumed n sub s)

  pub awaiting_calm : (h : ℕ) (s : Core) (sub : Subtask) → LeavesNoChoice (cancel_rule d mode n h s (op_progress.AwaitsEnd sub))
  awaiting_calm h s sub = let t = set_join sub join.Nowhere s in ended_calm sub t (undelivered_end (event_of sub t))

pub drop_calm : (d : Doer) (n h : ℕ) (s : Core) (sub : Subtask) → LeavesNoChoice (drop_by d n h s sub)
drop_calm d n h s sub =
    trap_if_calm (is_watched (join_of sub s)) _ _ (
    trap_if_calm (not (subtask_ended sub s)) _ _ (
    trap_if_calm (is_some (event_of sub s)) _ _ (refl, refl)))

abbrev pub is_cancel : CallOp → Bool
is_cancel (call_op.Cancel r x) = true
is_cancel (call_op.CancelSync r x) = true
is_cancel o = false

pub calls_calm : (d : Doer) (c : Component) (n : ℕ) (s : Core) (o : CallOp) → is_cancel o ≡ false → LeavesNoChoice (subtask_rule d c n s o)
calls_calm d c n s (call_op.Call r q e xs) none = call_calm d n s c q e (values_in (registers_of n s) xs) (op_progress_of n s)
calls_calm d c n s (call_op.CallSync r e xs) none = sync_calm d n s c e (values_in (registers_of n s) xs) (op_progress_of n s)
calls_calm d c n s (call_op.CallHost r q h) none = first_polled_calm d n s (host_at c h) (call_host_by d n q s) (λ x. host_calm d n s q x)
calls_calm d c n s (call_op.CallSyncHost r h) none = sync_host_calm d n s c h (op_progress_of n s)
calls_calm d c n s (call_op.Cancel r x) none = absurd (cc)
calls_calm d c n s (call_op.CancelSync r x) none = absurd (cc)
calls_calm d c n s (call_op.Drop x) none =
    or_trap_calm (subtask_at (instance_of n s) (value_of n s x) s) _ _ (λ sub. drop_calm d n (value_of n s x) s sub)

-- ---- Threads

pub new_calm : (d : Doer) (n x v : ℕ) (s : Core) (y : Slot) → LeavesNoChoice (thread_new_rule d n x v s y)
new_calm d n x v s slot.Empty = tt
new_calm d n x v s slot.Bad = tt
new_calm d n x v s (slot.Script ops) = trap_if_calm (not (fits 2 s)) _ _ (trap_if_calm (at_handle_limit s) _ _ (refl, refl))

pub later_calm : (d : Doer) (n : ℕ) (s : Core) (m : ℕ) → LeavesNoChoice (resume_later_by d n s m)
later_calm d n s m = trap_if_calm (m == n) _ _ (or_trap_calm (resume_why m s) _ _ (λ w. (refl, refl)))

pub then_resume_calm : (x : Halt) (n : ℕ) (s : Core) (m : ℕ) → LeavesNoChoice (then_resume_found x n s m)
then_resume_calm x n s m = trap_if_calm (m == n) _ _ (or_trap_calm (resume_why m s) _ _ (λ w. (refl, refl)))

module _ (d : Doer) (n : ℕ) (l : Label) (silent : Silent l) (s : Core) where
  pub halts_calm : (x : Halt) (b : Bool) → LeavesNoChoice (halts_by d x n l s b)
  halts_calm x true = (refl, refl)
  halts_calm Suspension false = tt
  halts_calm Yielding false = silent

  pub halt_calm : (x : Halt) → LeavesNoChoice (halt_rule d x n l s)
  halt_calm x = halts_calm x (passes_check (instance_of n s) s)

  pub promote_calm : (x : Halt) (m : ℕ) (b : Bool) → LeavesNoChoice (then_promote_by d x n l s m b)
  promote_calm x m true = (refl, refl)
  promote_calm x m false = halt_calm x

  pub promote_found_calm : (x : Halt) (m : ℕ) → LeavesNoChoice (then_promote_found_by d x n l s m)
  promote_found_calm x m = trap_if_calm (m == n) _ _ (promote_calm x m (has_yielded m s))

  pub then_promote_calm : (x : Halt) (h : ℕ) → LeavesNoChoice (then_promote_rule d x n h l s)
  then_promote_calm x h = or_trap_calm (thread_at (instance_of n s) h s) _ _ (λ m. promote_found_calm x m)

  pub by_calm : (far : OpProgress) (p : Progress) → LeavesNoChoice p → LeavesNoChoice (resumed_by d far n l s p)
  by_calm op_progress.Suspends p h = silent
  by_calm op_progress.Yields p h = silent
  by_calm _ p h = h

module _ (d : Doer) (n : ℕ) (s : Core) where
  pub resume_rule_calm : (x : Halt) (h : ℕ) → LeavesNoChoice (then_resume_rule x n h s)
  resume_rule_calm x h = or_trap_calm (thread_at (instance_of n s) h s) _ _ (λ m. then_resume_calm x n s m)

  pub halting_calm : (l : ThreadLabel) (row : Label → Progress) → LeavesNoChoice (row (label.Thread l)) → LeavesNoChoice (halting_by d n s l row)
  halting_calm l row h = by_calm d n (label.Thread l) (refl, refl) s (op_progress_of n s) (row (label.Thread l)) h

  pub thread_calm : (c : Component) (o : ThreadOp) → LeavesNoChoice (thread_rule d c n s o)
  thread_calm c (thread_op.New r x v) = new_calm d n x (value_of n s v) s (slot_at c (instance_of n s) x)
  thread_calm c (thread_op.Index r) = (refl, refl)
  thread_calm c (thread_op.ResumeLater x) = or_trap_calm (thread_at (instance_of n s) (value_of n s x) s) _ _ (λ m. later_calm d n s m)
  thread_calm c thread_op.Suspend =
      let l = thread_label.Suspend n in halting_calm l (λ l. halt_rule d Suspension n l s) (halt_calm d n (label.Thread l) (refl, refl) s Suspension)
  thread_calm c thread_op.Yield =
      let l = thread_label.Yield n in halting_calm l (λ l. halt_rule d Yielding n l s) (halt_calm d n (label.Thread l) (refl, refl) s Yielding)
  thread_calm c (thread_op.SuspendThenResume x) =
      halting_calm (thread_label.SuspendThenResume n) (λ l. then_resume_rule Suspension n (value_of n s x) s) (resume_rule_calm Suspension (value_of n s x))
  thread_calm c (thread_op.YieldThenResume x) =
      halting_calm (thread_label.YieldThenResume n) (λ l. then_resume_rule Yielding n (value_of n s x) s) (resume_rule_calm Yielding (value_of n s x))
  thread_calm c (thread_op.SuspendThenPromote x) =
      let l = thread_label.SuspendThenPromote n in
      halting_calm l (λ l. then_promote_rule d Suspension n (value_of n s x) l s) (then_promote_calm d n (label.Thread l) (refl, refl) s Suspension (value_of n s x))
  thread_calm c (thread_op.YieldThenPromote x) =
      let l = thread_label.YieldThenPromote n in
      halting_calm l (λ l. then_promote_rule d Yielding n (value_of n s x) l s) (then_promote_calm d n (label.Thread l) (refl, refl) s Yielding (value_of n s x))

-- ---- Rules that release no thread, and whose labels may show a choice

trap_if_none : (b : Bool) (t : Trap) (p : Progress) → ReleasesNone p → ReleasesNone (trap_if b t p)
trap_if_none true t p none = tt
trap_if_none false t p none = none

or_trap_none : {X : Type 0} (o : Option X) (t : Trap) (next : X → Progress) → ((x : X) → ReleasesNone (next x)) → ReleasesNone (or_trap o t next)
or_trap_none None t next none = tt
or_trap_none (Some x) t next none = none x

may_none : (b : Bool) (p : Progress) → ReleasesNone p → ReleasesNone (may b p)
may_none true p none = none
may_none false p none = tt

or_never_none : {X : Type 0} (o : Option X) (next : X → Progress) → ((x : X) → ReleasesNone (next x)) → ReleasesNone (or_never o next)
or_never_none None next none = tt
or_never_none (Some x) next none = none x

module _ (d : Doer) (n : ℕ) (s : Core) where
  abbrev check_fails : Bool
  check_fails = not (passes_check (instance_of n s) s)

  pub thread_exit_none : ReleasesNone (thread_exit_rule n s)
  thread_exit_none = trap_if_none check_fails _ _ (trap_if_none (leaves_no_result n s) _ _ tt)

  pub sync_exit_none : (w : Option ℕ) → ReleasesNone (sync_exit_rule n w s)
  sync_exit_none w = may_none (may_tell (task_of n s) w s) _ tt

  pub direct_exit_none : (x : ExportKind) (m : Option ℕ) → ReleasesNone (direct_exit_to n x s m)
  direct_exit_none x None = tt
  direct_exit_none kind.Sync (Some m) = tt
  direct_exit_none kind.Blocking (Some m) = trap_if_none check_fails _ _ tt
  direct_exit_none kind.Stackful (Some m) = trap_if_none check_fails _ _ tt
  direct_exit_none kind.Callback (Some m) = trap_if_none check_fails _ _ tt

  pub ret_none : (v : ℕ) (w : Option ℕ) → ReleasesNone (ret_rule d n v w s)
  ret_none v w =
      trap_if_none (has_ended (task_of n s) s) _ _ (
      trap_if_none (not (is_async_lifted (kind_of (task_of n s) s))) _ _ (
      may_none (may_tell (task_of n s) w s) _ tt))

  pub task_cancel_none : (w : Option ℕ) → ReleasesNone (task_cancel_rule d n w s)
  task_cancel_none w =
      trap_if_none (not (cancel_was_delivered (task_of n s) s)) _ _ (
      trap_if_none (has_ended (task_of n s) s) _ _ (
      may_none (may_tell (task_of n s) w s) _ tt))

  pub wait_on_none : (x : ℕ) (ch : Choice) (g : PickedEvent) → ReleasesNone (wait_goes_on_by d n x ch s g)
  wait_on_none x ch NothingPicked = tt
  wait_on_none x ch (PickedTaskEvent e) =
      may_none (may_hand_on x (PickedTaskEvent e) ch.woken s) _ tt
  wait_on_none x ch (PickedMember sub) =
      may_none (may_hand_on x (PickedMember sub) ch.woken s) _ tt

  abbrev picked_event_here : Choice → ℕ → Option PickedEvent
  picked_event_here ch x = picked_event (waits_cancellable (task_of n s) s) (task_of n s) x (chosen n ch s) s

  abbrev polled_event : Choice → ℕ → Option PickedEvent
  polled_event ch x = picked_event false (task_of n s) x (chosen n ch s) s

  pub wait_begins_none : (ch : Choice) (x : ℕ) (b : Bool) → ReleasesNone (wait_begins_by d n ch s x b)
  wait_begins_none ch x true = trap_if_none check_fails _ _ tt
  wait_begins_none ch x false = or_never_none (picked_event_here ch x) _ (λ g. tt)

  pub wait_found_none : (h : ℕ) (ch : Choice) → ReleasesNone (or_trap (set_at (instance_of n s) h s) trap.BadHandle (λ x. wait_begins_by d n ch s x (finds_nothing n x s)))
  wait_found_none h ch = or_trap_none (set_at (instance_of n s) h s) _ _ (λ x. wait_begins_none ch x (finds_nothing n x s))

  pub wait_none : (h : ℕ) (ch : Choice) (far : OpProgress) → ReleasesNone (wait_rule d n h ch s far)
  wait_none h ch (op_progress.Waits x) = or_never_none (picked_event_here ch x) _ (λ g. wait_on_none x ch g)
  wait_none h ch _ = wait_found_none h ch

  pub join_done_none : (sub : Subtask) (w : Option ℕ) (x : Option ℕ) → ReleasesNone (join_done_by d n sub w s x)
  join_done_none sub w x =
      trap_if_none (is_watched (join_of sub s)) _ _ (
      may_none (may_wake_new (event_of sub s) x w s) _ tt)

  pub join_to_none : (h : ℕ) (w : Option ℕ) (sub : Subtask) → ReleasesNone (join_to_by d n h w s sub)
  join_to_none zero w sub = join_done_none sub w None
  join_to_none (suc h) w sub = or_trap_none (set_at (instance_of n s) (suc h) s) _ _ (λ x. join_done_none sub w (Some x))

  pub poll_none : (h : ℕ) (ch : Choice) → ReleasesNone (poll_rule d n h ch s)
  poll_none h ch = or_trap_none (set_at (instance_of n s) h s) _ _ (λ y. or_never_none (polled_event ch y) _ (λ g. tt))
