-- The op of a running thread shows a label of its own.
use Rattle.laws_labels.proofs.ShowLemmas.{may_shows, or_never_shows, or_trap_shows, trap_if_shows, wider}
use Rattle.laws_labels.specs.Own.{Shows, is_done, is_own}
use Rattle.std.proofs.Common.{refl, suc, zero}
use Rattle.std.specs.Prelude.{Bool, List, None, Option, Some, false, is_some, nat_le, nat_lt, not, true, ℕ, ◌%◌, ◌*◌, ◌+◌, ◌/◌, ◌==◌, ◌≡◌}
use Rattle.machine_data.specs.Core.{Core}
use Rattle.machine_data.specs.Labels.{Choice, exit_label, join_label, ret_label, task_cancel_label, wait_label}
use Rattle.machine_data.specs.Moves.{PickedEvent, PickedMember, NothingPicked, PickedTaskEvent, picked_event, may_hand_on, passes_check, waits_cancellable}
use Rattle.machine_data.specs.Read.{at_handle_limit, backpressure_of, cancel_was_delivered, event_of, fits, foot_of, goal_of, has_ended, has_member, has_waiters, op_progress_of, instance_of, is_async_lifted, is_direct, is_explicit, is_joined, is_watched, join_of, kind_of, registers_of, set_at, subtask_at, subtask_ended, task_of, thread_at, undelivered_end, under_of, was_cancelled}
use Rattle.machine_data.specs.Statuses.{status_code}
use Rattle.machine_data.specs.Write.{set_join}
use Rattle.machine_data.specs.declared.component.Callee.{Callee}
use Rattle.machine_data.specs.declared.component.Component.{Component}
use Rattle.machine_data.specs.declared.component.ExportKind.TheVariants as kind
use Rattle.machine_data.specs.declared.component.ExportKind.{ExportKind}
use Rattle.machine_data.specs.declared.component.Slot.TheVariants as slot
use Rattle.machine_data.specs.declared.component.Slot.{Slot}
use Rattle.machine_data.specs.declared.label.Label.TheVariants as label
use Rattle.machine_data.specs.declared.label.Label.{Label}
use Rattle.machine_data.specs.declared.label.TaskLabel.TheVariants as task_label
use Rattle.machine_data.specs.declared.label.ThreadLabel.TheVariants as thread_label
use Rattle.machine_data.specs.declared.label.ThreadLabel.{ThreadLabel}
use Rattle.machine_data.specs.declared.op.CallOp.TheVariants as call_op
use Rattle.machine_data.specs.declared.op.CallOp.{CallOp}
use Rattle.machine_data.specs.declared.op.DataOp.TheVariants as data_op
use Rattle.machine_data.specs.declared.op.DataOp.{DataOp}
use Rattle.machine_data.specs.declared.op.Op.TheVariants as op
use Rattle.machine_data.specs.declared.op.Op.{Op}
use Rattle.machine_data.specs.declared.op.SetOp.TheVariants as set_op
use Rattle.machine_data.specs.declared.op.SetOp.{SetOp}
use Rattle.machine_data.specs.declared.op.TaskOp.TheVariants as task_op
use Rattle.machine_data.specs.declared.op.TaskOp.{TaskOp}
use Rattle.machine_data.specs.declared.op.ThreadOp.TheVariants as thread_op
use Rattle.machine_data.specs.declared.op.ThreadOp.{ThreadOp}
use Rattle.machine_data.specs.declared.records.Goal.TheVariants as goal
use Rattle.machine_data.specs.declared.records.Goal.{Goal}
use Rattle.machine_data.specs.declared.records.OpProgress.TheVariants as op_progress
use Rattle.machine_data.specs.declared.records.OpProgress.{OpProgress}
use Rattle.machine_data.specs.declared.records.Join.TheVariants as join
use Rattle.machine_data.specs.declared.records.Subtask.TheVariants as subtask
use Rattle.machine_data.specs.declared.records.Subtask.{Subtask}
use Rattle.machine_data.specs.declared.trap.Trap.TheVariants as trap
use Rattle.machine_data.specs.declared.statuses.Given.{Given}
use Rattle.machine_data.specs.declared.statuses.Status.TheVariants as status
use Rattle.machine_data.specs.declared.statuses.Status.{Status}
use Rattle.machine_data.specs.declared.component.HostDef.{HostDef}
use Rattle.machine_data.specs.declared.component.HostDef.TheVariants as host_def
use Rattle.machine_rules.specs.Calls.{AtOnce, Failing, FirstPoll, Later, call_begins, call_host_by, call_resumes, call_rule, call_status_by, call_sync_begins, call_sync_host_by, call_sync_host_rule, call_sync_rule, call_sync_status_by, enter_rule, first_polled, heard_first, polled_first, status_found}
use Rattle.machine_rules.specs.Cancels.{AlreadyEnded, Async, AskedBefore, ThreadWaits, CallbackYields, CancelCase, Mode, OtherwiseRuns, StartNotRun, Sync, after_cancel_by, cancel_aborts_host, cancel_asks, cancel_by, cancel_case, cancel_ended_by, cancel_found_by, cancel_guest_by, cancel_label, cancel_resumed, cancel_rule, cancel_subtask_by, cancel_unended_by, drop_by, subtask_rule}
use Rattle.machine_rules.specs.Data.{data_rule, skip_rule}
use Rattle.machine_rules.specs.Ends.{blocking_exit_rule, code_kind_rule, code_rule, code_wait_rule, direct_exit_to, exit_rule_for, has_event_for, held_by_flag, implicit_exit_rule, kind_exit_rule, leaves_no_result, may_tell, passes_after_return, passes_after_stop, sync_exit_rule, thread_exit_rule}
use Rattle.machine_rules.specs.Finish.{Doer}
use Rattle.machine_rules.specs.OpParts.{is_data_op}
use Rattle.machine_rules.specs.Progress.{Progress, or_trap}
use Rattle.machine_rules.specs.Scripts.{export_kind, host_at, op_of, slot_at, value_of, values_in}
use Rattle.machine_rules.specs.Sets.{chosen, finds_nothing, handed_out, join_done_by, join_to_by, may_wake_new, set_drop_by, set_new_rule, set_rule, wait_begins_by, wait_goes_on_by, wait_rule}
use Rattle.machine_rules.specs.Step.{did, op_rule, own_script}
use Rattle.machine_rules.specs.Task.{dec_by, inc_rule, ret_bad_rule, ret_rule, task_cancel_rule, task_rule}
use Rattle.machine_rules.specs.Threads.{Halt, Suspension, Yielding, halt_rule, halting_by, halts_by, has_yielded, resume_later_by, resume_why, resumed_by, then_promote_by, then_promote_found_by, then_promote_rule, then_resume_found, then_resume_rule, thread_new_rule, thread_rule}

abbrev pub IsOwn : Label → Type 0
IsOwn l = is_own l ≡ true

-- of an op other than one on registers and memory cells
abbrev pub IsDone : Label → Type 0
IsDone l = is_done l ≡ true

abbrev Own : Progress → Type 0
Own p = Shows IsDone p

module _ (n : ℕ) where
  own_ret : (v : ℕ) (w : Option ℕ) → is_done (ret_label n v w) ≡ true
  own_ret v None = refl
  own_ret v (Some w) = refl

  own_cancel : (w : Option ℕ) → is_done (task_cancel_label n w) ≡ true
  own_cancel None = refl
  own_cancel (Some w) = refl

  own_exit : (w : Option ℕ) → is_done (exit_label n w) ≡ true
  own_exit None = refl
  own_exit (Some w) = refl

  own_wait : (v : Given) (w : Option ℕ) → is_done (wait_label n v w) ≡ true
  own_wait v None = refl
  own_wait v (Some w) = refl

  own_join : (w : Option ℕ) → is_done (join_label n w) ≡ true
  own_join None = refl
  own_join (Some w) = refl

own_subtask_cancel : (mode : Mode) (n v : ℕ) → is_done (cancel_label mode n v) ≡ true
own_subtask_cancel Async n v = refl
own_subtask_cancel Sync n v = refl

-- ---- Registers and memory cells

skip_own : (c : Component) (n k : ℕ) (s : Core) (b : Bool) → Shows IsOwn (skip_rule c n k s b)
skip_own c n k s true = refl
skip_own c n k s false = refl

data_own : (c : Component) (n : ℕ) (s : Core) (o : DataOp) → Shows IsOwn (data_rule c n s o)
data_own c n s (data_op.Set r x) = refl
data_own c n s (data_op.Add r x) = refl
data_own c n s (data_op.Handle r x) = refl
data_own c n s (data_op.Load r w) = refl
data_own c n s (data_op.Store w x) = refl
data_own c n s (data_op.SkipEq x y k) = skip_own c n k s (value_of n s x == value_of n s y)

-- ---- Ends

module _ (d : Doer) (n : ℕ) (s : Core) where
  abbrev fails_check : Bool
  fails_check = not (passes_check (instance_of n s) s)

  thread_exit_own : Own (thread_exit_rule n s)
  thread_exit_own = trap_if_shows IsDone fails_check _ _ refl (trap_if_shows IsDone (leaves_no_result n s) _ _ refl refl)

  sync_exit_own : (w : Option ℕ) → Own (sync_exit_rule n w s)
  sync_exit_own w = may_shows IsDone (may_tell (task_of n s) w s) _ (own_exit n w)

  blocking_exit_own : (w : Option ℕ) → Own (blocking_exit_rule n w s)
  blocking_exit_own w =
      trap_if_shows IsDone (not (passes_after_return n w s)) _ _ refl (
      may_shows IsDone (may_tell (task_of n s) w s) _ (λ order. own_exit n w))

  pub direct_exit_own : (x : ExportKind) (m : Option ℕ) → Own (direct_exit_to n x s m)
  direct_exit_own x None = tt
  direct_exit_own kind.Sync (Some m) = refl
  direct_exit_own kind.Blocking (Some m) = trap_if_shows IsDone fails_check _ _ refl refl
  direct_exit_own kind.Stackful (Some m) = trap_if_shows IsDone fails_check _ _ refl refl
  direct_exit_own kind.Callback (Some m) = trap_if_shows IsDone fails_check _ _ refl refl

  module _ (l : Label) (own : is_done l ≡ true) where
    code_wait_own : (x : ℕ) (held : List ℕ) (b : Bool) → Own (code_wait_rule l n x held s b)
    code_wait_own x held true = λ order. own
    code_wait_own x held false = λ order. own

    code_kind_own : (held : List ℕ) (k rest : ℕ) → Own (code_kind_rule l n held s k rest)
    code_kind_own held zero rest =
        trap_if_shows IsDone (not (passes_after_stop (instance_of n s) (foot_of n s) held s)) _ _ refl (
        trap_if_shows IsDone (leaves_no_result n s) _ _ refl (λ order. own))
    code_kind_own held (suc zero) rest = λ order. own
    code_kind_own held (suc (suc zero)) rest =
        or_trap_shows IsDone (set_at (instance_of n s) rest s) _ _ refl (λ x. code_wait_own x held (has_event_for (task_of n s) x s))
    code_kind_own held (suc (suc (suc k))) rest = refl

    code_own : (code : ℕ) → Own (code_rule l n s code)
    code_own code =
        trap_if_shows IsDone (nat_lt 4294967295 code) _ _ refl (code_kind_own (held_by_flag (instance_of n s) s) (code % 16) (code / 16))

  kind_exit_own : (w : Option ℕ) (x : ExportKind) → Own (kind_exit_rule n w s x)
  kind_exit_own w kind.Sync = sync_exit_own w
  kind_exit_own w kind.Blocking = blocking_exit_own w
  kind_exit_own w kind.Stackful = thread_exit_own
  kind_exit_own w kind.Callback = code_own (exit_label n None) refl 0

  implicit_exit_own : (w : Option ℕ) (b : Bool) → Own (implicit_exit_rule n w s b)
  implicit_exit_own w true = direct_exit_own (kind_of (task_of n s) s) (under_of n s)
  implicit_exit_own w false = kind_exit_own w (kind_of (task_of n s) s)

  exit_for_own : (w : Option ℕ) (b : Bool) → Own (exit_rule_for n w s b)
  exit_for_own w true = thread_exit_own
  exit_for_own w false = implicit_exit_own w (is_direct (goal_of (task_of n s) s))

  -- ---- Tasks

  pub ret_own : (v : ℕ) (w : Option ℕ) → Own (ret_rule d n v w s)
  ret_own v w =
      trap_if_shows IsDone (has_ended (task_of n s) s) _ _ refl (
      trap_if_shows IsDone (not (is_async_lifted (kind_of (task_of n s) s))) _ _ refl (
      may_shows IsDone (may_tell (task_of n s) w s) _ (own_ret n v w)))

  pub ret_bad_own : Own (ret_bad_rule n s)
  ret_bad_own = trap_if_shows IsDone (has_ended (task_of n s) s) _ _ refl refl

  task_cancel_own : (w : Option ℕ) → Own (task_cancel_rule d n w s)
  task_cancel_own w =
      trap_if_shows IsDone (not (cancel_was_delivered (task_of n s) s)) _ _ refl (
      trap_if_shows IsDone (has_ended (task_of n s) s) _ _ refl (
      may_shows IsDone (may_tell (task_of n s) w s) _ (own_cancel n w)))

  inc_own : Own (inc_rule d n s)
  inc_own = trap_if_shows IsDone (nat_le 65535 (backpressure_of (instance_of n s) s)) _ _ refl refl

  dec_own : (k : ℕ) → Own (dec_by d n s k)
  dec_own zero = refl
  dec_own (suc zero) = λ order. refl
  dec_own (suc (suc k)) = refl

  task_own : (ch : Choice) (o : TaskOp) → Own (task_rule d n s ch o)
  task_own ch (task_op.Ret x) = ret_own (value_of n s x) ch.woken
  task_own ch (task_op.RetBad x) = ret_bad_own
  task_own ch task_op.TaskCancel = task_cancel_own ch.woken
  task_own ch task_op.Exit = exit_for_own ch.woken (is_explicit n s)
  task_own ch task_op.CbYield = code_own (label.Task (task_label.CbYield n)) refl 1
  task_own ch (task_op.CbWait x) = code_own (label.Task (task_label.CbWait n)) refl (16 * value_of n s x + 2)
  task_own ch (task_op.Code x) = code_own (label.Task (task_label.Code n)) refl (value_of n s x)
  task_own ch task_op.BpInc = inc_own
  task_own ch task_op.BpDec = dec_own (backpressure_of (instance_of n s) s)

  -- ---- Sets

  wait_on_own : (x : ℕ) (ch : Choice) (g : PickedEvent) → Own (wait_goes_on_by d n x ch s g)
  wait_on_own x ch NothingPicked = refl
  wait_on_own x ch (PickedTaskEvent e) =
      may_shows IsDone (may_hand_on x (PickedTaskEvent e) ch.woken s) _ (own_wait n (handed_out ch s (PickedTaskEvent e)) ch.woken)
  wait_on_own x ch (PickedMember sub) =
      may_shows IsDone (may_hand_on x (PickedMember sub) ch.woken s) _ (own_wait n (handed_out ch s (PickedMember sub)) ch.woken)

  abbrev picked_event_here : Choice → ℕ → Option PickedEvent
  picked_event_here ch x = picked_event (waits_cancellable (task_of n s) s) (task_of n s) x (chosen n ch s) s

  abbrev polled_event : Choice → ℕ → Option PickedEvent
  polled_event ch x = picked_event false (task_of n s) x (chosen n ch s) s

  wait_begins_own : (ch : Choice) (x : ℕ) (b : Bool) → Own (wait_begins_by d n ch s x b)
  wait_begins_own ch x true = trap_if_shows IsDone fails_check _ _ refl refl
  wait_begins_own ch x false = or_never_shows IsDone (picked_event_here ch x) _ (λ g. refl)

  wait_found_own : (h : ℕ) (ch : Choice) → Own (or_trap (set_at (instance_of n s) h s) trap.BadHandle (λ x. wait_begins_by d n ch s x (finds_nothing n x s)))
  wait_found_own h ch = or_trap_shows IsDone (set_at (instance_of n s) h s) _ _ refl (λ x. wait_begins_own ch x (finds_nothing n x s))

  wait_own : (h : ℕ) (ch : Choice) (far : OpProgress) → Own (wait_rule d n h ch s far)
  wait_own h ch (op_progress.Waits x) = or_never_shows IsDone (picked_event_here ch x) _ (λ g. wait_on_own x ch g)
  wait_own h ch _ = wait_found_own h ch

  join_done_own : (sub : Subtask) (w : Option ℕ) (x : Option ℕ) → Own (join_done_by d n sub w s x)
  join_done_own sub w x =
      trap_if_shows IsDone (is_watched (join_of sub s)) _ _ refl (
      may_shows IsDone (may_wake_new (event_of sub s) x w s) _ (own_join n w))

  join_to_own : (h : ℕ) (w : Option ℕ) (sub : Subtask) → Own (join_to_by d n h w s sub)
  join_to_own zero w sub = join_done_own sub w None
  join_to_own (suc h) w sub = or_trap_shows IsDone (set_at (instance_of n s) (suc h) s) _ _ refl (λ x. join_done_own sub w (Some x))

  set_new_own : Own (set_new_rule d n s)
  set_new_own = trap_if_shows IsDone (not (fits 1 s)) _ _ refl (trap_if_shows IsDone (at_handle_limit s) _ _ refl refl)

  set_drop_own : (h x : ℕ) → Own (set_drop_by d n h s x)
  set_drop_own h x = trap_if_shows IsDone (has_waiters x s) _ _ refl (trap_if_shows IsDone (has_member x s) _ _ refl refl)

  set_own : (ch : Choice) (o : SetOp) → Own (set_rule d n s ch o)
  set_own ch (set_op.New r) = set_new_own
  set_own ch (set_op.Drop x) = or_trap_shows IsDone (set_at (instance_of n s) (value_of n s x) s) _ _ refl (λ y. set_drop_own (value_of n s x) y)
  set_own ch (set_op.Wait r x) = wait_own (value_of n s x) ch (op_progress_of n s)
  set_own ch (set_op.Poll r x) =
      or_trap_shows IsDone (set_at (instance_of n s) (value_of n s x) s) _ _ refl (λ y. or_never_shows IsDone (polled_event ch y) _ (λ g. refl))
  set_own ch (set_op.Join x y) =
      or_trap_shows IsDone (subtask_at (instance_of n s) (value_of n s x) s) _ _ refl (λ sub. join_to_own (value_of n s y) ch.woken sub)

  -- ---- Calls

  call_begins_own : (c : Component) (e : Callee) (g : Goal) (words : List ℕ) → Own (call_begins c n e g words s)
  call_begins_own c e g words = trap_if_shows IsDone (not (fits 3 s)) _ _ refl refl

  call_status_own : (k : ℕ) (x : Status) → Own (call_status_by d n k s x)
  call_status_own k status.Returned = refl
  call_status_own k status.Starting = trap_if_shows IsDone (at_handle_limit s) _ _ refl refl
  call_status_own k status.Started = trap_if_shows IsDone (at_handle_limit s) _ _ refl refl
  call_status_own k status.StartCancelled = trap_if_shows IsDone (at_handle_limit s) _ _ refl refl
  call_status_own k status.ReturnCancelled = trap_if_shows IsDone (at_handle_limit s) _ _ refl refl

  call_own : (c : Component) (q : ℕ) (e : Callee) (words : List ℕ) (far : OpProgress) → Own (call_rule d c n q e words s far)
  call_own c q e words (op_progress.Calls (subtask.Guest k)) = call_status_own k (status_found k s)
  call_own c q e words _ = call_begins_own c e (goal.Register q) words

  sync_status_own : (k : ℕ) (x : Status) → Own (call_sync_status_by d n k s x)
  sync_status_own k status.Returned = refl
  sync_status_own k status.Starting = trap_if_shows IsDone (not (passes_check (instance_of n s) (call_resumes n k s))) _ _ refl refl
  sync_status_own k status.Started = trap_if_shows IsDone (not (passes_check (instance_of n s) (call_resumes n k s))) _ _ refl refl
  sync_status_own k status.StartCancelled = trap_if_shows IsDone (not (passes_check (instance_of n s) (call_resumes n k s))) _ _ refl refl
  sync_status_own k status.ReturnCancelled = trap_if_shows IsDone (not (passes_check (instance_of n s) (call_resumes n k s))) _ _ refl refl

  pub enter_own : (e : Callee) (x : ExportKind) (words : List ℕ) → Own (enter_rule n e x words s)
  enter_own e x words = trap_if_shows IsDone (not (fits 3 s)) _ _ refl (trap_if_shows IsDone (at_handle_limit s) _ _ refl refl)

  sync_begins_own : (c : Component) (e : Callee) (words : List ℕ) (b : Bool) → Own (call_sync_begins c n e words s b)
  sync_begins_own c e words true = call_begins_own c e goal.Answer words
  sync_begins_own c e words false = enter_own e (export_kind c e) words

  sync_own : (c : Component) (e : Callee) (words : List ℕ) (far : OpProgress) → Own (call_sync_rule d c n e words s far)
  sync_own c e words (op_progress.Answered v) = refl
  sync_own c e words (op_progress.Calls (subtask.Guest k)) = sync_status_own k (status_found k s)
  sync_own c e words _ = sync_begins_own c e words (is_async_lifted (export_kind c e))

  pub host_own : (q : ℕ) (x : FirstPoll) → Own (call_host_by d n q s x)
  host_own q (AtOnce v) = refl
  host_own q Failing = tt
  host_own q (Later host) = trap_if_shows IsDone (not (fits 1 s)) _ _ refl (trap_if_shows IsDone (at_handle_limit s) _ _ refl refl)

  pub sync_host_polled_own : (x : FirstPoll) → Own (call_sync_host_by d n s x)
  sync_host_polled_own (AtOnce v) = refl
  sync_host_polled_own Failing = tt
  sync_host_polled_own (Later host) = trap_if_shows IsDone (not (fits 1 s)) _ _ refl (trap_if_shows IsDone fails_check _ _ refl refl)

  pub first_polled_own : (host : HostDef) (next : FirstPoll → Progress) → ((x : FirstPoll) → Own (next x)) → Own (first_polled host next)
  first_polled_own (host_def.Settled polls value) next own = own (polled_first polls value)
  first_polled_own host_def.Open next own = λ answer. own (heard_first answer)

  sync_host_own : (c : Component) (h : ℕ) (far : OpProgress) → Own (call_sync_host_rule d c n h s far)
  sync_host_own c h (op_progress.Calls (subtask.Host i)) = refl
  sync_host_own c h _ = first_polled_own (host_at c h) (call_sync_host_by d n s) (λ x. sync_host_polled_own x)

-- ---- Cancels and drops

module _ (d : Doer) (mode : Mode) (n : ℕ) where
  ended_own : (sub : Subtask) (s : Core) (e : Option Status) → Own (cancel_ended_by d mode n sub s e)
  ended_own sub s None = refl
  ended_own sub s (Some e) = own_subtask_cancel mode n (status_code e)

  unended_own : (sub : Subtask) (s : Core) (m : Mode) → Own (cancel_unended_by d m n sub s)
  unended_own sub s Async = refl
  unended_own sub s Sync = trap_if_shows IsDone (not (passes_check (instance_of n s) s)) _ _ refl refl

  by_end_own : (sub : Subtask) (s : Core) (b : Bool) → Own (cancel_by d mode n sub s b)
  by_end_own sub s true = ended_own sub s (undelivered_end (event_of sub s))
  by_end_own sub s false = unended_own sub s mode

  after_own : (sub : Subtask) (s : Core) → Own (after_cancel_by d mode n sub s)
  after_own sub s = by_end_own sub s (subtask_ended sub s)

  guest_own : (k : ℕ) (s : Core) (x : CancelCase) → Own (cancel_guest_by d mode n k s x)
  guest_own k s AlreadyEnded = ended_own (subtask.Guest k) s (undelivered_end (event_of (subtask.Guest k) s))
  guest_own k s StartNotRun = own_subtask_cancel mode n 3
  guest_own k s AskedBefore = refl
  guest_own k s ThreadWaits = λ m. refl
  guest_own k s CallbackYields = refl
  guest_own k s OtherwiseRuns = after_own (subtask.Guest k) (cancel_asks k s)

  subtask_own : (s : Core) (sub : Subtask) → Own (cancel_subtask_by d mode n s sub)
  subtask_own s (subtask.Guest k) = guest_own k s (cancel_case k s)
  subtask_own s (subtask.Host i) = trap_if_shows IsDone (was_cancelled i s) _ _ refl (after_own (subtask.Host i) (cancel_aborts_host i s))

  found_own : (s : Core) (sub : Subtask) → Own (cancel_found_by d mode n s sub)
  found_own s sub = trap_if_shows IsDone (is_joined (join_of sub s)) _ _ refl (subtask_own s sub)

  named_own : (h : ℕ) (s : Core) → Own (or_trap (subtask_at (instance_of n s) h s) trap.BadHandle (cancel_found_by d mode n s))
  named_own h s = or_trap_shows IsDone (subtask_at (instance_of n s) h s) _ _ refl (λ sub. found_own s sub)

  cancel_own : (h : ℕ) (s : Core) (far : OpProgress) → Own (cancel_rule d mode n h s far)
  cancel_own h s (op_progress.Cancels sub) = after_own sub (cancel_resumed n sub s)
  cancel_own h s (op_progress.AwaitsEnd sub) =
      let t = set_join sub join.Nowhere s in ended_own sub t (undelivered_end (event_of sub t))
  cancel_own h s _ = named_own h s

drop_own : (d : Doer) (n h : ℕ) (s : Core) (sub : Subtask) → Own (drop_by d n h s sub)
drop_own d n h s sub =
    trap_if_shows IsDone (is_watched (join_of sub s)) _ _ refl (
    trap_if_shows IsDone (not (subtask_ended sub s)) _ _ refl (
    trap_if_shows IsDone (is_some (event_of sub s)) _ _ refl refl))

calls_own : (d : Doer) (c : Component) (n : ℕ) (s : Core) (o : CallOp) → Own (subtask_rule d c n s o)
calls_own d c n s (call_op.Call r q e xs) = call_own d n s c q e (values_in (registers_of n s) xs) (op_progress_of n s)
calls_own d c n s (call_op.CallSync r e xs) = sync_own d n s c e (values_in (registers_of n s) xs) (op_progress_of n s)
calls_own d c n s (call_op.CallHost r q h) = first_polled_own d n s (host_at c h) (call_host_by d n q s) (λ x. host_own d n s q x)
calls_own d c n s (call_op.CallSyncHost r h) = sync_host_own d n s c h (op_progress_of n s)
calls_own d c n s (call_op.Cancel r x) = cancel_own d Async n (value_of n s x) s (op_progress_of n s)
calls_own d c n s (call_op.CancelSync r x) = cancel_own d Sync n (value_of n s x) s (op_progress_of n s)
calls_own d c n s (call_op.Drop x) =
    or_trap_shows IsDone (subtask_at (instance_of n s) (value_of n s x) s) _ _ refl (λ sub. drop_own d n (value_of n s x) s sub)

-- ---- Threads

new_own : (d : Doer) (n x v : ℕ) (s : Core) (y : Slot) → Own (thread_new_rule d n x v s y)
new_own d n x v s slot.Empty = refl
new_own d n x v s slot.Bad = refl
new_own d n x v s (slot.Script ops) = trap_if_shows IsDone (not (fits 2 s)) _ _ refl (trap_if_shows IsDone (at_handle_limit s) _ _ refl refl)

later_own : (d : Doer) (n : ℕ) (s : Core) (m : ℕ) → Own (resume_later_by d n s m)
later_own d n s m = trap_if_shows IsDone (m == n) _ _ refl (or_trap_shows IsDone (resume_why m s) _ _ refl (λ w. refl))

then_resume_own : (x : Halt) (n : ℕ) (s : Core) (m : ℕ) → Own (then_resume_found x n s m)
then_resume_own x n s m = trap_if_shows IsDone (m == n) _ _ refl (or_trap_shows IsDone (resume_why m s) _ _ refl (λ w. refl))

module _ (d : Doer) (n : ℕ) (l : Label) (own : is_done l ≡ true) (s : Core) where
  halts_own : (x : Halt) (b : Bool) → Own (halts_by d x n l s b)
  halts_own x true = refl
  halts_own Suspension false = refl
  halts_own Yielding false = own

  halt_own : (x : Halt) → Own (halt_rule d x n l s)
  halt_own x = halts_own x (passes_check (instance_of n s) s)

  promote_own : (x : Halt) (m : ℕ) (b : Bool) → Own (then_promote_by d x n l s m b)
  promote_own x m true = refl
  promote_own x m false = halt_own x

  promote_found_own : (x : Halt) (m : ℕ) → Own (then_promote_found_by d x n l s m)
  promote_found_own x m = trap_if_shows IsDone (m == n) _ _ refl (promote_own x m (has_yielded m s))

  then_promote_own : (x : Halt) (h : ℕ) → Own (then_promote_rule d x n h l s)
  then_promote_own x h = or_trap_shows IsDone (thread_at (instance_of n s) h s) _ _ refl (λ m. promote_found_own x m)

  by_own : (far : OpProgress) (p : Progress) → Own p → Own (resumed_by d far n l s p)
  by_own op_progress.Suspends p h = own
  by_own op_progress.Yields p h = own
  by_own _ p h = h

module _ (d : Doer) (n : ℕ) (s : Core) where
  resume_rule_own : (x : Halt) (h : ℕ) → Own (then_resume_rule x n h s)
  resume_rule_own x h = or_trap_shows IsDone (thread_at (instance_of n s) h s) _ _ refl (λ m. then_resume_own x n s m)

  halting_own : (l : ThreadLabel) (row : Label → Progress) → Own (row (label.Thread l)) → Own (halting_by d n s l row)
  halting_own l row h = by_own d n (label.Thread l) refl s (op_progress_of n s) (row (label.Thread l)) h

  thread_own : (c : Component) (o : ThreadOp) → Own (thread_rule d c n s o)
  thread_own c (thread_op.New r x v) = new_own d n x (value_of n s v) s (slot_at c (instance_of n s) x)
  thread_own c (thread_op.Index r) = refl
  thread_own c (thread_op.ResumeLater x) = or_trap_shows IsDone (thread_at (instance_of n s) (value_of n s x) s) _ _ refl (λ m. later_own d n s m)
  thread_own c thread_op.Suspend =
      let l = thread_label.Suspend n in halting_own l (λ l. halt_rule d Suspension n l s) (halt_own d n (label.Thread l) refl s Suspension)
  thread_own c thread_op.Yield =
      let l = thread_label.Yield n in halting_own l (λ l. halt_rule d Yielding n l s) (halt_own d n (label.Thread l) refl s Yielding)
  thread_own c (thread_op.SuspendThenResume x) =
      halting_own (thread_label.SuspendThenResume n) (λ l. then_resume_rule Suspension n (value_of n s x) s) (resume_rule_own Suspension (value_of n s x))
  thread_own c (thread_op.YieldThenResume x) =
      halting_own (thread_label.YieldThenResume n) (λ l. then_resume_rule Yielding n (value_of n s x) s) (resume_rule_own Yielding (value_of n s x))
  thread_own c (thread_op.SuspendThenPromote x) =
      let l = thread_label.SuspendThenPromote n in
      halting_own l (λ l. then_promote_rule d Suspension n (value_of n s x) l s) (then_promote_own d n (label.Thread l) refl s Suspension (value_of n s x))
  thread_own c (thread_op.YieldThenPromote x) =
      let l = thread_label.YieldThenPromote n in
      halting_own l (λ l. then_promote_rule d Yielding n (value_of n s x) l s) (then_promote_own d n (label.Thread l) refl s Yielding (value_of n s x))

-- ---- Each op

done_own : (l : Label) → IsDone l → IsOwn l
done_own (label.Main l) h = absurd (cc)
done_own (label.Loop l) h = absurd (cc)
done_own (label.Take l) h = absurd (cc)
done_own _ h = refl

pub op_own : (d : Doer) (c : Component) (n : ℕ) (s : Core) (ch : Choice) (o : Op) → Shows IsOwn (op_rule d c n s ch o)
op_own d c n s ch (op.Data o) = data_own c n s o
op_own d c n s ch (op.Task o) = wider IsDone IsOwn done_own _ (task_own d n s ch o)
op_own d c n s ch (op.Set o) = wider IsDone IsOwn done_own _ (set_own d n s ch o)
op_own d c n s ch (op.Call o) = wider IsDone IsOwn done_own _ (calls_own d c n s o)
op_own d c n s ch (op.Thread o) = wider IsDone IsOwn done_own _ (thread_own d n s c o)

-- an op other than one on registers and memory cells shows no label of such an op
pub op_done : (d : Doer) (c : Component) (n : ℕ) (s : Core) (ch : Choice) (o : Op) → is_data_op o ≡ false → Shows IsDone (op_rule d c n s ch o)
op_done d c n s ch (op.Data o) other = absurd (cc)
op_done d c n s ch (op.Task o) other = task_own d n s ch o
op_done d c n s ch (op.Set o) other = set_own d n s ch o
op_done d c n s ch (op.Call o) other = calls_own d c n s o
op_done d c n s ch (op.Thread o) other = thread_own d n s c o

-- what the running thread does next shows a label of its own
pub did_own : (c : Component) (n : ℕ) (s : Core) (ch : Choice) → Shows IsOwn (did c n s ch)
unfolding did
did_own c n s ch = op_own (own_script (op_of c n s)) c n s ch (op_of c n s)
