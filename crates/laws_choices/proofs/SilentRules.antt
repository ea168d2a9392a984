-- The ops that choose nothing show none.
use Rattle.laws_choices.specs.Chooses.{no_choice}
use Rattle.std.proofs.Common.{refl}
use Rattle.std.specs.Prelude.{Bool, List, None, Option, Some, false, is_some, nat_le, not, true, ℕ, ◌==◌, ◌≡◌}
use Rattle.machine_data.specs.Core.{Core}
use Rattle.machine_data.specs.Labels.{choice_of}
use Rattle.machine_data.specs.Moves.{passes_check}
use Rattle.machine_data.specs.Read.{at_handle_limit, backpressure_of, event_of, fits, has_ended, has_member, has_waiters, op_progress_of, instance_of, is_async_lifted, is_open, is_watched, join_of, subtask_ended, task_of, thread_at, undelivered_end}
use Rattle.machine_data.specs.Statuses.{status_code}
use Rattle.machine_data.specs.declared.component.Callee.{Callee}
use Rattle.machine_data.specs.declared.component.Component.{Component}
use Rattle.machine_data.specs.declared.component.ExportKind.TheVariants as kind
use Rattle.machine_data.specs.declared.component.ExportKind.{ExportKind}
use Rattle.machine_data.specs.declared.component.HostDef.{HostDef}
use Rattle.machine_data.specs.declared.component.HostDef.TheVariants as host_def
use Rattle.machine_data.specs.declared.component.Slot.TheVariants as slot
use Rattle.machine_data.specs.declared.component.Slot.{Slot}
use Rattle.machine_data.specs.declared.label.Label.TheVariants as label
use Rattle.machine_data.specs.declared.label.Label.{Label}
use Rattle.machine_data.specs.declared.label.ThreadLabel.TheVariants as thread_label
use Rattle.machine_data.specs.declared.label.ThreadLabel.{ThreadLabel}
use Rattle.machine_data.specs.declared.op.DataOp.TheVariants as data_op
use Rattle.machine_data.specs.declared.op.DataOp.{DataOp}
use Rattle.machine_data.specs.declared.op.ThreadOp.TheVariants as thread_op
use Rattle.machine_data.specs.declared.op.ThreadOp.{ThreadOp}
use Rattle.machine_data.specs.declared.records.Goal.TheVariants as goal
use Rattle.machine_data.specs.declared.records.Goal.{Goal}
use Rattle.machine_data.specs.declared.records.OpProgress.TheVariants as op_progress
use Rattle.machine_data.specs.declared.records.OpProgress.{OpProgress}
use Rattle.machine_data.specs.declared.records.Subtask.TheVariants as subtask
use Rattle.machine_data.specs.declared.records.Subtask.{Subtask}
use Rattle.machine_data.specs.declared.trap.Trap.{Trap}
use Rattle.machine_data.specs.declared.statuses.Status.TheVariants as status
use Rattle.machine_data.specs.declared.statuses.Status.{Status}
use Rattle.machine_rules.specs.Calls.{AtOnce, Failing, FirstPoll, Later, call_begins, call_host_polled, call_resumes, scripted_call_rule, call_status, call_sync_begins, call_sync_host_polled, scripted_call_sync_host_rule, scripted_call_sync_rule, call_sync_status, enter_rule, first_polled, polled_first, status_found}
use Rattle.machine_rules.specs.Cancels.{Async, Mode, Sync, after_cancel, cancel_by_end, cancel_ended_rule, cancel_label, cancel_unended_rule, drop_found}
use Rattle.machine_rules.specs.Data.{data_rule, skip_rule}
use Rattle.machine_rules.specs.Ends.{direct_exit_to, leaves_no_result, thread_exit_rule}
use Rattle.machine_rules.specs.Progress.{Progress, or_trap, trap_if}
use Rattle.machine_rules.specs.Scripts.{export_kind, host_at, slot_at, value_of}
use Rattle.machine_rules.specs.Sets.{set_drop_found, scripted_set_new_rule}
use Rattle.machine_rules.specs.Task.{scripted_inc_rule, ret_bad_rule}
use Rattle.machine_rules.specs.Threads.{Halt, Suspension, Yielding, by_op_progress, scripted_halt_rule, halting, halts, has_yielded, resume_later_found, resume_why, then_promote, then_promote_found, scripted_then_promote_rule, then_resume_found, then_resume_rule, scripted_thread_new_rule, scripted_thread_rule}
use Rattle.laws_choices.proofs.Forms.{IsSilent}

pub silent_trap_if : (b : Bool) (t : Trap) (p : Progress) → IsSilent p → IsSilent (trap_if b t p)
silent_trap_if true t p h = tt
silent_trap_if false t p h = h

pub silent_or_trap : {X : Type 0} (o : Option X) (t : Trap) (next : X → Progress) → ((x : X) → IsSilent (next x)) → IsSilent (or_trap o t next)
silent_or_trap None t next h = tt
silent_or_trap (Some x) t next h = h x

pub cancel_shows_none : (mode : Mode) (n v : ℕ) → choice_of (cancel_label mode n v) ≡ no_choice
cancel_shows_none Async n v = refl
cancel_shows_none Sync n v = refl

-- ---- Registers and memory cells

skip_silent : (c : Component) (n k : ℕ) (s : Core) (b : Bool) → IsSilent (skip_rule c n k s b)
skip_silent c n k s true = refl
skip_silent c n k s false = refl

pub data_silent : (c : Component) (n : ℕ) (s : Core) (o : DataOp) → IsSilent (data_rule c n s o)
data_silent c n s (data_op.Set r x) = refl
data_silent c n s (data_op.Add r x) = refl
data_silent c n s (data_op.Handle r x) = refl
data_silent c n s (data_op.Load r w) = refl
data_silent c n s (data_op.Store w x) = refl
data_silent c n s (data_op.SkipEq x y k) = skip_silent c n k s (value_of n s x == value_of n s y)

module _ (n : ℕ) (s : Core) where
  abbrev fails_check : Bool
  fails_check = not (passes_check (instance_of n s) s)

  pub thread_exit_silent : IsSilent (thread_exit_rule n s)
  thread_exit_silent = silent_trap_if fails_check _ _ (silent_trap_if (leaves_no_result n s) _ _ refl)

  pub direct_exit_silent : (x : ExportKind) (m : Option ℕ) → IsSilent (direct_exit_to n x s m)
  direct_exit_silent x None = tt
  direct_exit_silent kind.Sync (Some m) = refl
  direct_exit_silent kind.Blocking (Some m) = silent_trap_if fails_check _ _ refl
  direct_exit_silent kind.Stackful (Some m) = silent_trap_if fails_check _ _ refl
  direct_exit_silent kind.Callback (Some m) = silent_trap_if fails_check _ _ refl

  pub ret_bad_silent : IsSilent (ret_bad_rule n s)
  ret_bad_silent = silent_trap_if (has_ended (task_of n s) s) _ _ tt

  pub inc_silent : IsSilent (scripted_inc_rule n s)
  inc_silent = silent_trap_if (nat_le 65535 (backpressure_of (instance_of n s) s)) _ _ refl

  pub set_new_silent : (r : ℕ) → IsSilent (scripted_set_new_rule n r s)
  set_new_silent r = silent_trap_if (not (fits 1 s)) _ _ (silent_trap_if (at_handle_limit s) _ _ refl)

  pub set_drop_silent : (h x : ℕ) → IsSilent (set_drop_found n h s x)
  set_drop_silent h x = silent_trap_if (has_waiters x s) _ _ (silent_trap_if (has_member x s) _ _ refl)

  -- ---- Calls

  call_begins_silent : (c : Component) (e : Callee) (g : Goal) (words : List ℕ) → IsSilent (call_begins c n e g words s)
  call_begins_silent c e g words = silent_trap_if (not (fits 3 s)) _ _ refl

  call_status_silent : (r k : ℕ) (x : Status) → IsSilent (call_status n r k s x)
  call_status_silent r k status.Returned = refl
  call_status_silent r k status.Starting = silent_trap_if (at_handle_limit s) _ _ refl
  call_status_silent r k status.Started = silent_trap_if (at_handle_limit s) _ _ refl
  call_status_silent r k status.StartCancelled = silent_trap_if (at_handle_limit s) _ _ refl
  call_status_silent r k status.ReturnCancelled = silent_trap_if (at_handle_limit s) _ _ refl

  pub call_silent : (c : Component) (r q : ℕ) (e : Callee) (words : List ℕ) (far : OpProgress) → IsSilent (scripted_call_rule c n r q e words s far)
  call_silent c r q e words (op_progress.Calls (subtask.Guest k)) = call_status_silent r k (status_found k s)
  call_silent c r q e words _ = call_begins_silent c e (goal.Register q) words

  sync_status_silent : (r k : ℕ) (x : Status) → IsSilent (call_sync_status n r k s x)
  sync_status_silent r k status.Returned = refl
  sync_status_silent r k status.Starting = silent_trap_if (not (passes_check (instance_of n s) (call_resumes n k s))) _ _ refl
  sync_status_silent r k status.Started = silent_trap_if (not (passes_check (instance_of n s) (call_resumes n k s))) _ _ refl
  sync_status_silent r k status.StartCancelled = silent_trap_if (not (passes_check (instance_of n s) (call_resumes n k s))) _ _ refl
  sync_status_silent r k status.ReturnCancelled = silent_trap_if (not (passes_check (instance_of n s) (call_resumes n k s))) _ _ refl

  enter_silent : (e : Callee) (x : ExportKind) (words : List ℕ) → IsSilent (enter_rule n e x words s)
  enter_silent e x words = silent_trap_if (not (fits 3 s)) _ _ (silent_trap_if (at_handle_limit s) _ _ refl)

  sync_begins_silent : (c : Component) (e : Callee) (words : List ℕ) (b : Bool) → IsSilent (call_sync_begins c n e words s b)
  sync_begins_silent c e words true = call_begins_silent c e goal.Answer words
  sync_begins_silent c e words false = enter_silent e (export_kind c e) words

  pub sync_silent : (c : Component) (r : ℕ) (e : Callee) (words : List ℕ) (far : OpProgress) → IsSilent (scripted_call_sync_rule c n r e words s far)
  sync_silent c r e words (op_progress.Answered v) = refl
  sync_silent c r e words (op_progress.Calls (subtask.Guest k)) = sync_status_silent r k (status_found k s)
  sync_silent c r e words _ = sync_begins_silent c e words (is_async_lifted (export_kind c e))

  pub host_silent : (r q : ℕ) (x : FirstPoll) → IsSilent (call_host_polled n r q s x)
  host_silent r q (AtOnce v) = refl
  host_silent r q Failing = tt
  host_silent r q (Later host) = silent_trap_if (not (fits 1 s)) _ _ (silent_trap_if (at_handle_limit s) _ _ refl)

  sync_host_polled_silent : (r : ℕ) (x : FirstPoll) → IsSilent (call_sync_host_polled n r s x)
  sync_host_polled_silent r (AtOnce v) = refl
  sync_host_polled_silent r Failing = tt
  sync_host_polled_silent r (Later host) = silent_trap_if (not (fits 1 s)) _ _ (silent_trap_if fails_check _ _ refl)

  -- of a host that isn't open
  pub first_silent : (host : HostDef) (next : FirstPoll → Progress) → is_open host ≡ false → ((x : FirstPoll) → IsSilent (next x)) → IsSilent (first_polled host next)
  first_silent (host_def.Settled polls value) next known silent = silent (polled_first polls value)
  first_silent host_def.Open next known silent = absurd (cc)

  pub sync_host_silent : (c : Component) (r h : ℕ) (far : OpProgress) → is_open (host_at c h) ≡ false → IsSilent (scripted_call_sync_host_rule c n r h s far)
  sync_host_silent c r h (op_progress.Calls (subtask.Host i)) known = refl
  sync_host_silent c r h _ known = first_silent (host_at c h) (call_sync_host_polled n r s) known (λ x. sync_host_polled_silent r x)

-- ---- Cancels and drops

module _ (mode : Mode) (n r : ℕ) where
  pub ended_silent : (sub : Subtask) (s : Core) (e : Option Status) → IsSilent (cancel_ended_rule mode n r sub s e)
  ended_silent sub s None = tt
  ended_silent sub s (Some e) = cancel_shows_none mode n (status_code e)

  unended_silent : (sub : Subtask) (s : Core) (m : Mode) → IsSilent (cancel_unended_rule m n r sub s)
  unended_silent sub s Async = refl
  unended_silent sub s Sync = silent_trap_if (not (passes_check (instance_of n s) s)) _ _ refl

  by_end_silent : (sub : Subtask) (s : Core) (b : Bool) → IsSilent (cancel_by_end mode n r sub s b)
  by_end_silent sub s true = ended_silent sub s (undelivered_end (event_of sub s))
  by_end_silent sub s false = unended_silent sub s mode

  pub after_silent : (sub : Subtask) (s : Core) → IsSilent (after_cancel mode n r sub s)
  after_silent sub s = by_end_silent sub s (subtask_ended sub s)

pub drop_silent : (n h : ℕ) (s : Core) (sub : Subtask) → IsSilent (drop_found n h s sub)
drop_silent n h s sub =
    silent_trap_if (is_watched (join_of sub s)) _ _ (
    silent_trap_if (not (subtask_ended sub s)) _ _ (
    silent_trap_if (is_some (event_of sub s)) _ _ refl))

-- ---- Threads

new_silent : (n r x v : ℕ) (s : Core) (y : Slot) → IsSilent (scripted_thread_new_rule n r x v s y)
new_silent n r x v s slot.Empty = tt
new_silent n r x v s slot.Bad = tt
new_silent n r x v s (slot.Script ops) = silent_trap_if (not (fits 2 s)) _ _ (silent_trap_if (at_handle_limit s) _ _ refl)

later_silent : (n : ℕ) (s : Core) (m : ℕ) → IsSilent (resume_later_found n s m)
later_silent n s m = silent_trap_if (m == n) _ _ (silent_or_trap (resume_why m s) _ _ (λ w. refl))

then_resume_silent : (x : Halt) (n : ℕ) (s : Core) (m : ℕ) → IsSilent (then_resume_found x n s m)
then_resume_silent x n s m = silent_trap_if (m == n) _ _ (silent_or_trap (resume_why m s) _ _ (λ w. refl))

module _ (n : ℕ) (l : Label) (none : choice_of l ≡ no_choice) (s : Core) where
  halts_silent : (x : Halt) (b : Bool) → IsSilent (halts x n l s b)
  halts_silent x true = refl
  halts_silent Suspension false = tt
  halts_silent Yielding false = none

  halt_silent : (x : Halt) → IsSilent (scripted_halt_rule x n l s)
  halt_silent x = halts_silent x (passes_check (instance_of n s) s)

  promote_silent : (x : Halt) (m : ℕ) (b : Bool) → IsSilent (then_promote x n l s m b)
  promote_silent x m true = refl
  promote_silent x m false = halt_silent x

  promote_found_silent : (x : Halt) (m : ℕ) → IsSilent (then_promote_found x n l s m)
  promote_found_silent x m = silent_trap_if (m == n) _ _ (promote_silent x m (has_yielded m s))

  then_promote_silent : (x : Halt) (h : ℕ) → IsSilent (scripted_then_promote_rule x n h l s)
  then_promote_silent x h = silent_or_trap (thread_at (instance_of n s) h s) _ _ (λ m. promote_found_silent x m)

  by_silent : (far : OpProgress) (p : Progress) → IsSilent p → IsSilent (by_op_progress far n l s p)
  by_silent op_progress.Suspends p h = none
  by_silent op_progress.Yields p h = none
  by_silent _ p h = h

module _ (n : ℕ) (s : Core) where
  resume_rule_silent : (x : Halt) (h : ℕ) → IsSilent (then_resume_rule x n h s)
  resume_rule_silent x h = silent_or_trap (thread_at (instance_of n s) h s) _ _ (λ m. then_resume_silent x n s m)

  halting_silent : (l : ThreadLabel) (row : Label → Progress) → IsSilent (row (label.Thread l)) → IsSilent (halting n s l row)
  halting_silent l row h = by_silent n (label.Thread l) refl s (op_progress_of n s) (row (label.Thread l)) h

  pub thread_silent : (c : Component) (o : ThreadOp) → IsSilent (scripted_thread_rule c n s o)
  thread_silent c (thread_op.New r x v) = new_silent n r x (value_of n s v) s (slot_at c (instance_of n s) x)
  thread_silent c (thread_op.Index r) = refl
  thread_silent c (thread_op.ResumeLater x) = silent_or_trap (thread_at (instance_of n s) (value_of n s x) s) _ _ (λ m. later_silent n s m)
  thread_silent c thread_op.Suspend =
      let l = thread_label.Suspend n in halting_silent l (λ l. scripted_halt_rule Suspension n l s) (halt_silent n (label.Thread l) refl s Suspension)
  thread_silent c thread_op.Yield =
      let l = thread_label.Yield n in halting_silent l (λ l. scripted_halt_rule Yielding n l s) (halt_silent n (label.Thread l) refl s Yielding)
  thread_silent c (thread_op.SuspendThenResume x) =
      halting_silent (thread_label.SuspendThenResume n) (λ l. then_resume_rule Suspension n (value_of n s x) s) (resume_rule_silent Suspension (value_of n s x))
  thread_silent c (thread_op.YieldThenResume x) =
      halting_silent (thread_label.YieldThenResume n) (λ l. then_resume_rule Yielding n (value_of n s x) s) (resume_rule_silent Yielding (value_of n s x))
  thread_silent c (thread_op.SuspendThenPromote x) =
      let l = thread_label.SuspendThenPromote n in
      halting_silent l (λ l. scripted_then_promote_rule Suspension n (value_of n s x) l s) (then_promote_silent n (label.Thread l) refl s Suspension (value_of n s x))
  thread_silent c (thread_op.YieldThenPromote x) =
      let l = thread_label.YieldThenPromote n in
      halting_silent l (λ l. scripted_then_promote_rule Yielding n (value_of n s x) l s) (then_promote_silent n (label.Thread l) refl s Yielding (value_of n s x))
