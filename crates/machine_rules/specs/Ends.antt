-- The end of a task, and the ends of threads and activations.
use Rattle.std.specs.Prelude.{Bool, List, None, Option, Some, false, if◌then◌else◌, is_none, is_some, nat_lt, not, suc, true, unwrap_or, zero, ℕ, ◌%◌, ◌&&◌, ◌/◌, ◌||◌}
use Rattle.machine_data.specs.declared.records.Caller.{Caller}
use Rattle.machine_data.specs.declared.component.ExportKind.{ExportKind}
use Rattle.machine_data.specs.declared.records.Goal.{Goal}
use Rattle.machine_data.specs.declared.records.Join.{Join}
use Rattle.machine_data.specs.declared.label.Label.{Label}
use Rattle.machine_data.specs.declared.statuses.TaskEvent.{TaskEvent}
use Rattle.machine_data.specs.declared.statuses.Status.{Status}
use Rattle.machine_data.specs.declared.records.CallEnd.TheVariants as call_end
use Rattle.machine_data.specs.declared.records.Caller.TheVariants as caller
use Rattle.machine_data.specs.declared.records.Delivery.TheVariants as delivery
use Rattle.machine_data.specs.declared.records.Goal.TheVariants as goal
use Rattle.machine_data.specs.declared.records.OpProgress.TheVariants as op_progress
use Rattle.machine_data.specs.declared.records.Join.TheVariants as join
use Rattle.machine_data.specs.declared.component.ExportKind.TheVariants as kind
use Rattle.machine_data.specs.declared.statuses.TaskEvent.TheVariants as own
use Rattle.machine_data.specs.declared.records.Place.TheVariants as place
use Rattle.machine_data.specs.declared.statuses.Status.TheVariants as status
use Rattle.machine_data.specs.declared.records.Subtask.TheVariants as subtask
use Rattle.machine_data.specs.declared.trap.Trap.TheVariants as trap
use Rattle.machine_data.specs.declared.records.Why.TheVariants as why
use Rattle.machine_data.specs.Core.{Core}
use Rattle.machine_data.specs.Labels.{exit_label}
use Rattle.machine_data.specs.Moves.{checked, ended, may_publish, passes_check, published, put_high, put_low, released, stopped}
use Rattle.machine_data.specs.Read.{admitted_held, caller_of, callers_of, first_at, foot_of, goal_of, has_ended, has_ready_member, instance_of, is_direct, is_explicit, is_guest_call, is_last_thread, is_nil, is_waiting_on, join_of, kind_of, task_event_of, register_of, saved_own_of, set_at, task_of, under_of}
use Rattle.machine_data.specs.Write.{arrive, give_result, set_do_not_enter, set_do_not_suspend, set_end, set_op_progress, set_task_event, set_place, set_register, set_result}
use Rattle.machine_rules.specs.Progress.{Continues, Never, Ordered, Progress, Stops, Traps, may, or_trap, trap_if}

-- ---- The end of a task

-- the result goes where the call says; to a thread that is gone it goes nowhere; default: no goal
abbrev pub result_given : Goal → Caller → ℕ → ℕ → Core → Core
result_given goal.Main f k v s = give_result k v s
result_given (goal.Register r) (caller.Thread n) k v s = set_register n r v s
result_given goal.Answer f k v s = set_result k (Some v) s
result_given _ f k v s = s

-- a status of the call is told to its caller, unless main or a thread under it made the call
abbrev pub is_told : ℕ → Core → Bool
is_told k s = is_guest_call (caller_of k s) && not (is_direct (goal_of k s))

unfoldable pub told : ℕ → Status → Option ℕ → Core → Core
told k e w s = if is_told k s then published (subtask.Guest k) e w s else s

unfoldable pub may_tell : ℕ → Option ℕ → Core → Bool
may_tell k w s = if is_told k s then may_publish (subtask.Guest k) w s else is_none w

-- the task ends as Returned with v
unfoldable pub returned : ℕ → ℕ → Option ℕ → Core → Core
returned k v w s =
    let over = set_end k call_end.Returned s in
    told k status.Returned w (result_given (goal_of k s) (caller_of k s) k v over)

-- the task ends as ReturnCancelled
unfoldable pub cancelled : ℕ → Option ℕ → Core → Core
cancelled k w s = told k status.ReturnCancelled w (set_end k call_end.ReturnCancelled s)

-- ---- Trap 4

-- the thread is the last of a task that hasn't ended
unfoldable pub leaves_no_result : ℕ → Core → Bool
leaves_no_result n s = is_last_thread n s && not (has_ended (task_of n s) s)

-- ---- Checks after other moves, on the state before

-- a check of the instance passes once the strand with foot f has stopped and these held threads of the instance are released
unfoldable pub passes_after_stop : ℕ → ℕ → List ℕ → Core → Bool
passes_after_stop i f held s = passes_check i s || (not (is_nil (callers_of f s)) || not (is_nil held))

-- ---- The ends of threads

-- the instance lets entries in again, and these held threads of it are released
unfoldable pub end_reopens : ℕ → List ℕ → Core → Core
end_reopens i order s = released order (set_do_not_enter i false s)

-- the held threads that are admitted once the instance lets entries in
unfoldable pub held_by_flag : ℕ → Core → List ℕ
held_by_flag i s = admitted_held i (set_do_not_enter i false s)

-- ---- A check after the return

-- the first thread that waits on the set
abbrev pub first_waiter : Join → Core → Option ℕ
first_waiter (join.Set x) s = first_at (is_waiting_on x) s
first_waiter _ s = None

-- the waiter that telling an end of the call wakes: the chosen one; where a label shows none, as that of a trap, the first one
abbrev pub waiter_told : ℕ → Option ℕ → Core → Option ℕ
waiter_told k None s = first_waiter (join_of (subtask.Guest k) s) s
waiter_told k (Some w) s = Some w

-- the instance lets entries in, these held threads of it are released, and the blocking export's task returns r0
abbrev pub blocking_returned : ℕ → Option ℕ → List ℕ → Core → Core
blocking_returned n w order s = returned (task_of n s) (register_of n 0 s) w (end_reopens (instance_of n s) order s)

-- a check of the instance passes after that
unfoldable pub passes_after_return : ℕ → Option ℕ → Core → Bool
passes_after_return n w s =
    let i = instance_of n s in passes_check i (blocking_returned n (waiter_told (task_of n s) w s) (held_by_flag i s) s)

-- ---- The exits

-- the flag of the instance that the thread's start saved is written back; default: no saved flag
unfoldable pub exit_restores : ℕ → Core → Core
exit_restores n s = set_do_not_suspend (instance_of n s) (unwrap_or (saved_own_of n s) false) s

-- after a check the strand stops, and the thread ends
unfoldable pub exit_stops : ℕ → Core → Core
exit_stops n s = ended n (stopped (foot_of n s) (checked (instance_of n s) s))

-- a stackful export's exit, and an explicit thread's: trap 9 (CannotBlockSyncTask) where the check fails,
-- trap 4 (NoAsyncResult) where no thread is left and the task hasn't ended
abbrev pub thread_exit_rule : ℕ → Core → Progress
thread_exit_rule n s =
    trap_if (not (passes_check (instance_of n s) s)) trap.CannotBlockSyncTask (
    trap_if (leaves_no_result n s) trap.NoAsyncResult (
    Stops (exit_label n None) (exit_stops n s)))

-- a sync export's task returns r0
unfoldable pub sync_exits : ℕ → Option ℕ → Core → Core
sync_exits n w s = ended n (stopped (foot_of n s) (returned (task_of n s) (register_of n 0 s) w (exit_restores n s)))

-- a sync export's exit
abbrev pub sync_exit_rule : ℕ → Option ℕ → Core → Progress
sync_exit_rule n w s = may (may_tell (task_of n s) w s) (Stops (exit_label n w) (sync_exits n w s))

-- after the release and the return a blocking export's thread leaves
unfoldable pub blocking_exits : ℕ → Option ℕ → List ℕ → Core → Core
blocking_exits n w order s = exit_stops n (blocking_returned n w order s)

-- a blocking export's exit: trap 9 (CannotBlockSyncTask) where the check after the release and the return fails
abbrev pub blocking_exit_rule : ℕ → Option ℕ → Core → Progress
blocking_exit_rule n w s =
    let held = held_by_flag (instance_of n s) s in
    trap_if (not (passes_after_return n w s)) trap.CannotBlockSyncTask (
    may (may_tell (task_of n s) w s) (
    Ordered held (λ order. Stops (exit_label n w) (blocking_exits n w order s))))

-- a direct call's task returns v; the thread under it goes on
unfoldable pub direct_exits : ℕ → ℕ → ℕ → Core → Core
direct_exits n m v s = set_op_progress m (op_progress.Answered v) (set_place m place.Running (ended n (set_end (task_of n s) call_end.Returned s)))

-- of a sync export the flag is written back; of a blocking one a check: trap 9 (CannotBlockSyncTask) where it fails;
-- default: nobody under
abbrev pub direct_exit_to : ℕ → ExportKind → Core → Option ℕ → Progress
direct_exit_to n x s None = Never
direct_exit_to n kind.Sync s (Some m) =
    Continues (exit_label n None) (direct_exits n m (register_of n 0 s) (exit_restores n s)) m
direct_exit_to n x s (Some m) =
    trap_if (not (passes_check (instance_of n s) s)) trap.CannotBlockSyncTask (
    Continues (exit_label n None) (direct_exits n m (register_of n 0 s) (checked (instance_of n s) s)) m)

abbrev pub direct_exit_rule : ℕ → Core → Progress
direct_exit_rule n s = direct_exit_to n (kind_of (task_of n s) s) s (under_of n s)

-- ---- The ends of activations

-- the instance lets entries in, and the strand stops
unfoldable pub code_stops : ℕ → List ℕ → Core → Core
code_stops n order s = stopped (foot_of n s) (end_reopens (instance_of n s) order s)

-- code 0: the thread ends
unfoldable pub code_exits : ℕ → List ℕ → Core → Core
code_exits n order s = ended n (checked (instance_of n s) (code_stops n order s))

abbrev pub own_or_none : Option TaskEvent → Option TaskEvent
own_or_none None = Some own.None
own_or_none (Some e) = Some e

-- code 1: the thread's turn comes again
unfoldable pub code_yields : ℕ → List ℕ → Core → Core
code_yields n order s =
    let k = task_of n s in
    put_low n (why.Delivery delivery.Yield) (set_task_event k (own_or_none (task_event_of k s)) (code_stops n order s))

-- code 2: an event is there
unfoldable pub code_finds : ℕ → ℕ → List ℕ → Core → Core
code_finds n x order s = put_high n (why.Delivery (delivery.Set x)) (code_stops n order s)

-- code 2: no event is there
unfoldable pub code_waits : ℕ → ℕ → List ℕ → Core → Core
code_waits n x order s = set_place n (place.Waiting x true) (arrive n (code_stops n order s))

-- the task event, or a ready member of the set, is there
unfoldable pub has_event_for : ℕ → ℕ → Core → Bool
has_event_for k x s = is_some (task_event_of k s) || has_ready_member x s

-- by whether an event is there
abbrev pub code_wait_rule : Label → ℕ → ℕ → List ℕ → Core → Bool → Progress
code_wait_rule l n x held s true = Ordered held (λ order. Stops l (code_finds n x order s))
code_wait_rule l n x held s false = Ordered held (λ order. Stops l (code_waits n x order s))

-- By the low four bits of the code, and the rest of it.
-- 0: trap 9 (CannotBlockSyncTask) where the check after the release and the stop fails, trap 4 (NoAsyncResult) where no thread is
-- left and the task hasn't ended. 1: the callback yields. 2: trap 16 (BadHandle) where the rest names no set.
-- Else trap 12 (UnsupportedCallbackCode)
abbrev pub code_kind_rule : Label → ℕ → List ℕ → Core → ℕ → ℕ → Progress
code_kind_rule l n held s zero rest =
    trap_if (not (passes_after_stop (instance_of n s) (foot_of n s) held s)) trap.CannotBlockSyncTask (
    trap_if (leaves_no_result n s) trap.NoAsyncResult (
    Ordered held (λ order. Stops l (code_exits n order s))))
code_kind_rule l n held s (suc zero) rest = Ordered held (λ order. Stops l (code_yields n order s))
code_kind_rule l n held s (suc (suc zero)) rest =
    or_trap (set_at (instance_of n s) rest s) trap.BadHandle (
    λ x. code_wait_rule l n x held s (has_event_for (task_of n s) x s))
code_kind_rule l n held s _ rest = Traps trap.UnsupportedCallbackCode

-- a callback activation ends with the code: trap 12 (UnsupportedCallbackCode) where it is above 4294967295
abbrev pub code_rule : Label → ℕ → Core → ℕ → Progress
code_rule l n s code =
    trap_if (nat_lt 4294967295 code) trap.UnsupportedCallbackCode (
    code_kind_rule l n (held_by_flag (instance_of n s) s) s (code % 16) (code / 16))

-- ---- Exit

abbrev pub kind_exit_rule : ℕ → Option ℕ → Core → ExportKind → Progress
kind_exit_rule n w s kind.Sync = sync_exit_rule n w s
kind_exit_rule n w s kind.Blocking = blocking_exit_rule n w s
kind_exit_rule n w s kind.Stackful = thread_exit_rule n s
kind_exit_rule n w s kind.Callback = code_rule (exit_label n None) n s 0

-- of a call's first thread, by whether the call is direct
abbrev pub implicit_exit_rule : ℕ → Option ℕ → Core → Bool → Progress
implicit_exit_rule n w s true = direct_exit_rule n s
implicit_exit_rule n w s false = kind_exit_rule n w s (kind_of (task_of n s) s)

-- by whether the thread is explicit
abbrev pub exit_rule_for : ℕ → Option ℕ → Core → Bool → Progress
exit_rule_for n w s true = thread_exit_rule n s
exit_rule_for n w s false = implicit_exit_rule n w s (is_direct (goal_of (task_of n s) s))

-- `exit`, and a script's end
abbrev pub exit_rule : ℕ → Option ℕ → Core → Progress
exit_rule n w s = exit_rule_for n w s (is_explicit n s)
