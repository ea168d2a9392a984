-- The ends of subtasks: which step writes one, and which hands one out.
use Rattle.std.specs.Option.{option_map_or, option_or}
use Rattle.std.specs.Prelude.{Bool, None, Option, Some, false, find, if◌then◌else◌, is_none, not, option_and_then, option_map, true, ℕ, ◌&&◌, ◌==◌, ◌||◌}
use Rattle.machine_data.specs.declared.label.CallLabel.{CallLabel}
use Rattle.machine_data.specs.declared.component.Component.{Component}
use Rattle.machine_data.specs.declared.statuses.Given.{Given}
use Rattle.machine_data.specs.declared.records.OpProgress.{OpProgress}
use Rattle.machine_data.specs.declared.label.Label.{Label}
use Rattle.machine_data.specs.declared.label.LoopLabel.{LoopLabel}
use Rattle.machine_data.specs.declared.label.MainLabel.{MainLabel}
use Rattle.machine_data.specs.declared.op.Op.{Op}
use Rattle.machine_data.specs.declared.label.SetLabel.{SetLabel}
use Rattle.machine_data.specs.declared.statuses.Status.{Status}
use Rattle.machine_data.specs.declared.records.Subtask.{Subtask}
use Rattle.machine_data.specs.declared.label.TakeLabel.{TakeLabel}
use Rattle.machine_data.specs.declared.label.TaskLabel.{TaskLabel}
use Rattle.machine_data.specs.declared.label.CallLabel.TheVariants as call_label
use Rattle.machine_data.specs.declared.op.CallOp.TheVariants as call_op
use Rattle.machine_data.specs.declared.statuses.Given.TheVariants as given
use Rattle.machine_data.specs.declared.records.OpProgress.TheVariants as op_progress
use Rattle.machine_data.specs.declared.label.Label.TheVariants as label
use Rattle.machine_data.specs.declared.label.LoopLabel.TheVariants as loop_label
use Rattle.machine_data.specs.declared.label.MainLabel.TheVariants as main_label
use Rattle.machine_data.specs.declared.op.Op.TheVariants as op
use Rattle.machine_data.specs.declared.label.SetLabel.TheVariants as set_label
use Rattle.machine_data.specs.declared.statuses.Status.TheVariants as status
use Rattle.machine_data.specs.declared.records.Subtask.TheVariants as subtask
use Rattle.machine_data.specs.declared.label.TakeLabel.TheVariants as take
use Rattle.machine_data.specs.declared.label.TaskLabel.TheVariants as task_label
use Rattle.machine_data.specs.Core.{Began, Core, Main, Refused, Scripted, Started, Unscripted}
use Rattle.machine_data.specs.Maps.{get, numbers}
use Rattle.machine_data.specs.Read.{course_of, course_value, goal_of, op_progress_of, instance_of, is_async_lifted, is_direct, is_explicit, kind_of, subtask_at, task_of, under_of}
use Rattle.machine_rules.specs.MainOps.{started_at}
use Rattle.machine_rules.specs.Scripts.{ops_of, value_of}
use Rattle.machine_rules.specs.Takes.{host_status}

-- An end to which a subtask has come, as its status.
pub record SubtaskEnd : Type 0 where
  pub subtask : Subtask
  pub status : Status

abbrev pub end_for : Status → Subtask → SubtaskEnd
end_for e sub = record { subtask = sub; status = e }

-- the end of the thread's task
abbrev pub task_end : ℕ → Status → Core → Option SubtaskEnd
task_end n e s = Some (end_for e (subtask.Guest (task_of n s)))

abbrev pub host_end : ℕ → Status → Option SubtaskEnd
host_end i e = Some (end_for e (subtask.Host i))

-- ---- The subtask that an op is about

abbrev pub call_of_op : OpProgress → Option Subtask
call_of_op (op_progress.Calls sub) = Some sub
call_of_op _ = None

-- the subtask that a cancel names by its handle
abbrev pub cancel_target : ℕ → Core → Op → Option Subtask
cancel_target n s (op.Call (call_op.Cancel r x)) = subtask_at (instance_of n s) (value_of n s x) s
cancel_target n s (op.Call (call_op.CancelSync r x)) = subtask_at (instance_of n s) (value_of n s x) s
cancel_target n s _ = None

abbrev pub cancelled_of_op : (ℕ → Op) → ℕ → Core → OpProgress → Option Subtask
cancelled_of_op ops n s (op_progress.Cancels sub) = Some sub
cancelled_of_op ops n s (op_progress.AwaitsEnd sub) = Some sub
cancelled_of_op ops n s _ = cancel_target n s (ops n)

-- ---- Writing an end

-- the exit ends the task: that of the first thread of a direct call, or of a call of a sync or a blocking export
abbrev pub is_ending_exit : ℕ → Core → Bool
is_ending_exit n s = not (is_explicit n s) && (is_direct (goal_of (task_of n s) s) || not (is_async_lifted (kind_of (task_of n s) s)))

abbrev pub written_by_exit : ℕ → Core → Option SubtaskEnd
written_by_exit n s = if is_ending_exit n s then task_end n status.Returned s else None

abbrev pub written_by_task : Core → TaskLabel → Option SubtaskEnd
written_by_task s (task_label.Ret n v) = task_end n status.Returned s
written_by_task s (task_label.TaskCancel n) = task_end n status.ReturnCancelled s
written_by_task s (task_label.TaskCancelWakes n w) = task_end n status.ReturnCancelled s
written_by_task s (task_label.Exit n) = written_by_exit n s
written_by_task s (task_label.ExitWakes n w) = written_by_exit n s
written_by_task s _ = None

-- a cancel that answers 3 has withdrawn a start
abbrev pub written_by_cancel : (ℕ → Op) → ℕ → Core → ℕ → Option SubtaskEnd
written_by_cancel ops n s answer =
    if answer == 3 then option_map (end_for status.StartCancelled) (cancelled_of_op ops n s (op_progress_of n s)) else None

-- a host was ready at its first poll
abbrev pub ready_at_once : ℕ → ℕ → Option SubtaskEnd
ready_at_once answer i = if answer == 2 then host_end i status.Returned else None

abbrev pub written_by_call : (ℕ → Op) → Core → CallLabel → Option SubtaskEnd
written_by_call ops s (call_label.CallPolls answer n i) = ready_at_once answer i
written_by_call ops s (call_label.Cancel answer n) = written_by_cancel ops n s answer
written_by_call ops s (call_label.CancelSync answer n) = written_by_cancel ops n s answer
written_by_call ops s _ = None

-- the end to which the polled work has come in the state after
abbrev pub written_by_loop : Core → LoopLabel → Option SubtaskEnd
written_by_loop t (loop_label.FutureEnds i) = host_end i (host_status (course_value (course_of i t)))
written_by_loop t (loop_label.FutureAborted i) = host_end i status.ReturnCancelled
written_by_loop t _ = None

-- the end that a step from s to t writes, by its label and the ops of the threads
abbrev pub written_as : (ℕ → Op) → Core → Label → Core → Option SubtaskEnd
written_as ops s (label.Loop l) t = written_by_loop t l
written_as ops s (label.Task l) t = written_by_task s l
written_as ops s (label.Call l) t = written_by_call ops s l
written_as ops s (label.RetWakes n v w) t = task_end n status.Returned s
written_as ops s (label.CallSyncPolls n v i) t = host_end i status.Returned
written_as ops s _ t = None

abbrev pub written_by : Component → Core → Label → Core → Option SubtaskEnd
written_by c s l t = written_as (ops_of c s) s l t

-- ---- Handing an end out

abbrev pub is_handed_end : Status → Bool
is_handed_end status.Returned = true
is_handed_end status.ReturnCancelled = true
is_handed_end _ = false

-- by an event with status 2 or 4
abbrev pub handed_by_event : ℕ → Core → Given → Option SubtaskEnd
handed_by_event n s (given.Subtask e h) = if is_handed_end e then option_map (end_for e) (subtask_at (instance_of n s) h s) else None
handed_by_event n s _ = None

abbrev pub handed_by_take : Core → TakeLabel → Option SubtaskEnd
handed_by_take s (take.Event m g n) = handed_by_event n s g
handed_by_take s _ = None

abbrev pub handed_by_set : Core → SetLabel → Option SubtaskEnd
handed_by_set s (set_label.Wait g n) = handed_by_event n s g
handed_by_set s (set_label.Poll g n) = handed_by_event n s g
handed_by_set s _ = None

-- the end that the answer of a cancel represents
abbrev pub end_answered : ℕ → Option Status
end_answered answer =
    if answer == 2 then Some status.Returned
    else (if answer == 3 then Some status.StartCancelled else (if answer == 4 then Some status.ReturnCancelled else None))

-- by a cancel that answers 2, 3 or 4
abbrev pub handed_by_cancel : (ℕ → Op) → ℕ → Core → ℕ → Option SubtaskEnd
handed_by_cancel ops n s answer = option_and_then (λ e. option_map (end_for e) (cancelled_of_op ops n s (op_progress_of n s))) (end_answered answer)

abbrev pub returned_of_op : ℕ → Core → Option SubtaskEnd
returned_of_op n s = option_map (end_for status.Returned) (call_of_op (op_progress_of n s))

abbrev pub handed_by_call : (ℕ → Op) → Core → CallLabel → Option SubtaskEnd
handed_by_call ops s (call_label.Call answer n) = if answer == 2 then returned_of_op n s else None
handed_by_call ops s (call_label.CallPolls answer n i) = ready_at_once answer i
handed_by_call ops s (call_label.CallSync n v) = returned_of_op n s
handed_by_call ops s (call_label.Cancel answer n) = handed_by_cancel ops n s answer
handed_by_call ops s (call_label.CancelSync answer n) = handed_by_cancel ops n s answer
handed_by_call ops s _ = None

-- the end of a direct call goes to the thread under it when it exits, which hands it out by its next label (`handed` of Once)
abbrev pub handed_by_exit : Core → TaskLabel → Option SubtaskEnd
handed_by_exit s (task_label.Exit n) =
    if not (is_explicit n s) && is_direct (goal_of (task_of n s) s) then task_end n status.Returned s else None
handed_by_exit s _ = None

abbrev pub started_end : Started → Option SubtaskEnd
started_end (Began k) = Some (end_for status.Returned (subtask.Guest k))
started_end (Refused t) = None

abbrev pub has_result : ℕ → Core → ℕ → Bool
has_result v s k = option_map_or (λ w. w == v) (get s.results k) false

-- a call whose result is v, and is gone after the step if that holds of one
abbrev pub finished_call : ℕ → Core → Core → Option ℕ
finished_call v s t =
    option_or (find (λ k. has_result v s k && is_none (get t.results k)) (numbers s.results)) (find (has_result v s) (numbers s.results))

-- by `main finish`: of a script, the start that the op names; of another main, whose part isn't told, the call whose result it took
abbrev pub handed_by_main : Main → Core → MainLabel → Core → Option SubtaskEnd
handed_by_main (Scripted p) s (main_label.Finish k v) t = started_end (started_at p k)
handed_by_main Unscripted s (main_label.Finish k v) t = option_map (λ n. end_for status.Returned (subtask.Guest n)) (finished_call v s t)
handed_by_main _ s _ t = None

-- the end that a step from s to t hands out, by its label
abbrev pub handed_as : (ℕ → Op) → Main → Core → Label → Core → Option SubtaskEnd
handed_as ops main s (label.Main l) t = handed_by_main main s l t
handed_as ops main s (label.Take l) t = handed_by_take s l
handed_as ops main s (label.Task l) t = handed_by_exit s l
handed_as ops main s (label.Set l) t = handed_by_set s l
handed_as ops main s (label.Call l) t = handed_by_call ops s l
handed_as ops main s (label.CallSyncPolls n v i) t = host_end i status.Returned
handed_as ops main s _ t = None

abbrev pub handed_by : Component → Main → Core → Label → Core → Option SubtaskEnd
handed_by c main s l t = handed_as (ops_of c s) main s l t

-- ---- Direct calls

-- the thread to which a direct call returns in the step, and the call
abbrev pub direct_return : Core → Label → Option (ℕ × ℕ)
direct_return s (label.Task (task_label.Exit n)) =
    if not (is_explicit n s) && is_direct (goal_of (task_of n s) s) then option_map (λ m. (m, task_of n s)) (under_of n s) else None
direct_return s _ = None

-- the thread whose `call_sync` has an answer
abbrev pub sync_answered : Label → Option ℕ
sync_answered (label.Call (call_label.CallSync n v)) = Some n
sync_answered _ = None

abbrev pub is_answered : OpProgress → Bool
is_answered (op_progress.Answered v) = true
is_answered _ = false

-- the thread whose `call_sync` answers what its direct call returned
abbrev pub direct_answered : Core → Label → Option ℕ
direct_answered s l = option_and_then (λ n. if is_answered (op_progress_of n s) then Some n else None) (sync_answered l)
