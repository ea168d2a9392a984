-- Labels from their parts, and what a label shows of a step's choices.
use Rattle.std.specs.Prelude.{ℕ, Option, Some, None}
use Rattle.machine_data.specs.declared.statuses.Given.{Given}
use Rattle.machine_data.specs.declared.statuses.Given.TheVariants as given
use Rattle.machine_data.specs.declared.statuses.Mark.{Mark}
use Rattle.machine_data.specs.declared.statuses.TaskEvent.{TaskEvent}
use Rattle.machine_data.specs.declared.statuses.TaskEvent.TheVariants as own
use Rattle.machine_data.specs.declared.label.Label.{Label}
use Rattle.machine_data.specs.declared.label.Label.TheVariants as label
use Rattle.machine_data.specs.declared.label.TakeLabel.{TakeLabel}
use Rattle.machine_data.specs.declared.label.TakeLabel.TheVariants as take
use Rattle.machine_data.specs.declared.label.TaskLabel.{TaskLabel}
use Rattle.machine_data.specs.declared.label.TaskLabel.TheVariants as task
use Rattle.machine_data.specs.declared.label.SetLabel.{SetLabel}
use Rattle.machine_data.specs.declared.label.SetLabel.TheVariants as set

-- ---- A label and the thread that its step woke

abbrev pub ret_label : ℕ → ℕ → Option ℕ → Label
ret_label n v None = label.Task (task.Ret n v)
ret_label n v (Some w) = label.RetWakes n v w

abbrev pub task_cancel_label : ℕ → Option ℕ → Label
task_cancel_label n None = label.Task (task.TaskCancel n)
task_cancel_label n (Some w) = label.Task (task.TaskCancelWakes n w)

abbrev pub exit_label : ℕ → Option ℕ → Label
exit_label n None = label.Task (task.Exit n)
exit_label n (Some w) = label.Task (task.ExitWakes n w)

abbrev pub join_label : ℕ → Option ℕ → Label
join_label n None = label.Set (set.Join n)
join_label n (Some w) = label.Set (set.JoinWakes n w)

-- Only a thread that takes its task event hands a wake on.
abbrev pub given_task_event : Given → TaskEvent
given_task_event given.Cancelled = own.Cancelled
given_task_event _ = own.None

abbrev pub wait_label : ℕ → Given → Option ℕ → Label
wait_label n g None = label.Set (set.Wait g n)
wait_label n g (Some w) = label.Set (set.WaitWakes (given_task_event g) n w)

abbrev pub take_label : Mark → ℕ → Option ℕ → Label
take_label m n None = label.Take (take.Thread m n)
take_label m n (Some w) = label.Take (take.ThreadWakes m n w)

abbrev pub held_label : Mark → ℕ → Option ℕ → Label
held_label m n None = label.Take (take.Held m n)
held_label m n (Some w) = label.Take (take.HeldWakes m n w)

abbrev pub event_label : Mark → ℕ → Given → Option ℕ → Label
event_label m n g None = label.Take (take.Event m g n)
event_label m n g (Some w) = label.Take (take.EventWakes m (given_task_event g) n w)

abbrev pub host_label : Mark → ℕ → Option ℕ → Label
host_label m i None = label.Take (take.Host m i)
host_label m i (Some w) = label.Take (take.HostWakes m i w)

-- ---- The choices

abbrev pub woken_of_take : TakeLabel → Option ℕ
woken_of_take (take.ThreadWakes m n w) = Some w
woken_of_take (take.HeldWakes m n w) = Some w
woken_of_take (take.EventWakes m e n w) = Some w
woken_of_take (take.HostWakes m i w) = Some w
woken_of_take _ = None

abbrev pub woken_of_task : TaskLabel → Option ℕ
woken_of_task (task.TaskCancelWakes n w) = Some w
woken_of_task (task.ExitWakes n w) = Some w
woken_of_task _ = None

abbrev pub woken_of_set : SetLabel → Option ℕ
woken_of_set (set.WaitWakes e n w) = Some w
woken_of_set (set.JoinWakes n w) = Some w
woken_of_set _ = None

-- the waiter that the step woke
abbrev pub woken_of : Label → Option ℕ
woken_of (label.Take l) = woken_of_take l
woken_of (label.Task l) = woken_of_task l
woken_of (label.Set l) = woken_of_set l
woken_of (label.RetWakes n v w) = Some w
woken_of _ = None

-- the handle of the member whose event was handed out
abbrev pub handle_given : Given → Option ℕ
handle_given (given.Subtask e h) = Some h
handle_given _ = None

abbrev pub member_of_take : TakeLabel → Option ℕ
member_of_take (take.Event m g n) = handle_given g
member_of_take _ = None

abbrev pub member_of_set : SetLabel → Option ℕ
member_of_set (set.Wait g n) = handle_given g
member_of_set (set.Poll g n) = handle_given g
member_of_set _ = None

abbrev pub member_of : Label → Option ℕ
member_of (label.Take l) = member_of_take l
member_of (label.Set l) = member_of_set l
member_of _ = None

-- What a step chooses and its label shows: the waiter that it wakes, and the handle of the member that it takes.
pub record Choice : Type 0 where
  pub woken : Option ℕ
  pub member : Option ℕ

abbrev pub choice_of : Label → Choice
choice_of l = record { woken = woken_of l; member = member_of l }
