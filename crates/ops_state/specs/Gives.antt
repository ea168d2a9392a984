-- The event that a task is given.
use Rattle.std.specs.Prelude.{Bool, false, None, Option, Some, unwrap_or, ℕ, ◌≡◌, true}
use Rattle.machine_data.specs.Core.{Core}
use Rattle.machine_data.specs.Moves.{PickedEvent, PickedMember, NothingPicked, PickedTaskEvent, picked_event, picked_task_event_of, own_or_nothing, taken}
use Rattle.machine_data.specs.Read.{event_of, has_ready_member, is_ready_member, subtask_handle, is_async_lifted, kind_of}
use Rattle.machine_data.specs.declared.records.Subtask.{Subtask}
use Rattle.machine_data.specs.declared.statuses.TaskEvent.{TaskEvent}
use Rattle.machine_data.specs.declared.statuses.TaskEvent.TheVariants as own
use Rattle.machine_data.specs.declared.statuses.Status.TheVariants as status
use Rattle.task_wait.specs.declared.codes.Event.{Event}
use Rattle.task_wait.specs.declared.codes.Event.TheVariants as event
use Rattle.core_primitives.specs.StateView.{StateView, on_core}

-- what the task is given by the set, with this member chosen; without a set its task event alone; None if the choice isn't lawful
abbrev pub picked_event_of : Bool → ℕ → Option ℕ → Option Subtask → Core → Option PickedEvent
picked_event_of cancellable k None chosen s = Some (own_or_nothing (picked_task_event_of cancellable k s))
picked_event_of cancellable k (Some x) chosen s = picked_event cancellable k x chosen s

abbrev pub own_told : TaskEvent → Event
own_told own.None = event.None
own_told own.Cancelled = event.Cancelled

-- a ready member's event and handle; default: no event, no handle
abbrev pub member_told : Subtask → Core → Event × ℕ
member_told sub s = (event.Subtask (unwrap_or (event_of sub s) status.Starting), unwrap_or (subtask_handle sub s) 0)

-- the event, and the handle of the member whose it is; the handle of the task event is 0
abbrev pub handed : PickedEvent → Core → Option (Event × ℕ)
handed (PickedTaskEvent e) s = Some (own_told e, 0)
handed (PickedMember sub) s = Some (member_told sub s)
handed NothingPicked s = None

-- the set, if one is given, has a ready member
abbrev pub has_ready_in : Option ℕ → Core → Bool
has_ready_in None s = false
has_ready_in (Some x) s = has_ready_member x s

abbrev pub is_ready_in : Option ℕ → Subtask → Core → Bool
is_ready_in None sub s = false
is_ready_in (Some x) sub s = is_ready_member x sub s

-- a call that may be told of its cancel is of an async-lifted export
abbrev pub IsAsyncIfCancellable : (cancellable : Bool) → ℕ → Core → Type 0
IsAsyncIfCancellable cancellable k s = cancellable ≡ true → is_async_lifted (kind_of k s) ≡ true

-- The picked event was taken, and what it hands out is the answer.
pub record Gives (cancellable : Bool) (k : ℕ) (set : Option ℕ) (s : StateView) (r : Option (Event × ℕ)) (t : StateView) :
    Type 0 where
  pub chosen : Option Subtask
  pub given : PickedEvent
  pub lawful : picked_event_of cancellable k set chosen s.core ≡ Some given
  pub answer : r ≡ handed given s.core
  pub core : t ≡ on_core (taken given k) s
