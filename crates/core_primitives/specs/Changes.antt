-- What the primitives that write make of a state; each id is read as what it names.
use Rattle.std.specs.List.{list_any}
use Rattle.std.specs.Prelude.{◌≡◌, ◌++◌, ◌∷◌, [], IsPermutation, List, Some, false, true, ℕ}
use Rattle.task_table.specs.declared.id.TableId.{TableId}
use Rattle.task_wait.specs.declared.keys.GuestTaskKey.{GuestTaskKey}
use Rattle.task_wait.specs.declared.keys.HostTaskKey.{HostTaskKey}
use Rattle.task_wait.specs.declared.keys.SetKey.{SetKey}
use Rattle.task_wait.specs.declared.keys.ThreadKey.{ThreadKey}
use Rattle.machine_data.specs.Moves.{released, stand, why_of}
use Rattle.machine_data.specs.Read.{admitted_held, callers_of, instance_of, is_ready_member, new_thread_handle, thread_at}
use Rattle.machine_data.specs.Write.{set_callers, set_join, set_op_progress, set_place}
use Rattle.machine_data.specs.declared.component.HostDef.{HostDef}
use Rattle.machine_data.specs.declared.statuses.Mark.{Mark}
use Rattle.machine_data.specs.declared.records.OpProgress.TheVariants as op_progress
use Rattle.machine_data.specs.declared.records.Place.TheVariants as place
use Rattle.machine_data.specs.declared.records.Subtask.TheVariants as subtask
use Rattle.machine_rules.specs.Calls.{with_thread_handle}
use Rattle.machine_rules.specs.Cancels.{cancellable}
use Rattle.machine_rules.specs.Step.{is_among}
use Rattle.machine_rules.specs.Picks.{cancel_before, goes_in_order, IsFirstMember, IsFirstWaiter, WakesFirst}
use Rattle.machine_rules.specs.Works.{poll_of, poll_pends}
use Rattle.core_primitives.specs.Names.{join_in, op_progress_in, place_in, subtask_in}
use Rattle.core_primitives.specs.Polls.{PendsWith}
use Rattle.core_primitives.specs.Preferences.{preference}
use Rattle.core_primitives.specs.StateView.{StateView, call_of, on_core, set_of, thread_of, work_of}
use Rattle.core_primitives.specs.declared.names.JoinId.{JoinId}
use Rattle.core_primitives.specs.declared.names.OpProgressId.{OpProgressId}
use Rattle.core_primitives.specs.declared.names.PlaceId.{PlaceId}
use Rattle.core_primitives.specs.declared.names.SubtaskId.{SubtaskId}

-- the thread at another place
abbrev pub with_place : TableId ThreadKey → PlaceId → StateView → StateView
with_place id at s = on_core (set_place (thread_of s id) (place_in s.tags at)) s

-- its op got this far
abbrev pub with_op_progress : TableId ThreadKey → OpProgressId → StateView → StateView
with_op_progress id progress s = on_core (set_op_progress (thread_of s id) (op_progress_in s.tags progress)) s

-- both
abbrev pub standing_at : TableId ThreadKey → PlaceId → OpProgressId → StateView → StateView
standing_at id at progress s =
    on_core (λ c. set_op_progress (thread_of s id) (op_progress_in s.tags progress) (set_place (thread_of s id) (place_in s.tags at) c)) s

-- under the thread of a call, and inside that call
abbrev pub standing_under : TableId ThreadKey → (callee : TableId ThreadKey) → TableId GuestTaskKey → StateView → StateView
standing_under id callee call s =
    on_core (λ c. set_op_progress (thread_of s id) (op_progress.Calls (subtask.Guest (call_of s call)))
    (set_place (thread_of s id) (place.Under (thread_of s callee)) c)) s

-- its entry is at this mark, for the same reason
abbrev pub with_mark : TableId ThreadKey → Mark → StateView → StateView
with_mark id mark s = on_core (λ c. stand (thread_of s id) mark (why_of (thread_of s id) c) c) s

-- held, for the same reason
abbrev pub with_held : TableId ThreadKey → StateView → StateView
with_held id s = on_core (λ c. set_place (thread_of s id) (place.Held (why_of (thread_of s id) c)) c) s

-- the threads behind one
abbrev pub callers_at : StateView → TableId ThreadKey → List ℕ
callers_at s id = callers_of (thread_of s id) s.core

abbrev pub with_callers : TableId ThreadKey → List ℕ → StateView → StateView
with_callers id callers s = on_core (set_callers (thread_of s id) callers) s

-- another one is last behind it
abbrev pub with_caller : TableId ThreadKey → (other : TableId ThreadKey) → StateView → StateView
with_caller id other s = with_callers id (callers_at s id ++ thread_of s other ∷ []) s

abbrev pub with_join : SubtaskId → JoinId → StateView → StateView
with_join sub join s = on_core (set_join (subtask_in s.tags sub) (join_in s.tags join)) s

-- the handle that the thread's instance would give it
abbrev pub handle_for : TableId ThreadKey → StateView → ℕ
handle_for id s = new_thread_handle (instance_of (thread_of s id) s.core) s.core

-- the thread has that handle
abbrev pub with_handle_for : TableId ThreadKey → StateView → StateView
with_handle_for id s = on_core (with_thread_handle (instance_of (thread_of s id) s.core) (thread_of s id)) s

-- The handle names the thread in its instance.
abbrev pub NamesThread : TableId ThreadKey → (handle : ℕ) → StateView → Type 0
NamesThread id h s = thread_at (instance_of (thread_of s id) s.core) h s.core ≡ Some (thread_of s id)

-- The held threads of the instance that are admitted are at high, in the order of the preference.
abbrev pub ReleasesHeld : (instance : ℕ) → (old new : StateView) → Type 0
ReleasesHeld i s t = (order : List ℕ) × (IsPermutation (admitted_held i s.core) order × ((goes_in_order (preference s) order ≡ true) × (t ≡ on_core (released order) s)))

-- No waiter of the set comes before this one.
abbrev pub ComesFirst : TableId SetKey → TableId ThreadKey → StateView → Type 0
ComesFirst set id s = IsFirstWaiter (preference s) (set_of s set) s.core (thread_of s id)

-- A cancel of the call may take the thread.
abbrev pub IsCancellable : TableId GuestTaskKey → TableId ThreadKey → StateView → Type 0
IsCancellable call id s = is_among (thread_of s id) (cancellable (call_of s call) s.core) ≡ true

-- No thread that a cancel of the call may take comes before this one.
abbrev pub IsFirstToCancel : TableId GuestTaskKey → TableId ThreadKey → StateView → Type 0
IsFirstToCancel call id s =
    list_any (λ n. cancel_before (preference s) n (thread_of s id)) (cancellable (call_of s call) s.core) ≡ false

-- It waits on a set, and no waiter of that comes before it.
abbrev pub IsFirstToWake : TableId ThreadKey → StateView → Type 0
IsFirstToWake id s = WakesFirst (preference s) s.core (thread_of s id)

-- No ready member of the set comes before this one.
abbrev pub MemberComesFirst : TableId SetKey → SubtaskId → StateView → Type 0
MemberComesFirst set member s = IsFirstMember (preference s) (set_of s set) s.core (subtask_in s.tags member)

-- A subtask is a ready member of the set.
abbrev pub IsReadyMember : TableId SetKey → SubtaskId → StateView → Type 0
IsReadyMember set member s = is_ready_member (set_of s set) (subtask_in s.tags member) s.core ≡ true

-- Whatever the work is to do where a poll of it may pend is what it is to do now.
abbrev pub CountsPoll : TableId HostTaskKey → (old new : StateView) → Type 0
CountsPoll id s t =
    (left : HostDef) → PendsWith left (poll_of (work_of s id) s.core) → t ≡ on_core (poll_pends (work_of s id) left) s
