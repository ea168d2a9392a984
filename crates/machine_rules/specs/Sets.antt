-- The ops on waitable sets.
use Rattle.std.specs.Prelude.{Bool, None, Option, Some, false, is_none, not, option_and_then, suc, true, unwrap_or, zero, ℕ, ◌&&◌, ◌+◌}
use Rattle.machine_data.specs.declared.statuses.Given.{Given}
use Rattle.machine_data.specs.declared.records.OpProgress.{OpProgress}
use Rattle.machine_data.specs.declared.records.Join.{Join}
use Rattle.machine_data.specs.declared.op.SetOp.{SetOp}
use Rattle.machine_data.specs.declared.statuses.Status.{Status}
use Rattle.machine_data.specs.declared.records.Subtask.{Subtask}
use Rattle.machine_data.specs.declared.statuses.Given.TheVariants as given
use Rattle.machine_data.specs.declared.records.OpProgress.TheVariants as op_progress
use Rattle.machine_data.specs.declared.records.Join.TheVariants as join
use Rattle.machine_data.specs.declared.label.Label.TheVariants as label
use Rattle.machine_data.specs.declared.records.Named.TheVariants as named
use Rattle.machine_data.specs.declared.records.Place.TheVariants as place
use Rattle.machine_data.specs.declared.label.SetLabel.TheVariants as set_label
use Rattle.machine_data.specs.declared.op.SetOp.TheVariants as set_op
use Rattle.machine_data.specs.declared.label.ThreadLabel.TheVariants as thread_label
use Rattle.machine_data.specs.declared.trap.Trap.TheVariants as trap
use Rattle.machine_data.specs.Core.{Core}
use Rattle.machine_data.specs.Labels.{Choice, join_label, wait_label}
use Rattle.machine_data.specs.Moves.{NothingPicked, PickedEvent, checked, given_for, handed_on, may_hand_on, may_wake, passes_check, picked_event, picked_task_event_of, stopped_last, taken, waits_cancellable, wake}
use Rattle.machine_data.specs.Read.{at_handle_limit, event_of, fits, has_member, has_ready_member, has_waiters, instance_of, is_watched, join_of, new_handle, op_progress_of, set_at, subtask_at, task_of}
use Rattle.machine_data.specs.Write.{add_set, free_handle, give_handle, remove_set, set_op_progress, set_join, set_register}
pub use Rattle.machine_rules.specs.Finish.{given_code, given_handle, given_result}
unfoldable pub use Rattle.machine_rules.specs.Finish.{set_given}
use Rattle.machine_rules.specs.Finish.{Doer, NoAnswer, OneEvent, OneNumber, OwnScript, finish}
use Rattle.machine_rules.specs.Progress.{Continues, Progress, Stops, may, or_never, or_trap, trap_if}
use Rattle.machine_rules.specs.Scripts.{value_of}

-- ---- Making and dropping a set

-- a set of the thread's instance is made, and has a handle
unfoldable pub set_opened : ℕ → Core → Core
set_opened n s = let i = instance_of n s in give_handle i (named.Set (s.made.sets + 1)) (add_set (record { instance = i }) s)

-- its handle goes to r
abbrev pub set_made : ℕ → ℕ → Core → Core
set_made n r s = finish (OwnScript r) n (OneNumber (new_handle (instance_of n s) s)) (set_opened n s)

-- `set_new R`: trap 18 (TableFull) where 1 entry doesn't fit, trap 17 (HandleLimit) where no handle may be given
abbrev pub set_new_rule : Doer → ℕ → Core → Progress
set_new_rule d n s =
    let h = new_handle (instance_of n s) s in
    trap_if (not (fits 1 s)) trap.TableFull (
    trap_if (at_handle_limit s) trap.HandleLimit (
    Continues (label.Set (set_label.New h n)) (finish d n (OneNumber h) (set_opened n s)) n))

abbrev pub scripted_set_new_rule : ℕ → ℕ → Core → Progress
scripted_set_new_rule n r s = set_new_rule (OwnScript r) n s

-- the set x and its handle h are gone
unfoldable pub set_closed : ℕ → ℕ → ℕ → Core → Core
set_closed n h x s = remove_set x (free_handle (instance_of n s) h s)

abbrev pub set_dropped : ℕ → ℕ → ℕ → Core → Core
set_dropped n h x s = finish (OwnScript 0) n NoAnswer (set_closed n h x s)

-- trap 8 (WaitableSetDropHasWaiters) where a thread waits on the set or has an entry for it,
-- trap 25 (TableHasChildren) where a member is left
abbrev pub set_drop_by : Doer → ℕ → ℕ → Core → ℕ → Progress
set_drop_by d n h s x =
    trap_if (has_waiters x s) trap.WaitableSetDropHasWaiters (
    trap_if (has_member x s) trap.TableHasChildren (
    Continues (label.Set (set_label.Drop n)) (finish d n NoAnswer (set_closed n h x s)) n))

abbrev pub set_drop_found : ℕ → ℕ → Core → ℕ → Progress
set_drop_found n h s x = set_drop_by (OwnScript 0) n h s x

-- `set_drop X`: trap 16 (BadHandle) where X names no set
abbrev pub set_drop_rule : Doer → ℕ → ℕ → Core → Progress
set_drop_rule d n h s = or_trap (set_at (instance_of n s) h s) trap.BadHandle (set_drop_by d n h s)

abbrev pub scripted_set_drop_rule : ℕ → ℕ → Core → Progress
scripted_set_drop_rule n h s = set_drop_rule (OwnScript 0) n h s

-- ---- Waiting and polling

-- the subtask that the thread's instance names by the chosen handle
abbrev pub chosen : ℕ → Choice → Core → Option Subtask
chosen n ch s = option_and_then (λ h. subtask_at (instance_of n s) h s) ch.member

-- what the picked event hands out; default: no member chosen
abbrev pub handed_out : Choice → Core → PickedEvent → Given
handed_out ch s g = given_for g (unwrap_or ch.member 0) s

-- the picked event is taken, and what it hands out is the answer
abbrev pub received_by : Doer → ℕ → PickedEvent → Given → Core → Core
received_by d n g v s = finish d n (OneEvent v) (taken g (task_of n s) s)

-- in r and the two registers after it
abbrev pub received : ℕ → ℕ → PickedEvent → Given → Core → Core
received n r g v s = received_by (OwnScript r) n g v s

-- the strand stops, and its top waits on x
unfoldable pub wait_stops : ℕ → ℕ → Core → Core
wait_stops n x s = set_op_progress n (op_progress.Waits x) (stopped_last n (place.Waiting x false) s)

unfoldable pub wait_stops_checked : ℕ → ℕ → Core → Core
wait_stops_checked n x s = wait_stops n x (checked (instance_of n s) s)

-- neither the task event, as far as the thread may take it, nor a ready member is there
unfoldable pub finds_nothing : ℕ → ℕ → Core → Bool
finds_nothing n x s = is_none (picked_task_event_of (waits_cancellable (task_of n s) s) (task_of n s) s) && not (has_ready_member x s)

abbrev pub wait_takes_by : Doer → ℕ → Choice → Core → PickedEvent → Progress
wait_takes_by d n ch s g = let v = handed_out ch s g in Continues (label.Set (set_label.Wait v n)) (received_by d n g v s) n

abbrev pub wait_takes : ℕ → ℕ → Choice → Core → PickedEvent → Progress
wait_takes n r ch s g = wait_takes_by (OwnScript r) n ch s g

-- where nothing is there, a check: trap 9 (CannotBlockSyncTask) where it fails, else the strand stops; where something is there,
-- it is taken at once
abbrev pub wait_begins_by : Doer → ℕ → Choice → Core → ℕ → Bool → Progress
wait_begins_by d n ch s x true =
    trap_if (not (passes_check (instance_of n s) s)) trap.CannotBlockSyncTask (
    Stops (label.Thread (thread_label.Pauses n)) (wait_stops_checked n x s))
wait_begins_by d n ch s x false =
    or_never (picked_event (waits_cancellable (task_of n s) s) (task_of n s) x (chosen n ch s) s) (
    wait_takes_by d n ch s)

abbrev pub wait_begins : ℕ → ℕ → Choice → Core → ℕ → Bool → Progress
wait_begins n r ch s x b = wait_begins_by (OwnScript r) n ch s x b

-- the wake is handed on where the picked event is the task event
abbrev pub received_woken_by : Doer → ℕ → ℕ → Option ℕ → PickedEvent → Given → Core → Core
received_woken_by d n x w g v s = received_by d n g v (handed_on x g w s)

abbrev pub received_woken : ℕ → ℕ → ℕ → Option ℕ → PickedEvent → Given → Core → Core
received_woken n x r w g v s = received_woken_by (OwnScript r) n x w g v s

-- the resumed thread waits again, without a check, where nothing is there any more; else it takes what is there
abbrev pub wait_goes_on_by : Doer → ℕ → ℕ → Choice → Core → PickedEvent → Progress
wait_goes_on_by d n x ch s NothingPicked = Stops (label.Thread (thread_label.Pauses n)) (wait_stops n x s)
wait_goes_on_by d n x ch s g =
    let v = handed_out ch s g in
    may (may_hand_on x g ch.woken s) (
    Continues (wait_label n v ch.woken) (received_woken_by d n x ch.woken g v s) n)

abbrev pub wait_goes_on : ℕ → ℕ → ℕ → Choice → Core → PickedEvent → Progress
wait_goes_on n x r ch s g = wait_goes_on_by (OwnScript r) n x ch s g

-- `wait R X`: resumed inside it, or as it begins: trap 16 (BadHandle) where X names no set
abbrev pub wait_rule : Doer → ℕ → ℕ → Choice → Core → OpProgress → Progress
wait_rule d n h ch s (op_progress.Waits x) =
    or_never (picked_event (waits_cancellable (task_of n s) s) (task_of n s) x (chosen n ch s) s) (
    wait_goes_on_by d n x ch s)
wait_rule d n h ch s _ =
    or_trap (set_at (instance_of n s) h s) trap.BadHandle (
    λ x. wait_begins_by d n ch s x (finds_nothing n x s))

abbrev pub scripted_wait_rule : ℕ → ℕ → ℕ → Choice → Core → OpProgress → Progress
scripted_wait_rule n r h ch s f = wait_rule (OwnScript r) n h ch s f

abbrev pub poll_takes_by : Doer → ℕ → Choice → Core → PickedEvent → Progress
poll_takes_by d n ch s g = let v = handed_out ch s g in Continues (label.Set (set_label.Poll v n)) (received_by d n g v s) n

abbrev pub poll_takes : ℕ → ℕ → Choice → Core → PickedEvent → Progress
poll_takes n r ch s g = poll_takes_by (OwnScript r) n ch s g

-- `poll R X`: trap 16 (BadHandle) where X names no set; else what is there is taken, and 0 0 0 where nothing is
abbrev pub poll_rule : Doer → ℕ → ℕ → Choice → Core → Progress
poll_rule d n h ch s =
    or_trap (set_at (instance_of n s) h s) trap.BadHandle (
    λ x. or_never (picked_event false (task_of n s) x (chosen n ch s) s) (
    poll_takes_by d n ch s))

abbrev pub scripted_poll_rule : ℕ → ℕ → ℕ → Choice → Core → Progress
scripted_poll_rule n r h ch s = poll_rule (OwnScript r) n h ch s

-- ---- Joining

abbrev pub joins : Option ℕ → Join
joins None = join.Nowhere
joins (Some x) = join.Set x

-- a waiter of the new set is woken, where the subtask has an event
abbrev pub wakes_joined : Option Status → Option ℕ → Option ℕ → Core → Core
wakes_joined (Some e) (Some x) w s = wake x w s
wakes_joined _ _ w s = s

abbrev pub may_wake_new : Option Status → Option ℕ → Option ℕ → Core → Bool
may_wake_new (Some e) (Some x) w s = may_wake x w s
may_wake_new _ _ w s = is_none w

-- the subtask leaves its set and joins the other one, if there is one
unfoldable pub moved_over : Subtask → Option ℕ → Option ℕ → Core → Core
moved_over sub x w s = wakes_joined (event_of sub s) x w (set_join sub (joins x) s)

abbrev pub joined : ℕ → Subtask → Option ℕ → Option ℕ → Core → Core
joined n sub x w s = finish (OwnScript 0) n NoAnswer (moved_over sub x w s)

-- trap 7 (WaitableSyncAndAsync) where the subtask is in a thread's own set
abbrev pub join_done_by : Doer → ℕ → Subtask → Option ℕ → Core → Option ℕ → Progress
join_done_by d n sub w s x =
    trap_if (is_watched (join_of sub s)) trap.WaitableSyncAndAsync (
    may (may_wake_new (event_of sub s) x w s) (
    Continues (join_label n w) (finish d n NoAnswer (moved_over sub x w s)) n))

abbrev pub join_done : ℕ → Subtask → Option ℕ → Core → Option ℕ → Progress
join_done n sub w s x = join_done_by (OwnScript 0) n sub w s x

-- 0 is for no set; else trap 16 (BadHandle) where the handle names none
abbrev pub join_to_by : Doer → ℕ → ℕ → Option ℕ → Core → Subtask → Progress
join_to_by d n zero w s sub = join_done_by d n sub w s None
join_to_by d n (suc h) w s sub = or_trap (set_at (instance_of n s) (suc h) s) trap.BadHandle (λ x. join_done_by d n sub w s (Some x))

abbrev pub join_to : ℕ → ℕ → Option ℕ → Core → Subtask → Progress
join_to n y w s sub = join_to_by (OwnScript 0) n y w s sub

-- `join X Y`: trap 16 (BadHandle) where X names no subtask
abbrev pub join_rule : Doer → ℕ → ℕ → ℕ → Option ℕ → Core → Progress
join_rule d n h y w s = or_trap (subtask_at (instance_of n s) h s) trap.BadHandle (join_to_by d n y w s)

abbrev pub scripted_join_rule : ℕ → ℕ → ℕ → Option ℕ → Core → Progress
scripted_join_rule n h y w s = join_rule (OwnScript 0) n h y w s

abbrev pub set_rule : Doer → ℕ → Core → Choice → SetOp → Progress
set_rule d n s ch (set_op.New r) = set_new_rule d n s
set_rule d n s ch (set_op.Drop x) = set_drop_rule d n (value_of n s x) s
set_rule d n s ch (set_op.Wait r x) = wait_rule d n (value_of n s x) ch s (op_progress_of n s)
set_rule d n s ch (set_op.Poll r x) = poll_rule d n (value_of n s x) ch s
set_rule d n s ch (set_op.Join x y) = join_rule d n (value_of n s x) (value_of n s y) ch.woken s

-- the register of the op's answer; default: it has none
abbrev pub set_answer : SetOp → ℕ
set_answer (set_op.New r) = r
set_answer (set_op.Wait r x) = r
set_answer (set_op.Poll r x) = r
set_answer _ = 0

abbrev pub scripted_set_rule : ℕ → Core → Choice → SetOp → Progress
scripted_set_rule n s ch o = set_rule (OwnScript (set_answer o)) n s ch o
