-- The taking of entries. The entry has left its mark already.
use Rattle.std.specs.Option.{option_map_or}
use Rattle.std.specs.Prelude.{Bool, List, None, Option, Some, [], false, if◌then◌else◌, is_none, true, ℕ, ◌∷◌}
use Rattle.machine_data.specs.declared.records.Delivery.{Delivery}
use Rattle.machine_data.specs.declared.records.Entry.{Entry}
use Rattle.machine_data.specs.declared.component.ExportKind.{ExportKind}
use Rattle.machine_data.specs.declared.statuses.Given.{Given}
use Rattle.machine_data.specs.declared.statuses.Mark.{Mark}
use Rattle.machine_data.specs.declared.records.Place.{Place}
use Rattle.machine_data.specs.declared.statuses.Status.{Status}
use Rattle.machine_data.specs.declared.records.Why.{Why}
use Rattle.machine_data.specs.declared.records.WorkCaller.{WorkCaller}
use Rattle.machine_data.specs.declared.records.Delivery.TheVariants as delivery
use Rattle.machine_data.specs.declared.records.Entry.TheVariants as entry
use Rattle.machine_data.specs.declared.component.ExportKind.TheVariants as kind
use Rattle.machine_data.specs.declared.label.Label.TheVariants as label
use Rattle.machine_data.specs.declared.statuses.Mark.TheVariants as mark
use Rattle.machine_data.specs.declared.records.Place.TheVariants as place
use Rattle.machine_data.specs.declared.records.Script.TheVariants as script
use Rattle.machine_data.specs.declared.records.Stage.TheVariants as stage
use Rattle.machine_data.specs.declared.statuses.Status.TheVariants as status
use Rattle.machine_data.specs.declared.records.Subtask.TheVariants as subtask
use Rattle.machine_data.specs.declared.label.TakeLabel.TheVariants as take
use Rattle.machine_data.specs.declared.trap.Trap.TheVariants as trap
use Rattle.machine_data.specs.declared.records.Why.TheVariants as why
use Rattle.machine_data.specs.declared.records.WorkCaller.TheVariants as work_caller
use Rattle.machine_data.specs.Core.{Core}
use Rattle.machine_data.specs.Labels.{Choice, event_label, held_label, host_label, take_label}
use Rattle.machine_data.specs.Maps.{get}
use Rattle.machine_data.specs.Moves.{PickedEvent, NothingPicked, picked_event, given_for, handed_on, may_hand_on, may_publish, picked_task_event_only, published, stopped_last, taken}
use Rattle.machine_data.specs.Read.{admits, at_handle_limit, course_of, course_value, instance_of, is_explicit, kind_of, place_of, task_of, work_caller_of}
use Rattle.machine_data.specs.Write.{set_do_not_enter, set_high, set_low, set_place, set_register, set_script, set_stage, set_started, set_starting_published, set_switch}
use Rattle.machine_rules.specs.Calls.{sync_sets_flag, with_thread_handle}
use Rattle.machine_rules.specs.Data.{moved_to}
use Rattle.machine_rules.specs.Ends.{may_tell, told}
use Rattle.machine_rules.specs.Progress.{Continues, Never, Progress, Stops, may, or_never, trap_if}
use Rattle.machine_rules.specs.Sets.{chosen, handed_out, set_given}

-- ---- The mark

abbrev pub rest_of : List Entry → List Entry
rest_of [] = []
rest_of (e ∷ es) = es

-- the first entry of the mark is gone
unfoldable pub popped : Mark → Core → Core
popped mark.Switch s = set_switch None s
popped mark.High s = set_high (rest_of s.queues.high) s
popped mark.Low s = set_low (rest_of s.queues.low) s

-- ---- Works

unfoldable pub pushed : ℕ → Core → Core
pushed i s = set_stage i stage.Live s

-- what the host call resulted in is told
abbrev pub host_status : Option ℕ → Status
host_status None = status.ReturnCancelled
host_status (Some v) = status.Returned

-- default: host entry of another work
abbrev pub host_result : WorkCaller → Option ℕ → Core → Core
host_result (work_caller.Async n q) (Some v) s = set_register n q v s
host_result _ _ s = s

-- the subtask is done, its end is published, and the value, if there is one, goes to the calling thread
unfoldable pub host_done : ℕ → Option ℕ → Core → Core
host_done i w s =
    let v = course_value (course_of i s) in
    host_result (work_caller_of i s) v (published (subtask.Host i) (host_status v) w (set_stage i stage.Ended s))

abbrev pub scripted_host_rule : Mark → ℕ → Option ℕ → Core → Progress
scripted_host_rule m i w s = may (may_publish (subtask.Host i) w s) (Stops (host_label m i w) (host_done i w s))

-- ---- Starts

abbrev pub starting_is_published : ℕ → Core → Bool
starting_is_published k s = option_map_or (λ c. c.starting_published) (get s.calls k) false

-- Starting is told once
unfoldable pub starting_told : ℕ → Option ℕ → Core → Core
starting_told k w s = if starting_is_published k s then s else told k status.Starting w (set_starting_published k s)

unfoldable pub may_tell_starting : ℕ → Option ℕ → Core → Bool
may_tell_starting k w s = if starting_is_published k s then is_none w else may_tell k w s

-- the thread is held with its entry, and its strand stops
unfoldable pub take_holds : ℕ → Why → Core → Core
take_holds n w s = stopped_last n (place.Held w) s

unfoldable pub start_holds : ℕ → Option ℕ → Core → Core
start_holds n w s = take_holds n why.Start (starting_told (task_of n s) w s)

-- a sync export saves and sets `do_not_suspend`; a blocking one and a callback set `do_not_enter`
abbrev pub start_sets_flags : ℕ → ExportKind → Core → Core
start_sets_flags n kind.Sync s = sync_sets_flag n (instance_of n s) kind.Sync s
start_sets_flags n kind.Stackful s = s
start_sets_flags n x s = set_do_not_enter (instance_of n s) true s

-- the call's first thread has its handle, Started is told, and the flags of its kind are set
unfoldable pub start_begins : ℕ → Option ℕ → Core → Core
start_begins n w s =
    let k = task_of n s in
    let begun = set_started k (with_thread_handle (instance_of n s) n s) in
    set_place n place.Running (start_sets_flags n (kind_of k s) (told k status.Started w begun))

unfoldable pub running : ℕ → Core → Core
running n s = set_place n place.Running s

-- an explicit thread goes on; a call's first thread begins: trap 17 (HandleLimit) where no thread handle may be given
abbrev pub start_admitted : Mark → ℕ → Option ℕ → Core → Bool → Progress
start_admitted m n w s true = Continues (take_label m n None) (running n s) n
start_admitted m n w s false =
    trap_if (at_handle_limit s) trap.HandleLimit (
    may (may_tell (task_of n s) w s) (
    Continues (take_label m n w) (start_begins n w s) n))

-- by whether the start is admitted
abbrev pub start_rule : Mark → ℕ → Option ℕ → Core → Bool → Progress
start_rule m n w s true = start_admitted m n w s (is_explicit n s)
start_rule m n w s false =
    may (may_tell_starting (task_of n s) w s) (
    Stops (held_label m n w) (start_holds n w s))

-- ---- Deliveries

-- what it hands out is in r0, r1 and r2, and the react script runs
unfoldable pub activated : ℕ → PickedEvent → Given → Core → Core
activated n g v s =
    let given = set_given n 0 v (taken g (task_of n s) s) in
    let shut = set_do_not_enter (instance_of n s) true given in
    set_place n place.Running (moved_to n 0 (set_script n script.React shut))

unfoldable pub activated_woken : ℕ → ℕ → Option ℕ → PickedEvent → Given → Core → Core
activated_woken n x w g v s = activated n g v (handed_on x g w s)

-- it found nothing, and waits again
unfoldable pub wait_again : ℕ → ℕ → Core → Core
wait_again n x s = stopped_last n (place.Waiting x true) s

-- the callback waits again where nothing is there; else it is given what is there
abbrev pub set_delivered : Mark → ℕ → ℕ → Choice → Core → PickedEvent → Progress
set_delivered m n x ch s NothingPicked = Stops (label.Take (take.Again m n)) (wait_again n x s)
set_delivered m n x ch s g =
    let v = handed_out ch s g in
    may (may_hand_on x g ch.woken s) (
    Continues (event_label m n v ch.woken) (activated_woken n x ch.woken g v s) n)

-- of a yield and of a cancel: the task event alone, and 0 0 0 if none is there
abbrev pub own_delivered : Mark → ℕ → Core → PickedEvent → Progress
own_delivered m n s g =
    let v = given_for g 0 s in
    Continues (event_label m n v None) (activated n g v s) n

abbrev pub delivered : Mark → ℕ → Choice → Core → Delivery → Progress
delivered m n ch s (delivery.Set x) =
    or_never (picked_event true (task_of n s) x (chosen n ch s) s) (
    set_delivered m n x ch s)
delivered m n ch s d = own_delivered m n s (picked_task_event_only (task_of n s) s)

-- by whether the delivery is admitted
abbrev pub delivery_rule : Mark → ℕ → Choice → Core → Delivery → Bool → Progress
delivery_rule m n ch s d true = delivered m n ch s d
delivery_rule m n ch s d false = Stops (held_label m n None) (take_holds n (why.Delivery d) s)

-- ---- Taking

abbrev pub thread_taken_for : Mark → ℕ → Choice → Core → Why → Progress
thread_taken_for m n ch s why.Start = start_rule m n ch.woken s (admits n s why.Start)
thread_taken_for m n ch s (why.Delivery d) = delivery_rule m n ch s d (admits n s (why.Delivery d))
thread_taken_for m n ch s why.Resumption = Continues (take_label m n None) (running n s) n

-- only a thread whose entry is queued is taken; default: not queued
abbrev pub thread_taken : Mark → ℕ → Choice → Core → Option Place → Progress
thread_taken m n ch s (Some (place.Ready x w)) = thread_taken_for m n ch s w
thread_taken m n ch s _ = Never

-- the entry, which was queued at the mark, is taken
abbrev pub take_rule : Mark → Choice → Core → Entry → Progress
take_rule m ch s (entry.Thread n) = thread_taken m n ch s (place_of n s)
take_rule m ch s (entry.Push i) = Stops (label.Take (take.Push m i)) (pushed i s)
take_rule m ch s (entry.Host i) = scripted_host_rule m i ch.woken s
