-- The offer of each rule that chooses, and of a state. What a rule finds before it chooses is tested in the rule's order.
use Rattle.laws_choices.specs.Offer.{Offer}
use Rattle.std.specs.Option.{option_map_or}
use Rattle.std.specs.Prelude.{Bool, List, None, Option, Some, [], filter, false, if◌then◌else◌, is_some, nat_lt, not, suc, true, zero, ℕ, ◌%◌, ◌*◌, ◌+◌, ◌/◌}
use Rattle.machine_data.specs.Core.{Core, State}
use Rattle.machine_data.specs.Maps.{get, numbers}
use Rattle.machine_data.specs.Moves.{picked_task_event_of, waits_cancellable}
use Rattle.machine_data.specs.declared.op.CallOp.TheVariants as call_op
use Rattle.machine_data.specs.declared.op.CallOp.{CallOp}
use Rattle.machine_rules.specs.Cancels.{CancelCase, ThreadWaits, cancel_case, cancellable}
use Rattle.machine_data.specs.Read.{admits, at_handle_limit, backpressure_of, cancel_was_delivered, event_of, foot_of, goal_of, has_ended, has_ready_member, op_progress_of, instance_of, is_async_lifted, is_direct, is_explicit, is_joined, is_ready_member, is_waiter, is_watched, join_of, kind_of, next_entry, place_of, set_at, subtask_at, task_of}
use Rattle.machine_data.specs.declared.component.ExportKind.TheVariants as kind
use Rattle.machine_data.specs.declared.component.ExportKind.{ExportKind}
use Rattle.machine_data.specs.declared.op.Op.TheVariants as op
use Rattle.machine_data.specs.declared.op.Op.{Op}
use Rattle.machine_data.specs.declared.op.SetOp.TheVariants as set_op
use Rattle.machine_data.specs.declared.op.SetOp.{SetOp}
use Rattle.machine_data.specs.declared.op.TaskOp.TheVariants as task_op
use Rattle.machine_data.specs.declared.op.TaskOp.{TaskOp}
use Rattle.machine_data.specs.declared.records.Delivery.TheVariants as delivery
use Rattle.machine_data.specs.declared.records.Delivery.{Delivery}
use Rattle.machine_data.specs.declared.records.Entry.TheVariants as entry
use Rattle.machine_data.specs.declared.records.Entry.{Entry}
use Rattle.machine_data.specs.declared.records.OpProgress.TheVariants as op_progress
use Rattle.machine_data.specs.declared.records.OpProgress.{OpProgress}
use Rattle.machine_data.specs.declared.records.Join.TheVariants as join
use Rattle.machine_data.specs.declared.records.Join.{Join}
use Rattle.machine_data.specs.declared.records.Place.TheVariants as place
use Rattle.machine_data.specs.declared.records.Place.{Place}
use Rattle.machine_data.specs.declared.records.Subtask.TheVariants as subtask
use Rattle.machine_data.specs.declared.records.Subtask.{Subtask}
use Rattle.machine_data.specs.declared.records.Turn.TheVariants as turn
use Rattle.machine_data.specs.declared.records.Turn.{Turn}
use Rattle.machine_data.specs.declared.records.Why.TheVariants as why
use Rattle.machine_data.specs.declared.records.Why.{Why}
use Rattle.machine_data.specs.declared.statuses.Status.{Status}
use Rattle.machine_rules.specs.Ends.{held_by_flag, is_told, leaves_no_result, passes_after_return, passes_after_stop}
use Rattle.machine_rules.specs.Scripts.{op_of, value_of}
use Rattle.machine_rules.specs.Sets.{finds_nothing}
use Rattle.machine_rules.specs.Stalled.{Setting}
use Rattle.machine_rules.specs.Takes.{popped, starting_is_published}
use Rattle.machine_rules.specs.Task.{held_by_counter}

-- ---- What is offered

abbrev pub nothing : Offer
nothing = record { waiters = []; members = []; held = [] }

-- nothing, where the rule traps before it chooses
abbrev pub unless : Bool → Offer → Offer
unless true o = nothing
unless false o = o

-- nothing, where there is none
abbrev pub of_found : {X : Type 0} → Option X → (X → Offer) → Offer
of_found None o = nothing
of_found (Some x) o = o x

-- the threads that wait on the set, in order of number
abbrev pub waiters_of : ℕ → Core → List ℕ
waiters_of x s = filter (λ n. is_waiter x n s) (numbers s.threads)

-- a waiter of the set is woken
abbrev pub wakes : ℕ → Core → Offer
wakes x s = record { waiters = waiters_of x s; members = []; held = [] }

-- a waiter of the guest-made set to which something is joined is woken
abbrev pub wakes_in : Join → Core → Offer
wakes_in (join.Set x) s = wakes x s
wakes_in _ s = nothing

-- the caller of the call is told of it
abbrev pub tells : ℕ → Core → Offer
tells k s = if is_told k s then wakes_in (join_of (subtask.Guest k) s) s else nothing

-- the instance's handle names a ready member of the set
abbrev pub names_ready : ℕ → ℕ → Core → ℕ → Bool
names_ready i x s h = option_map_or (λ sub. is_ready_member x sub s) (subtask_at i h s) false

-- the instance's handles, in order of number
abbrev pub handles_of : ℕ → Core → List ℕ
handles_of i s = option_map_or (λ t. numbers t.live) (get s.handles i) []

-- the event of a ready member of the set is taken, which a handle of the thread's instance names
abbrev pub takes_of : ℕ → ℕ → Core → Offer
takes_of n x s = record { waiters = []; members = filter (names_ready (instance_of n s) x s) (handles_of (instance_of n s) s); held = [] }

-- these threads are released, and what is offered beside
abbrev pub releases : List ℕ → Offer → Offer
releases ns o = record { waiters = o.waiters; members = o.members; held = ns }

-- what the thread is given of the set: its task event, for which no member is taken, else that of a member
abbrev pub gives : Bool → ℕ → ℕ → Core → Offer
gives by_callback n x s = if is_some (picked_task_event_of by_callback (task_of n s) s) then nothing else takes_of n x s

-- what a woken thread is given of the set, whose wake is handed on where it is given the task event while a member is ready
abbrev pub gives_woken : Bool → ℕ → ℕ → Core → Offer
gives_woken by_callback n x s =
    if is_some (picked_task_event_of by_callback (task_of n s) s) then (if has_ready_member x s then wakes x s else nothing) else takes_of n x s

-- ---- Ops on tasks

abbrev pub ret_offer : ℕ → Core → Offer
ret_offer n s = unless (has_ended (task_of n s) s) (unless (not (is_async_lifted (kind_of (task_of n s) s))) (tells (task_of n s) s))

abbrev pub task_cancel_offer : ℕ → Core → Offer
task_cancel_offer n s = unless (not (cancel_was_delivered (task_of n s) s)) (unless (has_ended (task_of n s) s) (tells (task_of n s) s))

-- a sync export's task returns; so does a blocking one's, with a release before it
abbrev pub sync_exit_offer : ℕ → Core → Offer
sync_exit_offer n s = tells (task_of n s) s

abbrev pub blocking_exit_offer : ℕ → Core → Offer
blocking_exit_offer n s =
    unless (not (passes_after_return n None s)) (releases (held_by_flag (instance_of n s) s) (tells (task_of n s) s))

-- by the low four bits of the code, and the rest of it
abbrev pub code_kind_offer : ℕ → List ℕ → Core → ℕ → ℕ → Offer
code_kind_offer n held s zero rest =
    unless (not (passes_after_stop (instance_of n s) (foot_of n s) held s)) (unless (leaves_no_result n s) (releases held nothing))
code_kind_offer n held s (suc zero) rest = releases held nothing
code_kind_offer n held s (suc (suc zero)) rest = of_found (set_at (instance_of n s) rest s) (λ x. releases held nothing)
code_kind_offer n held s _ rest = nothing

-- an activation ends with the code
abbrev pub code_offer : ℕ → Core → ℕ → Offer
code_offer n s code = unless (nat_lt 4294967295 code) (code_kind_offer n (held_by_flag (instance_of n s) s) s (code % 16) (code / 16))

abbrev pub kind_exit_offer : ℕ → Core → ExportKind → Offer
kind_exit_offer n s kind.Sync = sync_exit_offer n s
kind_exit_offer n s kind.Blocking = blocking_exit_offer n s
kind_exit_offer n s kind.Stackful = nothing
kind_exit_offer n s kind.Callback = code_offer n s 0

-- explicit threads and direct calls tell nobody
abbrev pub exit_offer : ℕ → Core → Offer
exit_offer n s =
    if is_explicit n s then nothing else (
    if is_direct (goal_of (task_of n s) s) then nothing else kind_exit_offer n s (kind_of (task_of n s) s))

-- by the backpressure: falling to 0 releases the instance
abbrev pub dec_offer : ℕ → Core → ℕ → Offer
dec_offer n s (suc zero) = releases (held_by_counter (instance_of n s) s) nothing
dec_offer n s _ = nothing

abbrev pub task_offer : ℕ → Core → TaskOp → Offer
task_offer n s (task_op.Ret x) = ret_offer n s
task_offer n s task_op.TaskCancel = task_cancel_offer n s
task_offer n s task_op.Exit = exit_offer n s
task_offer n s task_op.CbYield = code_offer n s 1
task_offer n s (task_op.CbWait x) = code_offer n s (16 * value_of n s x + 2)
task_offer n s (task_op.Code x) = code_offer n s (value_of n s x)
task_offer n s task_op.BpDec = dec_offer n s (backpressure_of (instance_of n s) s)
task_offer n s _ = nothing

-- ---- Ops on sets

-- resumed inside it, or as it begins, where it takes only what is there
abbrev pub wait_offer : ℕ → ℕ → Core → OpProgress → Offer
wait_offer n h s (op_progress.Waits x) = gives_woken (waits_cancellable (task_of n s) s) n x s
wait_offer n h s _ = of_found (set_at (instance_of n s) h s) (λ x. if finds_nothing n x s then nothing else gives (waits_cancellable (task_of n s) s) n x s)

abbrev pub poll_offer : ℕ → ℕ → Core → Offer
poll_offer n h s = of_found (set_at (instance_of n s) h s) (λ x. gives false n x s)

-- a subtask with an event joins the set
abbrev pub wakes_new : Option Status → Option ℕ → Core → Offer
wakes_new (Some e) (Some x) s = wakes x s
wakes_new _ _ s = nothing

abbrev pub join_done_offer : Subtask → Core → Option ℕ → Offer
join_done_offer sub s x = unless (is_watched (join_of sub s)) (wakes_new (event_of sub s) x s)

abbrev pub join_to_offer : ℕ → ℕ → Core → Subtask → Offer
join_to_offer n zero s sub = join_done_offer sub s None
join_to_offer n (suc h) s sub = of_found (set_at (instance_of n s) (suc h) s) (λ x. join_done_offer sub s (Some x))

abbrev pub join_offer : ℕ → ℕ → ℕ → Core → Offer
join_offer n h y s = of_found (subtask_at (instance_of n s) h s) (join_to_offer n y s)

abbrev pub set_offer : ℕ → Core → SetOp → Offer
set_offer n s (set_op.Wait r x) = wait_offer n (value_of n s x) s (op_progress_of n s)
set_offer n s (set_op.Poll r x) = poll_offer n (value_of n s x) s
set_offer n s (set_op.Join x y) = join_offer n (value_of n s x) (value_of n s y) s
set_offer n s _ = nothing

-- ---- Cancels

-- one of the threads that wait is taken, where the cancel comes to that
abbrev pub cancel_offer_by : ℕ → Core → CancelCase → Offer
cancel_offer_by k s ThreadWaits = record { waiters = cancellable k s; members = []; held = [] }
cancel_offer_by k s _ = nothing

abbrev pub cancel_found_offer : Core → Subtask → Offer
cancel_found_offer s (subtask.Guest k) = unless (is_joined (join_of (subtask.Guest k) s)) (cancel_offer_by k s (cancel_case k s))
cancel_found_offer s (subtask.Host i) = nothing

-- as it begins
abbrev pub cancel_offer : ℕ → ℕ → Core → OpProgress → Offer
cancel_offer n h s (op_progress.Cancels sub) = nothing
cancel_offer n h s (op_progress.AwaitsEnd sub) = nothing
cancel_offer n h s _ = of_found (subtask_at (instance_of n s) h s) (cancel_found_offer s)

abbrev pub call_offer : ℕ → Core → CallOp → Offer
call_offer n s (call_op.Cancel r x) = cancel_offer n (value_of n s x) s (op_progress_of n s)
call_offer n s (call_op.CancelSync r x) = cancel_offer n (value_of n s x) s (op_progress_of n s)
call_offer n s _ = nothing

-- the other ops choose nothing
abbrev pub op_offer : ℕ → Core → Op → Offer
op_offer n s (op.Task o) = task_offer n s o
op_offer n s (op.Set o) = set_offer n s o
op_offer n s (op.Call o) = call_offer n s o
op_offer n s _ = nothing

-- ---- Takings

abbrev pub starting_offer : ℕ → Core → Offer
starting_offer k s = if starting_is_published k s then nothing else tells k s

-- an explicit thread tells nobody; a call's first thread tells that it starts, or, where it is held, that it will
abbrev pub start_offer : ℕ → Core → Bool → Offer
start_offer n s true = if is_explicit n s then nothing else unless (at_handle_limit s) (tells (task_of n s) s)
start_offer n s false = starting_offer (task_of n s) s

-- of a delivery for a set, where it is admitted
abbrev pub delivery_offer : ℕ → Core → Delivery → Bool → Offer
delivery_offer n s (delivery.Set x) true = gives_woken true n x s
delivery_offer n s d admitted = nothing

abbrev pub why_offer : ℕ → Core → Why → Offer
why_offer n s why.Start = start_offer n s (admits n s why.Start)
why_offer n s (why.Delivery d) = delivery_offer n s d (admits n s (why.Delivery d))
why_offer n s why.Resumption = nothing

abbrev pub thread_offer : ℕ → Core → Option Place → Offer
thread_offer n s (Some (place.Ready m w)) = why_offer n s w
thread_offer n s _ = nothing

-- the entry is taken
abbrev pub take_offer : Core → Entry → Offer
take_offer s (entry.Thread n) = thread_offer n s (place_of n s)
take_offer s (entry.Push i) = nothing
take_offer s (entry.Host i) = wakes_in (join_of (subtask.Host i) s) s

-- ---- A state

-- The entry that is next has left its mark before the taking looks; that moves no thread.
abbrev pub turn_offer : Setting → Core → Turn → Offer
turn_offer x s (turn.Run n) = op_offer n s (op_of x.component n s)
turn_offer x s (turn.Take ended) = of_found (next_entry s) (λ e. take_offer (popped e.0 s) e.1)
turn_offer x s _ = nothing

-- among what the next step chooses
abbrev pub offer : Setting → State → Offer
offer x s = turn_offer x s.core s.turn
