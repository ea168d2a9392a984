-- What is read off a core: one record or field, and what hangs on several.
use Rattle.std.specs.Prelude.{ℕ, zero, suc, ◌+◌, ◌*◌, Bool, true, false, not, ◌&&◌, ◌||◌, List, [], ◌∷◌, ◌++◌, Option, Some, None, is_some, is_none, unwrap_or, option_and_then, option_map, map, filter, find, length, sum_by, count_by, slice_index, nat_le, ◌==◌, if◌then◌else◌}
use Rattle.std.specs.List.{list_any}
use Rattle.std.specs.Option.{option_map_or}
use Rattle.machine_data.specs.declared.component.Callee.{Callee}
use Rattle.machine_data.specs.declared.component.ExportKind.{ExportKind}
use Rattle.machine_data.specs.declared.scenario.Version.TheVariants as version
use Rattle.machine_data.specs.declared.scenario.Version.{Version}
use Rattle.machine_data.specs.declared.component.ExportKind.TheVariants as kind
use Rattle.machine_data.specs.declared.component.HostDef.{HostDef}
use Rattle.machine_data.specs.declared.component.HostDef.TheVariants as host_def
use Rattle.machine_data.specs.declared.statuses.Mark.{Mark}
use Rattle.machine_data.specs.declared.statuses.Mark.TheVariants as mark
use Rattle.machine_data.specs.declared.statuses.Status.{Status}
use Rattle.machine_data.specs.declared.statuses.Status.TheVariants as status
use Rattle.machine_data.specs.declared.statuses.TaskEvent.{TaskEvent}
use Rattle.machine_data.specs.declared.statuses.Phase.{Phase}
use Rattle.machine_data.specs.declared.statuses.Phase.TheVariants as phase
use Rattle.machine_data.specs.declared.records.CallEnd.{CallEnd}
use Rattle.machine_data.specs.declared.records.Caller.{Caller}
use Rattle.machine_data.specs.declared.records.Caller.TheVariants as caller
use Rattle.machine_data.specs.declared.records.Course.{Course}
use Rattle.machine_data.specs.declared.records.Course.TheVariants as course
use Rattle.machine_data.specs.declared.records.Delivery.TheVariants as delivery
use Rattle.machine_data.specs.declared.records.Entry.{Entry}
use Rattle.machine_data.specs.declared.records.Entry.TheVariants as entry
use Rattle.machine_data.specs.declared.records.Goal.{Goal}
use Rattle.machine_data.specs.declared.records.Goal.TheVariants as goal
use Rattle.machine_data.specs.declared.records.OpProgress.{OpProgress}
use Rattle.machine_data.specs.declared.records.OpProgress.TheVariants as op_progress
use Rattle.machine_data.specs.declared.records.Join.{Join}
use Rattle.machine_data.specs.declared.records.Join.TheVariants as join
use Rattle.machine_data.specs.declared.records.Named.{Named}
use Rattle.machine_data.specs.declared.records.Named.TheVariants as named
use Rattle.machine_data.specs.declared.records.Place.{Place}
use Rattle.machine_data.specs.declared.records.Place.TheVariants as place
use Rattle.machine_data.specs.declared.records.Stage.{Stage}
use Rattle.machine_data.specs.declared.records.Stage.TheVariants as stage
use Rattle.machine_data.specs.declared.records.Subtask.{Subtask}
use Rattle.machine_data.specs.declared.records.Subtask.TheVariants as subtask
use Rattle.machine_data.specs.declared.records.Thread.{Thread}
use Rattle.machine_data.specs.declared.records.Why.{Why}
use Rattle.machine_data.specs.declared.records.Why.TheVariants as why
use Rattle.machine_data.specs.declared.records.Work.{Work}
use Rattle.machine_data.specs.declared.records.WorkCaller.{WorkCaller}
use Rattle.machine_data.specs.declared.records.WorkCaller.TheVariants as work_caller
use Rattle.machine_data.specs.Maps.{Records, get, size, numbers}
use Rattle.machine_data.specs.Core.{Core, NameTable}

abbrev pub is_nil : {X : Type 0} → List X → Bool
is_nil [] = true
is_nil (x ∷ xs) = false

-- ---- Threads, with the default "absent thread" (docs/MACHINE.md lists the defaults)

abbrev pub registers_of : ℕ → Core → List ℕ
registers_of n s = option_map_or (λ t. t.registers) (get s.threads n) []

abbrev pub register_of : ℕ → ℕ → Core → ℕ
register_of n r s = slice_index (registers_of n s) r

abbrev pub position_of : ℕ → Core → ℕ
position_of n s = option_map_or (λ t. t.position) (get s.threads n) 0

abbrev pub op_progress_of : ℕ → Core → OpProgress
op_progress_of n s = option_map_or (λ t. t.op_progress) (get s.threads n) op_progress.Fresh

abbrev pub place_of : ℕ → Core → Option Place
place_of n s = option_map (λ t. t.place) (get s.threads n)

-- the thread's call
abbrev pub task_of : ℕ → Core → ℕ
task_of n s = option_map_or (λ t. t.call) (get s.threads n) 0

abbrev pub is_explicit : ℕ → Core → Bool
is_explicit n s = option_map_or (λ t. t.explicit) (get s.threads n) false

abbrev pub thread_handle_of : ℕ → Core → Option ℕ
thread_handle_of n s = option_and_then (λ t. t.handle) (get s.threads n)

abbrev pub saved_own_of : ℕ → Core → Option Bool
saved_own_of n s = option_and_then (λ t. t.saved_own) (get s.threads n)

abbrev pub saved_callee_of : ℕ → Core → Option Bool
saved_callee_of n s = option_and_then (λ t. t.saved_callee) (get s.threads n)

abbrev pub callers_of : ℕ → Core → List ℕ
callers_of n s = unwrap_or (get s.callers n) []

-- ---- Calls, with the default "absent call"

abbrev pub no_callee : Callee
no_callee = record { instance = 0; export = 0 }

abbrev pub callee_of : ℕ → Core → Callee
callee_of k s = option_map_or (λ c. c.callee) (get s.calls k) no_callee

abbrev pub call_instance : ℕ → Core → ℕ
call_instance k s = (callee_of k s).instance

abbrev pub kind_of : ℕ → Core → ExportKind
kind_of k s = option_map_or (λ c. c.kind) (get s.calls k) kind.Callback

abbrev pub goal_of : ℕ → Core → Goal
goal_of k s = option_map_or (λ c. c.goal) (get s.calls k) goal.Nowhere

abbrev pub caller_of : ℕ → Core → Caller
caller_of k s = option_map_or (λ c. c.caller) (get s.calls k) caller.Main

abbrev pub end_of : ℕ → Core → Option CallEnd
end_of k s = option_and_then (λ c. c.«end») (get s.calls k)

abbrev pub has_ended : ℕ → Core → Bool
has_ended k s = is_some (end_of k s)

abbrev pub was_started : ℕ → Core → Bool
was_started k s = option_map_or (λ c. c.started) (get s.calls k) false

abbrev pub task_event_of : ℕ → Core → Option TaskEvent
task_event_of k s = option_and_then (λ c. c.task_event) (get s.calls k)

abbrev pub cancel_was_asked : ℕ → Core → Bool
cancel_was_asked k s = option_map_or (λ c. c.cancel_asked) (get s.calls k) false

abbrev pub cancel_was_delivered : ℕ → Core → Bool
cancel_was_delivered k s = option_map_or (λ c. c.cancel_delivered) (get s.calls k) false

-- default: no result
abbrev pub result_of : ℕ → Core → ℕ
result_of k s = unwrap_or (option_and_then (λ c. c.result) (get s.calls k)) 0

abbrev pub call_group : ℕ → Core → ℕ
call_group k s = option_map_or (λ c. c.group) (get s.calls k) 0

-- the thread's instance: that of its call
abbrev pub instance_of : ℕ → Core → ℕ
instance_of n s = call_instance (task_of n s) s

abbrev pub thread_group : ℕ → Core → ℕ
thread_group n s = call_group (task_of n s) s

abbrev pub is_sync : ExportKind → Bool
is_sync kind.Sync = true
is_sync _ = false

abbrev pub is_callback : ExportKind → Bool
is_callback kind.Callback = true
is_callback _ = false

abbrev pub is_async_lifted : ExportKind → Bool
is_async_lifted kind.Stackful = true
is_async_lifted kind.Callback = true
is_async_lifted _ = false

-- when the thread last began to wait or to be held; default: no thread
abbrev pub came_of : ℕ → Core → ℕ
came_of n s = option_map_or (λ t. t.came) (get s.threads n) 0

-- it runs by the rules of version 2
abbrev pub is_second : Version → Bool
is_second version.Two = true
is_second version.One = false

-- a start or an activation of such an export keeps other entries of its instance out
abbrev pub is_holding : ExportKind → Bool
is_holding kind.Blocking = true
is_holding kind.Callback = true
is_holding _ = false

abbrev pub is_direct : Goal → Bool
is_direct goal.Direct = true
is_direct _ = false

abbrev pub is_guest_call : Caller → Bool
is_guest_call caller.Main = false
is_guest_call (caller.Thread n) = true

-- ---- Works, with the default "absent work"

abbrev pub course_of : ℕ → Core → Course
course_of i s = option_map_or (λ w. w.course) (get s.works i) course.NoValue

abbrev pub phase_of : ℕ → Core → Phase
phase_of i s = option_map_or (λ w. w.phase) (get s.works i) phase.Complete

abbrev pub stage_of : ℕ → Core → Stage
stage_of i s = option_map_or (λ w. w.stage) (get s.works i) stage.Ended

abbrev pub work_caller_of : ℕ → Core → WorkCaller
work_caller_of i s = option_map_or (λ w. w.caller) (get s.works i) work_caller.Spawn

abbrev pub was_cancelled : ℕ → Core → Bool
was_cancelled i s = option_map_or (λ w. w.cancelled) (get s.works i) false

abbrev pub course_value : Course → Option ℕ
course_value (course.Value v) = Some v
course_value _ = None

abbrev pub is_host_call : Work → Bool
is_host_call w = is_some w.group

abbrev pub is_stage_live : Stage → Bool
is_stage_live stage.Live = true
is_stage_live _ = false

abbrev pub is_stage_ended : Stage → Bool
is_stage_ended stage.Ended = true
is_stage_ended _ = false

abbrev pub is_live : Work → Bool
is_live w = is_stage_live w.stage

abbrev pub is_aborted : Phase → Bool
is_aborted phase.AbortRequested = true
is_aborted _ = false

abbrev pub is_never : Course → Bool
is_never (course.Continues (host_def.Settled polls value)) = is_none polls
is_never _ = false

abbrev pub is_open : HostDef → Bool
is_open host_def.Open = true
is_open (host_def.Settled polls value) = false

-- nothing is known of what the work is still to do
abbrev pub goes_open : Course → Bool
goes_open (course.Continues host) = is_open host
goes_open _ = false

-- ---- Subtasks, with the defaults "absent call" and "absent work"

abbrev pub same_subtask : Subtask → Subtask → Bool
same_subtask (subtask.Guest k) (subtask.Guest q) = k == q
same_subtask (subtask.Host i) (subtask.Host j) = i == j
same_subtask _ _ = false

abbrev pub event_of : Subtask → Core → Option Status
event_of (subtask.Guest k) s = option_and_then (λ c. c.event) (get s.calls k)
event_of (subtask.Host i) s = option_and_then (λ w. w.event) (get s.works i)

abbrev pub join_of : Subtask → Core → Join
join_of (subtask.Guest k) s = option_map_or (λ c. c.join) (get s.calls k) join.Nowhere
join_of (subtask.Host i) s = option_map_or (λ w. w.join) (get s.works i) join.Nowhere

abbrev pub subtask_handle : Subtask → Core → Option ℕ
subtask_handle (subtask.Guest k) s = option_and_then (λ c. c.handle) (get s.calls k)
subtask_handle (subtask.Host i) s = option_and_then (λ w. w.handle) (get s.works i)

-- the subtask has ended
abbrev pub subtask_ended : Subtask → Core → Bool
subtask_ended (subtask.Guest k) s = has_ended k s
subtask_ended (subtask.Host i) s = is_stage_ended (stage_of i s)

abbrev pub is_end : Status → Bool
is_end status.Starting = false
is_end status.Started = false
is_end _ = true

-- an end that wasn't handed out
abbrev pub undelivered_end : Option Status → Option Status
undelivered_end None = None
undelivered_end (Some e) = if is_end e then Some e else None

abbrev pub is_joined : Join → Bool
is_joined join.Nowhere = false
is_joined _ = true

abbrev pub is_watched : Join → Bool
is_watched (join.Watched n) = true
is_watched _ = false

abbrev pub is_in_set : ℕ → Join → Bool
is_in_set x (join.Set y) = x == y
is_in_set x _ = false

-- ---- Instances and handles, with the default "absent instance"

abbrev pub backpressure_of : ℕ → Core → ℕ
backpressure_of i s = option_map_or (λ r. r.backpressure) (get s.instances i) 0

abbrev pub may_not_enter : ℕ → Core → Bool
may_not_enter i s = option_map_or (λ r. r.do_not_enter) (get s.instances i) false

abbrev pub may_not_suspend : ℕ → Core → Bool
may_not_suspend i s = option_map_or (λ r. r.do_not_suspend) (get s.instances i) false

abbrev pub memory_cell_of : ℕ → ℕ → Core → ℕ
memory_cell_of i w s = option_map_or (λ r. slice_index r.memory_cells w) (get s.instances i) 0

-- what a handle of this table names
abbrev pub named_by : {X : Type 0} → Records (NameTable X) → ℕ → ℕ → Option X
named_by tables i h = option_and_then (λ t. get t.live h) (get tables i)

abbrev pub as_subtask : Named → Option Subtask
as_subtask (named.Subtask sub) = Some sub
as_subtask (named.Set x) = None

abbrev pub as_set : Named → Option ℕ
as_set (named.Subtask sub) = None
as_set (named.Set x) = Some x

abbrev pub subtask_at : ℕ → ℕ → Core → Option Subtask
subtask_at i h s = option_and_then as_subtask (named_by s.handles i h)

abbrev pub set_at : ℕ → ℕ → Core → Option ℕ
set_at i h s = option_and_then as_set (named_by s.handles i h)

abbrev pub thread_at : ℕ → ℕ → Core → Option ℕ
thread_at i h s = named_by s.thread_handles i h

-- the handle freed last, else one more than all that were ever made there
abbrev pub next_handle : {X : Type 0} → NameTable X → List ℕ → ℕ
next_handle t [] = size t.live + 1
next_handle t (h ∷ hs) = h

abbrev pub handle_of_table : {X : Type 0} → Records (NameTable X) → ℕ → ℕ
handle_of_table tables i = option_map_or (λ t. next_handle t t.freed) (get tables i) 1

-- the handle that the instance gives next
unfoldable pub new_handle : ℕ → Core → ℕ
new_handle i s = handle_of_table s.handles i

unfoldable pub new_thread_handle : ℕ → Core → ℕ
new_thread_handle i s = handle_of_table s.thread_handles i

abbrev pub live_in : {X : Type 0} → Records (NameTable X) → ℕ
live_in tables = sum_by (λ e. size e.1.live) tables.list

-- the handles and thread handles that are live, in all instances
unfoldable pub live_count : Core → ℕ
live_count s = live_in s.handles + live_in s.thread_handles

-- no handle may be given
unfoldable pub at_handle_limit : Core → Bool
at_handle_limit s = nat_le s.handle_limit (live_count s)

-- how many entries of the resource table are taken
unfoldable pub table_use : Core → ℕ
table_use s = length s.groups + size s.calls + 2 * size s.threads + count_by (λ e. is_host_call e.1) s.works.list + size s.sets

unfoldable pub fits : ℕ → Core → Bool
fits n s = nat_le (table_use s + n) s.capacity

-- ---- Places

abbrev pub is_under : ℕ → Place → Bool
is_under n (place.Under m) = m == n
is_under n _ = false

abbrev pub is_waiting_on : ℕ → Place → Bool
is_waiting_on x (place.Waiting y _) = x == y
is_waiting_on x _ = false

abbrev pub waits_by_callback : Place → Bool
waits_by_callback (place.Waiting _ by_callback) = by_callback
waits_by_callback _ = false

abbrev pub is_blocked_on : Subtask → Place → Bool
is_blocked_on sub (place.Blocked on) = same_subtask sub on
is_blocked_on sub _ = false

abbrev pub is_new : Place → Bool
is_new place.New = true
is_new _ = false

abbrev pub is_behind : Place → Bool
is_behind (place.Behind n) = true
is_behind _ = false

abbrev pub is_yielded : OpProgress → Bool
is_yielded op_progress.Yields = true
is_yielded _ = false

abbrev pub is_yield_delivery : Why → Bool
is_yield_delivery (why.Delivery delivery.Yield) = true
is_yield_delivery _ = false

-- a callback's yield that is queued
abbrev pub is_callback_yield : Place → Bool
is_callback_yield (place.Ready m w) = is_yield_delivery w
is_callback_yield _ = false

abbrev pub is_resumption : Why → Bool
is_resumption why.Resumption = true
is_resumption _ = false

-- a resumption that is queued
abbrev pub is_ready_to_resume : Place → Bool
is_ready_to_resume (place.Ready m w) = is_resumption w
is_ready_to_resume _ = false

abbrev pub held_why : Place → Option Why
held_why (place.Held w) = Some w
held_why _ = None

-- the thread is at a place that passes
abbrev pub is_at : ℕ → Core → (Place → Bool) → Bool
is_at n s test = option_map_or test (place_of n s) false

-- the first thread, in order of number, that is at such a place
abbrev pub first_at : (Place → Bool) → Core → Option ℕ
first_at test s = find (λ n. is_at n s test) (numbers s.threads)

abbrev pub any_thread : (Thread → Bool) → Core → Bool
any_thread test s = list_any (λ e. test e.1) s.threads.list

-- the thread that waits under n for its direct callee
unfoldable pub under_of : ℕ → Core → Option ℕ
under_of n s = first_at (is_under n) s

-- down from n through at most this many that are under it; default: too deep
abbrev pub foot_from : ℕ → Core → ℕ → ℕ
foot_from zero s n = n
foot_from (suc k) s n = option_map_or (foot_from k s) (under_of n s) n

-- the foot of a thread's strand: down through those that are under it
unfoldable pub foot_of : ℕ → Core → ℕ
foot_of n s = foot_from (size s.threads) s n

abbrev pub strand_from : ℕ → Core → ℕ → List ℕ
strand_from zero s n = n ∷ []
strand_from (suc k) s n = n ∷ option_map_or (strand_from k s) (under_of n s) []

-- the threads of a strand, from its top down
unfoldable pub strand_of : ℕ → Core → List ℕ
strand_of n s = strand_from (size s.threads) s n

-- the thread that is blocked on the subtask
unfoldable pub blocked_on : Subtask → Core → Option ℕ
blocked_on sub s = first_at (is_blocked_on sub) s

-- some thread of the call is left
unfoldable pub has_thread : ℕ → Core → Bool
has_thread k s = any_thread (λ t. t.call == k) s

-- the thread is the only one of its call
unfoldable pub is_last_thread : ℕ → Core → Bool
is_last_thread n s = not (list_any (λ e. (e.1.call == task_of n s) && not (e.0 == n)) s.threads.list)

-- ---- Sets

-- default: absent set
abbrev pub set_instance : ℕ → Core → ℕ
set_instance x s = option_map_or (λ r. r.instance) (get s.sets x) 0

-- some thread waits on the set
unfoldable pub has_waiter : ℕ → Core → Bool
has_waiter x s = any_thread (λ t. is_waiting_on x t.place) s

abbrev pub is_waiter : ℕ → ℕ → Core → Bool
is_waiter x n s = option_map_or (is_waiting_on x) (place_of n s) false

abbrev pub subtasks : Core → List Subtask
subtasks s = map (λ n. subtask.Guest n) (numbers s.calls) ++ map (λ n. subtask.Host n) (numbers s.works)

abbrev pub is_member : ℕ → Subtask → Core → Bool
is_member x sub s = is_in_set x (join_of sub s)

-- a member that has an event
abbrev pub is_ready_member : ℕ → Subtask → Core → Bool
is_ready_member x sub s = is_member x sub s && is_some (event_of sub s)

unfoldable pub has_member : ℕ → Core → Bool
has_member x s = list_any (λ sub. is_member x sub s) (subtasks s)

unfoldable pub has_ready_member : ℕ → Core → Bool
has_ready_member x s = list_any (λ sub. is_ready_member x sub s) (subtasks s)

abbrev pub is_delivery_for : ℕ → Why → Bool
is_delivery_for x (why.Delivery (delivery.Set y)) = x == y
is_delivery_for x _ = false

abbrev pub is_inside_wait : ℕ → OpProgress → Bool
is_inside_wait x (op_progress.Waits y) = x == y
is_inside_wait x _ = false

-- an entry for the set is queued or is held, or the thread goes on inside a wait on it
abbrev pub is_woken_for : ℕ → Thread → Place → Bool
is_woken_for x t (place.Ready m w) = is_delivery_for x w || (is_resumption w && is_inside_wait x t.op_progress)
is_woken_for x t (place.Held w) = is_delivery_for x w
is_woken_for x t place.Running = is_inside_wait x t.op_progress
is_woken_for x t _ = false

-- how many threads are woken for the set
unfoldable pub woken : ℕ → Core → ℕ
woken x s = count_by (λ e. is_woken_for x e.1 e.1.place) s.threads.list

-- what forbids to drop the set: a waiter, or an entry for it
abbrev pub keeps_set : ℕ → Thread → Place → Bool
keeps_set x t (place.Waiting y _) = x == y
keeps_set x t place.Running = false
keeps_set x t p = is_woken_for x t p

unfoldable pub has_waiters : ℕ → Core → Bool
has_waiters x s = any_thread (λ t. keeps_set x t t.place) s

-- ---- Entries and admission

abbrev pub is_entry_of : ℕ → Entry → Bool
is_entry_of n (entry.Thread m) = n == m
is_entry_of n _ = false

-- the entry is of a thread whose call is in the instance
abbrev pub is_entry_in : ℕ → Core → Entry → Bool
is_entry_in i s (entry.Thread n) = instance_of n s == i
is_entry_in i s _ = false

abbrev pub entry_thread : Entry → Option ℕ
entry_thread (entry.Thread n) = Some n
entry_thread _ = None

-- the thread of the first entry of the instance
abbrev pub first_in : ℕ → Core → List Entry → Option ℕ
first_in i s es = option_and_then entry_thread (find (is_entry_in i s) es)

-- at switch, else the first at high, else the first at low
abbrev pub first_of : Mark → List Entry → Option (Mark × Entry)
first_of m [] = None
first_of m (e ∷ es) = Some (m, e)

abbrev pub or_first : Option (Mark × Entry) → List Entry → Option (Mark × Entry)
or_first None es = first_of mark.Low es
or_first (Some x) es = Some x

abbrev pub or_high : Option ℕ → List Entry → List Entry → Option (Mark × Entry)
or_high (Some n) high low = Some (mark.Switch, entry.Thread n)
or_high None high low = or_first (first_of mark.High high) low

-- the entry that is taken next
unfoldable pub next_entry : Core → Option (Mark × Entry)
next_entry s = or_high s.queues.switch s.queues.high s.queues.low

-- such an entry of the thread may begin
abbrev pub admits : ℕ → Core → Why → Bool
admits n s why.Start =
    is_explicit n s
    || (is_sync (kind_of (task_of n s) s)
    || (not (may_not_enter (instance_of n s) s) && (backpressure_of (instance_of n s) s == 0)))
admits n s (why.Delivery d) = not (may_not_enter (instance_of n s) s)
admits n s why.Resumption = true

abbrev pub is_held_admitted : ℕ → Core → ℕ → Option Why → Bool
is_held_admitted i s n None = false
is_held_admitted i s n (Some w) = (instance_of n s == i) && admits n s w

-- the held threads of the instance that are admitted now
unfoldable pub admitted_held : ℕ → Core → List ℕ
admitted_held i s = filter (λ n. is_held_admitted i s n (option_and_then held_why (place_of n s))) (numbers s.threads)
