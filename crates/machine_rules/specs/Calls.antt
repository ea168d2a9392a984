-- The calls of exports and of hosts.
use Rattle.std.specs.Prelude.{Bool, List, None, Option, Some, [], false, not, option_and_then, suc, true, unwrap_or, zero, ℕ, ◌+◌, ◌∷◌}
use Rattle.machine_data.specs.declared.records.Call.{Call}
use Rattle.machine_data.specs.declared.component.Callee.{Callee}
use Rattle.machine_data.specs.declared.records.Caller.{Caller}
use Rattle.machine_data.specs.declared.component.Component.{Component}
use Rattle.machine_data.specs.declared.component.ExportKind.{ExportKind}
use Rattle.machine_data.specs.declared.records.Goal.{Goal}
use Rattle.machine_data.specs.declared.component.HostDef.{HostDef}
use Rattle.machine_data.specs.declared.component.HostDef.TheVariants as host_def
use Rattle.machine_data.specs.declared.statuses.HostPoll.{HostPoll}
use Rattle.machine_data.specs.declared.statuses.HostPoll.TheVariants as host_poll
use Rattle.machine_data.specs.declared.records.OpProgress.{OpProgress}
use Rattle.machine_data.specs.declared.records.Script.{Script}
use Rattle.machine_data.specs.declared.statuses.Status.{Status}
use Rattle.machine_data.specs.declared.records.Subtask.{Subtask}
use Rattle.machine_data.specs.declared.records.Thread.{Thread}
use Rattle.machine_data.specs.declared.records.Work.{Work}
use Rattle.machine_data.specs.declared.records.WorkCaller.{WorkCaller}
use Rattle.machine_data.specs.declared.label.CallLabel.TheVariants as call_label
use Rattle.machine_data.specs.declared.records.Caller.TheVariants as caller
use Rattle.machine_data.specs.declared.records.Course.TheVariants as course
use Rattle.machine_data.specs.declared.records.Entry.TheVariants as entry
use Rattle.machine_data.specs.declared.records.Goal.TheVariants as goal
use Rattle.machine_data.specs.declared.records.OpProgress.TheVariants as op_progress
use Rattle.machine_data.specs.declared.records.Join.TheVariants as join
use Rattle.machine_data.specs.declared.component.ExportKind.TheVariants as kind
use Rattle.machine_data.specs.declared.label.Label.TheVariants as label
use Rattle.machine_data.specs.declared.records.Named.TheVariants as named
use Rattle.machine_data.specs.declared.statuses.Phase.TheVariants as phase
use Rattle.machine_data.specs.declared.records.Place.TheVariants as place
use Rattle.machine_data.specs.declared.records.Script.TheVariants as script
use Rattle.machine_data.specs.declared.records.Stage.TheVariants as stage
use Rattle.machine_data.specs.declared.statuses.Status.TheVariants as status
use Rattle.machine_data.specs.declared.records.Subtask.TheVariants as subtask
use Rattle.machine_data.specs.declared.label.ThreadLabel.TheVariants as thread_label
use Rattle.machine_data.specs.declared.trap.Trap.TheVariants as trap
use Rattle.machine_data.specs.declared.records.Why.TheVariants as why
use Rattle.machine_data.specs.declared.records.WorkCaller.TheVariants as work_caller
use Rattle.machine_data.specs.Core.{Core}
use Rattle.machine_data.specs.Maps.{get}
use Rattle.machine_data.specs.Moves.{behind, call_settled, checked, group_settled, passes_check, put_switch, stopped_at}
use Rattle.machine_data.specs.Read.{at_handle_limit, call_instance, course_of, course_value, event_of, fits, instance_of, is_async_lifted, may_not_suspend, new_handle, new_thread_handle, result_of, saved_callee_of, thread_group}
use Rattle.machine_data.specs.Write.{add_call, add_thread, add_work, count_work, give_handle, give_thread_handle, push_high, remove_work, set_do_not_suspend, set_event, set_op_progress, set_place, set_register, set_result, set_saved_callee, set_saved_own, set_started, set_subtask_handle, set_thread_handle}
use Rattle.machine_rules.specs.Finish.{Doer, OneNumber, OwnScript, finish}
use Rattle.machine_rules.specs.Progress.{Fails, Continues, Progress, Stops, trap_if, Asks}
use Rattle.machine_rules.specs.Scripts.{export_kind, host_at, registers_for}
use Rattle.machine_data.specs.Statuses.{packed}

-- ---- Making a call

abbrev pub new_call : Caller → Callee → ExportKind → Goal → ℕ → Call
new_call f e x g group = record {
  caller = f;
  callee = e;
  kind = x;
  goal = g;
  started = false;
  starting_published = false;
  «end» = None;
  event = None;
  task_event = None;
  cancel_asked = false;
  cancel_delivered = false;
  exited = false;
  interesting = true;
  result = None;
  join = join.Nowhere;
  handle = None;
  group = group;
  borrows = 0;
}

abbrev pub new_thread : ℕ → Bool → Script → List ℕ → Option ℕ → Thread
new_thread k explicit x registers h = record {
  call = k;
  explicit = explicit;
  script = x;
  position = 0;
  op_progress = op_progress.Fresh;
  registers = registers;
  handle = h;
  saved_own = None;
  saved_callee = None;
  came = 0;
  place = place.New;
}

-- the number of the next thread, and so of the next call
abbrev pub next_thread : Core → ℕ
next_thread s = s.made.threads + 1

-- a call and its thread are made, with these values
unfoldable pub call_made : Caller → Callee → ExportKind → Goal → ℕ → List ℕ → Core → Core
call_made f e x g group words s =
    let k = next_thread s in
    let thread = new_thread k false script.Start (registers_for words) None in
    add_thread thread (add_call k (new_call f e x g group) s)

-- ---- A call that queues its start

-- the flag of the callee's instance is saved and cleared
abbrev pub call_clears_flag : ℕ → ℕ → ExportKind → Core → Core
call_clears_flag n j kind.Sync s = s
call_clears_flag n j x s = set_do_not_suspend j false (set_saved_callee n (Some (may_not_suspend j s)) s)

-- the call is made, its start becomes the switch entry, and the calling thread goes behind it
unfoldable pub call_queues : ℕ → Callee → ExportKind → Goal → List ℕ → Core → Core
call_queues n e x g words s =
    let m = next_thread s in
    let made = call_made (caller.Thread n) e x g (thread_group n s) words s in
    let queued = put_switch m why.Start made in
    set_op_progress n (op_progress.Calls (subtask.Guest m)) (behind m (n ∷ []) (call_clears_flag n e.instance x queued))

-- trap 18 (TableFull) where 3 entries don't fit
abbrev pub call_begins : Component → ℕ → Callee → Goal → List ℕ → Core → Progress
call_begins c n e g words s =
    trap_if (not (fits 3 s)) trap.TableFull (
    Stops (label.Call (call_label.Calls n (next_thread s))) (call_queues n e (export_kind c e) g words s))

abbrev pub put_back : Option Bool → ℕ → Core → Core
put_back None j s = s
put_back (Some b) j s = set_do_not_suspend j b s

-- the calling thread is resumed: the saved flag is written back, and the callee's event is taken
unfoldable pub call_resumes : ℕ → ℕ → Core → Core
call_resumes n k s = set_event (subtask.Guest k) None (put_back (saved_callee_of n s) (call_instance k s) s)

-- the call's status that the calling thread finds; default: no event
abbrev pub status_found : ℕ → Core → Status
status_found k s = unwrap_or (event_of (subtask.Guest k) s) status.Starting

-- the op is done, and nothing is saved any more
abbrev pub answered_by : Doer → ℕ → ℕ → Core → Core
answered_by d n v s = finish d n (OneNumber v) (set_saved_callee n None s)

abbrev pub answered : ℕ → ℕ → ℕ → Core → Core
answered n r v s = answered_by (OwnScript r) n v s

-- the call may go
unfoldable pub call_let_go : ℕ → ℕ → Core → Core
call_let_go n k s = call_settled k (call_resumes n k s)

abbrev pub call_returned : ℕ → ℕ → ℕ → Core → Core
call_returned n r k s = answered n r 2 (call_let_go n k s)

-- the subtask has a handle from now on
unfoldable pub with_handle : ℕ → Subtask → Core → Core
with_handle i sub s = set_subtask_handle sub (Some (new_handle i s)) (give_handle i (named.Subtask sub) s)

unfoldable pub call_with_handle : ℕ → ℕ → Core → Core
call_with_handle n k s = with_handle (instance_of n s) (subtask.Guest k) (call_resumes n k s)

abbrev pub call_pending : ℕ → ℕ → ℕ → ℕ → Core → Core
call_pending n r k v s = answered n r v (call_with_handle n k s)

-- Returned is answered as 2; another status with a new handle: trap 17 (HandleLimit) where none may be given
abbrev pub call_status_by : Doer → ℕ → ℕ → Core → Status → Progress
call_status_by d n k s status.Returned = Continues (label.Call (call_label.Call 2 n)) (answered_by d n 2 (call_let_go n k s)) n
call_status_by d n k s e =
    let v = packed (new_handle (instance_of n s) s) e in
    trap_if (at_handle_limit s) trap.HandleLimit (
    Continues (label.Call (call_label.Call v n)) (answered_by d n v (call_with_handle n k s)) n)

abbrev pub call_status : ℕ → ℕ → ℕ → Core → Status → Progress
call_status n r k s e = call_status_by (OwnScript r) n k s e

-- `call R Q F X*`, by how far it has come; default: inside another op
abbrev pub call_rule : Doer → Component → ℕ → ℕ → Callee → List ℕ → Core → OpProgress → Progress
call_rule d c n q e words s (op_progress.Calls (subtask.Guest k)) = call_status_by d n k s (status_found k s)
call_rule d c n q e words s _ = call_begins c n e (goal.Register q) words s

abbrev pub scripted_call_rule : Component → ℕ → ℕ → ℕ → Callee → List ℕ → Core → OpProgress → Progress
scripted_call_rule c n r q e words s f = call_rule (OwnScript r) c n q e words s f

-- the result is taken, too
unfoldable pub call_taken : ℕ → ℕ → Core → Core
call_taken n k s = call_settled k (set_result k None (call_resumes n k s))

abbrev pub call_answered : ℕ → ℕ → ℕ → Core → Core
call_answered n r k s = answered n r (result_of k s) (call_taken n k s)

-- the strand stops, and its top is blocked on the subtask of its call
unfoldable pub call_stops : ℕ → Subtask → Core → Core
call_stops n sub s = set_op_progress n (op_progress.Calls sub) (stopped_at n (place.Blocked sub) s)

unfoldable pub call_sync_stops : ℕ → ℕ → Core → Core
call_sync_stops n k s = call_stops n (subtask.Guest k) (checked (instance_of n s) (call_resumes n k s))

-- Returned is answered by the result; another status stops the strand, after a check:
-- trap 9 (CannotBlockSyncTask) where it fails
abbrev pub call_sync_status_by : Doer → ℕ → ℕ → Core → Status → Progress
call_sync_status_by d n k s status.Returned =
    Continues (label.Call (call_label.CallSync n (result_of k s))) (answered_by d n (result_of k s) (call_taken n k s)) n
call_sync_status_by d n k s e =
    trap_if (not (passes_check (instance_of n s) (call_resumes n k s))) trap.CannotBlockSyncTask (
    Stops (label.Thread (thread_label.Pauses n)) (call_sync_stops n k s))

abbrev pub call_sync_status : ℕ → ℕ → ℕ → Core → Status → Progress
call_sync_status n r k s e = call_sync_status_by (OwnScript r) n k s e

-- ---- A direct call

-- the flag of the callee's instance is saved and set
abbrev pub sync_sets_flag : ℕ → ℕ → ExportKind → Core → Core
sync_sets_flag m j kind.Sync s = set_do_not_suspend j true (set_saved_own m (Some (may_not_suspend j s)) s)
sync_sets_flag m j x s = s

-- the thread has a thread handle from now on
unfoldable pub with_thread_handle : ℕ → ℕ → Core → Core
with_thread_handle i m s = set_thread_handle m (Some (new_thread_handle i s)) (give_thread_handle i m s)

-- the call is made, and its thread runs on top of the calling one
unfoldable pub enter_runs : ℕ → Callee → ExportKind → List ℕ → Core → Core
enter_runs n e x words s =
    let m = next_thread s in
    let made = call_made (caller.Thread n) e x goal.Direct (thread_group n s) words s in
    let begun = set_started m (with_thread_handle e.instance m made) in
    let on_top = set_place m place.Running (sync_sets_flag m e.instance x begun) in
    set_op_progress n (op_progress.Calls (subtask.Guest m)) (set_place n (place.Under m) on_top)

-- trap 18 (TableFull) where 3 entries don't fit, trap 17 (HandleLimit) where no handle may be given
abbrev pub enter_rule : ℕ → Callee → ExportKind → List ℕ → Core → Progress
enter_rule n e x words s =
    trap_if (not (fits 3 s)) trap.TableFull (
    trap_if (at_handle_limit s) trap.HandleLimit (
    Continues (label.Call (call_label.Enters n (next_thread s))) (enter_runs n e x words s) (next_thread s)))

-- by whether the export is async-lifted: its start is queued, or it is called directly
abbrev pub call_sync_begins : Component → ℕ → Callee → List ℕ → Core → Bool → Progress
call_sync_begins c n e words s true = call_begins c n e goal.Answer words s
call_sync_begins c n e words s false = enter_rule n e (export_kind c e) words s

-- `call_sync R F X*`, by how far it has come
abbrev pub call_sync_rule : Doer → Component → ℕ → Callee → List ℕ → Core → OpProgress → Progress
call_sync_rule d c n e words s (op_progress.Answered v) = Continues (label.Call (call_label.CallSync n v)) (finish d n (OneNumber v) s) n
call_sync_rule d c n e words s (op_progress.Calls (subtask.Guest k)) = call_sync_status_by d n k s (status_found k s)
call_sync_rule d c n e words s _ = call_sync_begins c n e words s (is_async_lifted (export_kind c e))

abbrev pub scripted_call_sync_rule : Component → ℕ → ℕ → Callee → List ℕ → Core → OpProgress → Progress
scripted_call_sync_rule c n r e words s f = call_sync_rule (OwnScript r) c n e words s f

-- ---- Calls of a host

-- the number of the next host work
abbrev pub next_work : Core → ℕ
next_work s = s.made.works + 1

abbrev pub new_work : WorkCaller → HostDef → Option ℕ → Work
new_work f host group = record {
  caller = f;
  course = course.Continues host;
  phase = phase.Running;
  stage = stage.Queued;
  cancelled = false;
  group = group;
  event = None;
  join = join.Nowhere;
  handle = None;
  borrows = 0;
}

-- What a first poll finds.
pub data FirstPoll : Type 0 where
  AtOnce : (value : ℕ) → FirstPoll
  Failing : FirstPoll
  Later : (left : HostDef) → FirstPoll

abbrev pub at_end : Option ℕ → FirstPoll
at_end None = Failing
at_end (Some v) = AtOnce v

abbrev pub polled_first : Option ℕ → Option ℕ → FirstPoll
polled_first None value = Later (host_def.Settled None value)
polled_first (Some zero) value = at_end value
polled_first (Some (suc polls)) value = Later (host_def.Settled (Some polls) value)

-- an open work is open from then on
abbrev pub heard_first : HostPoll → FirstPoll
heard_first host_poll.Pending = Later host_def.Open
heard_first (host_poll.Value v) = AtOnce v
heard_first host_poll.Failed = Failing

-- what comes of the first poll: of an open host, of whatever it answers
abbrev pub first_polled : HostDef → (FirstPoll → Progress) → Progress
first_polled (host_def.Settled polls value) next = next (polled_first polls value)
first_polled host_def.Open next = Asks (λ answer. next (heard_first answer))

-- the work is made, and its push goes to high
unfoldable pub work_queued : WorkCaller → HostDef → Option ℕ → Core → Core
work_queued f host group s = push_high (entry.Push (next_work s)) (add_work (next_work s) (new_work f host group) (count_work s))

unfoldable pub host_valued : ℕ → ℕ → ℕ → Core → Core
host_valued n q v s = set_register n q v (count_work s)

abbrev pub host_ready : ℕ → ℕ → ℕ → ℕ → Core → Core
host_ready n r q v s = finish (OwnScript r) n (OneNumber 2) (host_valued n q v s)

unfoldable pub host_with_handle : ℕ → ℕ → HostDef → Core → Core
host_with_handle n q host s =
    let made = work_queued (work_caller.Async n q) host (Some (thread_group n s)) s in
    with_handle (instance_of n s) (subtask.Host (next_work s)) made

abbrev pub host_pending : ℕ → ℕ → ℕ → ℕ → HostDef → Core → Core
host_pending n r q v host s = finish (OwnScript r) n (OneNumber v) (host_with_handle n q host s)

-- a value at once; a failure, which ends the run; or a pending work:
-- trap 18 (TableFull) where 1 entry doesn't fit, trap 17 (HandleLimit) where no handle may be given
abbrev pub call_host_by : Doer → ℕ → ℕ → Core → FirstPoll → Progress
call_host_by d n q s (AtOnce v) =
    Continues (label.Call (call_label.CallPolls 2 n (next_work s))) (finish d n (OneNumber 2) (host_valued n q v s)) n
call_host_by d n q s Failing = Fails (next_work s)
call_host_by d n q s (Later host) =
    let v = packed (new_handle (instance_of n s) s) status.Started in
    trap_if (not (fits 1 s)) trap.TableFull (
    trap_if (at_handle_limit s) trap.HandleLimit (
    Continues (label.Call (call_label.CallPolls v n (next_work s))) (finish d n (OneNumber v) (host_with_handle n q host s)) n))

abbrev pub call_host_polled : ℕ → ℕ → ℕ → Core → FirstPoll → Progress
call_host_polled n r q s f = call_host_by (OwnScript r) n q s f

-- `call R Q H`
abbrev pub call_host_rule : Doer → Component → ℕ → ℕ → ℕ → Core → Progress
call_host_rule d c n q h s = first_polled (host_at c h) (call_host_by d n q s)

abbrev pub scripted_call_host_rule : Component → ℕ → ℕ → ℕ → ℕ → Core → Progress
scripted_call_host_rule c n r q h s = call_host_rule (OwnScript r) c n q h s

abbrev pub host_answered : ℕ → ℕ → ℕ → Core → Core
host_answered n r v s = finish (OwnScript r) n (OneNumber v) (count_work s)

unfoldable pub call_sync_host_stops : ℕ → HostDef → Core → Core
call_sync_host_stops n host s =
    let made = work_queued (work_caller.Sync n) host (Some (thread_group n s)) (checked (instance_of n s) s) in
    call_stops n (subtask.Host (next_work s)) made

-- a value at once; a failure, which ends the run; or a pending work, which stops the strand after a check:
-- trap 18 (TableFull) where 1 entry doesn't fit, trap 9 (CannotBlockSyncTask) where the check fails
abbrev pub call_sync_host_by : Doer → ℕ → Core → FirstPoll → Progress
call_sync_host_by d n s (AtOnce v) = Continues (label.CallSyncPolls n v (next_work s)) (finish d n (OneNumber v) (count_work s)) n
call_sync_host_by d n s Failing = Fails (next_work s)
call_sync_host_by d n s (Later host) =
    trap_if (not (fits 1 s)) trap.TableFull (
    trap_if (not (passes_check (instance_of n s) s)) trap.CannotBlockSyncTask (
    Stops (label.Call (call_label.PausesPolls n (next_work s))) (call_sync_host_stops n host s)))

abbrev pub call_sync_host_polled : ℕ → ℕ → Core → FirstPoll → Progress
call_sync_host_polled n r s f = call_sync_host_by (OwnScript r) n s f

abbrev pub settle_group_of : Option ℕ → Core → Core
settle_group_of None s = s
settle_group_of (Some g) s = group_settled g s

abbrev pub work_group : ℕ → Core → Option ℕ
work_group i s = option_and_then (λ w. w.group) (get s.works i)

-- the work is deleted
unfoldable pub work_deleted : ℕ → Core → Core
work_deleted i s = settle_group_of (work_group i s) (remove_work i s)

-- what the sync host call ended with; default: no value
abbrev pub work_value : ℕ → Core → ℕ
work_value i s = unwrap_or (course_value (course_of i s)) 0

abbrev pub work_answered : ℕ → ℕ → ℕ → Core → Core
work_answered n r i s = finish (OwnScript r) n (OneNumber (work_value i s)) (work_deleted i s)

-- `call_sync R H`, by how far it has come
abbrev pub call_sync_host_rule : Doer → Component → ℕ → ℕ → Core → OpProgress → Progress
call_sync_host_rule d c n h s (op_progress.Calls (subtask.Host i)) =
    Continues (label.Call (call_label.CallSync n (work_value i s))) (finish d n (OneNumber (work_value i s)) (work_deleted i s)) n
call_sync_host_rule d c n h s _ = first_polled (host_at c h) (call_sync_host_by d n s)

abbrev pub scripted_call_sync_host_rule : Component → ℕ → ℕ → ℕ → Core → OpProgress → Progress
scripted_call_sync_host_rule c n r h s f = call_sync_host_rule (OwnScript r) c n h s f
