-- Cancelling and dropping a subtask.
use Rattle.std.specs.Prelude.{Bool, None, Option, Some, [], false, if◌then◌else◌, is_some, not, true, ℕ, ◌∷◌, filter, ◌&&◌, ◌||◌, ◌==◌, List}
use Rattle.machine_data.specs.declared.op.CallOp.{CallOp}
use Rattle.machine_data.specs.declared.component.Component.{Component}
use Rattle.machine_data.specs.declared.records.OpProgress.{OpProgress}
use Rattle.machine_data.specs.declared.label.Label.{Label}
use Rattle.machine_data.specs.declared.statuses.Phase.{Phase}
use Rattle.machine_data.specs.declared.records.Place.{Place}
use Rattle.machine_data.specs.declared.statuses.Status.{Status}
use Rattle.machine_data.specs.declared.records.Subtask.{Subtask}
use Rattle.machine_data.specs.declared.label.CallLabel.TheVariants as call_label
use Rattle.machine_data.specs.declared.op.CallOp.TheVariants as call_op
use Rattle.machine_data.specs.declared.records.Delivery.TheVariants as delivery
use Rattle.machine_data.specs.declared.records.OpProgress.TheVariants as op_progress
use Rattle.machine_data.specs.declared.records.Join.TheVariants as join
use Rattle.machine_data.specs.declared.label.Label.TheVariants as label
use Rattle.machine_data.specs.declared.statuses.TaskEvent.TheVariants as own
use Rattle.machine_data.specs.declared.statuses.Phase.TheVariants as phase
use Rattle.machine_data.specs.declared.records.Place.TheVariants as place
use Rattle.machine_data.specs.declared.records.Subtask.TheVariants as subtask
use Rattle.machine_data.specs.declared.label.ThreadLabel.TheVariants as thread_label
use Rattle.machine_data.specs.declared.trap.Trap.TheVariants as trap
use Rattle.machine_data.specs.declared.records.Why.TheVariants as why
use Rattle.machine_data.specs.Core.{Core}
use Rattle.machine_data.specs.Moves.{behind, call_settled, checked, is_callback_waiter, waits_cancellable, passes_check, promoted_unless, put_switch, stopped_at, withdrawn}
use Rattle.machine_data.specs.Read.{call_instance, cancel_was_asked, event_of, foot_of, has_ended, instance_of, is_at, is_callback_yield, is_joined, is_nil, is_second, is_watched, join_of, may_not_suspend, op_progress_of, phase_of, registers_of, saved_callee_of, subtask_at, subtask_ended, task_of, undelivered_end, was_cancelled, was_started}
use Rattle.machine_data.specs.Write.{free_handle, set_cancel_asked, set_cancelled, set_do_not_suspend, set_event, set_op_progress, set_join, set_task_event, set_phase, set_saved_callee, set_subtask_handle}
use Rattle.machine_data.specs.Maps.{numbers}
use Rattle.machine_rules.specs.Calls.{answered, answered_by, call_host_rule, call_rule, call_sync_host_rule, call_sync_rule, put_back, work_deleted}
use Rattle.machine_rules.specs.Finish.{Doer, NoAnswer, OwnScript, finish}
use Rattle.machine_rules.specs.Progress.{Continues, OneOf, Progress, Stops, Traps, or_trap, trap_if}
use Rattle.machine_rules.specs.Scripts.{value_of, values_in}
use Rattle.machine_data.specs.Statuses.{status_code}
use Rattle.machine_data.specs.declared.records.Why.{Why}

-- Which of the two ops it is.
pub data Mode : Type 0 where
  Async : Mode
  Sync : Mode

abbrev pub cancel_label : Mode → ℕ → ℕ → Label
cancel_label Async n v = label.Call (call_label.Cancel v n)
cancel_label Sync n v = label.Call (call_label.CancelSync v n)

abbrev pub pauses : ℕ → Label
pauses n = label.Thread (thread_label.Pauses n)

-- ---- An ended subtask

-- the undelivered end is taken and answered
abbrev pub cancel_takes_end : ℕ → ℕ → Subtask → Status → Core → Core
cancel_takes_end n r sub e s = answered n r (status_code e) (set_event sub None s)

-- trap 5 (SubtaskCancelAfterTerminal) where the end was handed out before
abbrev pub cancel_ended_by : Doer → Mode → ℕ → Subtask → Core → Option Status → Progress
cancel_ended_by d mode n sub s None = Traps trap.SubtaskCancelAfterTerminal
cancel_ended_by d mode n sub s (Some e) = Continues (cancel_label mode n (status_code e)) (answered_by d n (status_code e) (set_event sub None s)) n

abbrev pub cancel_ended_rule : Mode → ℕ → ℕ → Subtask → Core → Option Status → Progress
cancel_ended_rule mode n r sub s o = cancel_ended_by (OwnScript r) mode n sub s o

-- ---- A subtask that hasn't ended

-- what a cancel answers that finds no end
abbrev pub blocked_code : ℕ
blocked_code = 4294967295

-- the subtask joins the thread's own set, and the thread waits for its end
unfoldable pub cancel_stops : ℕ → Subtask → Core → Core
cancel_stops n sub s =
    let watched = set_join sub (join.Watched n) (set_saved_callee n None s) in
    set_op_progress n (op_progress.AwaitsEnd sub) (stopped_at n (place.Blocked sub) (checked (instance_of n s) watched))

-- `cancel` answers that it is blocked; `cancel_sync` stops the strand after a check:
-- trap 9 (CannotBlockSyncTask) where it fails
abbrev pub cancel_unended_by : Doer → Mode → ℕ → Subtask → Core → Progress
cancel_unended_by d Async n sub s = Continues (cancel_label Async n blocked_code) (answered_by d n blocked_code s) n
cancel_unended_by d Sync n sub s =
    trap_if (not (passes_check (instance_of n s) s)) trap.CannotBlockSyncTask (
    Stops (pauses n) (cancel_stops n sub s))

abbrev pub cancel_unended_rule : Mode → ℕ → ℕ → Subtask → Core → Progress
cancel_unended_rule mode n r sub s = cancel_unended_by (OwnScript r) mode n sub s

abbrev pub cancel_by : Doer → Mode → ℕ → Subtask → Core → Bool → Progress
cancel_by d mode n sub s true = cancel_ended_by d mode n sub s (undelivered_end (event_of sub s))
cancel_by d mode n sub s false = cancel_unended_by d mode n sub s

abbrev pub cancel_by_end : Mode → ℕ → ℕ → Subtask → Core → Bool → Progress
cancel_by_end mode n r sub s b = cancel_by (OwnScript r) mode n sub s b

-- it has ended or not
abbrev pub after_cancel_by : Doer → Mode → ℕ → Subtask → Core → Progress
after_cancel_by d mode n sub s = cancel_by d mode n sub s (subtask_ended sub s)

abbrev pub after_cancel : Mode → ℕ → ℕ → Subtask → Core → Progress
after_cancel mode n r sub s = after_cancel_by (OwnScript r) mode n sub s

-- ---- The cancel of a host call

-- an abort is asked for; a work that is aborted or complete stays as it is
abbrev pub aborted_phase : Phase → Phase
aborted_phase phase.Running = phase.AbortRequested
aborted_phase p = p

-- the work is marked cancelled; one that runs is aborted
unfoldable pub cancel_aborts_host : ℕ → Core → Core
cancel_aborts_host i s = set_cancelled i (set_phase i (aborted_phase (phase_of i s)) s)

-- trap 5 (SubtaskCancelAfterTerminal) where the work was cancelled before
abbrev pub cancel_host_by : Doer → Mode → ℕ → ℕ → Core → Progress
cancel_host_by d mode n i s =
    trap_if (was_cancelled i s) trap.SubtaskCancelAfterTerminal (
    after_cancel_by d mode n (subtask.Host i) (cancel_aborts_host i s))

abbrev pub cancel_host : Mode → ℕ → ℕ → ℕ → Core → Progress
cancel_host mode n r i s = cancel_host_by (OwnScript r) mode n i s

-- ---- The cancel of a guest call

-- its start is withdrawn
abbrev pub cancel_withdraws : ℕ → ℕ → ℕ → Core → Core
cancel_withdraws n r k s = answered n r 3 (withdrawn k s)

-- a cancel was asked, and the task finds Cancelled as its task event
unfoldable pub cancel_asks : ℕ → Core → Core
cancel_asks k s = set_cancel_asked k (set_task_event k (Some own.Cancelled) s)

-- the canceller goes behind the entry at switch; default: nothing at switch
abbrev pub behind_switch : ℕ → Option ℕ → Core → Core
behind_switch n None s = s
behind_switch n (Some m) s = behind (foot_of m s) (n ∷ []) s

-- the callee's flag is saved and cleared, the subtask joins the canceller's set, and the canceller goes behind the entry at switch
unfoldable pub cancel_goes_behind : ℕ → ℕ → Core → Core
cancel_goes_behind n k s =
    let j = call_instance k s in
    let cleared = set_do_not_suspend j false (set_saved_callee n (Some (may_not_suspend j s)) s) in
    let watched = set_join (subtask.Guest k) (join.Watched n) cleared in
    set_op_progress n (op_progress.Cancels (subtask.Guest k)) (behind_switch n s.queues.switch watched)

-- a waiting callback is given the cancel, and a `wait` is resumed
abbrev pub cancel_why : Bool → Why
cancel_why true = why.Delivery delivery.Cancel
cancel_why false = why.Resumption

-- the thread m of the call, which waits, becomes the switch entry
unfoldable pub cancel_wakes : ℕ → ℕ → (woken : ℕ) → Core → Core
cancel_wakes n k m s = cancel_goes_behind n k (put_switch m (cancel_why (is_callback_waiter m s)) (cancel_asks k s))

-- the callback's yield moves to switch, unless an entry is there
unfoldable pub cancel_promotes_yield : ℕ → ℕ → Core → Core
cancel_promotes_yield n k s = cancel_goes_behind n k (promoted_unless k (cancel_asks k s))

abbrev pub is_waiting : Place → Bool
is_waiting (place.Waiting x by_callback) = true
is_waiting _ = false

-- the thread is of the call, and waits on a set, by callback or in `wait`
abbrev pub is_waiting_of : ℕ → Core → ℕ → Bool
is_waiting_of k s m = (task_of m s == k) && is_at m s is_waiting

abbrev pub waiting_in : ℕ → Core → List ℕ
waiting_in k s = filter (is_waiting_of k s) (numbers s.threads)

-- the call's first thread, where it waits by callback
abbrev pub waiting_callback : ℕ → Core → List ℕ
waiting_callback k s = if is_callback_waiter k s then k ∷ [] else []

-- the threads of the call that wait so that a cancel may take them: a callback, and where `wait` may take Cancelled all
abbrev pub cancellable : ℕ → Core → List ℕ
cancellable k s = if waits_cancellable k s then waiting_in k s else waiting_callback k s

-- What a cancel finds of a guest call.
pub data CancelCase : Type 0 where
  -- the call has ended
  AlreadyEnded : CancelCase
  -- its start hasn't run
  StartNotRun : CancelCase
  -- it was asked before, in version 2
  AskedBefore : CancelCase
  -- a thread of it waits that may be cancelled
  ThreadWaits : CancelCase
  -- its callback has yielded, and the entry is queued
  CallbackYields : CancelCase
  -- it runs, or is anywhere else
  OtherwiseRuns : CancelCase

-- the first of them that holds
abbrev pub cancel_case : ℕ → Core → CancelCase
cancel_case k s =
    if has_ended k s then AlreadyEnded else
    if not (was_started k s) then StartNotRun else
    if is_second s.version && cancel_was_asked k s then AskedBefore else
    if not (is_nil (cancellable k s)) then ThreadWaits else
    if is_at k s is_callback_yield then CallbackYields else OtherwiseRuns

-- the table of the cancel
abbrev pub cancel_guest_by : Doer → Mode → ℕ → ℕ → Core → CancelCase → Progress
cancel_guest_by d mode n k s AlreadyEnded = cancel_ended_by d mode n (subtask.Guest k) s (undelivered_end (event_of (subtask.Guest k) s))
cancel_guest_by d mode n k s StartNotRun = Continues (cancel_label mode n 3) (answered_by d n 3 (withdrawn k s)) n
cancel_guest_by d mode n k s AskedBefore = Traps trap.SubtaskCancelAfterTerminal
cancel_guest_by d mode n k s ThreadWaits = OneOf (cancellable k s) (λ m. Stops (pauses n) (cancel_wakes n k m s))
cancel_guest_by d mode n k s CallbackYields = Stops (pauses n) (cancel_promotes_yield n k s)
cancel_guest_by d mode n k s OtherwiseRuns = after_cancel_by d mode n (subtask.Guest k) (cancel_asks k s)

abbrev pub cancel_guest : Mode → ℕ → ℕ → ℕ → Core → CancelCase → Progress
cancel_guest mode n r k s o = cancel_guest_by (OwnScript r) mode n k s o

-- ---- The ops

abbrev pub cancel_subtask_by : Doer → Mode → ℕ → Core → Subtask → Progress
cancel_subtask_by d mode n s (subtask.Guest k) = cancel_guest_by d mode n k s (cancel_case k s)
cancel_subtask_by d mode n s (subtask.Host i) = cancel_host_by d mode n i s

abbrev pub cancel_subtask : Mode → ℕ → ℕ → Core → Subtask → Progress
cancel_subtask mode n r s sub = cancel_subtask_by (OwnScript r) mode n s sub

-- trap 7 (WaitableSyncAndAsync) where the subtask is in any set
abbrev pub cancel_found_by : Doer → Mode → ℕ → Core → Subtask → Progress
cancel_found_by d mode n s sub =
    trap_if (is_joined (join_of sub s)) trap.WaitableSyncAndAsync (
    cancel_subtask_by d mode n s sub)

abbrev pub cancel_found : Mode → ℕ → ℕ → Core → Subtask → Progress
cancel_found mode n r s sub = cancel_found_by (OwnScript r) mode n s sub

-- the callee's instance; default: host behind
abbrev pub subtask_instance : Subtask → Core → ℕ
subtask_instance (subtask.Guest k) s = call_instance k s
subtask_instance (subtask.Host i) s = 0

-- the canceller is resumed: the saved flag is written back, and the subtask leaves its set
unfoldable pub cancel_resumed : ℕ → Subtask → Core → Core
cancel_resumed n sub s = set_join sub join.Nowhere (set_saved_callee n None (put_back (saved_callee_of n s) (subtask_instance sub s) s))

-- `cancel R X` and `cancel_sync R X`: resumed behind the callee; resumed once the end was told; or as it begins:
-- trap 16 (BadHandle) where X names no subtask
abbrev pub cancel_rule : Doer → Mode → ℕ → ℕ → Core → OpProgress → Progress
cancel_rule d mode n h s (op_progress.Cancels sub) = after_cancel_by d mode n sub (cancel_resumed n sub s)
cancel_rule d mode n h s (op_progress.AwaitsEnd sub) =
    let t = set_join sub join.Nowhere s in
    cancel_ended_by d mode n sub t (undelivered_end (event_of sub t))
cancel_rule d mode n h s _ = or_trap (subtask_at (instance_of n s) h s) trap.BadHandle (cancel_found_by d mode n s)

abbrev pub scripted_cancel_rule : Mode → ℕ → ℕ → ℕ → Core → OpProgress → Progress
scripted_cancel_rule mode n r h s f = cancel_rule (OwnScript r) mode n h s f

-- ---- Dropping

abbrev pub subtask_settled : Subtask → Core → Core
subtask_settled (subtask.Guest k) s = call_settled k s
subtask_settled (subtask.Host i) s = work_deleted i s

-- the subtask leaves its set, and the handle is gone
unfoldable pub unnamed : ℕ → ℕ → Subtask → Core → Core
unnamed n h sub s =
    let parted = set_subtask_handle sub None (set_join sub join.Nowhere s) in
    subtask_settled sub (free_handle (instance_of n s) h parted)

abbrev pub dropped : ℕ → ℕ → Subtask → Core → Core
dropped n h sub s = finish (OwnScript 0) n NoAnswer (unnamed n h sub s)

-- trap 7 (WaitableSyncAndAsync) where the subtask is in a thread's own set, trap 6 (SubtaskDropNotResolved) where it hasn't ended,
-- and where its event wasn't handed out
abbrev pub drop_by : Doer → ℕ → ℕ → Core → Subtask → Progress
drop_by d n h s sub =
    trap_if (is_watched (join_of sub s)) trap.WaitableSyncAndAsync (
    trap_if (not (subtask_ended sub s)) trap.SubtaskDropNotResolved (
    trap_if (is_some (event_of sub s)) trap.SubtaskDropNotResolved (
    Continues (label.Call (call_label.Drop n)) (finish d n NoAnswer (unnamed n h sub s)) n)))

abbrev pub drop_found : ℕ → ℕ → Core → Subtask → Progress
drop_found n h s sub = drop_by (OwnScript 0) n h s sub

-- `drop X`: trap 16 (BadHandle) where X names no subtask
abbrev pub drop_rule : Doer → ℕ → ℕ → Core → Progress
drop_rule d n h s = or_trap (subtask_at (instance_of n s) h s) trap.BadHandle (drop_by d n h s)

abbrev pub scripted_drop_rule : ℕ → ℕ → Core → Progress
scripted_drop_rule n h s = drop_rule (OwnScript 0) n h s

-- ---- All ops on subtasks

abbrev pub subtask_rule : Doer → Component → ℕ → Core → CallOp → Progress
subtask_rule d c n s (call_op.Call r q e xs) = call_rule d c n q e (values_in (registers_of n s) xs) s (op_progress_of n s)
subtask_rule d c n s (call_op.CallSync r e xs) = call_sync_rule d c n e (values_in (registers_of n s) xs) s (op_progress_of n s)
subtask_rule d c n s (call_op.CallHost r q h) = call_host_rule d c n q h s
subtask_rule d c n s (call_op.CallSyncHost r h) = call_sync_host_rule d c n h s (op_progress_of n s)
subtask_rule d c n s (call_op.Cancel r x) = cancel_rule d Async n (value_of n s x) s (op_progress_of n s)
subtask_rule d c n s (call_op.CancelSync r x) = cancel_rule d Sync n (value_of n s x) s (op_progress_of n s)
subtask_rule d c n s (call_op.Drop x) = drop_rule d n (value_of n s x) s

-- the register of the op's answer; default: it has none
abbrev pub call_answer : CallOp → ℕ
call_answer (call_op.Call r q e xs) = r
call_answer (call_op.CallSync r e xs) = r
call_answer (call_op.CallHost r q h) = r
call_answer (call_op.CallSyncHost r h) = r
call_answer (call_op.Cancel r x) = r
call_answer (call_op.CancelSync r x) = r
call_answer (call_op.Drop x) = 0

abbrev pub scripted_subtask_rule : Component → ℕ → Core → CallOp → Progress
scripted_subtask_rule c n s o = subtask_rule (OwnScript (call_answer o)) c n s o
