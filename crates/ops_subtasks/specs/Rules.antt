-- The rules of ops on subtasks, by what their contracts name.
use Rattle.machine_data.specs.declared.records.OpProgress.TheVariants as op_progress
use Rattle.ops_subtasks.specs.Refused.{mode_of}
use Rattle.std.specs.Prelude.{Bool, List, None, Option, false, not, option_map, true, ℕ}
use Rattle.machine_data.specs.Core.{Core}
use Rattle.machine_data.specs.Read.{event_of, fits, undelivered_end}
use Rattle.machine_data.specs.Write.{set_event, set_saved_callee}
use Rattle.machine_data.specs.declared.component.Callee.{Callee}
use Rattle.machine_data.specs.declared.component.ExportKind.{ExportKind}
use Rattle.machine_data.specs.declared.label.CallLabel.TheVariants as call_label
use Rattle.machine_data.specs.declared.label.Label.TheVariants as label
use Rattle.machine_data.specs.declared.records.Goal.{Goal}
use Rattle.machine_data.specs.declared.records.Goal.TheVariants as goal
use Rattle.machine_data.specs.declared.records.OpProgress.{OpProgress}
use Rattle.machine_data.specs.declared.records.Subtask.{Subtask}
use Rattle.machine_data.specs.declared.records.Subtask.TheVariants as subtask
use Rattle.machine_data.specs.declared.trap.Trap.TheVariants as trap
use Rattle.ops_guests.specs.Does.{Rule}
use Rattle.machine_rules.specs.Calls.{FirstPoll, call_host_by, call_let_go, call_queues, call_status_by, call_sync_host_by, call_sync_status_by, call_taken, call_with_handle, enter_rule, next_thread, status_found, work_deleted, work_value}
use Rattle.machine_rules.specs.Cancels.{Mode, after_cancel_by, cancel_asks, cancel_case, cancel_ended_by, cancel_guest_by, cancel_host_by, cancel_rule, cancel_wakes}
use Rattle.machine_rules.specs.Finish.{OneNumber, finish}
use Rattle.machine_rules.specs.Progress.{Continues, Stops, trap_if}
use Rattle.machine_rules.specs.Sets.{join_done_by}
use Rattle.task_table.specs.declared.id.TableId.{TableId}
use Rattle.task_wait.specs.declared.keys.GuestTaskKey.{GuestTaskKey}
use Rattle.task_wait.specs.declared.keys.SetKey.{SetKey}
use Rattle.task_wait.specs.declared.keys.ThreadKey.{ThreadKey}
use Rattle.core_primitives.specs.Names.{subtask_in}
use Rattle.core_primitives.specs.StateView.{StateView, call_of, on_core, set_of, thread_of}
use Rattle.core_primitives.specs.declared.names.SubtaskId.{SubtaskId}

-- ---- Calls

-- a call of an export of this kind that queues its callee's start
abbrev pub queues_call : ExportKind → Goal → Callee → (words : List ℕ) → Rule
queues_call x g e words d n ch s =
    trap_if (not (fits 3 s)) trap.TableFull (
    Stops (label.Call (call_label.Calls n (next_thread s))) (call_queues n e x g words s))

-- a direct one
abbrev pub enters_call : ExportKind → Callee → (words : List ℕ) → Rule
enters_call x e words d n ch s = enter_rule n e x words s

-- `call_sync R F X*` as it begins, by whether the export is async-lifted
abbrev pub begins_call : (async_lifted : Bool) → ExportKind → Callee → (words : List ℕ) → Rule
begins_call true x e words d n ch s = queues_call x goal.Answer e words d n ch s
begins_call false x e words d n ch s = enters_call x e words d n ch s

-- `call_sync R F X*`, once its direct callee has answered this
abbrev pub answers_value : (value : ℕ) → Rule
answers_value v d n ch s = Continues (label.Call (call_label.CallSync n v)) (finish d n (OneNumber v) s) n

-- `call R Q F X*` and `call_sync R F X*` of the call k, by the status that is found
abbrev pub goes_on_with : (call : ℕ) → Rule
goes_on_with k d n ch s = call_status_by d n k s (status_found k s)

-- what each of them leaves before it is ended: nothing is saved any more
abbrev pub return_taken : (thread call : ℕ) → Core → Core
return_taken n k s = set_saved_callee n None (call_let_go n k s)

abbrev pub call_pends : (thread call : ℕ) → Core → Core
call_pends n k s = set_saved_callee n None (call_with_handle n k s)

abbrev pub result_taken : (thread call : ℕ) → Core → Core
result_taken n k s = set_saved_callee n None (call_taken n k s)

abbrev pub goes_on_in_sync : (call : ℕ) → Rule
goes_on_in_sync k d n ch s = call_sync_status_by d n k s (status_found k s)

-- calls of a host of whose first poll this has come
abbrev pub calls_host : (register : ℕ) → FirstPoll → Rule
calls_host q p d n ch s = call_host_by d n q s p

abbrev pub calls_sync_host : FirstPoll → Rule
calls_sync_host p d n ch s = call_sync_host_by d n s p

-- `call_sync R H`, once the work that it was blocked on has ended
abbrev pub answers_work : (work : ℕ) → Rule
answers_work i d n ch s =
    Continues (label.Call (call_label.CallSync n (work_value i s))) (finish d n (OneNumber (work_value i s)) (work_deleted i s)) n

-- ---- Cancels

-- a cancel of what the handle names, that has come so far
abbrev pub cancels_from : Mode → OpProgress → (handle : ℕ) → Rule
cancels_from mode f h d n ch s = cancel_rule d mode n h s f

-- the rule of one that is resumed inside, whatever its handle names by then
abbrev pub goes_on_from : Mode → OpProgress → Rule
goes_on_from mode f d n ch s = cancel_rule d mode n 0 s f

-- by how far it has come: it cancels the subtask, or awaits its end
abbrev pub goes_on_cancelling : (sync : Bool) → SubtaskId → StateView → Rule
goes_on_cancelling sync sub v = goes_on_from (mode_of sync) (op_progress.Cancels (subtask_in v.tags sub))

abbrev pub goes_on_awaiting : (sync : Bool) → SubtaskId → StateView → Rule
goes_on_awaiting sync sub v = goes_on_from (mode_of sync) (op_progress.AwaitsEnd (subtask_in v.tags sub))

abbrev pub cancels_guest : Mode → (call : ℕ) → Rule
cancels_guest mode k d n ch s = cancel_guest_by d mode n k s (cancel_case k s)

-- the canceller goes behind the waiting thread of the call, which becomes the switch entry
abbrev pub wakes_cancelled : TableId ThreadKey → TableId GuestTaskKey → (waiting : TableId ThreadKey) → StateView → StateView
wakes_cancelled id call waiting s = on_core (cancel_wakes (thread_of s id) (call_of s call) (thread_of s waiting)) s

abbrev pub cancels_host : Mode → (work : ℕ) → Rule
cancels_host mode i d n ch s = cancel_host_by d mode n i s

abbrev pub cancels_ended : Mode → Subtask → Rule
cancels_ended mode sub d n ch s = cancel_ended_by d mode n sub s (undelivered_end (event_of sub s))

-- the end was taken, which a cancel answers, and nothing is saved any more
abbrev pub end_answered : ℕ → Subtask → Core → Core
end_answered n sub s = set_saved_callee n None (set_event sub None s)

-- what follows once the subtask was asked to end
abbrev pub after_cancels : Mode → Subtask → Rule
after_cancels mode sub d n ch s = after_cancel_by d mode n sub s

abbrev pub asks_to_end : Mode → (call : ℕ) → Rule
asks_to_end mode k d n ch s = after_cancel_by d mode n (subtask.Guest k) (cancel_asks k s)

-- ---- Joins

-- the subtask joins the set, or none
abbrev pub joins_of : StateView → SubtaskId → Option (TableId SetKey) → Rule
joins_of v sub set d n ch s = join_done_by d n (subtask_in v.tags sub) ch.woken s (option_map (λ id. set_of v id) set)
