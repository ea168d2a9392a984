-- The number and the record of each kind of entry, and the chains that hang on a number.
use Rattle.std.specs.Prelude.{ℕ, Option, Some}
use Rattle.machine_data.specs.declared.records.Call.{Call}
use Rattle.machine_data.specs.declared.records.Set.{Set}
use Rattle.machine_data.specs.declared.records.Thread.{Thread}
use Rattle.machine_data.specs.declared.records.Work.{Work}
use Rattle.machine_rules.specs.Picks.{ThreadSeat}
use Rattle.core_records.specs.declared.call_records.GuestTask.{GuestTask}
use Rattle.core_records.specs.declared.call_records.TaskGroup.{TaskGroup}
use Rattle.core_records.specs.declared.single.Single.{Single}
use Rattle.core_records.specs.declared.set_records.WaitSet.{WaitSet}
use Rattle.core_records.specs.declared.thread_records.GuestThread.{GuestThread}
use Rattle.core_records.specs.declared.work_records.WorkRecord.{WorkRecord}

abbrev pub thread_key : Single GuestThread → Option (ℕ × Thread)
thread_key g = Some (g.item.number, g.item.thread)

abbrev pub call_key : Single GuestTask → Option (ℕ × Call)
call_key g = Some (g.item.number, g.item.call)

abbrev pub work_key : Single WorkRecord → Option (ℕ × Work)
work_key w = Some (w.item.number, w.item.work)

abbrev pub set_key : Single WaitSet → Option (ℕ × Set)
set_key x = Some (x.item.number, x.item.set)

-- a group's record is the count of its calls
abbrev pub group_key : Single TaskGroup → Option (ℕ × ℕ)
group_key r = Some (r.item.number, r.item.calls)

-- ---- Places in the resource table

abbrev pub thread_seat_key : Single GuestThread → Option (ℕ × ThreadSeat)
thread_seat_key g = Some (g.item.number, record { task = g.item.task_entry; own = g.item.entry })

abbrev pub call_seat_key : Single GuestTask → Option (ℕ × ℕ)
call_seat_key g = Some (g.item.number, g.item.entry)

abbrev pub work_seat_key : Single WorkRecord → Option (ℕ × ℕ)
work_seat_key w = Some (w.item.number, w.item.entry)

-- ---- Chains

abbrev pub callers_key : Single GuestThread → Option (ℕ × ℕ)
callers_key g = Some (g.item.number, g.item.callers)

abbrev pub under_key : Single GuestThread → Option (ℕ × ℕ)
under_key g = Some (g.item.number, g.item.under)

abbrev pub blocked_key : Single GuestTask → Option (ℕ × ℕ)
blocked_key g = Some (g.item.number, g.item.blocked)

-- the chain of a call's own threads that wait, where a cancel may take any of these; none otherwise
abbrev pub waits_key : Single GuestTask → Option (ℕ × Option ℕ)
waits_key g = Some (g.item.number, g.item.waits)

abbrev pub work_blocked_key : Single WorkRecord → Option (ℕ × ℕ)
work_blocked_key w = Some (w.item.number, w.item.blocked)

abbrev pub waiters_key : Single WaitSet → Option (ℕ × ℕ)
waiters_key x = Some (x.item.number, x.item.waiters)

abbrev pub ready_calls_key : Single WaitSet → Option (ℕ × ℕ)
ready_calls_key x = Some (x.item.number, x.item.ready_calls)

abbrev pub ready_works_key : Single WaitSet → Option (ℕ × ℕ)
ready_works_key x = Some (x.item.number, x.item.ready_works)
