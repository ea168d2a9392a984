-- What a record names, where it is still there; 0, under which nothing is there, where it is gone.
use Rattle.std.specs.Prelude.{Option, None, Some, ℕ, if◌then◌else◌, is_some, option_map}
use Rattle.machine_data.specs.declared.records.Caller.{Caller}
use Rattle.machine_data.specs.declared.records.Caller.TheVariants as caller
use Rattle.machine_data.specs.declared.records.Delivery.TheVariants as delivery
use Rattle.machine_data.specs.declared.records.OpProgress.{OpProgress}
use Rattle.machine_data.specs.declared.records.OpProgress.TheVariants as op_progress
use Rattle.machine_data.specs.declared.records.Join.{Join}
use Rattle.machine_data.specs.declared.records.Join.TheVariants as join
use Rattle.machine_data.specs.declared.records.Subtask.{Subtask}
use Rattle.machine_data.specs.declared.records.Subtask.TheVariants as subtask
use Rattle.machine_data.specs.declared.records.Why.{Why}
use Rattle.machine_data.specs.declared.records.Why.TheVariants as why
use Rattle.machine_data.specs.declared.records.WorkCaller.{WorkCaller}
use Rattle.machine_data.specs.declared.records.WorkCaller.TheVariants as work_caller
use Rattle.machine_data.specs.Core.{Core}
use Rattle.machine_data.specs.Maps.{Records, get}
use Rattle.machine_data.specs.Moves.{why_of}
use Rattle.machine_data.specs.Read.{caller_of, join_of, op_progress_of, set_at, subtask_at, thread_at, work_caller_of}

abbrev pub kept_in : {X : Type 0} → Records X → ℕ → ℕ
kept_in m n = if is_some (get m n) then n else 0

abbrev pub live_thread : ℕ → Core → ℕ
live_thread n s = kept_in s.threads n

abbrev pub live_set : ℕ → Core → ℕ
live_set x s = kept_in s.sets x

abbrev pub live_subtask : Subtask → Core → Subtask
live_subtask (subtask.Guest k) s = subtask.Guest (kept_in s.calls k)
live_subtask (subtask.Host i) s = subtask.Host (kept_in s.works i)

abbrev pub live_op_progress : OpProgress → Core → OpProgress
live_op_progress (op_progress.Waits x) s = op_progress.Waits (live_set x s)
live_op_progress (op_progress.Calls sub) s = op_progress.Calls (live_subtask sub s)
live_op_progress (op_progress.Cancels sub) s = op_progress.Cancels (live_subtask sub s)
live_op_progress (op_progress.AwaitsEnd sub) s = op_progress.AwaitsEnd (live_subtask sub s)
live_op_progress h s = h

abbrev pub live_join : Join → Core → Join
live_join join.Nowhere s = join.Nowhere
live_join (join.Set x) s = join.Set (live_set x s)
live_join (join.Watched n) s = join.Watched (live_thread n s)

abbrev pub live_caller : Caller → Core → Caller
live_caller caller.Main s = caller.Main
live_caller (caller.Thread n) s = caller.Thread (live_thread n s)

abbrev pub live_work_caller : WorkCaller → Core → WorkCaller
live_work_caller work_caller.Spawn s = work_caller.Spawn
live_work_caller (work_caller.Async n q) s = work_caller.Async (live_thread n s) q
live_work_caller (work_caller.Sync n) s = work_caller.Sync (live_thread n s)

-- the set that a delivery is for
abbrev pub delivered_set : Why → Option ℕ
delivered_set (why.Delivery (delivery.Set x)) = Some x
delivered_set _ = None

-- what the record of a call, of a subtask, of a thread, of a work names
abbrev pub live_caller_of : ℕ → Core → Caller
live_caller_of k s = live_caller (caller_of k s) s

abbrev pub live_join_of : Subtask → Core → Join
live_join_of sub s = live_join (join_of sub s) s

abbrev pub live_op_progress_of : ℕ → Core → OpProgress
live_op_progress_of n s = live_op_progress (op_progress_of n s) s

abbrev pub live_work_caller_of : ℕ → Core → WorkCaller
live_work_caller_of i s = live_work_caller (work_caller_of i s) s

-- what a handle of an instance names
abbrev pub live_subtask_at : (instance handle : ℕ) → Core → Option Subtask
live_subtask_at i h s = option_map (λ sub. live_subtask sub s) (subtask_at i h s)

abbrev pub live_set_at : (instance handle : ℕ) → Core → Option ℕ
live_set_at i h s = option_map (λ x. live_set x s) (set_at i h s)

abbrev pub live_thread_at : (instance handle : ℕ) → Core → Option ℕ
live_thread_at i h s = option_map (λ n. live_thread n s) (thread_at i h s)

-- the set that the queued delivery of a thread is for
abbrev pub live_delivered_set : ℕ → Core → Option ℕ
live_delivered_set n s = option_map (λ x. live_set x s) (delivered_set (why_of n s))
