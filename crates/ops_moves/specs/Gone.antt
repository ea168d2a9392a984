-- What ids name once a thread has ended.
use Rattle.std.specs.Prelude.{ℕ, ◌<◌, ◌≡◌, ◌≢◌, ◌⊎◌}
use Rattle.task_table.specs.declared.id.TableId.{TableId}
use Rattle.task_wait.specs.declared.keys.GuestTaskKey.{GuestTaskKey}
use Rattle.task_wait.specs.declared.keys.HostTaskKey.{HostTaskKey}
use Rattle.task_wait.specs.declared.keys.SetKey.{SetKey}
use Rattle.task_wait.specs.declared.keys.ThreadKey.{ThreadKey}
use Rattle.machine_data.specs.Moves.{ended}
use Rattle.machine_data.specs.Read.{task_of}
use Rattle.core_primitives.specs.BecomesRecord.{BecomesWith}
use Rattle.core_primitives.specs.StateView.{KeepsSeats, Lost, StateView, Tags, call_number, nothing_lost, set_number, thread_number, work_number}

abbrev pub lost_both : ℕ → ℕ → Lost
lost_both n k = record nothing_lost { thread = n; call = k }

-- Each id that named something names it still, unless that is lost; what named the thread that is lost, or no thread, names none.
-- The same groups are tracked.
pub record KeepsLive (lost : Lost) (old new : Tags) : Type 0 where
  pub threads : (id : TableId ThreadKey) → 0 < thread_number old id → thread_number old id ≢ lost.thread →
      thread_number new id ≡ thread_number old id
  pub calls : (id : TableId GuestTaskKey) → 0 < call_number old id → call_number old id ≢ lost.call →
      call_number new id ≡ call_number old id
  pub sets : (id : TableId SetKey) → 0 < set_number old id → set_number new id ≡ set_number old id
  pub works : (id : TableId HostTaskKey) → 0 < work_number old id → work_number new id ≡ work_number old id
  pub gone : (id : TableId ThreadKey) → (thread_number old id ≡ 0) ⊎ (thread_number old id ≡ lost.thread) → thread_number new id ≡ 0
  pub same : new.tracked ≡ old.tracked
  pub wanted : new.wanted ≡ old.wanted
  pub seats : KeepsSeats lost old.seats new.seats

-- The thread has ended, and what that settles is done; its ids and, if it is gone, those of its call name nothing.
abbrev pub HasEnded : ℕ → StateView → StateView → Type 0
HasEnded n s = BecomesWith (KeepsLive (lost_both n (task_of n s.core))) (ended n s.core) s
