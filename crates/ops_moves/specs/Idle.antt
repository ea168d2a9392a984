-- What waking and publishing ask of who waits and who is blocked.
use Rattle.std.specs.Prelude.{IfSome, Option, is_some, true, ℕ, ◌<◌, ◌≡◌}
use Rattle.machine_data.specs.Core.{Core}
use Rattle.machine_data.specs.Maps.{get}
use Rattle.machine_data.specs.Read.{is_at, is_blocked_on, is_waiter, join_of}
use Rattle.machine_data.specs.declared.records.Join.TheVariants as join
use Rattle.machine_data.specs.declared.records.Subtask.{Subtask}
use Rattle.machine_data.specs.declared.records.Subtask.TheVariants as subtask
use Rattle.task_table.specs.declared.id.TableId.{TableId}
use Rattle.task_wait.specs.declared.keys.ThreadKey.{ThreadKey}
use Rattle.core_primitives.specs.Apart.{AreWaitersUnqueued, IsUnqueued}
use Rattle.core_primitives.specs.StateView.{StateView, thread_of}

-- Who waits on a set, or is blocked on a subtask, has no entry.
pub record AreIdleUnqueued (s : Core) : Type 0 where
  pub waiters : (x : ℕ) → AreWaitersUnqueued x s
  pub blocked : (sub : Subtask) (n : ℕ) → is_at n s (is_blocked_on sub) ≡ true → IsUnqueued n s

-- The set to which the subtask is joined is there.
abbrev pub IsJoinThere : Subtask → Core → Type 0
IsJoinThere sub s = (x : ℕ) → join_of sub s ≡ join.Set x → is_some (get s.sets x) ≡ true

-- The thread waits on some set.
abbrev pub IsWaiting : ℕ → Core → Type 0
IsWaiting n s = (x : ℕ) × (is_waiter x n s ≡ true)

abbrev pub number_of : Subtask → ℕ
number_of (subtask.Guest k) = k
number_of (subtask.Host i) = i

-- A status of the subtask may be published, with this waiter to be woken.
pub record CanPublish (sub : Subtask) (waiter : Option (TableId ThreadKey)) (s : StateView) : Type 0 where
  pub named : 0 < number_of sub
  pub idle : AreIdleUnqueued s.core
  pub there : IsJoinThere sub s.core
  pub live : IfSome waiter (λ id. 0 < thread_of s id)
  pub waits : IfSome waiter (λ id. IsWaiting (thread_of s id) s.core)
