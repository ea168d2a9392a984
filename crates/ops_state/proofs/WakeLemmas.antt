-- Waiters that are woken have no entry.
use Rattle.std.proofs.Common.{subst, sym}
use Rattle.std.specs.Prelude.{IfSome, None, Option, Some, ℕ, ◌≡◌}
use Rattle.machine_data.specs.Core.{Core}
use Rattle.machine_data.specs.Write.{on_call, on_work, set_join}
use Rattle.machine_data.specs.declared.records.Join.{Join}
use Rattle.machine_data.specs.declared.records.Subtask.{Subtask}
use Rattle.machine_data.specs.declared.records.Subtask.TheVariants as subtask
use Rattle.ops_moves.specs.Idle.{AreIdleUnqueued, IsWaiting}
use Rattle.task_table.specs.declared.id.TableId.{TableId}
use Rattle.task_wait.specs.declared.keys.ThreadKey.{ThreadKey}
use Rattle.core_primitives.specs.Apart.{IsUnqueued}
use Rattle.core_primitives.specs.StateView.{StateView, on_core, thread_of}

pub waiter_unqueued : (waiter : Option (TableId ThreadKey)) (s : StateView) → AreIdleUnqueued s.core → IfSome waiter (λ id. IsWaiting (thread_of s id) s.core) → IfSome waiter (λ id. IsUnqueued (thread_of s id) s.core)
waiter_unqueued None s idle waits = tt
waiter_unqueued (Some id) s idle waits = idle.waiters waits.0 (thread_of s id) waits.1

join_unqueued : (n : ℕ) (sub : Subtask) (j : Join) (s : Core) → IsUnqueued n s → IsUnqueued n (set_join sub j s)
unfolding set_join on_call on_work
join_unqueued n (subtask.Guest k) j s out = record { high = out.high; low = out.low }
join_unqueued n (subtask.Host i) j s out = record { high = out.high; low = out.low }

pub joined_unqueued : (waiter : Option (TableId ThreadKey)) (sub : Subtask) (j : Join) (s t : StateView) → t ≡ on_core (set_join sub j) s → AreIdleUnqueued s.core → IfSome waiter (λ id. IsWaiting (thread_of s id) s.core) → IfSome waiter (λ id. IsUnqueued (thread_of t id) t.core)
joined_unqueued None sub j s t e idle waits = tt
joined_unqueued (Some id) sub j s t e idle waits =
    subst (λ (v : StateView). IsUnqueued (thread_of v id) v.core) (sym e) (join_unqueued (thread_of s id) sub j s.core (idle.waiters waits.0 (thread_of s id) waits.1))
