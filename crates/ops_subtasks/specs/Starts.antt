-- The start of a call that was made.
use Rattle.task_wait.specs.declared.keys.ThreadKey.{ThreadKey}
use Rattle.task_wait.specs.declared.keys.GuestTaskKey.{GuestTaskKey}
use Rattle.task_table.specs.declared.id.TableId.{TableId}
use Rattle.core_primitives.specs.StateView.{StateView, call_of, on_core, thread_of}
use Rattle.std.specs.Prelude.{[], ℕ, ◌∷◌, ◌≡◌}
use Rattle.machine_data.specs.Core.{Core}
use Rattle.machine_data.specs.Moves.{behind, put_switch, less_switch, unqueued}
use Rattle.machine_data.specs.Write.{set_op_progress, set_switch}
use Rattle.machine_data.specs.declared.component.ExportKind.{ExportKind}
use Rattle.machine_data.specs.declared.records.OpProgress.TheVariants as op_progress
use Rattle.machine_data.specs.declared.records.Subtask.TheVariants as subtask
use Rattle.machine_data.specs.declared.records.Why.TheVariants as why
use Rattle.machine_rules.specs.Calls.{call_clears_flag, next_thread}

-- The start of m, the first thread of the call k of an export of this instance and kind, becomes the switch entry, and n goes behind it.
abbrev pub call_starts : (n m k j : ℕ) → ExportKind → Core → Core
call_starts n m k j x s =
    set_op_progress n (op_progress.Calls (subtask.Guest k)) (behind m (n ∷ []) (call_clears_flag n j x (put_switch m why.Start s)))

-- the same, by ids
abbrev pub call_started : (thread first : TableId ThreadKey) → TableId GuestTaskKey → (instance : ℕ) → ExportKind → StateView → StateView
call_started id first call j x s = on_core (call_starts (thread_of s id) (thread_of s first) (call_of s call) j x) s

-- the thread's entries are gone
abbrev pub taken_out : TableId ThreadKey → StateView → StateView
taken_out id s = on_core (λ c. set_switch (less_switch (thread_of s id) c.queues.switch) (unqueued (thread_of s id) c)) s

-- What was made last is answered with its number.
pub record IsMadeNext (found : TableId ThreadKey × ℕ) (s t : StateView) : Type 0 where
  pub thread : thread_of t found.0 ≡ next_thread s.core
  pub number : found.1 ≡ next_thread s.core
