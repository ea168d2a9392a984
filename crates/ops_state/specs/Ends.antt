-- The end of a thread.
use Rattle.std.specs.Prelude.{Bool, Err, None, Ok, Result, [], false, true, ℕ, ◌≡◌}
use Rattle.ops_state.specs.declared.error.TaskError.{TaskError}
use Rattle.ops_state.specs.declared.error.TaskError.TheVariants as task_error
use Rattle.machine_data.specs.Core.{Core}
use Rattle.machine_data.specs.Read.{callers_of, under_of}
use Rattle.machine_data.specs.declared.trap.Trap.TheVariants as trap
use Rattle.ops_moves.specs.Gone.{HasEnded}
use Rattle.core_primitives.specs.Apart.{IsApart}
use Rattle.core_primitives.specs.StateView.{StateView, thread_of}
use Rattle.ops_state.specs.declared.name_calls.QualifiedThreadId.{QualifiedThreadId}
use Rattle.machine_rules.specs.Ends.{leaves_no_result}

-- The thread has no entry, is behind nobody, and nobody is behind it or under it.
pub record MayEnd (n : ℕ) (s : Core) : Type 0 where
  pub apart : IsApart n s
  pub callers : callers_of n s ≡ []
  pub under : under_of n s ≡ None

-- Where it would leave a task that hasn't ended without a thread, that is refused, and nothing is changed; else it has ended.
abbrev pub Ends : ℕ → (refused : Bool) → StateView → Result (Unit {0}) TaskError → StateView → Type 0
Ends n true s r t = (r ≡ Err (task_error.Trap trap.NoAsyncResult)) × (t ≡ s)
Ends n false s r t = (r ≡ Ok tt) × HasEnded n s t

-- The thread of the id has ended so, or that is refused where it would leave no result.
abbrev pub EndsThread : QualifiedThreadId → StateView → Result (Unit {0}) TaskError → StateView → Type 0
EndsThread id s r t = Ends (thread_of s id.thread) (leaves_no_result (thread_of s id.thread) s.core) s r t
