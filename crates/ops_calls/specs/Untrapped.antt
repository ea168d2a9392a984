-- A start by the host that traps nothing.
use Rattle.std.specs.Prelude.{Err, List, None, Ok, Option, Result, Some, ℕ, ◌≡◌}
use Rattle.ops_state.specs.declared.error.TaskError.{TaskError}
use Rattle.ops_state.specs.declared.error.TaskError.TheVariants as task_error
use Rattle.core_primitives.specs.BecomesRecord.{BecomesGrouped}
use Rattle.machine_data.specs.declared.component.Callee.{Callee}
use Rattle.machine_data.specs.declared.component.Component.{Component}
use Rattle.machine_data.specs.declared.trap.Trap.{Trap}
use Rattle.machine_rules.specs.Calls.{next_thread}
use Rattle.machine_rules.specs.MainOps.{main_started}
use Rattle.core_primitives.specs.StateView.{StateView}

-- A start with these words: refused for this cause, or it is out of memory, and then nothing is changed; else the call is made, and
-- its thread has the next number.
abbrev pub StartsUntrapped : Component → Callee → List ℕ → StateView → Option Trap → Result ℕ TaskError → StateView → Type 0
StartsUntrapped c e words s (Some why) r t = (r ≡ Err (task_error.Trap why)) × (t ≡ s)
StartsUntrapped c e words s None (Ok n) t = (n ≡ next_thread s.core) × BecomesGrouped (main_started c e words s.core) s t
StartsUntrapped c e words s None (Err why) t = (why ≡ task_error.NoMemory) × (t ≡ s)
