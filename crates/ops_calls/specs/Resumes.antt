-- What comes of another thread that the running one resumes by its handle.
use Rattle.std.specs.Prelude.{Bool, Err, Ok, Result, false, true, ℕ, ◌≡◌}
use Rattle.ops_state.specs.declared.error.TaskError.{TaskError}
use Rattle.ops_state.specs.declared.error.TaskError.TheVariants as task_error
use Rattle.ops_calls.specs.declared.intrinsics.ResumeThread.{ResumeThread}
use Rattle.ops_calls.specs.declared.intrinsics.ResumeThread.TheVariants as resume
use Rattle.machine_data.specs.Core.{Core}
use Rattle.machine_data.specs.declared.trap.Trap.{Trap}
use Rattle.ops_guests.specs.declared.op_result.OpResult.{OpResult}
use Rattle.ops_guests.specs.declared.op_result.OpResult.TheVariants as op_result
use Rattle.ops_guests.specs.Halting.{First, GoesFirst, Refused, StaysBehind, promoted_first, resumed_first}
use Rattle.machine_rules.specs.Finish.{SomeHost}
use Rattle.machine_rules.specs.Progress.{Continues, Progress, Traps}
use Rattle.machine_rules.specs.Threads.{resume_later_rule}
use Rattle.core_primitives.specs.StateView.{StateView, with_core}

-- a rule that goes on or is refused
abbrev pub first_in : Progress → First
first_in (Continues l new m) = GoesFirst new
first_in (Traps why) = Refused why
first_in _ = StaysBehind

-- At once it goes first, as a thread has it that suspends or yields then; later it gets a low entry, as `resume_later` has it.
abbrev pub resumed_by : ResumeThread → ℕ → ℕ → Core → First
resumed_by resume.Promote n h s = promoted_first n h s
resumed_by resume.Resume n h s = resumed_first n h s
resumed_by resume.ResumeLater n h s = first_in (resume_later_rule SomeHost n h s)

-- It resulted in this, and nothing else is changed.
abbrev pub Resumed : First → StateView → Result Bool TaskError → StateView → Type 0
Resumed (GoesFirst new) s r t = (r ≡ Ok true) × (t ≡ with_core new s)
Resumed StaysBehind s r t = (r ≡ Ok false) × (t ≡ s)
Resumed (Refused why) s r t = (r ≡ Err (task_error.Trap why)) × (t ≡ s)

-- ---- As the code says it

abbrev pub came_later : OpResult → Result Bool Trap
came_later (op_result.Traps why) = Err why
came_later _ = Ok true

abbrev pub or_refused : Result Bool Trap → Result Bool TaskError
or_refused (Ok b) = Ok b
or_refused (Err why) = Err (task_error.Trap why)
