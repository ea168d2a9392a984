-- What the calls of a host and the return of a guest's task result in.
use Rattle.std.specs.Prelude.{◌&&◌, ◌==◌, ◌≡◌, Bool, Err, List, None, Ok, Option, Result, Some, false, true, ℕ}
use Rattle.futures.specs.declared.task.Poll.{Poll}
use Rattle.futures.specs.declared.task.Poll.TheVariants.{Ready, Pending}
use Rattle.ops_state.specs.declared.error.TaskError.{TaskError}
use Rattle.ops_state.specs.declared.error.TaskError.TheVariants as task_error
use Rattle.machine_data.specs.Maps.{get}
use Rattle.machine_data.specs.Write.{set_trapped, take_result}
use Rattle.machine_data.specs.declared.component.Callee.{Callee}
use Rattle.machine_data.specs.declared.component.Component.{Component}
use Rattle.machine_data.specs.declared.trap.Trap.{Trap}
use Rattle.ops_guests.specs.declared.op_result.OpResult.{OpResult}
use Rattle.ops_guests.specs.declared.op_result.OpResult.TheVariants as op_result
use Rattle.machine_rules.specs.Calls.{next_thread}
use Rattle.machine_rules.specs.MainOps.{main_started}
use Rattle.machine_rules.specs.Finish.{SomeHost}
use Rattle.machine_rules.specs.Progress.{Continues, Progress, Traps}
use Rattle.machine_rules.specs.Task.{ret_bad_rule, ret_rule}
use Rattle.core_primitives.specs.BecomesRecord.{BecomesRecord, BecomesGrouped}
use Rattle.core_primitives.specs.StateView.{StateView, on_core, with_core}

-- A start with these words: refused for this cause, or it is out of memory, and then the store is trapped and nothing else is
-- changed; else the call is made, and its thread has the next number.
abbrev pub Starts : Component → Callee → List ℕ → StateView → Option Trap → Result ℕ TaskError → StateView → Type 0
Starts c e words s (Some why) r t = (r ≡ Err (task_error.Trap why)) × BecomesRecord (set_trapped s.core) s t
Starts c e words s None (Ok n) t = (n ≡ next_thread s.core) × BecomesGrouped (main_started c e words s.core) s t
Starts c e words s None (Err why) t = (why ≡ task_error.NoMemory) × BecomesRecord (set_trapped s.core) s t

-- the call of this number is finished, where it has a result
abbrev pub Finishes : ℕ → StateView → Poll ℕ → StateView → Type 0
Finishes k s (Ready v) t = (get s.core.results k ≡ Some v) × (t ≡ on_core (take_result k) s)
Finishes k s Pending t = (get s.core.results k ≡ None) × (t ≡ s)

-- the type, the encoding and the memory of a return are those of the lifted function
abbrev pub is_own_type : (ty encoding memory : ℕ) → Bool
is_own_type ty encoding memory = (ty == 0) && ((encoding == 0) && (memory == 0))

abbrev pub answer_of : OpResult → Result (Unit {0}) TaskError
answer_of (op_result.Traps why) = Err (task_error.Trap why)
answer_of _ = Ok tt

-- A call that is refused changes nothing; else it goes on as the rule says.
abbrev pub Returned : Progress → StateView → Result (Unit {0}) TaskError → StateView → Type 0
Returned (Continues l new m) s r t = (r ≡ Ok tt) × (t ≡ with_core new s)
Returned (Traps why) s r t = (r ≡ Err (task_error.Trap why)) × (t ≡ s)
Returned p s r t = ⊥

-- A return of v by the thread n is the rule of `ret` as a host has it done, or that of `ret_bad` where the type is another. Some waiter may
-- be woken.
abbrev pub Returns : (n v : ℕ) → (own_type : Bool) → StateView → Result (Unit {0}) TaskError → StateView → Type 0
Returns n v true s r t = (woken : Option ℕ) × Returned (ret_rule SomeHost n v woken s.core) s r t
Returns n v false s r t = Returned (ret_bad_rule n s.core) s r t
