-- What an op answers to a host that has a thread do it.
use Rattle.std.specs.Prelude.{Bool, Err, Ok, Result, false, true, ℕ}
use Rattle.ops_state.specs.declared.error.TaskError.{TaskError}
use Rattle.ops_state.specs.declared.error.TaskError.TheVariants as task_error
use Rattle.ops_calls.specs.declared.answer_calls.Answer.{Answer}
use Rattle.ops_calls.specs.declared.answer_calls.Answer.TheVariants as answer
use Rattle.ops_calls.specs.declared.answer_calls.Step.{Step}
use Rattle.ops_calls.specs.declared.answer_calls.Step.TheVariants as step
use Rattle.machine_data.specs.declared.statuses.Given.{Given}
use Rattle.ops_guests.specs.declared.op_result.OpResult.{OpResult}
use Rattle.ops_guests.specs.declared.op_result.OpResult.TheVariants as op_result
use Rattle.ops_guests.specs.declared.op_result.OpAnswer.{OpAnswer}
use Rattle.ops_guests.specs.declared.op_result.OpAnswer.TheVariants as op_answer
use Rattle.machine_rules.specs.Sets.{given_code, given_handle, given_result}

-- ---- What is handed on of an op's answer

abbrev pub given_words : Given → ℕ × ℕ × ℕ
given_words g = (given_code g, given_handle g, given_result g)

-- the event; default: 0, 0, 0
abbrev pub event_answered : OpAnswer → ℕ × ℕ × ℕ
event_answered (op_answer.Event g) = given_words g
event_answered _ = (0, 0, 0)

-- the handle, packed status or end; default: 0
abbrev pub number_answered : OpAnswer → ℕ
number_answered (op_answer.Number v) = v
number_answered _ = 0

-- what the callee of a sync call returned; default: 0
abbrev pub value_answered : OpAnswer → ℕ
value_answered (op_answer.Value v) = v
value_answered _ = 0

-- the answer of an op that may pause: an event, a number or nothing
abbrev pub whole_answer : OpAnswer → Answer
whole_answer (op_answer.Number v) = answer.One v
whole_answer (op_answer.Value v) = answer.One v
whole_answer (op_answer.Event g) = let e = given_words g in answer.Three e.0 e.1 e.2
whole_answer _ = answer.Nothing

abbrev pub nothing_answered : OpAnswer → Unit {0}
nothing_answered a = tt

-- ---- What is answered

abbrev pub has_stopped : OpResult → Bool
has_stopped (op_result.Stops l) = true
has_stopped _ = false

-- what is answered where the op resulted in this: what the op answers, a pause, or why it was refused
abbrev pub answered : {A : Type 0} → (OpAnswer → A) → OpResult → Result (Step A) TaskError
answered f (op_result.Continues l m said) = Ok (step.Done (f said))
answered f (op_result.Stops l) = Ok step.Pause
answered f (op_result.Traps why) = Err (task_error.Trap why)
answered f (op_result.Fails i) = Err (task_error.HostFailed i)

-- the answer of an op that doesn't pause
abbrev pub at_once : {A : Type 0} → Result A TaskError → Result (Step A) TaskError
at_once (Ok a) = Ok (step.Done a)
at_once (Err why) = Err why
